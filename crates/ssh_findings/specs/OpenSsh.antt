-- What is known of OpenSSH 9.2: when its sshd refuses a line that the rules here accept, and which lists it reads
-- differently. A text with a form that is stated here is accepted by sshd; for another text, sshd may refuse the whole
-- line.
use Rattle.std.specs.Prelude.{ℕ, ◌+◌, ◌*◌, ◌-◌, nat_lt, nat_le, Bool, true, false, not, ◌==◌, ◌&&◌, ◌||◌, List, [], ◌∷◌, length, drop, min, codes, bytes_eq, filter, Option, Some, None, Result, Ok, Err, is_some}
use Rattle.std.specs.List.{list_all, list_any, prefix_len}
use Rattle.ssh_patterns.specs.AddressReading.{address_of}
use Rattle.ssh_patterns.specs.Block.{Block}
use Rattle.ssh_patterns.specs.Lists.{Item, items_of, pieces}
use Rattle.ssh_patterns.specs.Matching.{is_empty}
use Rattle.ssh_patterns.specs.Nets.{net_of}
use Rattle.ssh_patterns.specs.declared.address.PatternError.{PatternError}
use Rattle.ssh_patterns.specs.declared.address.PatternError.TheVariants as errors
use Rattle.ssh_rights.specs.declared.rights.Carried.{Carried}
use Rattle.ssh_findings.specs.declared.facts.Facts.{Facts}
use Rattle.ssh_findings.specs.declared.openssh.Ground.{Ground}
use Rattle.ssh_findings.specs.declared.openssh.Ground.TheVariants as grounds
use Rattle.ssh_findings.specs.Lists.{is_bad_list}
use Rattle.ssh_findings.specs.Carried.{is_environment, is_listen, is_open, is_tunnel}

-- ---- texts

-- a decimal digit
abbrev pub is_decimal_digit : ℕ → Bool
is_decimal_digit c = nat_le 48 c && nat_le c 57

abbrev pub are_digits : List ℕ → Bool
are_digits text = list_all is_decimal_digit text

-- the text begins with this byte
abbrev pub starts_with : ℕ → List ℕ → Bool
starts_with b [] = false
starts_with b (c ∷ cs) = c == b

-- at most four digits, or five with a value of at most 65535
abbrev pub is_within_ports : List ℕ → Bool
is_within_ports (a ∷ b ∷ c ∷ d ∷ e ∷ []) =
    nat_le (((((a - 48) * 10 + (b - 48)) * 10 + (c - 48)) * 10 + (d - 48)) * 10 + (e - 48)) 65535
is_within_ports text = nat_lt (length text) 5

-- a number from 1 to 65535 without leading zeros (misc.c, a2port, which also takes names of services)
abbrev pub is_port_number : List ℕ → Bool
is_port_number text = nat_lt 0 (length text) && (are_digits text && (not (starts_with 48 text) && is_within_ports text))

-- a port, or `*` for any (auth-options.c, handle_permit)
abbrev pub is_port : List ℕ → Bool
is_port text = bytes_eq text (codes "*") || is_port_number text

-- a byte before the end of a host: no `:` and no `/`, and in brackets no `]` (misc.c, hpdelim2)
abbrev pub is_of_host : ℕ → Bool
is_of_host c = not (c == 58) && not (c == 47)

abbrev pub is_in_brackets : ℕ → Bool
is_in_brackets c = not (c == 93)

-- the length of the host at the front of a text: with the bracket that ends it, or else up to the first `:` or `/`
unfoldable pub host_len : List ℕ → ℕ
host_len text =
    elim (starts_with 91 text) [
      | true ↦ min (prefix_len is_in_brackets text + 1) (length text)
      | false ↦ prefix_len is_of_host text
    ]

-- a colon and a port
abbrev pub is_colon_port : List ℕ → Bool
is_colon_port text = starts_with 58 text && is_port (drop 1 text)

-- `host:port`, of a host of 1 to 1,024 bytes (sshd(8), permitopen; auth-options.c, handle_permit)
unfoldable pub is_host_port : List ℕ → Bool
is_host_port text =
    nat_lt 0 (host_len text) && (nat_lt (host_len text) 1025 && is_colon_port (drop (host_len text) text))

-- `port` or `host:port` (sshd(8), permitlisten)
abbrev pub is_listen_port : List ℕ → Bool
is_listen_port text = is_port text || is_host_port text

-- a letter, a digit or `_` (misc.c, valid_env_name)
abbrev pub is_of_name : ℕ → Bool
is_of_name c = is_decimal_digit c || ((nat_le 65 c && nat_le c 90) || ((nat_le 97 c && nat_le c 122) || (c == 95)))

-- `NAME=value`, of a name of letters, digits and `_` (sshd(8), environment; auth-options.c, sshauthopt_parse)
unfoldable pub is_setting : List ℕ → Bool
is_setting text = nat_lt 0 (prefix_len is_of_name text) && starts_with 61 (drop (prefix_len is_of_name text) text)

-- `any`, or the number of a device, of at most nine digits (misc.c, a2tun)
unfoldable pub is_device : List ℕ → Bool
is_device text =
    bytes_eq text (codes "any") || (nat_lt 0 (length text) && (nat_lt (length text) 10 && are_digits text))

-- ---- reasons to refuse

-- A `permitopen` without the form `host:port`. (sshd accepts at most 4,097 of them. That limit is not tested, for a
-- line has no room for more.)
abbrev pub is_bad_open : Carried → Bool
is_bad_open c = is_open c && not (is_host_port c.text)

-- a `permitlisten` without the form `port` or `host:port`
abbrev pub is_bad_listen : Carried → Bool
is_bad_listen c = is_listen c && not (is_listen_port c.text)

-- more `environment` options than sshd stores names, or one without the form `NAME=value` (auth-options.c,
-- SSH_AUTHOPT_ENV_MAX)
abbrev pub is_bad_environment : Carried → Bool
is_bad_environment c = is_environment c && not (is_setting c.text)

abbrev pub refuses_environment : List Carried → Bool
refuses_environment texts = list_any is_bad_environment texts || nat_lt 1025 (length (filter is_environment texts))

-- a `tunnel` that does not name a device
abbrev pub is_bad_tunnel : Carried → Bool
is_bad_tunnel c = is_tunnel c && not (is_device c.text)

-- a NUL, at which a line ends for sshd, so that the quote is open (auth2-pubkeyfile.c, auth_check_authkeys_file)
abbrev pub has_nul : List ℕ → Bool
has_nul text = list_any (λ c. c == 0) text

abbrev pub has_nul_in : Option (List ℕ) → Bool
has_nul_in None = false
has_nul_in (Some text) = has_nul text

abbrev pub carries_nul : Carried → Bool
carries_nul c = has_nul c.text

abbrev pub refuses_nul : Facts → Bool
refuses_nul f =
    has_nul_in f.rights.command || (has_nul_in f.from || (has_nul_in f.principals || list_any carries_nul f.rights.carried))

-- an item of 1,023 bytes or more, with which a list of patterns matches nothing (match.c, match_pattern_list)
abbrev pub is_long_item : List ℕ → Bool
is_long_item piece = nat_lt 1022 (length piece)

unfoldable pub has_long_item : List ℕ → Bool
has_long_item list = list_any is_long_item (pieces list)

abbrev pub has_long_item_in : Option (List ℕ) → Bool
has_long_item_in None = false
has_long_item_in (Some list) = has_long_item list

-- an RSA key of fewer than 1,024 bits, or of more than 16,384 (sshkey.c, sshkey_check_rsa_length; sshbuf-getput-crypto.c)
abbrev pub is_refused_size : Option ℕ → Bool
is_refused_size None = false
is_refused_size (Some bits) = nat_lt bits 1024 || nat_lt 16384 bits

-- OpenSSH may refuse the entry for this reason
abbrev pub has_ground : Facts → Ground → Bool
has_ground f grounds.PermitOpen = list_any is_bad_open f.rights.carried
has_ground f grounds.PermitListen = list_any is_bad_listen f.rights.carried
has_ground f grounds.Environment = refuses_environment f.rights.carried
has_ground f grounds.Tunnel = list_any is_bad_tunnel f.rights.carried
has_ground f grounds.Nul = refuses_nul f
has_ground f grounds.LongItem = has_long_item_in f.from
has_ground f grounds.Rsa = is_refused_size f.bits

-- all reasons, in the order in which they are reported
abbrev pub all_grounds : List Ground
all_grounds =
    grounds.PermitOpen ∷ grounds.PermitListen ∷ grounds.Environment ∷ grounds.Tunnel ∷ grounds.Nul ∷ grounds.LongItem ∷ grounds.Rsa ∷ []

-- `principals` without `cert-authority`: sshd refuses the line (auth2-pubkeyfile.c, auth_check_authkey_line)
abbrev pub has_plain_principals : Facts → Bool
has_plain_principals f = not f.is_authority && is_some f.principals

-- OpenSSH may refuse the entry, so that a later line with its key may decide
unfoldable pub may_refuse : Facts → Bool
may_refuse f = has_plain_principals f || list_any (λ g. has_ground f g) all_grounds

-- ---- lists that OpenSSH reads differently

-- bits are set past the length of the net
abbrev pub has_host_bits : Result Block PatternError → Bool
has_host_bits (Ok net) = false
has_host_bits (Err errors.Address) = false
has_host_bits (Err errors.Length) = false
has_host_bits (Err errors.HostBits) = true

-- an empty item, or a net with bits set past its length: with one, a `from` list permits nobody (addrmatch.c,
-- addr_match_list)
abbrev pub is_refused_item : Item → Bool
is_refused_item item = is_empty item.text || has_host_bits (net_of item.text)

-- sshd permits nobody by this list either
unfoldable pub refuses_all : List ℕ → Bool
refuses_all list = list_any is_refused_item (items_of list)

-- a digit, a hexadecimal digit or `x`, or a dot
abbrev pub is_of_short_address : ℕ → Bool
is_of_short_address c =
    is_decimal_digit c || ((nat_le 65 c && nat_le c 70) || ((nat_le 97 c && nat_le c 102) || ((c == 46) || ((c == 88) || (c == 120)))))

-- a number that is not an address here, but may be one for sshd: `127.1` is 127.0.0.1 (addr.c, addr_pton; inet_aton(3))
abbrev pub starts_with_digit : List ℕ → Bool
starts_with_digit [] = false
starts_with_digit (c ∷ cs) = is_decimal_digit c

abbrev pub is_short_address : List ℕ → Bool
is_short_address text =
    (starts_with_digit text && list_all is_of_short_address text) && not (is_some (address_of text))

abbrev pub is_short_item : Item → Bool
is_short_item item = is_short_address item.text

unfoldable pub has_short_address : List ℕ → Bool
has_short_address list = list_any is_short_item (items_of list)

-- The list permits nobody here, and sshd may permit somebody by it. Or an item of it is an address for sshd alone. Or
-- one is so long that sshd matches no host name by the list (match.c, match_host_and_ip).
abbrev pub is_read_otherwise : List ℕ → Bool
is_read_otherwise list = not (refuses_all list) && (is_bad_list list || (has_short_address list || has_long_item list))
