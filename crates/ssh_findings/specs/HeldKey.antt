-- The recovered key: the one that OpenSSH 9.2 looks for on a line. It grants nothing. OpenSSH may read a line that is
-- unreadable here, and then a person has to find the key by its fingerprint.
use Rattle.std.specs.Prelude.{ℕ, Bool, false, not, ◌==◌, ◌&&◌, if◌then◌else◌, List, [], ◌∷◌, take, Option, Some, None}
use Rattle.std.specs.List.{position}
use Rattle.std.specs.Option.{option_or}
use Rattle.ssh_text.specs.Text.{is_blank, next_field, skip_blanks}
use Rattle.ssh_keys.specs.Fingerprint.{fingerprint_of}
use Rattle.ssh_keys.specs.PublicKey.{PublicKey, kind_of}
use Rattle.ssh_findings.specs.Facts.{rsa_size}
use Rattle.ssh_findings.specs.declared.recovered_key.HeldKey.{HeldKey}
use Rattle.ssh_findings.specs.OpenSshBlob.{is_nul}
use Rattle.ssh_findings.specs.OpenSshWords.{key_at}

-- what is reported of a key
abbrev pub held_of : PublicKey → HeldKey
held_of key = record { kind = kind_of key; bits = rsa_size key; fingerprint = fingerprint_of key }

-- ---- the part of a line that OpenSSH reads

abbrev pub up_to : Option ℕ → List ℕ → List ℕ
up_to None line = line
up_to (Some end) line = take end line

-- A line ends before its first NUL, as a C string, and blanks at its front are skipped (auth2-pubkeyfile.c,
-- auth_check_authkeys_file; hostfile.c, hostkeys_foreach_file).
unfoldable pub read_part : List ℕ → List ℕ
read_part line = skip_blanks (up_to (position is_nul line) line)

abbrev pub is_first : ℕ → List ℕ → Bool
is_first b [] = false
is_first b (c ∷ cs) = c == b

-- ---- the options of an authorized_keys line (sshkey.c, sshkey_advance_past_options)

-- whether a quote is open after this byte: a `"` opens or closes one, except right after a backslash
abbrev pub toggled : (quoted escaped : Bool) → ℕ → Bool
toggled quoted escaped c = if (c == 34) && not escaped then not quoted else quoted

-- The text from the first blank outside quotes on; none if a quote stays open. (The first argument: a quote is open.
-- The second: the byte before the text is a backslash.)
abbrev pub after_options : (quoted escaped : Bool) → List ℕ → Option (List ℕ)
after_options quoted escaped [] = if quoted then None else Some []
after_options quoted escaped (c ∷ cs) = if not quoted && is_blank c then Some (c ∷ cs) else after_options (toggled quoted escaped c) (c == 92) cs

abbrev pub key_after_blanks : Option (List ℕ) → Option PublicKey
key_after_blanks None = None
key_after_blanks (Some rest) = key_at (skip_blanks rest)

-- the key at the first word, or else after the options; none on a comment line (auth2-pubkeyfile.c,
-- auth_check_authkey_line)
unfoldable pub authorized_key : List ℕ → Option PublicKey
authorized_key text = if is_first 35 text then None else option_or (key_at text) (key_after_blanks (after_options false false text))

-- the key on an authorized_keys line
unfoldable pub held_key : List ℕ → Option PublicKey
held_key line = authorized_key (read_part line)

-- ---- a known_hosts line (hostfile.c, hostkeys_foreach_file and check_markers)

-- the text after a marker, if there is one
abbrev pub after_marker : List ℕ → List ℕ
after_marker text = if is_first 64 text then next_field text else text

-- the key after the names; none on a comment line
unfoldable pub host_key : List ℕ → Option PublicKey
host_key text = if is_first 35 text then None else key_at (next_field (after_marker text))

-- the key on a known_hosts line
unfoldable pub known_held_key : List ℕ → Option PublicKey
known_held_key line = host_key (read_part line)
