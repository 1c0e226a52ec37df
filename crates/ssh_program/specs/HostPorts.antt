-- A host and its port in one word (this project's rule): `[h]:p` as in known_hosts, or `h:p`.
use Rattle.std.specs.Prelude.{◌==◌, ◌&&◌, ℕ, Bool, List, [], ◌∷◌, Option, Some, None, codes, if◌then◌else◌, length, nat_lt, option_and_then}
use Rattle.std.specs.List.{after_first, before_first, list_all, position_or_len}
use Rattle.std.specs.Str.{bytes_eq}
use Rattle.clap.specs.Words.{Text}
use Rattle.ssh_files.specs.Values.{is_digit}
use Rattle.ssh_program.specs.declared.word.Place.{Place}
use Rattle.ssh_program.specs.declared.word.Place.TheVariants.{Open, AfterOption, Behind}
use Rattle.ssh_program.specs.WordPlaces.{Word}

-- the byte stands in the text
abbrev pub has : ℕ → Text → Bool
has byte text = nat_lt (position_or_len (λ b. b == byte) text) (length text)

-- what stands before and behind the first such byte, if there is one
abbrev pub cut : ℕ → Text → Option (Text × Text)
cut byte text = if has byte text then Some (before_first (λ b. b == byte) text, after_first (λ b. b == byte) text) else None

-- a port is digits alone, and neither it nor the host is empty
abbrev pub host_and : Text → Text → Option (Text × Text)
host_and host port = if nat_lt 0 (length host) && (nat_lt 0 (length port) && list_all is_digit port) then Some (host, port) else None

abbrev pub at_cut : Text × Text → Option (Text × Text)
at_cut parts = host_and parts.0 parts.1

-- `h:p`. Behind the first colon stand digits alone, so there is one colon, and no IPv6 address is cut
abbrev pub plain_parts : Text → Option (Text × Text)
plain_parts text = option_and_then at_cut (cut 58 text)

-- what stands behind the byte, where it is the first of the text
abbrev pub behind : ℕ → Text → Option Text
behind byte text = option_and_then (λ parts. if length parts.0 == 0 then Some parts.1 else None) (cut byte text)

-- the parts before and behind `]`
abbrev pub between : Text × Text → Option (Text × Text)
between parts = option_and_then (λ host. option_and_then (λ port. host_and host port) (behind 58 parts.1)) (behind 91 parts.0)

-- `[h]:p`, cut at `]` (93), with `[` (91) and `:` (58)
abbrev pub bracket_parts : Text → Option (Text × Text)
bracket_parts text = option_and_then between (cut 93 text)

abbrev pub parts_by : Option (Text × Text) → Text → Option (Text × Text)
parts_by (Some parts) text = Some parts
parts_by None text = plain_parts text

-- the host and the port
abbrev pub host_parts : Text → Option (Text × Text)
host_parts text = parts_by (bracket_parts text) text

-- ---- the words

abbrev pub value_of_host : Text × Text → Option Text
value_of_host parts = if bytes_eq parts.0 (codes "--host") then Some parts.1 else None

-- the value that the word gives to `--host`, in a word of its own or behind `=` (61)
abbrev pub host_value : Place → Word → Option Text
host_value Open word = option_and_then value_of_host (cut 61 word.text)
host_value AfterOption word = if bytes_eq word.before (codes "--host") then Some word.text else None
host_value Behind word = None

-- the host and the port that the word gives
abbrev pub parts_in : Word → Option (Text × Text)
parts_in word = option_and_then host_parts (host_value word.place word)

-- the words in place of that one
abbrev pub parted : Place → Text × Text → List Text
parted Open parts = codes "--host" ∷ parts.0 ∷ codes "--port" ∷ parts.1 ∷ []
parted place parts = parts.0 ∷ codes "--port" ∷ parts.1 ∷ []
