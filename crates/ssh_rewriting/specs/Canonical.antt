-- The one canonical line of an entry (this project's rule, within the grammar of sshd(8)).
use Rattle.std.specs.Prelude.{ℕ, List, [], ◌∷◌, ◌++◌, map}
use Rattle.std.specs.List.{join_with_byte}
use Rattle.ssh_keys.specs.Names.{key_name_of}
use Rattle.ssh_keys.specs.PublicKey.{PublicKey, kind_of, key_blob}
use Rattle.ssh_options.specs.AuthOption.{AuthOption}
use Rattle.ssh_options.specs.OptionText.{option_name, value_part}
use Rattle.ssh_entries.specs.Names.{names_text}
use Rattle.ssh_entries.specs.AuthEntry.{AuthEntry}
use Rattle.ssh_entries.specs.KnownEntry.{KnownEntry}
use Rattle.ssh_entries.specs.declared.known_view.Marker.{Marker}
use Rattle.ssh_entries.specs.declared.known_view.Marker.TheVariants as markers
use Rattle.ssh_entries.specs.Names.{base64}
use Rattle.ssh_entries.specs.Markers.{authority_marker}

-- ---- the parts of both files

-- the key's type and the base64 of its blob, separated by a space
abbrev pub key_text : PublicKey → List ℕ
key_text key = key_name_of (kind_of key) ++ 32 ∷ base64 (key_blob key)

-- a space and the comment, if it is not empty
abbrev pub comment_part : List ℕ → List ℕ
comment_part [] = []
comment_part (c ∷ cs) = 32 ∷ c ∷ cs

-- ---- authorized_keys

-- the name as sshd(8) writes it, and the value of a setting between its quotes
abbrev pub option_text : AuthOption → List ℕ
option_text option = option_name option ++ value_part option

-- a comma and an option
abbrev pub after_comma : AuthOption → List ℕ
after_comma option = 44 ∷ option_text option

-- the options in their order with commas between them, and a space
abbrev pub options_part : List AuthOption → List ℕ
options_part [] = []
options_part (option ∷ options) = join_with_byte 44 (map option_text (option ∷ options)) ++ 32 ∷ []

-- options, type, base64 and comment, separated by one space
abbrev pub canonical_auth : AuthEntry → List ℕ
canonical_auth entry = options_part entry.options ++ key_text entry.key ++ comment_part entry.comment

-- ---- known_hosts

-- the marker and a space, if the entry has one
abbrev pub marker_part : Marker → List ℕ
marker_part markers.Unmarked = []
marker_part markers.CertAuthority = authority_marker ++ 32 ∷ []

-- the same with any text in place of the names
abbrev pub line_with_names : KnownEntry → List ℕ → List ℕ
line_with_names entry names =
    marker_part entry.marker ++ names ++ 32 ∷ key_text entry.key ++ comment_part entry.comment

-- marker, names as they are, type, base64 and comment, separated by one space
abbrev pub canonical_known : KnownEntry → List ℕ
canonical_known entry = line_with_names entry (names_text entry.names)
