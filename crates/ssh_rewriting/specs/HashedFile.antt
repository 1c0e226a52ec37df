-- A known_hosts file with its names hashed (this project's rule; a hashed name is that of sshd(8), SSH_KNOWN_HOSTS FILE
-- FORMAT).
use Rattle.std.specs.Prelude.{ℕ, ◌+◌, Bool, false, not, ◌&&◌, ◌||◌, ◌==◌, nat_le, List, [], ◌∷◌, ◌++◌, map, length, drop, Option, Some, None, if◌then◌else◌}
use Rattle.std.specs.List.{list_any, zip, flat_map}
use Rattle.std.specs.Str.{str_to_ascii_lowercase}
use Rattle.ssh_text.specs.Text.{line_limit, lines_of}
use Rattle.ssh_text.specs.Scan.{with_newlines}
use Rattle.ssh_patterns.specs.Lists.{pieces}
use Rattle.ssh_entries.specs.Names.{Names, Patterns, Hashed, hashed_field, hidden}
use Rattle.ssh_entries.specs.KnownEntry.{KnownEntry}
use Rattle.ssh_entries.specs.declared.known_line.KnownLine.{KnownLine}
use Rattle.ssh_entries.specs.declared.known_line.KnownLine.TheVariants as known
use Rattle.ssh_entries.specs.KnownGrammar.{known_line}
use Rattle.ssh_rewriting.specs.Canonical.{line_with_names}

-- ---- the names that are hashed

-- `*` and `?`, which match, and `!`, which negates
abbrev pub is_pattern_byte : ℕ → Bool
is_pattern_byte c = c == 42 || c == 63 || c == 33

-- names that are not hashed yet, and not patterns
abbrev pub are_plain : Names → Bool
are_plain (Patterns list) = not (list_any is_pattern_byte list)
are_plain (Hashed salt hash) = false

-- the names of a list as hosts are looked up by them, in their order
abbrev pub lower_names : Names → List (List ℕ)
lower_names (Patterns list) = map str_to_ascii_lowercase (pieces list)
lower_names (Hashed salt hash) = []

-- an entry's canonical line, with the hash of a name under a salt as its whole names field
abbrev pub hashed_line : KnownEntry → List ℕ → List ℕ → List ℕ
hashed_line entry salt name = line_with_names entry (hashed_field salt name)

-- how many bytes that line has, whichever salt and name: a hashed field has 60
abbrev pub hashed_length : KnownEntry → ℕ
hashed_length entry = length (line_with_names entry []) + 60

-- The names of an entry are hashed where they are plain and the new line is within the line limit.
abbrev pub is_hidden : KnownEntry → Bool
is_hidden entry = are_plain entry.names && nat_le (hashed_length entry) line_limit

-- the entry of a line whose names are hashed; none for a line that is copied as it is
abbrev pub hidden_entry : KnownLine → Option KnownEntry
hidden_entry (known.Entry entry) = if is_hidden entry then Some entry else None
hidden_entry known.Blank = None
hidden_entry known.Comment = None
hidden_entry (known.Revoked bytes) = None
hidden_entry known.RevokedUnreadable = None
hidden_entry (known.Unreadable cause) = None

-- the names of a line that are hashed
abbrev pub names_of_hidden : Option KnownEntry → List (List ℕ)
names_of_hidden None = []
names_of_hidden (Some entry) = lower_names entry.names

abbrev pub hidden_names : KnownLine → List (List ℕ)
hidden_names state = names_of_hidden (hidden_entry state)

-- all names of a file that are hashed, in their order: as many salts are needed
abbrev pub names_hidden : List ℕ → List (List ℕ)
names_hidden file = flat_map (λ line. hidden_names (known_line line)) (lines_of file)

-- ---- the file

-- what replaces a line: a line for each hashed name, with the next salt, or the line as it is
abbrev pub lines_in_place : Option KnownEntry → List ℕ → List (List ℕ) → List (List ℕ)
lines_in_place None line salts = line ∷ []
lines_in_place (Some entry) line salts = map (λ x. hashed_line entry x.0 x.1) (zip salts (lower_names entry.names))

-- what replaces all lines, each with the salts that the lines before it left
abbrev pub hashed_lines : List (List ℕ) → List (List ℕ) → List (List ℕ)
hashed_lines [] salts = []
hashed_lines (line ∷ lines) salts =
    lines_in_place (hidden_entry (known_line line)) line salts
    ++ hashed_lines lines (drop (length (hidden_names (known_line line))) salts)

-- each line ended by an LF
abbrev pub hashed_file : List ℕ → List (List ℕ) → List ℕ
hashed_file file salts = with_newlines (hashed_lines (lines_of file) salts)

-- ---- what the new file is read as

-- what replaces the fact of a line: a fact for each hashed name, or the same fact
abbrev pub state_in_place : Option KnownEntry → KnownLine → List (List ℕ) → List KnownLine
state_in_place None state salts = state ∷ []
state_in_place (Some entry) state salts =
    map (λ x. known.Entry (record entry { names = hidden x.0 x.1 })) (zip salts (lower_names entry.names))

abbrev pub hashed_facts : List KnownLine → List (List ℕ) → List KnownLine
hashed_facts [] salts = []
hashed_facts (state ∷ lines) salts =
    state_in_place (hidden_entry state) state salts ++ hashed_facts lines (drop (length (hidden_names state)) salts)
