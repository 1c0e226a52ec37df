-- Which lines have a colour on a terminal, and how they are written there (this project's rule). The sequences are those
-- of ECMA-48, section 8.3.117 (SGR).
use Rattle.std.specs.Prelude.{◌+◌, ◌++◌, ◌==◌, ◌||◌, ℕ, Bool, true, false, List, [], ◌∷◌, length, take, drop, Option, Some, None, codes, if◌then◌else◌, nat_eq, option_and_then, position}
use Rattle.std.specs.List.{list_any, starts_with}
use Rattle.ssh_program.specs.Options.{subcommand_named}
use Rattle.ssh_program.specs.declared.subcommand.Subcommand.{Subcommand}
use Rattle.ssh_program.specs.declared.subcommand.Subcommand.TheVariants.{Login, Host, Sshsig, Admits, Trusts, Review}
use Rattle.ssh_audit.specs.declared.colour.Colour.{Colour}
use Rattle.ssh_audit.specs.declared.colour.Colour.TheVariants.{Red, Yellow}
use Rattle.ssh_audit.specs.declared.colour.Place.{Place}
use Rattle.ssh_audit.specs.declared.colour.Place.TheVariants.{Between, Within}
use Rattle.ssh_audit.specs.declared.colour.Printed.{Printed}
use Rattle.ssh_audit.specs.declared.colour.Printed.TheVariants.{OneAnswer, Files}

-- ---- which commands

-- what a command prints that may have a colour: its answer, or what it says of files; other commands print files and keys
abbrev pub printed_of : Subcommand → Option Printed
printed_of Login = Some OneAnswer
printed_of Host = Some OneAnswer
printed_of Sshsig = Some OneAnswer
printed_of Admits = Some Files
printed_of Trusts = Some Files
printed_of Review = Some Files
printed_of c = None

-- the same of a command by its name
abbrev pub printed_by : List ℕ → Option Printed
printed_by name = option_and_then printed_of (subcommand_named name)

-- ---- which lines

abbrev pub begins : List ℕ → List ℕ → Bool
begins text front = starts_with nat_eq text front

abbrev pub fault_colour : List ℕ → Option Colour
fault_colour line = if begins line (codes "fault ") then Some Red else None

-- red: the answer denies, or there is none
abbrev pub answer_colour : List ℕ → Option Colour
answer_colour line = if begins line (codes "denied ") then Some Red else fault_colour line

-- what stands behind the first colon and blank, so behind the name of a file, or of its line
abbrev pub behind_name : List ℕ → Option (List ℕ)
behind_name [] = None
behind_name (b ∷ rest) = if begins (b ∷ rest) (codes ": ") then Some (drop 2 (b ∷ rest)) else behind_name rest

-- red: the file does not let the key in, or cannot be read; yellow: its line cannot be read
abbrev pub state_colour : List ℕ → Option Colour
state_colour state =
    if begins state (codes "does not admit: ") || begins state (codes "does not trust: ") then Some Red
    else if begins state (codes "unreadable") then Some Yellow
    else fault_colour state

abbrev pub named_colour : List ℕ → Option (List ℕ) → Option Colour
named_colour line None = fault_colour line
named_colour line (Some state) = state_colour state

-- a row of a table: no other line has a tab (9)
abbrev pub is_row : List ℕ → Bool
is_row line = list_any (λ c. c == 9) line

-- yellow: a finding; no other line that begins with a blank has a colour, no object of JSON, and no row of a table
abbrev pub file_colour : List ℕ → Option Colour
file_colour line =
    if is_row line then None
    else if begins line (codes "    F") then Some Yellow
    else if begins line (codes " ") || begins line (codes "{") then None
    else named_colour line (behind_name line)

-- the colour of a line, without its end
unfoldable pub colour_of : Printed → List ℕ → Option Colour
colour_of OneAnswer line = answer_colour line
colour_of Files line = file_colour line

-- ---- how they are written

-- what begins a colour: the colour of the foreground
abbrev pub begun_by : Option Colour → List ℕ
begun_by None = []
begun_by (Some Red) = 27 ∷ codes "[31m"
begun_by (Some Yellow) = 27 ∷ codes "[33m"

-- what ends it, and with it the line
abbrev pub ended_by : Option Colour → List ℕ
ended_by None = 10 ∷ []
ended_by (Some colour) = 27 ∷ codes "[0m\n"

-- the colour of what is written next: at the front of a line that of the line, and then the same up to its end
abbrev pub colour_at : Printed → Place → List ℕ → Option Colour
colour_at printed Between text = colour_of printed text
colour_at printed (Within colour) text = colour

-- what stands in front of it
abbrev pub front_at : Place → Option Colour → List ℕ
front_at Between colour = begun_by colour
front_at (Within same) colour = []

abbrev pub is_end : ℕ → Bool
is_end byte = byte == 10

-- what is written of a buffer: its first line, with the end that stands at this index; or else all of it
abbrev pub line_by : Printed → Place → List ℕ → Option ℕ → List ℕ
line_by printed place buf (Some end) =
    (front_at place (colour_at printed place (take end buf)) ++ take end buf) ++ ended_by (colour_at printed place (take end buf))
line_by printed place buf None = front_at place (colour_at printed place buf) ++ buf

abbrev pub line_at : Printed → Place → List ℕ → List ℕ
line_at printed place buf = line_by printed place buf (position is_end buf)

-- how many bytes of the buffer that are
abbrev pub taken_by : List ℕ → Option ℕ → ℕ
taken_by buf (Some end) = end + 1
taken_by buf None = length buf

abbrev pub taken : List ℕ → ℕ
taken buf = taken_by buf (position is_end buf)

-- where the text stops then
abbrev pub place_by : Printed → Place → List ℕ → Option ℕ → Place
place_by printed place buf (Some end) = Between
place_by printed place buf None = if length buf == 0 then place else Within (colour_at printed place buf)

abbrev pub place_after : Printed → Place → List ℕ → Place
place_after printed place buf = place_by printed place buf (position is_end buf)

-- ---- the text without colour

abbrev pub is_escape : ℕ → Bool
is_escape byte = byte == 27

-- the bytes that are in no sequence; `true` stands for inside of one, which an m ends
abbrev pub plain_by : Bool → List ℕ → List ℕ
plain_by inside [] = []
plain_by true (b ∷ rest) = if b == 109 then plain_by false rest else plain_by true rest
plain_by false (b ∷ rest) = if b == 27 then plain_by true rest else b ∷ plain_by false rest

abbrev pub plain : List ℕ → List ℕ
plain text = plain_by false text
