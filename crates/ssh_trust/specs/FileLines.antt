-- Which line of a file has which number, and how the scanner hands a line on.
use Rattle.std.specs.Prelude.{◌≡◌, ℕ, ◌-◌, ◌<◌, List, Some, length, slice_get}
use Rattle.ssh_text.specs.declared.scanner.Line.{Line}
use Rattle.ssh_text.specs.declared.scanner.Line.TheVariants.{Whole, TooLong}
use Rattle.ssh_text.specs.Text.{AreLines, line_limit}

-- this is line i of the file, counted from 1
pub record StandsAt (file : List ℕ) (i : ℕ) (line : List ℕ) : Type 0 where
  pub lines : List (List ℕ)
  pub are_lines : AreLines lines file
  pub from_one : 0 < i
  pub stands : slice_get lines (i - 1) ≡ Some line

-- the scanner hands on these bytes, or only the mark `TooLong` where they are more than a line may have
abbrev pub IsHandedLine : Line → List ℕ → Type 0
IsHandedLine (Whole text) line = text.now ≡ line
IsHandedLine TooLong line = line_limit < length line
