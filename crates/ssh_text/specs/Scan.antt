-- The state of a scanner of lines, by the bytes that it has read.
use Rattle.std.specs.Prelude.{◌≡◌, ◌≢◌, ℕ, ◌<◌, ◌≤◌, ◌+◌, ◌^◌, Bool, true, ◌==◌, if◌then◌else◌, ◌⊎◌, List, [], ◌∷◌, ◌++◌, length, take, drop}
use Rattle.std.specs.List.{list_any, count_by, AllByRecursion}
use Rattle.ssh_text.specs.declared.scanner.Line.{Line}
use Rattle.ssh_text.specs.declared.scanner.Line.TheVariants.{Whole, TooLong}
use Rattle.ssh_text.specs.Text.{lines_of, line_len, line_limit, IsLineAt}
use Rattle.ssh_text.specs.Kept.{Kept, KeepsLine, kept_count}

-- ---- bytes, cut at their LFs

abbrev pub is_newline : ℕ → Bool
is_newline c = c == 10

abbrev pub has_newline : List ℕ → Bool
has_newline bytes = list_any is_newline bytes

abbrev pub HasNoNewline : List ℕ → Type 0
HasNoNewline bytes = AllByRecursion (λ c. c ≢ 10) bytes

-- a piece up to and including its first LF, or all of it
abbrev pub up_to_newline : List ℕ → List ℕ
up_to_newline piece = take (line_len piece + 1) piece

-- what follows the first LF
abbrev pub after_newline : List ℕ → List ℕ
after_newline piece = drop (line_len piece + 1) piece

-- what follows the last LF
abbrev pub unfinished : List ℕ → List ℕ
unfinished [] = []
unfinished (c ∷ cs) = if has_newline (c ∷ cs) then unfinished cs else c ∷ cs

-- the lines that have their LF, as many as there are LFs
abbrev pub whole_lines : List ℕ → List (List ℕ)
whole_lines bytes = take (count_by is_newline bytes) (lines_of bytes)

-- lines, each with its LF
abbrev pub with_newlines : List (List ℕ) → List ℕ
with_newlines [] = []
with_newlines (line ∷ lines) = line ++ 10 ∷ with_newlines lines

-- this is the last line of the bytes, with its number
pub record IsLastLine (bytes : List ℕ) (number : ℕ) (line : List ℕ) : Type 0 where
  pub at : IsLineAt bytes number line
  pub last : number ≡ length (lines_of bytes)

-- ---- the scanner

-- the state of a scanner: how many bytes it has read, how many lines came before the current one, and the current line
pub record Scan : Type 0 where
  pub used : ℕ
  pub lines : ℕ
  pub kept : Kept
  -- the current line has its LF
  pub ended : Bool
  pub ready : Bool

-- The scanner has read these bytes: whole lines, and after them one more line, which may be empty and may have no LF yet.
pub record StandsFor (scan : Scan) (bytes : List ℕ) : Type 0 where
  pub before : List (List ℕ)
  pub line : List ℕ
  pub cut : AllByRecursion HasNoNewline before
  pub free : HasNoNewline line
  pub whole : bytes ≡ with_newlines before ++ (if scan.ended then line ++ 10 ∷ [] else line)
  pub used : scan.used ≡ length bytes
  pub lines : scan.lines ≡ length before
  pub kept : KeepsLine scan.kept line
  -- a line without an LF is returned only if it is not empty
  pub ready : scan.ready ≡ true → (scan.ended ≡ true) ⊎ (0 < length line)

-- a lower bound of the bytes of the current line that were read, which is not 0 if any were
abbrev pub open_count : Scan → ℕ
open_count scan = if scan.ended then 1 else kept_count scan.kept

-- how many lines are complete
abbrev pub lines_begun : Scan → ℕ
lines_begun scan = if scan.ended then scan.lines + 1 else scan.lines

-- at most one line is stored; there are no more lines than bytes, which fit in 64 bits; and a line that is ready has been read
pub record IsScan (scan : Scan) : Type 0 where
  pub bounded : length scan.kept.bytes ≤ line_limit
  pub fits : scan.used < 2 ^ 64
  pub counted : scan.lines + open_count scan ≤ scan.used
  pub some : scan.ready ≡ true → 0 < open_count scan

-- the line that is ready after these bytes is their last one, by its number and its bytes, or by the mark that it is too long
abbrev pub IsReadyLine : List ℕ → ℕ × Line → Type 0
IsReadyLine bytes (number, Whole text) = IsLastLine bytes number text.now × (length text.now ≤ line_limit)
IsReadyLine bytes (number, TooLong) = (line : List ℕ) × IsLastLine bytes number line × (line_limit < length line)
