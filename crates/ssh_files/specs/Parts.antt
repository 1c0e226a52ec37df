-- The parts of standard input, where arguments, a vouch file and a trust file are read from it.
use Rattle.std.specs.Prelude.{◌==◌, ◌&&◌, ℕ, Bool, true, List, [], ◌∷◌, Option, Some, if◌then◌else◌}
use Rattle.std.specs.List.{list_any}
use Rattle.std.specs.Str.{bytes_eq}
use Rattle.ssh_files.specs.SourceState.{SourceState, bytes_of, dash, next_choice}

-- the bytes up to the end of the first empty line, and those after it; `fresh` means that a line begins here
abbrev pub cut_at_empty : Bool → List ℕ → List ℕ × List ℕ
cut_at_empty fresh [] = ([], [])
cut_at_empty fresh (b ∷ input) = if fresh && b == 10 then (10 ∷ [], input)
    else (b ∷ (cut_at_empty (b == 10) input).0, (cut_at_empty (b == 10) input).1)

-- the bytes of the vouch file: on standard input it ends with the first empty line
abbrev pub part_at : SourceState → List ℕ → Option (List ℕ)
part_at s name = if bytes_eq name dash then Some (cut_at_empty true s.input).0 else bytes_of (s.named name)

-- the source after a file was read: one more was chosen, and of standard input this is left
abbrev pub after_reading : SourceState → List ℕ → SourceState
after_reading s input = record s { input = input; choices = next_choice s.choices }

-- the source after the vouch file was read
abbrev pub after_part : SourceState → List ℕ → SourceState
after_part s name = after_reading s (if bytes_eq name dash then (cut_at_empty true s.input).1 else s.input)

-- the source after a file was read whole
abbrev pub after_whole : SourceState → List ℕ → SourceState
after_whole s name = after_reading s (if bytes_eq name dash then [] else s.input)

-- the first line without its LF, and what follows it
abbrev pub cut_at_line : List ℕ → List ℕ × List ℕ
cut_at_line [] = ([], [])
cut_at_line (b ∷ input) = if b == 10 then ([], input) else (b ∷ (cut_at_line input).0, (cut_at_line input).1)

-- the first line of a file without its LF; of an empty file no bytes
abbrev pub top_line : List ℕ → List ℕ
top_line [] = []
top_line (b ∷ file) = if b == 10 then [] else b ∷ top_line file

abbrev pub is_line_end : ℕ → Bool
is_line_end b = b == 10

-- whether a first line has its LF
abbrev pub has_line_end : List ℕ → Bool
has_line_end bytes = list_any is_line_end bytes

-- the first line of standard input
abbrev pub first_line : SourceState → List ℕ
first_line s = (cut_at_line s.input).0

-- the source after the first line of standard input was read
abbrev pub after_line : SourceState → SourceState
after_line s = after_reading s (cut_at_line s.input).1
