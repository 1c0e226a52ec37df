-- The first line of standard input, as it is being read.
use Rattle.ssh_files.proofs.Imports.{◌≡◌, ◌++◌, ℕ, List, Option, Some, None, SourceState, next_choice, standard_input, cut_at_line}

-- standard input is read as far as `got`, which has no LF
abbrev pub IsReadingLine : SourceState → List ℕ → Option SourceState → Type 0
IsReadingLine s got None = ⊥
IsReadingLine s got (Some t) = ((cut_at_line s.input).0 ≡ got ++ (cut_at_line t.input).0)
    × ((cut_at_line s.input).1 ≡ (cut_at_line t.input).1) × (t ≡ record s { input = t.input; chosen = standard_input; choices = next_choice s.choices }) × (s.input ≡ got ++ t.input)
