-- The first part of standard input, as it is being read.
use Rattle.ssh_files.proofs.Imports.{◌≡◌, ◌++◌, ℕ, Bool, true, List, length, Option, Some, None, SourceState, next_choice, standard_input, cut_at_empty}

-- standard input is read as far as `got`, which no empty line ends; `fresh` says that a line begins there
abbrev pub IsReadingPart : SourceState → Bool → List ℕ → Option SourceState → Type 0
IsReadingPart s fresh got None = ⊥
IsReadingPart s fresh got (Some t) = ((cut_at_empty true s.input).0 ≡ got ++ (cut_at_empty fresh t.input).0)
    × ((cut_at_empty true s.input).1 ≡ (cut_at_empty fresh t.input).1) × (t ≡ record s { input = t.input; chosen = standard_input; choices = next_choice s.choices })

-- a keeper took so many bytes of it
abbrev pub IsTakingPart : (List ℕ → Type 0) → ℕ → SourceState → Bool → Option SourceState → Type 0
IsTakingPart took count s fresh t = (got : List ℕ) × took got × (length got ≡ count) × IsReadingPart s fresh got t
