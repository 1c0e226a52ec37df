-- A file that is being read: what was got, and what is left, are its bytes.
use Rattle.ssh_files.proofs.Imports.{◌≡◌, ◌++◌, ℕ, List, Option, Some, None, SourceState, bytes_at, choosing, left_of, left_with}

abbrev pub IsReading : SourceState → List ℕ → List ℕ → Option SourceState → Type 0
IsReading s name got None = ⊥
IsReading s name got (Some t) = (bytes_at s name ≡ Some (got ++ left_of t)) × (t ≡ left_with (choosing s name).chosen (choosing s name) (left_of t))
