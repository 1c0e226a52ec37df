-- How reads of the chosen file change a source.
use Rattle.std.specs.Prelude.{◌≡◌, Option, Some, None, ⊤, refl}
use Rattle.ssh_files.specs.SourceState.{Chosen, SourceState, left_of, left_with, named_file, nothing, standard_input, with_failure}

-- no read failed between the two states: only what is left of the chosen file has changed
abbrev pub ReadsOn : Option SourceState → Option SourceState → Type 0
ReadsOn None new = ⊤
ReadsOn (Some s) None = ⊥
ReadsOn (Some s) (Some t) = t ≡ left_with s.chosen s (left_of t)

-- the last read between the two states failed, and no other
abbrev pub FailsOn : Option SourceState → Option SourceState → Type 0
FailsOn None new = ⊤
FailsOn (Some s) None = ⊥
FailsOn (Some s) (Some t) = t ≡ with_failure (left_with s.chosen s (left_of t))

same-by : (c : Chosen) (s : SourceState) → s.chosen ≡ c → s ≡ left_with s.chosen s (left_of s)
same-by nothing s e = rw e refl
same-by standard_input s e = rw e refl
same-by (named_file name bytes) s e = rw e refl

-- without a read none has failed
pub reads_on : (o : Option SourceState) → ReadsOn o o
reads_on None = tt
reads_on (Some s) = same-by s.chosen s refl
