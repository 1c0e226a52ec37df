-- From the bytes of a file to the response of `show`.
use Rattle.ssh_program.proofs.Imports.{◌≡◌, ◌∙◌, ℕ, List, Option, Some, None, Result, Ok, Err, sym, ap, subst, inl, inr, IfOk, IfTells, SourceState, bytes_at, after_whole, FailsLoad, IsLeft, within_limit, ReadError, ShowKind, Shows, IsFaultOf, ShowsBytes, ShowsFile, shown_part, Alike, file-alike, left-none, none-failed, one-failed, over_limit}
use Rattle.ssh_files.specs.declared.read.ReadError.TheVariants as fault
use Rattle.ssh_print.specs.Responses.{Response as Shown}
use Rattle.ssh_program.proofs.PartLemmas.{part_shows}

pub shows-same : (kind : ShowKind) (name : List ℕ) (a b : SourceState) (u : Option SourceState) (r : Shown) → Alike a b → ShowsFile kind name a u r → ShowsFile kind name b u r
shows-same kind name a b u r e (inl h) = inl (
  none-failed b a u e.failures h.0,
  subst (λ (o : Option (List ℕ)). ShowsBytes kind name (within_limit o) r) (file-alike a b name e) h.1,
)
shows-same kind name a b u r e (inr h) = inr (one-failed a b u name e h.0, h.1)

no-bytes : (kind : ShowKind) (name : List ℕ) (o : Option (List ℕ)) (r : Shown) → o ≡ None → ShowsBytes kind name None r → ShowsBytes kind name o r
no-bytes kind name o r e h = subst (λ (x : Option (List ℕ)). ShowsBytes kind name x r) (sym e) h

fault-by : (kind : ShowKind) (name : List ℕ) (s : SourceState) (t : Option SourceState) (e : ReadError) (r : Shown)
    → FailsLoad name (bytes_at s name) s t e → IsFaultOf name e r → ShowsFile kind name s t r
fault-by kind name s t fault.Missing r fails is = inl (fails.1, no-bytes kind name _ r (ap within_limit fails.0) is)
fault-by kind name s t fault.TooLong r fails is = inl (fails.1, no-bytes kind name _ r (over_limit (bytes_at s name) fails.0) is)
fault-by kind name s t fault.Failed r fails is = inr (fails, is)
fault-by kind name s t fault.Memory r fails is = absurd is

-- a file whose bytes could not be had
pub file_unshown : {R E : Type 0} (view : R → Shown) (kind : ShowKind) (name : List ℕ) (o t : Option SourceState) (e : ReadError) (res : Result R E)
    → IfTells o (λ s. FailsLoad name (bytes_at s name) s t e) → IfOk res (λ r. IsFaultOf name e (view r))
    → IfTells o (λ s. IfOk res (λ r. ShowsFile kind name s t (view r)))
file_unshown view kind name None t e res fails is = tt
file_unshown view kind name (Some s) t e (Err x) fails is = λ counts. tt
file_unshown view kind name (Some s) t e (Ok r) fails is = λ counts. fault-by kind name s t e (view r) (fails counts) is

-- a file of which the part that is shown was read
pub file_shown : {R E : Type 0} (view : R → Shown) (kind : ShowKind) (name part read : List ℕ) (o t : Option SourceState) (res : Result R E) → read ≡ part
    → IfTells o (λ s. ((file : List ℕ) × (within_limit (bytes_at s name) ≡ Some file) × (part ≡ shown_part kind file)) × IsLeft s (after_whole s name) t)
    → IfOk res (λ r. Shows kind read (view r))
    → IfTells o (λ s. IfOk res (λ r. ShowsFile kind name s t (view r)))
file_shown view kind name part read None t res is loads h = tt
file_shown view kind name part read (Some s) t (Err x) is loads h = λ counts. tt
file_shown view kind name part read (Some s) t (Ok r) is loads h = λ counts.
    let ((file, within, kept), left) = loads counts in
    let shows : Shows kind file (view r) = part_shows kind file (view r) (subst (λ (b : List ℕ). Shows kind b (view r)) (is ∙ kept) h) in
    inl (left-none s (after_whole s name) t left, subst (λ (x : Option (List ℕ)). ShowsBytes kind name x (view r)) (sym within) shows)
