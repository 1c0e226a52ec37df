-- What reads of one file leave of the others.
use Rattle.ssh_program.proofs.Imports.{◌≡◌, ◌∙◌, ℕ, Bool, true, false, List, Option, Some, None, Result, Ok, Err, refl, sym, ap, subst, bytes_eq, Chosen, ChoosesKnown, IfTells, SourceState, choosing, dash, left_of, left_with, named_file, nothing, open_file, standard_input, KeepsFiles, AuditError, Read, FailsOn, ReadsOn}
use Rattle.ssh_files.specs.declared.files.UnreadCause.{UnreadCause}
use Rattle.ssh_program.proofs.ChosenLemmas.{either_way}

named-kept : (c : Chosen) (s : SourceState) (left : List ℕ) → (left_with c s left).named ≡ s.named
named-kept nothing s left = refl
named-kept standard_input s left = refl
named-kept (named_file name bytes) s left = refl

input-kept : (c : Chosen) (s : SourceState) (left : List ℕ) → (c ≡ standard_input → ⊥) → (left_with c s left).input ≡ s.input
input-kept nothing s left other = refl
input-kept standard_input s left other = absurd (other refl)
input-kept (named_file name bytes) s left other = refl

opened : (name : List ℕ) (given : Result (List ℕ) UnreadCause) → open_file name given ≡ standard_input → ⊥
opened name (Err cause) h = cc
opened name (Ok bytes) h = cc

not-input : (s : SourceState) (name : List ℕ) (b : Bool) → bytes_eq name dash ≡ b → b ≡ false → (choosing s name).chosen ≡ standard_input → ⊥
not-input s name true e h c = cc
not-input s name false e h c = opened name (s.named name) (rw e at c)

keeps-choice : (s : SourceState) (name : List ℕ) → KeepsFiles name s (Some (choosing s name))
keeps-choice s name = (refl, λ d. refl)

keeps-left : (s t : SourceState) (name left : List ℕ) → t.named ≡ (left_with (choosing s name).chosen (choosing s name) left).named
    → t.input ≡ (left_with (choosing s name).chosen (choosing s name) left).input → KeepsFiles name s (Some t)
keeps-left s t name left n i = (
  n ∙ named-kept (choosing s name).chosen (choosing s name) left,
  λ d. i ∙ input-kept (choosing s name).chosen (choosing s name) left (not-input s name (bytes_eq name dash) refl d),
)

keeps-reads : (s : SourceState) (name : List ℕ) (q : Option SourceState) → ReadsOn (Some (choosing s name)) q → KeepsFiles name s q
keeps-reads s name None h = absurd h
keeps-reads s name (Some t) h = keeps-left s t name (left_of t) (ap (λ x. x.named) h) (ap (λ x. x.input) h)

keeps-failed : (s : SourceState) (name : List ℕ) (q : Option SourceState) → FailsOn (Some (choosing s name)) q → KeepsFiles name s q
keeps-failed s name None h = absurd h
keeps-failed s name (Some t) h = keeps-left s t name (left_of t) (ap (λ x. x.named) h) (ap (λ x. x.input) h)

-- a file that is not there
pub others_chosen : (name : List ℕ) (o p : Option SourceState) → ChoosesKnown o p name → IfTells o (λ s. KeepsFiles name s p)
others_chosen name None p h = tt
others_chosen name (Some s) p h = λ counts. subst (KeepsFiles name s) (sym h) (keeps-choice s name)

-- a file that was read
pub others_kept : {A : Type 0} (name : List ℕ) (o p q t : Option SourceState) (result : Result A AuditError) → ChoosesKnown o p name → t ≡ q
    → (result ≡ Err Read → FailsOn p q) → ((result ≡ Err Read → ⊥) → ReadsOn p q) → IfTells o (λ s. KeepsFiles name s t)
others_kept name None p q t result chosen same failed unfailed = tt
others_kept name (Some s) p q t result chosen same failed unfailed = λ counts.
    subst (KeepsFiles name s) (sym same)
    (either_way result
    (λ e. keeps-failed s name q (subst (λ x. FailsOn x q) chosen (failed e)))
    (λ other. keeps-reads s name q (subst (λ x. ReadsOn x q) chosen (unfailed other))))
