-- The first line that admits an offer, and why the lines before it do not.
use Rattle.std.specs.Prelude.{ℕ, ◌+◌, ◌<◌, Bool, true, false, List, [], ◌∷◌, take, Option, Some, None}
use Rattle.std.specs.List.{position_or_len}
use Rattle.ssh_rules.specs.declared.reason.Reason.{Reason}
use Rattle.ssh_rules.specs.declared.admission.LineVerdict.{LineVerdict}
use Rattle.ssh_rules.specs.declared.admission.LineVerdict.TheVariants.{Admits, Skips}
use Rattle.ssh_trust.specs.FileLines.{StandsAt}

-- ======== as a relation

-- the least line that spells an entry that admits
pub record IsFirstAdmitted (E : Type 0) (Spells : E → List ℕ → Type 0) (IsAdmitting : E → Type 0) (file : List ℕ) (i : ℕ) (e : E) : Type 0 where
  pub line : List ℕ
  pub stands : StandsAt file i line
  pub spelled : Spells e line
  pub admits : IsAdmitting e
  pub least : (j : ℕ) (other : List ℕ) (f : E) → j < i → StandsAt file j other → Spells f other → IsAdmitting f → ⊥

-- ======== as a function of the verdicts on the lines

abbrev pub admits : {E : Type 0} → LineVerdict E → Bool
admits (Admits e) = true
admits (Skips why) = false

-- the first line that admits, with its number, where the first of these lines has number n
abbrev pub first_admitted : {E : Type 0} → ℕ → List (LineVerdict E) → Option (ℕ × E)
first_admitted n [] = None
first_admitted n (Admits e ∷ more) = Some (n, e)
first_admitted n (Skips why ∷ more) = first_admitted (n + 1) more

abbrev pub candidate_of : {E : Type 0} → List (LineVerdict E) → Option (ℕ × E)
candidate_of lines = first_admitted 1 lines

-- ---- the reasons

abbrev pub with_reason : ℕ → Option Reason → List (ℕ × Reason) → List (ℕ × Reason)
with_reason n None rest = rest
with_reason n (Some why) rest = (n, why) ∷ rest

-- the reasons of the lines, where the first of these lines has this number
abbrev pub reasons_from : {E : Type 0} → ℕ → List (LineVerdict E) → List (ℕ × Reason)
reasons_from n [] = []
reasons_from n (Admits e ∷ more) = reasons_from (n + 1) more
reasons_from n (Skips why ∷ more) = with_reason n why (reasons_from (n + 1) more)

-- the lines before the candidate, or all where there is none
abbrev pub before_candidate : {E : Type 0} → List (LineVerdict E) → List (LineVerdict E)
before_candidate lines = take (position_or_len admits lines) lines

-- the most reasons that are listed (this project's rule)
abbrev pub reason_limit : ℕ
reason_limit = 100

abbrev pub reasons_of : {E : Type 0} → List (LineVerdict E) → List (ℕ × Reason)
reasons_of lines = take reason_limit (reasons_from 1 (before_candidate lines))
