-- What a decision needs of a vouch file: which of the signatures that it rests on are vouched for.
use Rattle.std.specs.Prelude.{◌≡◌, ◌≤◌, ℕ, Bool, true, false, List, [], ◌∷◌, length, take, drop, Option, Some, None, Result, Ok, Err}
use Rattle.std.specs.List.{AllByRecursion}
use Rattle.ssh_offers.specs.declared.claim.AuditError.{AuditError}
use Rattle.ssh_offers.specs.declared.claim.Signed.{Signed}
use Rattle.ssh_offers.specs.Vouching.{is_vouched}
use Rattle.ssh_files.specs.declared.part.Found.{Found}
use Rattle.ssh_program.specs.Audits.{Deciding}

-- two lists contain the same of the signatures in the evidence
abbrev pub VouchAlike : List Signed → List Signed → List Signed → Type 0
VouchAlike a b evidence = AllByRecursion (λ s. is_vouched a s ≡ is_vouched b s) evidence

-- A decision rests on two signatures at most: if two lists contain the same of them, every file decides the same.
abbrev pub RestsOn : Deciding → Result (List Signed) AuditError → Type 0
RestsOn (Err e) rests = Unit {0}
RestsOn (Ok decision) (Err e) = ⊥
RestsOn (Ok decision) (Ok evidence) = (length evidence ≤ 2)
    × ((file : List ℕ) (a b : List Signed) → VouchAlike a b evidence → decision file a ≡ decision file b)

-- the signatures to look for in a vouch file: the evidence, or none if the offer is refused
abbrev pub wanted_in : Result (List Signed) AuditError → List Signed
wanted_in (Ok evidence) = evidence
wanted_in (Err e) = []

abbrev pub first_resting : List Signed → Option Signed
first_resting [] = None
first_resting (signed ∷ evidence) = Some signed

abbrev pub second_resting : List Signed → Option Signed
second_resting [] = None
second_resting (signed ∷ evidence) = first_resting evidence

-- those of two signatures that were found
abbrev pub kept_by : Bool → Bool → List Signed → List Signed
kept_by true true evidence = evidence
kept_by true false evidence = take 1 evidence
kept_by false true evidence = drop 1 evidence
kept_by false false evidence = []

abbrev pub evidence_found : List Signed → Found → List Signed
evidence_found evidence found = kept_by found.first found.second evidence
