-- Which signatures are vouched for.
use Rattle.std.specs.Prelude.{◌≡◌, ◌⊎◌, ◌&&◌, not, ℕ, Bool, List, [], ◌∷◌, Option}
use Rattle.std.specs.List.{list_any, position}
use Rattle.std.specs.Str.{bytes_eq}
use Rattle.ssh_offers.specs.declared.claim.Signed.{Signed}

-- an equal signature is in the list
abbrev pub Has : List Signed → Signed → Type 0
Has [] s = ⊥
Has (v ∷ vouched) s = (v ≡ s) ⊎ Has vouched s

-- each signature of the evidence is in the list of vouched ones
abbrev pub AllVouched : List Signed → List Signed → Type 0
AllVouched vouched [] = Unit {0}
AllVouched vouched (s ∷ evidence) = Has vouched s × AllVouched vouched evidence

-- the same key, message and signature
abbrev pub is_same : Signed → Signed → Bool
is_same a b = bytes_eq a.key b.key && (bytes_eq a.message b.message && bytes_eq a.signature b.signature)

abbrev pub is_vouched : List Signed → Signed → Bool
is_vouched vouched s = list_any (λ v. is_same v s) vouched

-- the least index of a signature that is not vouched for
abbrev pub first_unvouched : List Signed → List Signed → Option ℕ
first_unvouched vouched evidence = position (λ s. not (is_vouched vouched s)) evidence
