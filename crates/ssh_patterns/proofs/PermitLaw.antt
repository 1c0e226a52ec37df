-- What a list permits, item by item.
use Rattle.ssh_patterns.proofs.Imports.{◌≡◌, ℕ, ◌↔◌, IsTrue, Bool, true, false, not, ◌&&◌, List, refl, sym, ap, ◌∙◌, Any, list_any, str_to_ascii_lowercase, and_parts, and_from, false≢true, Any-from_list_any, list_any-from_Any, Item, items_of, Permits, permits, is_match_in_lower_case, MatchesInLowerCase}
use Rattle.ssh_patterns.proofs.MatchLemmas.{is_match-tests}

-- a test that decides whether a fact holds of one thing
abbrev pub Tells : {X : Type 0} → (X → Bool) → (X → Type 0) → Type 0
Tells {X} p P = (x : X) → IsTrue (p x) ↔ P x

Any-map : {X : Type 0} (P Q : X → Type 0) (xs : List X) → ((x : X) → P x → Q x) → Any P xs → Any Q xs
Any-map P Q xs f (k, x, inside, is, holds) = (k, x, inside, is, f x holds)

pub any-tells : {X : Type 0} (p : X → Bool) (P : X → Type 0) → Tells p P → (xs : List X) → IsTrue (list_any p xs) ↔ Any P xs
any-tells p P tells xs = (
  λ h. Any-map (λ x. p x ≡ true) P xs (λ x q. (tells x).0 q) (Any-from_list_any p xs h),
  λ h. list_any-from_Any p xs (Any-map P (λ x. p x ≡ true) xs (λ x q. (tells x).1 q) h),
)

pub not-true : (b : Bool) → not b ≡ true → b ≡ false
not-true true h = cc
not-true false h = refl

from-not : (b : Bool) → (b ≡ true → ⊥) → not b ≡ true
from-not true h = absurd (h refl)
from-not false h = refl

refuses : (matches : List ℕ → Bool) (Fits : List ℕ → Type 0) → Tells matches Fits
    → Tells (λ (item : Item). item.negated && matches item.text) (λ item. (item.negated ≡ true) × Fits item.text)
refuses matches Fits tells item = (
  λ h. let parts = and_parts item.negated (matches item.text) h in (parts.0, (tells item.text).0 parts.1),
  λ h. and_from item.negated (matches item.text) h.0 ((tells item.text).1 h.1),
)

accepts : (matches : List ℕ → Bool) (Fits : List ℕ → Type 0) → Tells matches Fits
    → Tells (λ (item : Item). not item.negated && matches item.text) (λ item. (item.negated ≡ false) × Fits item.text)
accepts matches Fits tells item = (
  λ h. let parts = and_parts (not item.negated) (matches item.text) h in (not-true item.negated parts.0, (tells item.text).0 parts.1),
  λ h. and_from (not item.negated) (matches item.text) (ap not h.0) ((tells item.text).1 h.1),
)

pub permits-tells : (matches : List ℕ → Bool) (Fits : List ℕ → Type 0) → Tells matches Fits → (list : List ℕ)
    → IsTrue (permits matches (items_of list)) ↔ Permits Fits list
permits-tells matches Fits tells list =
    let refused = any-tells (λ (item : Item). item.negated && matches item.text) _ (refuses matches Fits tells) (items_of list) in
    let accepted = any-tells (λ (item : Item). not item.negated && matches item.text) _ (accepts matches Fits tells) (items_of list) in (
      λ h. let parts = and_parts (not (list_any (λ item. item.negated && matches item.text) (items_of list))) _ h in
          record {
            none_refuses = λ any. absurd (false≢true (sym (not-true (list_any (λ item. item.negated && matches item.text) (items_of list)) parts.0) ∙ refused.1 any));
            some_matches = accepted.0 parts.1;
          },
      λ h. and_from (not (list_any (λ item. item.negated && matches item.text) (items_of list))) _
          (from-not (list_any (λ item. item.negated && matches item.text) (items_of list)) (λ e. h.none_refuses (refused.0 e)))
          (accepted.1 h.some_matches),
    )

pub lower-tells : (text : List ℕ) → Tells (is_match_in_lower_case text) (MatchesInLowerCase text)
lower-tells text pattern = is_match-tests (str_to_ascii_lowercase pattern) (str_to_ascii_lowercase text)
