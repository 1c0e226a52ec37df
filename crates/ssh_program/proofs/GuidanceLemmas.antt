-- The front of a text, and bytes that are a text.
use Rattle.std.proofs.Common.{◌≡◌, ℕ, Bool, true, false, cond, inl, inr, List, Some, None, ap, length, ltb, refl, sym, take}
use Rattle.std.proofs.lemmas.Bool.{cases_Bool, ltb-false}
use Rattle.std.proofs.lemmas.List.{take_all}
use Rattle.std.proofs.lemmas.Option.{same_Some}
use Rattle.std.proofs.lemmas.Str.{IsUtf8-from_is_utf8, is_utf8-from_IsUtf8}
use Rattle.std.specs.List.{before_first, position, position_or_len}
use Rattle.std.specs.Prelude.{IsUtf8}
use Rattle.std.specs.Str.{is_utf8}
use Rattle.ssh_program.specs.Guidance.{text_of}

-- ---- what stands before the first such byte

by-found : (p : ℕ → Bool) (xs : List ℕ) (n : ℕ) (inside : Bool) → ltb (position_or_len p xs) (length xs) ≡ inside
    → Some n ≡ cond inside (Some (position_or_len p xs)) None → take n xs ≡ take (position_or_len p xs) xs
by-found p xs n true e h = ap (λ k. take k xs) (same_Some n (position_or_len p xs) h)
by-found p xs n false e h = cc

pub found_front : (p : ℕ → Bool) (xs : List ℕ) (n : ℕ) → Some n ≡ position p xs → take n xs ≡ before_first p xs
found_front p xs n h = by-found p xs n (ltb (position_or_len p xs) (length xs)) refl h

by-whole : (p : ℕ → Bool) (xs : List ℕ) (inside : Bool) → ltb (position_or_len p xs) (length xs) ≡ inside
    → None ≡ cond inside (Some (position_or_len p xs)) None → xs ≡ take (position_or_len p xs) xs
by-whole p xs true e h = cc
by-whole p xs false e h = sym (take_all (position_or_len p xs) xs (ltb-false _ _ e))

pub whole_front : (p : ℕ → Bool) (xs : List ℕ) → None ≡ position p xs → xs ≡ before_first p xs
whole_front p xs h = by-whole p xs (ltb (position_or_len p xs) (length xs)) refl h

-- ---- a text

pub text_read : (bytes text : List ℕ) → text ≡ bytes → IsUtf8 bytes → Some text ≡ text_of bytes
text_read bytes text same is = rw (is_utf8-from_IsUtf8 bytes is) (ap Some same)

pub text_refused : (bytes : List ℕ) → ¬ (IsUtf8 bytes) → None ≡ text_of bytes
text_refused bytes broken =
    elim (cases_Bool (is_utf8 bytes)) [
      | inl e ↦ absurd (broken (IsUtf8-from_is_utf8 bytes e))
      | inr e ↦ rw e refl
    ]
