-- The kit's hex writes the digits that are defined here.
use Rattle.ssh_print.proofs.Imports.{◌≡◌, ◌∙◌, ◌*◌, ◌<◌, ◌/◌, ◌%◌, ℕ, zero, suc, List, [], ◌∷◌, ◌++◌, length, slice_index, take, refl, ap, arith, IsOk, OnOk, take-append_seam, IsBytes, encode_lower, lower_digits, FromHexError, hex_digit, hex_digits, hex_text}
use Rattle.std.specs.Prelude.{Result, Ok, Err}
use Rattle.hex.specs.Hex.{encode_with}

-- the sixteen digits
digit-same : (d : ℕ) → d < 16 → slice_index lower_digits d ≡ hex_digit d
digit-same zero h = refl
digit-same (suc zero) h = refl
digit-same (suc (suc zero)) h = refl
digit-same (suc (suc (suc zero))) h = refl
digit-same (suc (suc (suc (suc zero)))) h = refl
digit-same (suc (suc (suc (suc (suc zero))))) h = refl
digit-same (suc (suc (suc (suc (suc (suc zero)))))) h = refl
digit-same (suc (suc (suc (suc (suc (suc (suc zero))))))) h = refl
digit-same (suc (suc (suc (suc (suc (suc (suc (suc zero)))))))) h = refl
digit-same (suc (suc (suc (suc (suc (suc (suc (suc (suc zero))))))))) h = refl
digit-same (suc (suc (suc (suc (suc (suc (suc (suc (suc (suc zero)))))))))) h = refl
digit-same (suc (suc (suc (suc (suc (suc (suc (suc (suc (suc (suc zero))))))))))) h = refl
digit-same (suc (suc (suc (suc (suc (suc (suc (suc (suc (suc (suc (suc zero)))))))))))) h = refl
digit-same (suc (suc (suc (suc (suc (suc (suc (suc (suc (suc (suc (suc (suc zero))))))))))))) h = refl
digit-same (suc (suc (suc (suc (suc (suc (suc (suc (suc (suc (suc (suc (suc (suc zero)))))))))))))) h = refl
digit-same (suc (suc (suc (suc (suc (suc (suc (suc (suc (suc (suc (suc (suc (suc (suc zero))))))))))))))) h = refl
digit-same (suc (suc (suc (suc (suc (suc (suc (suc (suc (suc (suc (suc (suc (suc (suc (suc d)))))))))))))))) h = absurd (omega arith)

pairs-same : (bytes : List ℕ) → IsBytes bytes → encode_lower bytes ≡ hex_digits bytes
unfolding encode_with
pairs-same [] h = refl
pairs-same (b ∷ bytes) h =
    let below : b < 256 = h 0 in
    let high : slice_index lower_digits (b / 16) ≡ hex_digit (b / 16) = digit-same (b / 16) (omega arith) in
    let low : slice_index lower_digits (b % 16) ≡ hex_digit (b % 16) = digit-same (b % 16) (omega arith) in
    rw (high, low) (ap (λ s. hex_digit (b / 16) ∷ hex_digit (b % 16) ∷ s) (pairs-same bytes (λ i. h (suc i))))

-- some bytes, which are more than none
pub text-same : (bytes : List ℕ) → IsBytes bytes → (bytes ≡ [] → ⊥) → encode_lower bytes ≡ hex_text bytes
text-same [] h some = absurd (some refl)
text-same (b ∷ bytes) h some = pairs-same (b ∷ bytes) h

-- two digits a byte
pairs-long : (bytes : List ℕ) → length (hex_digits bytes) ≡ 2 * length bytes
pairs-long [] = refl
pairs-long (b ∷ bytes) = let more : length (hex_digits bytes) ≡ 2 * length bytes = pairs-long bytes in omega (arith, more)

-- what was written into exactly the room that it needs, at the front of more room
pub written-same : (r : Result (Unit {0}) FromHexError) (bytes written behind : List ℕ) → IsBytes bytes → IsOk r → OnOk r (written ≡ encode_lower bytes)
    → take (2 * length bytes) (written ++ behind) ≡ hex_digits bytes
written-same (Err e) bytes written behind is ok h = cc
written-same (Ok x) bytes written behind is ok h =
    let digits : written ≡ hex_digits bytes = h ∙ pairs-same bytes is in
    rw (digits, ← pairs-long bytes) (take-append_seam (hex_digits bytes) behind)
