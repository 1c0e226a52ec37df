-- How long the base64 of a digest is.
use Rattle.ssh_keys.proofs.Imports.{◌≡◌, ℕ, zero, suc, ◌+◌, ◌*◌, ◌≤◌, List, [], ◌∷◌, length, refl, arith, if◌then◌else◌, length-append, encode_group, encode, padding_len}
use Rattle.std.specs.Prelude.{Bool, replicate}
use Rattle.base64.specs.Rfc4648.{encode_symbols}

-- groups of three bytes are four symbols each, and two bytes at the end are three
symbols_len : (table : List ℕ) (k : ℕ) (m : List ℕ) → length m ≡ 3 * k + 2 → length (encode_symbols table m) ≡ 4 * k + 3
unfolding encode_symbols
symbols_len table k [] e = absurd (omega arith)
symbols_len table k (a ∷ []) e = absurd (omega arith)
symbols_len table zero (a ∷ b ∷ []) e = refl
symbols_len table (suc k) (a ∷ b ∷ []) e = absurd (omega arith)
symbols_len table zero (a ∷ b ∷ c ∷ rest) e = absurd (omega arith)
symbols_len table (suc k) (a ∷ b ∷ c ∷ rest) e =
    omega (arith, length-append (encode_group table a b c) (encode_symbols table rest), symbols_len table k rest (omega arith))

-- the text of a digest of 32 bytes has 44
pub text_len : (table : List ℕ) (pad : ℕ) (padding : Bool) (m : List ℕ) → length m ≡ 32 → 43 ≤ length (encode table pad padding m)
text_len table pad padding m e =
    omega (arith, length-append (encode_symbols table m) (if padding then replicate (padding_len (length m)) pad else []), symbols_len table 10 m e)
