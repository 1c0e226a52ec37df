-- Digests are bytes, and their texts are printable.
use Rattle.ssh_review.proofs.Imports.{◌≡◌, ◌∙◌, ℕ, zero, suc, ◌+◌, ◌*◌, ◌<◌, ◌/◌, ◌%◌, Bool, true, false, ◌&&◌, List, [], ◌∷◌, length, take, refl, sym, inl, inr, arith, byte_at, bytes_high_first, to_be_bytes, w32, replicate, slice_index, and_from, cases_Bool, list_all_at, standard, encode_of, padding_len, final_hash, initial_hash_256, AreBytes, are_printable, is_printable}
use Rattle.base64.specs.Rfc4648.{encode_symbols}
use Rattle.sha2.specs.Sha256.{digest_bytes, sha256}
use Rattle.ssh_review.proofs.PrintableLemmas.{ArePrintable, bytes-append, join, word}

-- ---- bytes

byte-below : (k n : ℕ) → byte_at k n < 256
byte-below zero n = omega arith
byte-below (suc k) n = omega arith

high-bytes : (k n : ℕ) → AreBytes (bytes_high_first k n)
high-bytes zero n = tt
high-bytes (suc k) n = (byte-below k n, high-bytes k n)

words-bytes : (h : List ℕ) (n : ℕ) → AreBytes (digest_bytes h n)
unfolding digest_bytes
words-bytes h zero = tt
words-bytes h (suc n) = bytes-append (digest_bytes h n) (to_be_bytes w32 (slice_index h n)) (words-bytes h n) (high-bytes 4 (slice_index h n))

pub digest-bytes : (m : List ℕ) → AreBytes (sha256 m)
unfolding sha256
digest-bytes m = words-bytes (final_hash initial_hash_256 m) 8

-- ---- base64

symbol-printable : (i : ℕ) → i < 64 → is_printable (slice_index standard.encode_table i) ≡ true
symbol-printable i h = elim (cases_Bool (is_printable (slice_index standard.encode_table i))) [
  | inl e ↦ e
  | inr e ↦
      let all : are_printable standard.encode_table ≡ true = refl in
      let not_all : are_printable standard.encode_table ≡ false = list_all_at is_printable standard.encode_table i 0 h e in
      absurd (let no : false ≡ true = sym not_all ∙ all in cc)
]

symbols-printable : (m : List ℕ) → AreBytes m → are_printable (encode_symbols standard.encode_table m) ≡ true
unfolding encode_symbols
symbols-printable [] h = refl
symbols-printable (a ∷ []) h =
    and_from _ _ (symbol-printable (a / 4) (omega (arith, h.0)))
    (and_from _ true (symbol-printable (a % 4 * 16) (omega arith)) refl)
symbols-printable (a ∷ b ∷ []) h =
    and_from _ _ (symbol-printable (a / 4) (omega (arith, h.0)))
    (and_from _ _ (symbol-printable (a % 4 * 16 + b / 16) (omega (arith, h.1.0)))
    (and_from _ true (symbol-printable (b % 16 * 4) (omega arith)) refl))
symbols-printable (a ∷ b ∷ c ∷ rest) h =
    and_from _ _ (symbol-printable (a / 4) (omega (arith, h.0)))
    (and_from _ _ (symbol-printable (a % 4 * 16 + b / 16) (omega (arith, h.1.0)))
    (and_from _ _ (symbol-printable (b % 16 * 4 + c / 64) (omega (arith, h.1.1.0)))
    (and_from _ _ (symbol-printable (c % 64) (omega arith)) (symbols-printable rest h.1.1.1))))

padding-printable : (n : ℕ) → are_printable (replicate n 61) ≡ true
padding-printable zero = refl
padding-printable (suc n) = padding-printable n

taken-printable : (k : ℕ) (text : List ℕ) → are_printable text ≡ true → are_printable (take k text) ≡ true
taken-printable zero text h = refl
taken-printable (suc k) [] h = refl
taken-printable (suc k) (c ∷ cs) h = go (is_printable c) (taken-printable k cs) h
  where
    go : (p : Bool) → (are_printable cs ≡ true → are_printable (take k cs) ≡ true) → (p && are_printable cs) ≡ true → (p && are_printable (take k cs)) ≡ true
    go true next h = next h
    go false next h = h

pub base64-printable : (k : ℕ) (m : List ℕ) → AreBytes m → ArePrintable (take k (encode_of standard m))
base64-printable k m h =
    let whole = join (word (encode_symbols standard.encode_table m) (symbols-printable m h)) (word (replicate (padding_len (length m)) 61) (padding-printable (padding_len (length m)))) in
    record { all = taken-printable k (encode_of standard m) whole.all }
