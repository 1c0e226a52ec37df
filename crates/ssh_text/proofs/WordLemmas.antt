-- The first blank ends the first word.
use Rattle.ssh_text.proofs.Imports.{◌≡◌, ℕ, zero, suc, ◌<◌, true, false, List, [], ◌∷◌, length, take, drop, slice_index, refl, ap, arith, false_from_ne_true, Nowhere, Passes, is_byte2, is_blank, first_word, after_word}

-- none of the first bytes is a blank
abbrev NoBlank : List ℕ → ℕ → Type 0
NoBlank text n = (i : ℕ) → i < n → is_blank (slice_index text i) ≡ false

pub no_blank : (text : List ℕ) (n : ℕ) → Nowhere (Passes (is_byte2 32 9) text) 0 n → NoBlank text n
no_blank text n h = λ i lt. false_from_ne_true (is_blank (slice_index text i)) (h i (omega arith) lt)

pub word_at : (text : List ℕ) (k : ℕ) → k < length text → NoBlank text k → is_blank (slice_index text k) ≡ true → first_word text ≡ take k text
word_at [] k lt clear is = absurd (omega arith)
word_at (c ∷ cs) zero lt clear is = rw is refl
word_at (c ∷ cs) (suc k) lt clear is = rw (clear 0 (omega arith)) (ap (λ s. c ∷ s) (word_at cs k (omega arith) (λ i l. clear (suc i) (omega arith)) is))

pub rest_at : (text : List ℕ) (k : ℕ) → k < length text → NoBlank text k → is_blank (slice_index text k) ≡ true → after_word text ≡ drop k text
rest_at [] k lt clear is = absurd (omega arith)
rest_at (c ∷ cs) zero lt clear is = rw is refl
rest_at (c ∷ cs) (suc k) lt clear is = rw (clear 0 (omega arith)) (rest_at cs k (omega arith) (λ i l. clear (suc i) (omega arith)) is)

pub word_whole : (text : List ℕ) → NoBlank text (length text) → first_word text ≡ take (length text) text
word_whole [] clear = refl
word_whole (c ∷ cs) clear = rw (clear 0 (omega arith)) (ap (λ s. c ∷ s) (word_whole cs (λ i l. clear (suc i) (omega arith))))

pub rest_none : (text : List ℕ) → NoBlank text (length text) → after_word text ≡ drop (length text) text
rest_none [] clear = refl
rest_none (c ∷ cs) clear = rw (clear 0 (omega arith)) (rest_none cs (λ i l. clear (suc i) (omega arith)))
