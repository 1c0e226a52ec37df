-- The first LF ends the line.
use Rattle.ssh_text.proofs.Imports.{◌≡◌, ℕ, zero, suc, ◌<◌, true, false, List, [], ◌∷◌, length, slice_index, refl, ap, arith, false_from_ne_true, Nowhere, Passes, is_byte, line_len}

-- none of the first bytes is an LF
abbrev NoNewline : List ℕ → ℕ → Type 0
NoNewline text n = (i : ℕ) → i < n → is_byte 10 (slice_index text i) ≡ false

pub no_newline : (text : List ℕ) (n : ℕ) → Nowhere (Passes (is_byte 10) text) 0 n → NoNewline text n
no_newline text n h = λ i lt. false_from_ne_true (is_byte 10 (slice_index text i)) (h i (omega arith) lt)

pub line_at : (text : List ℕ) (k : ℕ) → k < length text → NoNewline text k → is_byte 10 (slice_index text k) ≡ true → line_len text ≡ k
line_at [] k lt clear is = absurd (omega arith)
line_at (c ∷ cs) zero lt clear is = rw is refl
line_at (c ∷ cs) (suc k) lt clear is = rw (clear 0 (omega arith)) (ap suc (line_at cs k (omega arith) (λ i l. clear (suc i) (omega arith)) is))

pub line_whole : (text : List ℕ) → NoNewline text (length text) → line_len text ≡ length text
line_whole [] clear = refl
line_whole (c ∷ cs) clear = rw (clear 0 (omega arith)) (ap suc (line_whole cs (λ i l. clear (suc i) (omega arith))))
