-- The closing quote is the first quote without a backslash before it.
use Rattle.ssh_options.proofs.Imports.{◌≡◌, ℕ, zero, suc, ◌<◌, ◌+◌, true, false, ◌==◌, List, [], ◌∷◌, ◌++◌, Option, Some, None, option_map, length, take, drop, slice_index, refl, sym, ap, ◌∙◌, append_assoc, take-add, drop-drop, arith, eqb-true, false_from_ne_true, Nowhere, Passes, is_byte, ends_with, split_at_quote}

-- none of the first bytes is a quote
abbrev pub NoQuote : List ℕ → ℕ → Type 0
NoQuote text n = (i : ℕ) → i < n → (slice_index text i == 34) ≡ false

pub no_quote : (text : List ℕ) (n : ℕ) → Nowhere (Passes (is_byte 34) text) 0 n → NoQuote text n
no_quote text n h = λ i lt. false_from_ne_true (slice_index text i == 34) (h i (omega arith) lt)

-- the byte before the place, where this byte comes before the text
abbrev before : ℕ → ℕ → List ℕ → ℕ
before last zero text = last
before last (suc k) [] = last
before last (suc k) (c ∷ cs) = before c k cs

abbrev onto : List ℕ → List ℕ × List ℕ → List ℕ × List ℕ
onto front parts = (front ++ parts.0, parts.1)

onto-one : (c : ℕ) (front : List ℕ) (parts : Option (List ℕ × List ℕ))
    → option_map (λ p. (c ∷ p.0, p.1)) (option_map (onto front) parts) ≡ option_map (onto (c ∷ front)) parts
onto-one c front None = refl
onto-one c front (Some parts) = refl

onto-onto : (front more : List ℕ) (parts : Option (List ℕ × List ℕ))
    → option_map (onto front) (option_map (onto more) parts) ≡ option_map (onto (front ++ more)) parts
onto-onto front more None = refl
onto-onto front more (Some parts) = ap (λ s. Some (s, parts.1)) (sym (append_assoc front more parts.0))

closes-at : (last : ℕ) (text : List ℕ) (k : ℕ) → k < length text → NoQuote text k → (slice_index text k == 34) ≡ true → (before last k text == 92) ≡ false
    → split_at_quote last text ≡ Some (take k text, drop (suc k) text)
closes-at last [] k lt clear is closed = absurd (omega arith)
closes-at last (c ∷ cs) zero lt clear is closed = rw (is, closed) refl
closes-at last (c ∷ cs) (suc k) lt clear is closed =
    rw (clear 0 (omega arith))
    (ap (option_map (λ p. (c ∷ p.0, p.1))) (closes-at c cs k (omega arith) (λ i l. clear (suc i) (omega arith)) is closed))

stays-at : (last : ℕ) (text : List ℕ) (k : ℕ) → k < length text → NoQuote text k → (slice_index text k == 34) ≡ true → (before last k text == 92) ≡ true
    → split_at_quote last text ≡ option_map (onto (take (suc k) text)) (split_at_quote 34 (drop (suc k) text))
stays-at last [] k lt clear is escaped = absurd (omega arith)
stays-at last (c ∷ cs) zero lt clear is escaped =
    let quote : c ≡ 34 = eqb-true c 34 is in
    rw quote (rw escaped refl)
stays-at last (c ∷ cs) (suc k) lt clear is escaped =
    rw (clear 0 (omega arith))
    (ap (option_map (λ p. (c ∷ p.0, p.1))) (stays-at c cs k (omega arith) (λ i l. clear (suc i) (omega arith)) is escaped)
    ∙ onto-one c (take (suc k) cs) (split_at_quote 34 (drop (suc k) cs)))

-- a text without a quote closes nothing
pub none_closes : (last : ℕ) (text : List ℕ) → NoQuote text (length text) → split_at_quote last text ≡ None
none_closes last [] clear = refl
none_closes last (c ∷ cs) clear =
    rw (clear 0 (omega arith)) (ap (option_map (λ p. (c ∷ p.0, p.1))) (none_closes c cs (λ i l. clear (suc i) (omega arith))))

ends-before : (last : ℕ) (text : List ℕ) (k : ℕ) → k < length text → ends_with 92 (take (suc k) text) ≡ (before last (suc k) text == 92)
ends-before last [] k lt = absurd (omega arith)
ends-before last (c ∷ cs) zero lt = refl
ends-before last (c ∷ []) (suc k) lt = absurd (omega arith)
ends-before last (c ∷ d ∷ cs) (suc k) lt = ends-before c (d ∷ cs) k (omega arith)

-- after a quote, a text ends with a backslash where there is one before the place
ends-at : (text : List ℕ) (k : ℕ) → k < length text → ends_with 92 (take k text) ≡ (before 34 k text == 92)
ends-at text zero lt = refl
ends-at text (suc k) lt = ends-before 34 text k (omega arith)

-- the first quote closes where there is no backslash before it
pub closes : (text : List ℕ) (k : ℕ) → k < length text → NoQuote text k → (slice_index text k == 34) ≡ true → ends_with 92 (take k text) ≡ false
    → split_at_quote 34 text ≡ Some (take k text, drop (suc k) text)
closes text k lt clear is closed = closes-at 34 text k lt clear is (sym (ends-at text k lt) ∙ closed)

-- and else the search goes on after it
pub stays : (text : List ℕ) (k : ℕ) → k < length text → NoQuote text k → (slice_index text k == 34) ≡ true → ends_with 92 (take k text) ≡ true
    → split_at_quote 34 text ≡ option_map (onto (take (suc k) text)) (split_at_quote 34 (drop (suc k) text))
stays text k lt clear is escaped = stays-at 34 text k lt clear is (sym (ends-at text k lt) ∙ escaped)

-- ---- after the bytes that were gone through

abbrev Held : List ℕ → ℕ → Type 0
Held text from = split_at_quote 34 text ≡ option_map (onto (take from text)) (split_at_quote 34 (drop from text))

-- the text is split at the quote that is found after its first bytes
pub split_there : (text rest part : List ℕ) (from len : ℕ) → Held text from → drop from text ≡ rest → len < length rest → NoQuote rest len
    → (slice_index rest len == 34) ≡ true → part ≡ take len rest → ends_with 92 part ≡ false
    → Some (take (from + len) text, drop (from + len + 1) text) ≡ split_at_quote 34 text
split_there text rest part from len held here lt clear is cut bare =
    let left : drop (suc len) (drop from text) ≡ drop (from + len + 1) text =
    drop-drop (suc len) from text ∙ ap (λ n. drop n text) (omega arith) in
    sym (held
    ∙ ap (λ r. option_map (onto (take from text)) (split_at_quote 34 r)) here
    ∙ ap (option_map (onto (take from text))) (closes rest len lt clear is (ap (ends_with 92) (sym cut) ∙ bare))
    ∙ ap (λ r. Some (take from text ++ take len r, drop (suc len) r)) (sym here)
    ∙ ap (λ front. Some (front, drop (suc len) (drop from text))) (sym (take-add from len text))
    ∙ ap (λ r. Some (take (from + len) text, r)) left)

-- where the quote is escaped, the search goes on after it
pub held_after : (text rest part : List ℕ) (from len : ℕ) → Held text from → drop from text ≡ rest → len < length rest → NoQuote rest len
    → (slice_index rest len == 34) ≡ true → part ≡ take len rest → ends_with 92 part ≡ true
    → Held text (from + len + 1)
held_after text rest part from len held here lt clear is cut escaped =
    let next : from + suc len ≡ from + len + 1 = omega arith in
    held
    ∙ ap (λ r. option_map (onto (take from text)) (split_at_quote 34 r)) here
    ∙ ap (option_map (onto (take from text))) (stays rest len lt clear is (ap (ends_with 92) (sym cut) ∙ escaped))
    ∙ ap (λ r. option_map (onto (take from text)) (option_map (onto (take (suc len) r)) (split_at_quote 34 (drop (suc len) r)))) (sym here)
    ∙ onto-onto (take from text) (take (suc len) (drop from text)) (split_at_quote 34 (drop (suc len) (drop from text)))
    ∙ ap (λ front. option_map (onto front) (split_at_quote 34 (drop (suc len) (drop from text)))) (sym (take-add from (suc len) text))
    ∙ ap (λ r. option_map (onto (take (from + suc len) text)) (split_at_quote 34 r)) (drop-drop (suc len) from text)
    ∙ ap (λ n. option_map (onto (take n text)) (split_at_quote 34 (drop n text))) next

-- where no quote is left, nothing is split
pub split_nowhere : (text rest : List ℕ) (from : ℕ) → Held text from → drop from text ≡ rest → NoQuote rest (length rest) → None ≡ split_at_quote 34 text
split_nowhere text rest from held here clear =
    sym (held
    ∙ ap (λ r. option_map (onto (take from text)) (split_at_quote 34 r)) here
    ∙ ap (option_map (onto (take from text))) (none_closes 34 rest clear))
