-- Words between spaces, one by one.
use Rattle.ssh_files.proofs.Imports.{◌≡◌, ◌∙◌, ◌+◌, ◌<◌, ◌≤◌, ◌&&◌, nat_le, ℕ, zero, suc, Bool, true, false, cond, List, [], ◌∷◌, ◌++◌, length, take, drop, filter, map, Some, None, refl, sym, ap, arith, inl, inr, list_all, slice_split, onto_first, position_or_len, IsUtf8, IsValidUpTo, utf8_valid_len, cases_Bool, eq-eqb, ne_eqb, le-leb, lt-ltb, append_assoc, append-nil, utf8_valid_len-IsUtf8, begins_with_text, is_space, is_filled, is_text, keeps_words, words_in}
use Rattle.ssh_files.specs.Words.{pieces_of}

abbrev word_end : List ℕ → ℕ
word_end text = position_or_len is_space text

-- what is cut after the first space
abbrev following : List ℕ → List (List ℕ)
following [] = []
following (x ∷ xs) = slice_split is_space xs

drop-one : (k c : ℕ) (cs : List ℕ) → drop (1 + k) (c ∷ cs) ≡ drop k cs
drop-one k c cs = let next : 1 + k ≡ suc k = omega arith in ap (λ (j : ℕ). drop j (c ∷ cs)) next

take-one : (k c : ℕ) (cs : List ℕ) → take (1 + k) (c ∷ cs) ≡ c ∷ take k cs
take-one k c cs = let next : 1 + k ≡ suc k = omega arith in ap (λ (j : ℕ). take j (c ∷ cs)) next

split-first : (text : List ℕ) → slice_split is_space text ≡ take (word_end text) text ∷ following (drop (word_end text) text)
split-first [] = refl
split-first (c ∷ cs) =
    elim (cases_Bool (is_space c)) [
      | inl e ↦ rw e refl
      | inr e ↦ rw (e, take-one (word_end cs) c cs, drop-one (word_end cs) c cs) (ap (onto_first c) (split-first cs))
    ]

pieces-after : (text : List ℕ) → pieces_of (drop (word_end text) text) ≡ filter is_filled (following (drop (word_end text) text))
unfolding pieces_of
pieces-after [] = refl
pieces-after (c ∷ cs) =
    elim (cases_Bool (is_space c)) [
      | inl e ↦ rw (e, e) refl
      | inr e ↦ rw (e, drop-one (word_end cs) c cs) (pieces-after cs)
    ]

filled-first : (word : List ℕ) (rest : List (List ℕ)) → 0 < length word → filter is_filled (word ∷ rest) ≡ word ∷ filter is_filled rest
filled-first word rest h = rw (lt-ltb 0 (length word) h) refl

take-filled : (n : ℕ) (text : List ℕ) → 0 < n → 0 < length text → 0 < length (take n text)
take-filled zero text n t = absurd (omega (arith, n))
take-filled (suc n) [] m t = absurd (omega (arith, t))
take-filled (suc n) (c ∷ cs) m t = omega arith

-- an argument at the front
pub pieces_word : (text : List ℕ) (n : ℕ) → n ≡ word_end text → 0 < n → 0 < length text → pieces_of text ≡ take n text ∷ pieces_of (drop n text)
unfolding pieces_of
pieces_word text n e some filled =
    rw e
    (ap (filter is_filled) (split-first text)
    ∙ (filled-first (take (word_end text) text) (following (drop (word_end text) text)) (take-filled (word_end text) text (let m : 0 < word_end text = rw e at some in m) filled)
    ∙ ap (λ ws. take (word_end text) text ∷ ws) (sym (pieces-after text))))

-- a space at the front
pub pieces_space : (text : List ℕ) (n : ℕ) → n ≡ word_end text → n ≡ 0 → 0 < length text → pieces_of text ≡ pieces_of (drop 1 text)
unfolding pieces_of
pieces_space [] n e z filled = absurd (omega (arith, filled))
pieces_space (c ∷ cs) n e z filled =
    elim (cases_Bool (is_space c)) [
      | inl s ↦ rw s refl
      | inr s ↦ let bad : n ≡ 1 + word_end cs = rw s at e in absurd (omega (arith, z, bad))
    ]

-- ---- the arguments so far

pub record AreWords (line : List ℕ) (words : List (List ℕ)) (rest : List ℕ) : Type 0 where
  pub pieces : pieces_of line ≡ words ++ pieces_of rest
  pub texts : list_all is_text words ≡ true

pub words_begin : (line : List ℕ) → AreWords line [] line
words_begin line = record { pieces = refl; texts = refl }

pub words_skip : (line : List ℕ) (words : List (List ℕ)) (rest : List ℕ) (n : ℕ) → n ≡ word_end rest → n ≡ 0 → 0 < length rest → AreWords line words rest → AreWords line words (drop 1 rest)
words_skip line words rest n e z filled h = record { pieces = h.pieces ∙ ap (λ ws. words ++ ws) (pieces_space rest n e z filled); texts = h.texts }

all-push : (words : List (List ℕ)) (word : List ℕ) → list_all is_text words ≡ true → is_text word ≡ true → list_all is_text (words ++ word ∷ []) ≡ true
all-push [] word h k = rw k refl
all-push (w ∷ words) word h k =
    elim (cases_Bool (is_text w)) [
      | inl e ↦ rw e (all-push words word (rw e at h) k)
      | inr e ↦ cc (rw e at h)
    ]

pub words_more : (line : List ℕ) (words : List (List ℕ)) (rest : List ℕ) (n : ℕ) → n ≡ word_end rest → 0 < n → 0 < length rest → is_text (take n rest) ≡ true
    → AreWords line words rest → AreWords line (words ++ take n rest ∷ []) (drop n rest)
words_more line words rest n e some filled text h = record {
  pieces = h.pieces ∙ (ap (λ ws. words ++ ws) (pieces_word rest n e some filled) ∙ sym (append_assoc words (take n rest ∷ []) (pieces_of (drop n rest))));
  texts = all-push words (take n rest) h.texts text;
}

none-text : (words : List (List ℕ)) (word : List ℕ) (more : List (List ℕ)) → is_text word ≡ false → list_all is_text (words ++ word ∷ more) ≡ false
none-text [] word more h = rw h refl
none-text (w ∷ words) word more h = elim (cases_Bool (is_text w)) [ inl e ↦ rw e (none-text words word more h) | inr e ↦ rw e refl ]

and-false : (b : Bool) → (b && false) ≡ false
and-false true = refl
and-false false = refl

-- an argument that is not text: the line has none
pub words_broken : (line : List ℕ) (words : List (List ℕ)) (rest : List ℕ) (n : ℕ) → n ≡ word_end rest → 0 < n → 0 < length rest → is_text (take n rest) ≡ false
    → AreWords line words rest → [] ≡ words_in line
words_broken line words rest n e some filled text h =
    let pieces : pieces_of line ≡ words ++ take n rest ∷ pieces_of (drop n rest) = h.pieces ∙ ap (λ ws. words ++ ws) (pieces_word rest n e some filled) in
    let broken : list_all is_text (pieces_of line) ≡ false = ap (list_all is_text) pieces ∙ none-text words (take n rest) (pieces_of (drop n rest)) text in
    rw (broken, and-false (nat_le (length line) 65536)) refl

begins-kept : (words : List (List ℕ)) (word : List ℕ) (more : List (List ℕ)) → list_all is_text words ≡ true → is_text word ≡ true
    → begins_with_text (words ++ word ∷ more) ≡ true
begins-kept [] word more h k = k
begins-kept (w ∷ words) word more h k = elim (cases_Bool (is_text w)) [ inl e ↦ e | inr e ↦ cc (rw e at h) ]

-- an argument that is text, after such arguments: one is stored
pub words_kept : (line : List ℕ) (words : List (List ℕ)) (rest : List ℕ) (n : ℕ) → length line ≤ 65536 → n ≡ word_end rest → 0 < n → 0 < length rest
    → is_text (take n rest) ≡ true → AreWords line words rest → keeps_words line ≡ true
words_kept line words rest n short e some filled text h =
    let pieces : pieces_of line ≡ words ++ take n rest ∷ pieces_of (drop n rest) = h.pieces ∙ ap (λ ws. words ++ ws) (pieces_word rest n e some filled) in
    rw (le-leb (length line) 65536 short, pieces) (begins-kept words (take n rest) (pieces_of (drop n rest)) h.texts text)

pieces-nil : pieces_of [] ≡ []
unfolding pieces_of
pieces-nil = refl

pub words_done : (line : List ℕ) (words : List (List ℕ)) (rest : List ℕ) → length line ≤ 65536 → length rest ≡ 0 → AreWords line words rest → words ≡ words_in line
words_done line words [] short none h =
    let pieces : pieces_of line ≡ words = h.pieces ∙ (ap (λ ws. words ++ ws) pieces-nil ∙ append-nil words) in
    rw (pieces, h.texts, le-leb (length line) 65536 short) refl
words_done line words (c ∷ cs) short none h = absurd (omega (arith, none))

long-by : (texts : Bool) (pieces : List (List ℕ)) → [] ≡ cond (false && texts) pieces []
long-by texts pieces = refl

-- a line past the limit has no arguments
pub words_long : (line : List ℕ) → nat_le (length line) 65536 ≡ false → [] ≡ words_in line
words_long line long = rw long (long-by (list_all is_text (pieces_of line)) (pieces_of line))

-- ---- text

pub text_read : (word text : List ℕ) → text ≡ word → IsUtf8 word → Some text ≡ cond (is_text word) (Some word) None
text_read word text e utf8 = rw (utf8_valid_len-IsUtf8 word utf8, eq-eqb (length word) (length word) refl) (ap (λ (w : List ℕ). Some w) e)

pub text_refused : (word : List ℕ) (n : ℕ) → IsValidUpTo word n → n ≡ utf8_valid_len word → None ≡ cond (is_text word) (Some word) None
text_refused word n valid e =
    let short = valid.short in
    rw (ne_eqb (utf8_valid_len word) (length word) (λ same. omega (arith, short, e, same))) refl

text-by : (b : Bool) (word text : List ℕ) → Some text ≡ cond b (Some word) None → (b ≡ true) × (text ≡ word)
text-by true word text h = let e : text ≡ word = cc in (refl, e)
text-by false word text h = cc

pub text_is : (word text : List ℕ) → Some text ≡ cond (is_text word) (Some word) None → (is_text word ≡ true) × (text ≡ word)
text_is word text h = text-by (is_text word) word text h

no_text-by : (b : Bool) (word : List ℕ) → None ≡ cond b (Some word) None → b ≡ false
no_text-by true word h = cc
no_text-by false word h = refl

pub no_text : (word : List ℕ) → None ≡ cond (is_text word) (Some word) None → is_text word ≡ false
no_text word h = no_text-by (is_text word) word h

map-push : {X : Type 0} (view : X → List ℕ) (old : List X) (x : X) → map view (old ++ x ∷ []) ≡ map view old ++ view x ∷ []
map-push view [] x = refl
map-push view (o ∷ old) x = ap (λ ws. view o ∷ ws) (map-push view old x)

pub words_pushed : {X : Type 0} (view : X → List ℕ) (items old : List X) (x : X) (text : List ℕ) → items ≡ old ++ x ∷ [] → view x ≡ text → map view items ≡ map view old ++ text ∷ []
words_pushed view items old x text pushed is = ap (map view) pushed ∙ (map-push view old x ∙ ap (λ t. map view old ++ t ∷ []) is)
