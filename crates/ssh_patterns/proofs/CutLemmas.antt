-- Where a text is cut, as a loop over its bytes finds it.
use Rattle.ssh_patterns.proofs.Imports.{◌≡◌, ◌≢◌, ◌≤◌, min, ℕ, zero, suc, arith, slice_index, ◌-◌, ◌+◌, ◌<◌, ◌==◌, Bool, true, false, if◌then◌else◌, cond, List, [], ◌∷◌, ◌++◌, length, take, drop, get_or, Option, Some, None, refl, sym, ap, add-one, append_assoc, length-append, nat_lt, option_and_then, ◌∙◌, inl, inr, option_map, take-suc, drop-cons, append-nil, slice_split, onto_first, false_from_ne_true, lt-ltb, le-ltb, cases_lt, length-drop, length-take-le, take_all, Nowhere, Passes, is_byte, after_mark, cut_here, cut_at, cut_near}
use Rattle.std.proofs.Common.{eqb-true, eq-eqb}

pub after_mark-front : (mark rest : List ℕ) → after_mark mark (mark ++ rest) ≡ Some rest
after_mark-front [] rest = refl
after_mark-front (m ∷ ms) rest = rw (eq-eqb m m refl) (after_mark-front ms rest)

whole-by : (b : Bool) (c m : ℕ) (cs ms rest : List ℕ) → (c == m) ≡ b
    → ((if b then after_mark ms cs else None) ≡ Some rest) → (after_mark ms cs ≡ Some rest → cs ≡ ms ++ rest)
    → c ∷ cs ≡ m ∷ (ms ++ rest)
whole-by true c m cs ms rest e h ih = let same = eqb-true c m e in let tail = ih h in cc
whole-by false c m cs ms rest e h ih = cc

pub after_mark-whole : (mark text rest : List ℕ) → after_mark mark text ≡ Some rest → text ≡ mark ++ rest
after_mark-whole [] text rest h = cc
after_mark-whole (m ∷ ms) [] rest h = cc
after_mark-whole (m ∷ ms) (c ∷ cs) rest h = whole-by (c == m) c m cs ms rest refl h (after_mark-whole ms cs rest)

none-by : (o : Option (List ℕ)) (mark text : List ℕ) → after_mark mark text ≡ o
    → ((rest : List ℕ) → text ≢ mark ++ rest) → o ≡ None
none-by None mark text e h = refl
none-by (Some rest) mark text e h = absurd (h rest (after_mark-whole mark text rest e))

pub after_mark-none : (mark text : List ℕ) → ((rest : List ℕ) → text ≢ mark ++ rest) → after_mark mark text ≡ None
after_mark-none mark text h = none-by (after_mark mark text) mark text refl h

-- a cut after these bytes
abbrev pub following : List ℕ → Option (List ℕ × List ℕ) → Option (List ℕ × List ℕ)
following front cut = option_map (λ c. (front ++ c.0, c.1)) cut

pub after-nil : (cut : Option (List ℕ × List ℕ)) → following [] cut ≡ cut
after-nil None = refl
after-nil (Some cut) = refl

after-cons : (front : List ℕ) (c : ℕ) (cut : Option (List ℕ × List ℕ))
    → following front (cut_here None c cut) ≡ following (front ++ c ∷ []) cut
after-cons front c None = refl
after-cons front c (Some cut) = ap (λ s. Some (s, cut.1)) (sym (append_assoc front (c ∷ []) cut.0))

cut-cons : (mark : List ℕ) (c : ℕ) (cs : List ℕ) → after_mark mark (c ∷ cs) ≡ None
    → cut_at mark (c ∷ cs) ≡ cut_here None c (cut_at mark cs)
cut-cons mark c cs h = rw h refl

-- where there is no mark, the cut is further on
pub cut-later : (mark text : List ℕ) (at : ℕ) → at < length text → after_mark mark (drop at text) ≡ None
    → following (take at text) (cut_at mark (drop at text)) ≡ following (take (at + 1) text) (cut_at mark (drop (at + 1) text))
cut-later mark text at lt h =
    let d = drop-cons text at 0 lt in
    let none : after_mark mark (get_or text at 0 ∷ drop (suc at) text) ≡ None = rw d at h in
    rw (add-one, d, cut-cons mark (get_or text at 0) (drop (suc at) text) none, take-suc text at 0 lt)
    (after-cons (take at text) (get_or text at 0) (cut_at mark (drop (suc at) text)))

-- where the mark is, the text is cut
pub cut-here : (mark text after front : List ℕ) → 0 < length mark → text ≡ mark ++ after
    → following front (cut_at mark text) ≡ Some (front, after)
cut-here [] text after front some e = absurd (omega arith)
cut-here (m ∷ ms) text after front some e =
    rw (e, after_mark-front (m ∷ ms) after) (ap (λ s. Some (s, after)) (append-nil front))

-- a cut at one byte, against all the parts
abbrev pub parts_at : ℕ → List ℕ → List (List ℕ)
parts_at byte text = slice_split (λ b. b == byte) text

pub record CutFacts (byte : ℕ) (text front back : List ℕ) : Type 0 where
  pub whole : text ≡ front ++ byte ∷ back
  pub parts : parts_at byte text ≡ front ∷ parts_at byte back
  pub shorter : length back < length text

uncut-by : (b : Bool) (byte c : ℕ) (cs : List ℕ) (later : Option (List ℕ × List ℕ)) → (c == byte) ≡ b
    → cut_here (if b then Some cs else None) c later ≡ None → (later ≡ None → parts_at byte cs ≡ cs ∷ [])
    → cond b ([] ∷ parts_at byte cs) (onto_first c (parts_at byte cs)) ≡ (c ∷ cs) ∷ []
uncut-by true byte c cs later e h ih = cc
uncut-by false byte c cs None e h ih = rw (ih refl) refl
uncut-by false byte c cs (Some cut) e h ih = cc

pub parts-uncut : (byte : ℕ) (text : List ℕ) → cut_at (byte ∷ []) text ≡ None → parts_at byte text ≡ text ∷ []
parts-uncut byte [] h = refl
parts-uncut byte (c ∷ cs) h =
    uncut-by (c == byte) byte c cs (cut_at (byte ∷ []) cs) refl h (parts-uncut byte cs)

cut-by : (b : Bool) (byte c : ℕ) (cs front back : List ℕ) (later : Option (List ℕ × List ℕ)) → (c == byte) ≡ b
    → cut_here (if b then Some cs else None) c later ≡ Some (front, back)
    → ((f : List ℕ) → later ≡ Some (f, back) → CutFacts byte cs f back)
    → (c ∷ cs ≡ front ++ byte ∷ back)
    × (cond b ([] ∷ parts_at byte cs) (onto_first c (parts_at byte cs)) ≡ front ∷ parts_at byte back)
    × (length back < length (c ∷ cs))
cut-by true byte c cs front back later e h ih =
    let same = eqb-true c byte e in
    let pair : ◌≡◌ {A = List ℕ × List ℕ} ([], cs) (front, back) = cc in
    let none : [] ≡ front = ap (λ p. p.0) pair in
    let rest : cs ≡ back = ap (λ p. p.1) pair in
    rw (← none, ← rest, same) (refl, refl, omega arith)
cut-by false byte c cs front back None e h ih = cc
cut-by false byte c cs front back (Some cut) e h ih =
    let pair : ◌≡◌ {A = List ℕ × List ℕ} (c ∷ cut.0, cut.1) (front, back) = cc in
    let first : c ∷ cut.0 ≡ front = ap (λ p. p.0) pair in
    let rest : cut.1 ≡ back = ap (λ p. p.1) pair in
    let facts = ih cut.0 (ap (λ r. Some (cut.0, r)) rest) in
    rw (← first) (ap (λ s. c ∷ s) facts.whole, rw facts.parts refl, omega (arith, facts.shorter))

pub parts-cut : (byte : ℕ) (text front back : List ℕ) → cut_at (byte ∷ []) text ≡ Some (front, back) → CutFacts byte text front back
parts-cut byte [] front back h = cc
parts-cut byte (c ∷ cs) front back h =
    let facts = cut-by (c == byte) byte c cs front back (cut_at (byte ∷ []) cs) refl h (λ f e. parts-cut byte cs f back e) in
    record { whole = facts.0; parts = facts.1; shorter = facts.2 }

-- ---- where a search finds the byte

-- none of the first bytes is the byte
abbrev pub NoByte : ℕ → List ℕ → ℕ → Type 0
NoByte byte text n = (i : ℕ) → i < n → (slice_index text i == byte) ≡ false

pub no-byte : (byte : ℕ) (text : List ℕ) (n : ℕ) → Nowhere (Passes (is_byte byte) text) 0 n → NoByte byte text n
no-byte byte text n h = λ i lt. false_from_ne_true (slice_index text i == byte) (h i (omega arith) lt)

pub cut-at : (byte : ℕ) (text : List ℕ) (k : ℕ) → k < length text → NoByte byte text k → (slice_index text k == byte) ≡ true
    → cut_at (byte ∷ []) text ≡ Some (take k text, drop (suc k) text)
cut-at byte [] k lt clear is = absurd (omega arith)
cut-at byte (c ∷ cs) zero lt clear is = rw is refl
cut-at byte (c ∷ cs) (suc k) lt clear is =
    rw (clear 0 (omega arith), cut-at byte cs k (omega arith) (λ i l. clear (suc i) (omega arith)) is) refl

-- the same, as slices of the text
pub cut-sliced : (byte : ℕ) (text : List ℕ) (k : ℕ) → k < length text → NoByte byte text k → (slice_index text k == byte) ≡ true
    → Some (take k text, take (length text - (k + 1)) (drop (k + 1) text)) ≡ cut_at (byte ∷ []) text
cut-sliced byte text k lt clear is =
    rw (take_all (length text - (k + 1)) (drop (k + 1) text) (omega (arith, length-drop (k + 1) text)), add-one)
    (sym (cut-at byte text k lt clear is))

pub cut-nowhere : (byte : ℕ) (text : List ℕ) → NoByte byte text (length text) → cut_at (byte ∷ []) text ≡ None
cut-nowhere byte [] clear = refl
cut-nowhere byte (c ∷ cs) clear =
    rw (clear 0 (omega arith), cut-nowhere byte cs (λ i l. clear (suc i) (omega arith))) refl

-- ---- a cut near the front

-- the byte that ends the front of a cut
at-front : (byte : ℕ) (front back : List ℕ) → slice_index (front ++ byte ∷ back) (length front) ≡ byte
at-front byte [] back = refl
at-front byte (c ∷ front) back = at-front byte front back

pub near-here : (byte limit : ℕ) (text : List ℕ) (k : ℕ) → k < limit → k < length text → NoByte byte text k → (slice_index text k == byte) ≡ true
    → Some (take k text, take (length text - (k + 1)) (drop (k + 1) text)) ≡ cut_near limit (byte ∷ []) text
near-here byte limit text k near lt clear is =
    let short : length (take k text) < limit = omega (arith, length-take-le k text (omega arith)) in
    rw (← cut-sliced byte text k lt clear is, lt-ltb (length (take k text)) limit short) refl

far-by : (byte limit : ℕ) (text : List ℕ) (cut : Option (List ℕ × List ℕ)) → cut_at (byte ∷ []) text ≡ cut → NoByte byte text (min (length text) limit)
    → option_and_then (λ (c : List ℕ × List ℕ). if nat_lt (length c.0) limit then Some c else None) cut ≡ None
far-by byte limit text None e clear = refl
far-by byte limit text (Some cut) e clear = elim (cases_lt (length cut.0) limit) [
  | inl near ↦
      let whole = (parts-cut byte text cut.0 cut.1 e).whole in
      let long : length text ≡ length cut.0 + length (byte ∷ cut.1) = ap length whole ∙ length-append cut.0 (byte ∷ cut.1) in
      let none = rw (whole, at-front byte cut.0 cut.1, eq-eqb byte byte refl) at (clear (length cut.0) (omega (arith, long, near))) in
      cc
  | inr far ↦ rw (le-ltb (length cut.0) limit far) refl
]

pub near-none : (byte limit : ℕ) (text : List ℕ) (n : ℕ) → min (length text) limit ≤ n → NoByte byte text n → None ≡ cut_near limit (byte ∷ []) text
near-none byte limit text n all clear =
    sym (far-by byte limit text (cut_at (byte ∷ []) text) refl (λ i lt. clear i (omega (arith, lt, all))))

all-by : (byte : ℕ) (text : List ℕ) (cut : Option (List ℕ × List ℕ)) → cut_at (byte ∷ []) text ≡ cut
    → option_and_then (λ (c : List ℕ × List ℕ). if nat_lt (length c.0) (length text) then Some c else None) cut ≡ cut
all-by byte text None e = refl
all-by byte text (Some cut) e =
    let whole = (parts-cut byte text cut.0 cut.1 e).whole in
    let long : length text ≡ length cut.0 + length (byte ∷ cut.1) = ap length whole ∙ length-append cut.0 (byte ∷ cut.1) in
    rw (lt-ltb (length cut.0) (length text) (omega (arith, long))) refl

-- each cut is near enough where the limit is the text's length
pub near-all : (byte : ℕ) (text : List ℕ) → cut_near (length text) (byte ∷ []) text ≡ cut_at (byte ∷ []) text
near-all byte text = all-by byte text (cut_at (byte ∷ []) text) refl
