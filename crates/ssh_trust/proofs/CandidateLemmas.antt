-- The candidate as a function of the lines' verdicts is the candidate as a relation.
use Rattle.ssh_trust.proofs.Imports.{◌≡◌, ◌∙◌, ◌+◌, ◌-◌, ◌<◌, get_or, ℕ, zero, suc, List, [], ◌∷◌, ◌++◌, map, Option, Some, None, ap, subst, sym, refl, inl, inr, arith, slice_get, AllByRecursion, AreLines, lines_of, lines_of-are, lines_of-only, Mismatch, LineVerdict, Admits, Skips, verdict_by, StandsAt, IsFirstAdmitted, candidate_of, first_admitted}

abbrev pub AreBytes : List ℕ → Type 0
AreBytes text = AllByRecursion (λ c. c < 256) text

pub some-same : {X : Type 0} (a b : X) → Some a ≡ Some b → a ≡ b
some-same a b h = cc

-- ---- the first line that admits

record IsFirst (E : Type 0) (n : ℕ) (js : List (LineVerdict E)) (i : ℕ) (e : E) : Type 0 where
  place : ℕ
  number : i ≡ n + place
  stands : slice_get js place ≡ Some (Admits e)
  earlier : (j : ℕ) (f : E) → j < place → slice_get js j ≡ Some (Admits f) → ⊥

first-is : {E : Type 0} (n : ℕ) (js : List (LineVerdict E)) (i : ℕ) (e : E) → first_admitted n js ≡ Some (i, e) → IsFirst E n js i e
first-is n [] i e h = cc
first-is {E = E} n (Admits f ∷ js) i e h =
    let same : ◌≡◌ {A = ℕ × E} (n, f) (i, e) = some-same (n, f) (i, e) h in
    let number : n ≡ i = ap (λ (x : ℕ × E). x.0) same in
    let entry : f ≡ e = ap (λ (x : ℕ × E). x.1) same in
    record {
      place = zero;
      number = omega arith;
      stands = ap (λ x. Some (Admits x)) entry;
      earlier = λ j g below at. absurd (omega arith);
    }
first-is {E = E} n (Skips why ∷ js) i e h =
    let r = first-is (n + 1) js i e h in
    record {
      place = suc r.place;
      number = (let number = r.number in omega arith);
      stands = r.stands;
      earlier = λ j f below at. before r j f below at;
    }
  where
    before : (r : IsFirst E (n + 1) js i e) (j : ℕ) (f : E) → j < suc r.place → slice_get (Skips why ∷ js) j ≡ Some (Admits f) → ⊥
    before r zero f below at = let bad : Skips why ≡ Admits f = some-same _ _ at in cc
    before r (suc j) f below at = r.earlier j f (omega arith) at

first-none : {E : Type 0} (n : ℕ) (js : List (LineVerdict E)) → first_admitted n js ≡ None → (j : ℕ) (f : E) → slice_get js j ≡ Some (Admits f) → ⊥
first-none n [] h j f at = cc
first-none n (Admits e ∷ js) h j f at = cc
first-none n (Skips why ∷ js) h zero f at = let bad : Skips why ≡ Admits f = some-same _ _ at in cc
first-none n (Skips why ∷ js) h (suc j) f at = first-none (n + 1) js h j f at

-- ---- the lines of a file, and what is made of each

pub map-at : {X : Type 0} (f : List ℕ → X) (lines : List (List ℕ)) (k : ℕ) (line : List ℕ) → slice_get lines k ≡ Some line → slice_get (map f lines) k ≡ Some (f line)
map-at f [] k line h = cc
map-at f (l ∷ lines) zero line h = ap (λ (x : List ℕ). Some (f x)) (some-same l line h)
map-at f (l ∷ lines) (suc k) line h = map-at f lines k line h

pub map-from : {X : Type 0} (f : List ℕ → X) (lines : List (List ℕ)) (k : ℕ) (j : X) → slice_get (map f lines) k ≡ Some j
    → (line : List ℕ) × (slice_get lines k ≡ Some line) × (f line ≡ j)
map-from f [] k j h = cc
map-from f (l ∷ lines) zero j h = (l, refl, some-same (f l) j h)
map-from f (l ∷ lines) (suc k) j h = map-from f lines k j h

pub line-of : (file : List ℕ) (i : ℕ) (line : List ℕ) → StandsAt file i line → slice_get (lines_of file) (i - 1) ≡ Some line
line-of file i line at = subst (λ (ls : List (List ℕ)). slice_get ls (i - 1) ≡ Some line) (lines_of-only at.lines file at.are_lines) at.stands

bytes-front : (a b : List ℕ) → AreBytes (a ++ b) → AreBytes a
bytes-front [] b h = tt
bytes-front (c ∷ a) b h = (h.0, bytes-front a b h.1)

pub bytes-append : (a b : List ℕ) → AreBytes a → AreBytes b → AreBytes (a ++ b)
bytes-append [] b h k = k
bytes-append (c ∷ cs) b h k = (h.0, bytes-append cs b h.1 k)

bytes-back : (a b : List ℕ) → AreBytes (a ++ b) → AreBytes b
bytes-back [] b h = h
bytes-back (c ∷ a) b h = bytes-back a b h.1

pub line-bytes : (lines : List (List ℕ)) (file : List ℕ) → AreLines lines file → AreBytes file → (k : ℕ) (line : List ℕ) → slice_get lines k ≡ Some line → AreBytes line
line-bytes [] file h bytes k line at = cc
line-bytes (l ∷ lines) file (free, inl (rest, whole, more)) bytes zero line at =
    subst AreBytes (some-same l line at) (bytes-front l (10 ∷ rest) (subst AreBytes whole bytes))
line-bytes (l ∷ lines) file (free, inl (rest, whole, more)) bytes (suc k) line at =
    line-bytes lines rest more (bytes-back l (10 ∷ rest) (subst AreBytes whole bytes)).1 k line at
line-bytes (l ∷ lines) file (free, inr (last, whole, some)) bytes zero line at = subst AreBytes (some-same l line at) (subst AreBytes whole bytes)
line-bytes (l ∷ lines) file (free, inr (last, whole, some)) bytes (suc k) line at =
    let bad : slice_get [] k ≡ Some line = subst (λ (ls : List (List ℕ)). slice_get ls k ≡ Some line) last at in
    cc

-- the line of a place
pub at-place : (file : List ℕ) (i k : ℕ) (line : List ℕ) → i ≡ 1 + k → slice_get (lines_of file) k ≡ Some line → StandsAt file i line
at-place file i k line number stands =
    let back : i - 1 ≡ k = omega arith in
    record { lines = lines_of file; are_lines = lines_of-are file; from_one = omega arith; stands = rw back stands }

-- ---- a line that admits

pub admits-by : {E : Type 0} (o : Option Mismatch) (f e : E) → verdict_by o f ≡ Admits e → (o ≡ None) × (f ≡ e)
admits-by None f e h =
    let same : f ≡ e = cc in
    (refl, same)
admits-by (Some o) f e h = cc

-- what each line is to the offer, by the grammar: it admits exactly where it spells an entry that does
pub record Judges (E : Type 0) (Spells : E → List ℕ → Type 0) (IsAdmitting : E → Type 0) (verdict : List ℕ → LineVerdict E) : Type 0 where
  pub found : (line : List ℕ) (e : E) → AreBytes line → verdict line ≡ Admits e → Spells e line × IsAdmitting e
  pub only : (line : List ℕ) (e : E) → Spells e line → IsAdmitting e → verdict line ≡ Admits e

-- ---- the candidate

pub candidate-is : {E : Type 0} {Spells : E → List ℕ → Type 0} {IsAdmitting : E → Type 0} (verdict : List ℕ → LineVerdict E)
    (judges : Judges E Spells IsAdmitting verdict) (file : List ℕ) (i : ℕ) (e : E) → AreBytes file
    → candidate_of (map verdict (lines_of file)) ≡ Some (i, e) → IsFirstAdmitted E Spells IsAdmitting file i e
candidate-is verdict judges file i e bytes h =
    let first = first-is 1 (map verdict (lines_of file)) i e h in
    let from = map-from verdict (lines_of file) first.place (Admits e) first.stands in
    let is = judges.found from.0 e (line-bytes (lines_of file) file (lines_of-are file) bytes first.place from.0 from.1) from.2 in
    let number = first.number in
    record {
      line = from.0;
      stands = at-place file i first.place from.0 number from.1;
      spelled = is.0;
      admits = is.1;
      least = λ j other f below at spelled admits.
          let one = at.from_one in
          first.earlier (j - 1) f (omega arith)
          (map-at verdict (lines_of file) (j - 1) other (line-of file j other at) ∙ ap (λ x. Some x) (judges.only other f spelled admits));
    }

-- a candidate admits by its verdict, where it stands
pub stands-admits : {E : Type 0} {Spells : E → List ℕ → Type 0} {IsAdmitting : E → Type 0} (verdict : List ℕ → LineVerdict E)
    (judges : Judges E Spells IsAdmitting verdict) (file : List ℕ) (i : ℕ) (e : E) → IsFirstAdmitted E Spells IsAdmitting file i e
    → slice_get (map verdict (lines_of file)) (i - 1) ≡ Some (Admits e)
stands-admits verdict judges file i e c =
    map-at verdict (lines_of file) (i - 1) c.line (line-of file i c.line c.stands) ∙ ap (λ x. Some x) (judges.only c.line e c.spelled c.admits)

pub no-candidate : {E : Type 0} {Spells : E → List ℕ → Type 0} {IsAdmitting : E → Type 0} (verdict : List ℕ → LineVerdict E)
    (judges : Judges E Spells IsAdmitting verdict) (file : List ℕ) → candidate_of (map verdict (lines_of file)) ≡ None
    → (i : ℕ) (e : E) → IsFirstAdmitted E Spells IsAdmitting file i e → ⊥
no-candidate verdict judges file none i e c = first-none 1 (map verdict (lines_of file)) none (i - 1) e (stands-admits verdict judges file i e c)

-- there is one candidate at most
pub one-candidate : {E : Type 0} {Spells : E → List ℕ → Type 0} {IsAdmitting : E → Type 0} (verdict : List ℕ → LineVerdict E)
    (judges : Judges E Spells IsAdmitting verdict) (file : List ℕ) (i j : ℕ) (e f : E) → IsFirstAdmitted E Spells IsAdmitting file i e
    → IsFirstAdmitted E Spells IsAdmitting file j f → e ≡ f
one-candidate verdict judges file i j e f a b =
    let not_before : i < j → ⊥ = λ below. b.least i a.line e below a.stands a.spelled a.admits in
    let not_after : j < i → ⊥ = λ below. a.least j b.line f below b.stands b.spelled b.admits in
    let same : j ≡ i = omega (arith, not_before, not_after) in
    let at : slice_get (map verdict (lines_of file)) (i - 1) ≡ Some (Admits f) =
    subst (λ k. slice_get (map verdict (lines_of file)) (k - 1) ≡ Some (Admits f)) same (stands-admits verdict judges file j f b) in
    let inner : Admits e ≡ Admits f = some-same _ _ (sym (stands-admits verdict judges file i e a) ∙ at) in
    cc

-- ---- bytes of a slice

pub bytes_from : (text : List ℕ) → ((i : ℕ) → get_or text i 0 < 256) → AreBytes text
bytes_from [] h = tt
bytes_from (c ∷ cs) h = (h 0, bytes_from cs (λ i. h (suc i)))
