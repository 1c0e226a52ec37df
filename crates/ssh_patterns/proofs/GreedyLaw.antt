-- Why the last star alone need ever take more: where a later point of an earlier star matches, the last star matches too.
use Rattle.ssh_patterns.proofs.Imports.{◌≡◌, ℕ, zero, suc, Bool, true, false, ◌||◌, ◌==◌, if◌then◌else◌, inl, inr, List, [], ◌∷◌, drop, Option, Some, None, IfSome, refl, sym, ap, ◌∙◌, or_cases, and_parts, or-false, drop-nil, is_match, some_rest, after_star, after_byte, star, question}
use Rattle.std.proofs.Common.{eqb-true}
use Rattle.ssh_patterns.proofs.MatchLemmas.{or_right}

-- whether the pattern matches some bytes further on, one at least
abbrev pub later : List ℕ → List ℕ → Bool
later pattern [] = false
later pattern (x ∷ xs) = some_rest (is_match pattern) xs

-- whether the last star matches with more bytes than it has taken
abbrev pub elsewhere : Option (List ℕ × List ℕ) → Bool
elsewhere None = false
elsewhere (Some back) = later back.0 back.1

-- What matches some bytes after the point to go back to also matches as many bytes after the current place in the text.
abbrev pub Keeps : List ℕ → List ℕ → List ℕ → List ℕ → Type 0
Keeps after from pattern text = (n : ℕ) → is_match after (drop n from) ≡ true → is_match pattern (drop n text) ≡ true

-- a rest that passes, by the number of bytes in front of it
pub record RestAt (test : List ℕ → Bool) (text : List ℕ) : Type 0 where
  pub at : ℕ
  pub passes : test (drop at text) ≡ true

rest_at : (test : List ℕ → Bool) (text : List ℕ) → some_rest test text ≡ true → RestAt test text
rest_at test [] h = record { at = 0; passes = h }
rest_at test (x ∷ xs) h =
    elim (or_cases (test (x ∷ xs)) (some_rest test xs) h) [
      | inl here ↦ record { at = 0; passes = here }
      | inr there ↦ let rest = rest_at test xs there in record { at = suc rest.at; passes = rest.passes }
    ]

later_at : (pattern text : List ℕ) → later pattern text ≡ true → RestAt (is_match pattern) text
later_at pattern [] h = cc
later_at pattern (x ∷ xs) h = let rest = rest_at (is_match pattern) xs h in record { at = suc rest.at; passes = rest.passes }

-- a rest of a rest is a rest
pub some_rest-drop : (test : List ℕ → Bool) (n : ℕ) (text : List ℕ) → some_rest test (drop n text) ≡ true → some_rest test text ≡ true
some_rest-drop test zero text h = h
some_rest-drop test (suc n) [] h = h
some_rest-drop test (suc n) (x ∷ xs) h = or_right (test (x ∷ xs)) (some_rest test xs) (some_rest-drop test n xs h)

-- The law: at a star, what an earlier star could still match by more bytes, this one can match. So the earlier one is forgotten.
pub star-forgets : (after from rest text : List ℕ) → Keeps after from (star ∷ rest) text → later after from ≡ true
    → some_rest (is_match rest) text ≡ true
star-forgets after from rest text keeps h =
    let found = later_at after from h in some_rest-drop (is_match rest) found.at text (keeps found.at found.passes)

-- after a new star, nothing is passed yet
pub keeps-star : (rest text : List ℕ) → Keeps rest text rest text
keeps-star rest text n h = h

byte-after : (c x : ℕ) (rest others : List ℕ) (n : ℕ) → (c == star) ≡ false
    → is_match (c ∷ rest) (drop n (x ∷ others)) ≡ true → is_match rest (drop n others) ≡ true
byte-after c x rest others zero plain h =
    (and_parts ((c == question) || (c == x)) (is_match rest others) (rw plain at h)).1
byte-after c x rest [] (suc n) plain h = let none : false ≡ true = rw (plain, drop-nil n) at h in cc
byte-after c x rest (y ∷ others) (suc n) plain h = byte-after c y rest others n plain h

-- past a byte that is not a star
pub keeps-byte : (after from : List ℕ) (c x : ℕ) (rest others : List ℕ) → (c == star) ≡ false
    → Keeps after from (c ∷ rest) (x ∷ others) → Keeps after from rest others
keeps-byte after from c x rest others plain keeps n h = byte-after c x rest others n plain (keeps n h)

-- what is left agrees with the whole: here, or where the last star takes more
pub record Agrees (whole : Bool) (back : Option (List ℕ × List ℕ)) (pattern text : List ℕ) : Type 0 where
  pub answer : (is_match pattern text || elsewhere back) ≡ whole
  pub keeps : IfSome back (λ point. Keeps point.0 point.1 pattern text)

pub agrees-start : (pattern text : List ℕ) → Agrees (is_match pattern text) None pattern text
agrees-start pattern text = record { answer = or-false (is_match pattern text); keeps = cc }

here-or-later : (rest text : List ℕ) → (is_match rest text || later rest text) ≡ some_rest (is_match rest) text
here-or-later rest [] = or-false (is_match rest [])
here-or-later rest (x ∷ xs) = refl

or-covers : (a b : Bool) → (b ≡ true → a ≡ true) → (a || b) ≡ a
or-covers true b h = refl
or-covers false true h = sym (h refl)
or-covers false false h = refl

elsewhere-covered : (back : Option (List ℕ × List ℕ)) (rest text : List ℕ)
    → IfSome back (λ point. Keeps point.0 point.1 (star ∷ rest) text) → elsewhere back ≡ true → some_rest (is_match rest) text ≡ true
elsewhere-covered None rest text keeps h = cc
elsewhere-covered (Some point) rest text keeps h = star-forgets point.0 point.1 rest text keeps h

pub agrees-star : (whole : Bool) (back : Option (List ℕ × List ℕ)) (rest text : List ℕ)
    → Agrees whole back (star ∷ rest) text → Agrees whole (Some (rest, text)) rest text
agrees-star whole back rest text a = record {
  answer = here-or-later rest text
      ∙ sym (or-covers (some_rest (is_match rest) text) (elsewhere back) (elsewhere-covered back rest text a.keeps))
      ∙ a.answer;
  keeps = keeps-star rest text;
}

keeps-past : (back : Option (List ℕ × List ℕ)) (c x : ℕ) (rest others : List ℕ) → (c == star) ≡ false
    → IfSome back (λ point. Keeps point.0 point.1 (c ∷ rest) (x ∷ others)) → IfSome back (λ point. Keeps point.0 point.1 rest others)
keeps-past None c x rest others plain keeps = keeps
keeps-past (Some point) c x rest others plain keeps = keeps-byte point.0 point.1 c x rest others plain keeps

byte-goes : (c x : ℕ) (rest others : List ℕ) → (c == star) ≡ false → ((c == question) || (c == x)) ≡ true
    → is_match (c ∷ rest) (x ∷ others) ≡ is_match rest others
byte-goes c x rest others plain same = rw (plain, same) refl

pub agrees-byte : (whole : Bool) (back : Option (List ℕ × List ℕ)) (c x : ℕ) (rest others : List ℕ)
    → (c == star) ≡ false → ((c == question) || (c == x)) ≡ true
    → Agrees whole back (c ∷ rest) (x ∷ others) → Agrees whole back rest others
agrees-byte whole back c x rest others plain same a = record {
  answer = ap (λ b. b || elsewhere back) (sym (byte-goes c x rest others plain same)) ∙ a.answer;
  keeps = keeps-past back c x rest others plain a.keeps;
}

-- a star at the front of a pattern
pub record StarFront (pattern rest : List ℕ) : Type 0 where
  pub whole : pattern ≡ star ∷ rest

star-by : (b : Bool) (c : ℕ) (pattern rest : List ℕ) → (c == star) ≡ b → (if b then Some pattern else None) ≡ Some rest
    → StarFront (c ∷ pattern) rest
star-by true c pattern rest e h = let same = eqb-true c star e in record { whole = cc }
star-by false c pattern rest e h = cc

pub star-front : (pattern rest : List ℕ) → after_star pattern ≡ Some rest → StarFront pattern rest
star-front [] rest h = cc
star-front (c ∷ pattern) rest h = star-by (c == star) c pattern rest refl h

-- a byte at the front of a pattern, no star, and one of a text that it matches
pub record ByteFront (pattern text rest others : List ℕ) : Type 0 where
  pub wanted : ℕ
  pub first : ℕ
  pub pattern_is : pattern ≡ wanted ∷ rest
  pub text_is : text ≡ first ∷ others
  pub plain : (wanted == star) ≡ false
  pub same : ((wanted == question) || (wanted == first)) ≡ true

no_star-by : (b : Bool) (pattern : List ℕ) → (if b then Some pattern else None) ≡ None → b ≡ false
no_star-by true pattern h = cc
no_star-by false pattern h = refl

byte-by : (b : Bool) (c x : ℕ) (pattern text rest others : List ℕ) → ((c == question) || (c == x)) ≡ b → (c == star) ≡ false
    → (if◌then◌else◌ {A = Option (List ℕ × List ℕ)} b (Some (pattern, text)) None) ≡ Some (rest, others) → ByteFront (c ∷ pattern) (x ∷ text) rest others
byte-by true c x pattern text rest others e plain h =
    let pair : ◌≡◌ {A = List ℕ × List ℕ} (pattern, text) (rest, others) = cc in
    let first : pattern ≡ rest = ap (λ p. p.0) pair in
    let second : text ≡ others = ap (λ p. p.1) pair in
    record { wanted = c; first = x; pattern_is = ap (λ s. c ∷ s) first; text_is = ap (λ s. x ∷ s) second; plain = plain; same = e }
byte-by false c x pattern text rest others e plain h = cc

pub byte-front : (pattern text rest others : List ℕ) → after_star pattern ≡ None → after_byte pattern text ≡ Some (rest, others)
    → ByteFront pattern text rest others
byte-front [] text rest others none h = cc
byte-front (c ∷ pattern) [] rest others none h = cc
byte-front (c ∷ pattern) (x ∷ text) rest others none h =
    byte-by ((c == question) || (c == x)) c x pattern text rest others refl (no_star-by (c == star) pattern none) h

-- a byte that is left, and no star, matches no end
pub stops : (c : ℕ) (pattern : List ℕ) → after_star (c ∷ pattern) ≡ None → is_match (c ∷ pattern) [] ≡ false
stops c pattern none = rw (no_star-by (c == star) pattern none) refl

nowhere-by : (b : Bool) → (b ≡ true → false ≡ true) → b ≡ false
nowhere-by true h = sym (h refl)
nowhere-by false h = refl

-- At the end of the text no further point helps: what is left of the pattern would have less text still.
pub nowhere : (back : Option (List ℕ × List ℕ)) (pattern : List ℕ) → is_match pattern [] ≡ false
    → IfSome back (λ point. Keeps point.0 point.1 pattern []) → elsewhere back ≡ false
nowhere None pattern none keeps = refl
nowhere (Some point) pattern none keeps = nowhere-by (later point.0 point.1) (λ h.
    let found = later_at point.0 point.1 h in
    let here : is_match pattern (drop found.at []) ≡ true = keeps found.at found.passes in
    sym none ∙ (rw (drop-nil found.at) at here))
