-- How many steps a matching takes.
use Rattle.ssh_patterns.proofs.Imports.{◌==◌, map, ◌≡◌, ◌||◌, Bool, true, refl, sym, ap, ◌∙◌, ℕ, ◌+◌, ◌*◌, ◌<◌, ◌≤◌, List, [], ◌∷◌, length, Option, Some, None, IfSome, arith, mul-le, eqb-true, ne_eqb, is_match, is_empty, star, after_star, after_byte}
use Rattle.ssh_patterns.proofs.GreedyLaw.{Agrees, elsewhere, agrees-start, agrees-star, agrees-byte, star-front, byte-front, stops, nowhere}

-- how many bytes more the last star can take, or the first one that comes
abbrev pub retries : Option (List ℕ × List ℕ) → List ℕ → ℕ
retries None text = length text
retries (Some back) text = length back.1

-- The most steps that are left: what is left of the pattern, and the whole pattern once for each byte more.
abbrev pub steps_left : ℕ → Option (List ℕ × List ℕ) → List ℕ → List ℕ → ℕ
steps_left p back pattern text = length pattern + (p + 1) * retries back text

-- the steps so far and the steps that are left, for a pattern of length p and a text of length t
pub record Counts (p t steps : ℕ) (back : Option (List ℕ × List ℕ)) (pattern text : List ℕ) : Type 0 where
  pub pattern_most : length pattern ≤ p
  pub back_most : IfSome back (λ point. (length point.0 ≤ p) × (length text ≤ length point.1))
  pub most : steps + steps_left p back pattern text < (p + 1) * (t + 1)
  pub least : t ≤ steps + length text

pub counts-start : (pattern text : List ℕ) → Counts (length pattern) (length text) 0 None pattern text
counts-start pattern text = record { pattern_most = omega arith; back_most = cc; most = omega arith; least = omega arith }

retries-least : (p : ℕ) (back : Option (List ℕ × List ℕ)) (text : List ℕ)
    → IfSome back (λ point. (length point.0 ≤ p) × (length text ≤ length point.1)) → length text ≤ retries back text
retries-least p None text h = omega arith
retries-least p (Some point) text h = h.1

pub counts-star : (p t steps c : ℕ) (back : Option (List ℕ × List ℕ)) (rest text : List ℕ)
    → Counts p t steps back (c ∷ rest) text → Counts p t (steps + 1) (Some (rest, text)) rest text
counts-star p t steps c back rest text h = let tried = retries-least p back text h.back_most in record {
  pattern_most = omega (arith, h.pattern_most);
  back_most = (omega (arith, h.pattern_most), omega arith);
  most = omega (arith, h.most, mul-le (p + 1) (length text) (p + 1) (retries back text) (omega arith) tried);
  least = omega (arith, h.least);
}

back-past : (p : ℕ) (back : Option (List ℕ × List ℕ)) (x : ℕ) (others : List ℕ)
    → IfSome back (λ point. (length point.0 ≤ p) × (length (x ∷ others) ≤ length point.1))
    → IfSome back (λ point. (length point.0 ≤ p) × (length others ≤ length point.1))
back-past p None x others h = h
back-past p (Some point) x others h = (h.0, omega (arith, h.1))

retries-past : (back : Option (List ℕ × List ℕ)) (x : ℕ) (others : List ℕ) → retries back others ≤ retries back (x ∷ others)
retries-past None x others = omega arith
retries-past (Some point) x others = omega arith

pub counts-byte : (p t steps c x : ℕ) (back : Option (List ℕ × List ℕ)) (rest others : List ℕ)
    → Counts p t steps back (c ∷ rest) (x ∷ others) → Counts p t (steps + 1) back rest others
counts-byte p t steps c x back rest others h = record {
  pattern_most = omega (arith, h.pattern_most);
  back_most = back-past p back x others h.back_most;
  most = omega (arith, h.most, mul-le (p + 1) (retries back others) (p + 1) (retries back (x ∷ others)) (omega arith) (retries-past back x others));
  least = omega (arith, h.least);
}

-- what holds before each step: the answer and the counts
pub record Going (whole : Bool) (p t steps : ℕ) (back : Option (List ℕ × List ℕ)) (pattern text : List ℕ) : Type 0 where
  pub agrees : Agrees whole back pattern text
  pub counts : Counts p t steps back pattern text

pub going-start : (pattern text : List ℕ) → Going (is_match pattern text) (length pattern) (length text) 0 None pattern text
going-start pattern text = record { agrees = agrees-start pattern text; counts = counts-start pattern text }

going-same : (whole : Bool) (p t steps : ℕ) (back : Option (List ℕ × List ℕ)) (pattern text wanted left : List ℕ)
    → pattern ≡ wanted → text ≡ left → Going whole p t steps back pattern text → Going whole p t steps back wanted left
going-same whole p t steps back pattern text wanted left e f h = rw (e, f) at h

pub going-star : (whole : Bool) (p t steps : ℕ) (back : Option (List ℕ × List ℕ)) (pattern text rest : List ℕ)
    → Going whole p t steps back pattern text → after_star pattern ≡ Some rest → Going whole p t (steps + 1) (Some (rest, text)) rest text
going-star whole p t steps back pattern text rest h is =
    let at = going-same whole p t steps back pattern text (star ∷ rest) text (star-front pattern rest is).whole refl h in
    record { agrees = agrees-star whole back rest text at.agrees; counts = counts-star p t steps star back rest text at.counts }

pub going-byte : (whole : Bool) (p t steps : ℕ) (back : Option (List ℕ × List ℕ)) (pattern text rest others : List ℕ)
    → Going whole p t steps back pattern text → after_star pattern ≡ None → after_byte pattern text ≡ Some (rest, others)
    → Going whole p t (steps + 1) back rest others
going-byte whole p t steps back pattern text rest others h none is =
    let front = byte-front pattern text rest others none is in
    let at = going-same whole p t steps back pattern text (front.wanted ∷ rest) (front.first ∷ others) front.pattern_is front.text_is h in
    record {
      agrees = agrees-byte whole back front.wanted front.first rest others front.plain front.same at.agrees;
      counts = counts-byte p t steps front.wanted front.first back rest others at.counts;
    }

-- the slices of the loop, each byte as it is compared
empty-is : (f : ℕ → ℕ) (xs : List ℕ) → is_empty (map f xs) ≡ (length xs == 0)
empty-is f [] = refl
empty-is f (x ∷ xs) = sym (ne_eqb (length (x ∷ xs)) 0 (λ e. absurd (omega (arith, e))))

nil-from : (f : ℕ → ℕ) (xs : List ℕ) → (length xs == 0) ≡ true → map f xs ≡ []
nil-from f [] h = refl
nil-from f (x ∷ xs) h = absurd (omega (arith, eqb-true (length (x ∷ xs)) 0 h))

-- at the end of the text, what is left of the pattern decides
end-by : (whole : Bool) (p t steps : ℕ) (back : Option (List ℕ × List ℕ)) (pattern : List ℕ) → Going whole p t steps back pattern []
    → after_star pattern ≡ None → is_empty pattern ≡ whole
end-by whole p t steps back [] h none = h.agrees.answer
end-by whole p t steps back (c ∷ pattern) h none =
    let here = stops c pattern none in
    sym (ap (λ b. b || elsewhere back) here ∙ nowhere back (c ∷ pattern) here h.agrees.keeps) ∙ h.agrees.answer

pub text-end : (f : ℕ → ℕ) (whole : Bool) (p t steps : ℕ) (back : Option (List ℕ × List ℕ)) (pattern text : List ℕ)
    → Going whole p t steps back (map f pattern) (map f text) → after_star (map f pattern) ≡ None → (length text == 0) ≡ true
    → (length pattern == 0) ≡ whole
text-end f whole p t steps back pattern text h none e =
    sym (empty-is f pattern) ∙ end-by whole p t steps back (map f pattern)
    (going-same whole p t steps back (map f pattern) (map f text) (map f pattern) [] refl (nil-from f text e) h) none
