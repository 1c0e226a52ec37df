-- `is_match` tests `Matches`.
use Rattle.ssh_patterns.proofs.Imports.{◌≡◌, ℕ, Bool, true, false, ◌||◌, ◌==◌, if◌then◌else◌, inl, inr, List, [], ◌∷◌, ◌++◌, ◌↔◌, refl, sym, ap, map, MatchBool, IsTrue, or_cases, and_parts, and_from, eqb-true, eq-eqb, Matches, is_match, some_rest, first_and_rest, star, question, folded, Exact}

pub or_right : (a b : Bool) → b ≡ true → (a || b) ≡ true
or_right true b h = refl
or_right false b h = h

pub or_left : (a b : Bool) → a ≡ true → (a || b) ≡ true
or_left true b h = refl
or_left false b h = cc

-- what passes after some front is found
some_rest-after : (test : List ℕ → Bool) (front rest : List ℕ) → test rest ≡ true → some_rest test (front ++ rest) ≡ true
some_rest-after test [] [] h = h
some_rest-after test [] (x ∷ xs) h = or_left (test (x ∷ xs)) (some_rest test xs) h
some_rest-after test (c ∷ front) rest h =
    or_right (test (c ∷ front ++ rest)) (some_rest test (front ++ rest)) (some_rest-after test front rest h)

-- a text whose rest passes the test, with its front
pub record Cut (test : List ℕ → Bool) (text : List ℕ) : Type 0 where
  pub front : List ℕ
  pub rest : List ℕ
  pub whole : text ≡ front ++ rest
  pub passes : test rest ≡ true

some_rest-cut : (test : List ℕ → Bool) (text : List ℕ) → some_rest test text ≡ true → Cut test text
some_rest-cut test [] h = record { front = []; rest = []; whole = refl; passes = h }
some_rest-cut test (x ∷ xs) h =
    elim (or_cases (test (x ∷ xs)) (some_rest test xs) h) [
      | inl here ↦ record { front = []; rest = x ∷ xs; whole = refl; passes = here }
      | inr later ↦ let cut = some_rest-cut test xs later in
          record { front = x ∷ cut.front; rest = cut.rest; whole = ap (λ s. x ∷ s) cut.whole; passes = cut.passes }
    ]

-- the two readings of a byte of the pattern
abbrev Test : Bool → Bool → ℕ → List ℕ → List ℕ → Bool
Test is_star is_question c pattern text =
    if is_star then some_rest (is_match pattern) text
    else first_and_rest (λ x. is_question || (c == x)) (is_match pattern) text

abbrev Fact : Bool → Bool → ℕ → List ℕ → List ℕ → Type 0
Fact is_star is_question c pattern text =
    MatchBool is_star
    ((front rest : List ℕ) × (text ≡ front ++ rest) × Matches pattern rest)
    (MatchBool is_question
    ((first : ℕ) × (rest : List ℕ) × (text ≡ first ∷ rest) × Matches pattern rest)
    ((rest : List ℕ) × (text ≡ c ∷ rest) × Matches pattern rest))

fact-from_test : (is_star is_question : Bool) (c : ℕ) (pattern text : List ℕ)
    → ((t : List ℕ) → is_match pattern t ≡ true → Matches pattern t)
    → Test is_star is_question c pattern text ≡ true → Fact is_star is_question c pattern text
fact-from_test true q c pattern text ih h =
    let cut = some_rest-cut (is_match pattern) text h in (cut.front, cut.rest, cut.whole, ih cut.rest cut.passes)
fact-from_test false true c pattern [] ih h = cc
fact-from_test false true c pattern (x ∷ xs) ih h = (x, xs, refl, ih xs h)
fact-from_test false false c pattern [] ih h = cc
fact-from_test false false c pattern (x ∷ xs) ih h =
    let parts = and_parts (c == x) (is_match pattern xs) h in
    (xs, ap (λ y. y ∷ xs) (sym (eqb-true c x parts.0)), ih xs parts.1)

test-from_fact : (is_star is_question : Bool) (c : ℕ) (pattern text : List ℕ)
    → ((t : List ℕ) → Matches pattern t → is_match pattern t ≡ true)
    → Fact is_star is_question c pattern text → Test is_star is_question c pattern text ≡ true
test-from_fact true q c pattern text ih (front, rest, whole, m) =
    rw whole (some_rest-after (is_match pattern) front rest (ih rest m))
test-from_fact false true c pattern text ih (first, rest, whole, m) = rw whole (ih rest m)
test-from_fact false false c pattern text ih (rest, whole, m) =
    rw whole (and_from (c == c) (is_match pattern rest) (eq-eqb c c refl) (ih rest m))

pub matches-from_test : (pattern text : List ℕ) → is_match pattern text ≡ true → Matches pattern text
matches-from_test [] [] h = refl
matches-from_test [] (x ∷ xs) h = cc
matches-from_test (c ∷ pattern) text h =
    fact-from_test (c == star) (c == question) c pattern text (matches-from_test pattern) h

pub test-from_matches : (pattern text : List ℕ) → Matches pattern text → is_match pattern text ≡ true
test-from_matches [] text h = rw h refl
test-from_matches (c ∷ pattern) text h =
    test-from_fact (c == star) (c == question) c pattern text (test-from_matches pattern) h

pub is_match-tests : (pattern text : List ℕ) → IsTrue (is_match pattern text) ↔ Matches pattern text
is_match-tests pattern text = (matches-from_test pattern text, test-from_matches pattern text)

-- a text compared exactly is itself
pub folded-Exact : (text : List ℕ) → map (folded Exact) text ≡ text
folded-Exact [] = refl
folded-Exact (c ∷ cs) = ap (λ s. c ∷ s) (folded-Exact cs)
