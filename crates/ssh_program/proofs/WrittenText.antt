-- Steps of writing a text.
use Rattle.ssh_program.proofs.Imports.{◌≡◌, ◌∙◌, ◌++◌, ℕ, List, Option, Some, None, [], ap, sym, refl, take, arith, if◌then◌else◌, OnErr, flat_map, append-nil, append_assoc, length-append, flat_map-append, Account, NoneFailed, failing, takes_nothing, taking, where_reported, Breaks, TakesAll, TakesUpTo}
use Rattle.std.proofs.Common.{ne_eqb}
use Rattle.std.specs.Prelude.{Result, Ok, Err}

-- after a write that returned that it took n bytes
abbrev pub counted : ℕ → List ℕ → Option Account → Option Account
counted n rest p = where_reported (λ a. if takes_nothing n rest then failing a else taking a (take n rest)) p

-- if it returned a number of bytes, it took them
some_taken : (p q : Option Account) (n : ℕ) (rest : List ℕ) → (n ≡ 0 → ⊥) → q ≡ counted n rest p → q ≡ where_reported (λ a. taking a (take n rest)) p
some_taken None q n rest some h = h
some_taken (Some a) q n rest some h = rw (ne_eqb n 0 some) at h

taken_twice : (o : Option Account) (a b : List ℕ) → where_reported (λ x. taking x b) (where_reported (λ x. taking x a) o) ≡ where_reported (λ x. taking x (a ++ b)) o
taken_twice None a b = refl
taken_twice (Some x) a b = ap (λ l. Some (record x { taken = l })) (append_assoc x.taken a b)

-- more of the text is taken
pub more : (o p q : Option Account) (text rest left : List ℕ) (n : ℕ) → TakesUpTo o p text rest → rest ≡ take n rest ++ left → (n ≡ 0 → ⊥) → q ≡ counted n rest p → TakesUpTo o q text left
more o p q text rest left n w cut some h = record {
  front = w.front ++ take n rest;
  parts = w.parts ∙ (ap (λ r. w.front ++ r) cut ∙ sym (append_assoc w.front (take n rest) left));
  reported = some_taken p q n rest some h ∙ (ap (λ p. where_reported (λ a. taking a (take n rest)) p) w.reported ∙ taken_twice o w.front (take n rest));
}

-- after that no write has failed
pub unfailed : (p q : Option Account) (rest : List ℕ) (n : ℕ) → (n ≡ 0 → ⊥) → NoneFailed p → q ≡ counted n rest p → NoneFailed q
unfailed None q rest n some none h = rw h tt
unfailed (Some a) q rest n some none h = rw (some_taken (Some a) q n rest some h) none

-- ---- one text after another

failed_after : (o : Option Account) (a b : List ℕ)
    → where_reported (λ x. failing (taking x b)) (where_reported (λ x. taking x a) o) ≡ where_reported (λ x. failing (taking x (a ++ b))) o
failed_after None a b = refl
failed_after (Some x) a b = ap (λ l. Some (failing (record x { taken = l }))) (append_assoc x.taken a b)

-- after a text that was taken no write has failed
pub none_failed : (p q : Option Account) (text : List ℕ) → TakesAll p q text → NoneFailed p → NoneFailed q
none_failed None q text h none = rw h tt
none_failed (Some a) q text h none = rw h none

-- the front of the rest is taken too
pub taken_on : (o p q : Option Account) (text rest front left : List ℕ) → TakesUpTo o p text rest → rest ≡ front ++ left → TakesAll p q front → TakesUpTo o q text left
taken_on o p q text rest front left w cut h = record {
  front = w.front ++ front;
  parts = w.parts ∙ (ap (λ r. w.front ++ r) cut ∙ sym (append_assoc w.front front left));
  reported = h ∙ (ap (λ p. where_reported (λ a. taking a front) p) w.reported ∙ taken_twice o w.front front);
}

-- a write of the front of the rest fails
pub broken_on : (o p q : Option Account) (text rest front left : List ℕ) → TakesUpTo o p text rest → rest ≡ front ++ left → Breaks p q front → Breaks o q text
broken_on o p q text rest front left w cut b = record {
  front = w.front ++ b.front;
  rest = b.rest ++ left;
  parts =
      w.parts
      ∙ (ap (λ r. w.front ++ r) (cut ∙ (ap (λ l. l ++ left) b.parts ∙ append_assoc b.front b.rest left))
      ∙ sym (append_assoc w.front b.front (b.rest ++ left)));
  proper = omega (arith, b.proper, length-append b.rest left);
  reported = b.reported ∙ (ap (λ p. where_reported (λ a. failing (taking a b.front)) p) w.reported ∙ failed_after o w.front b.front);
}

pub nothing_taken : (o : Option Account) → o ≡ where_reported (λ a. taking a []) o
nothing_taken None = refl
nothing_taken (Some x) = ap (λ l. Some (record x { taken = l })) (sym (append-nil x.taken))

-- of a text nothing was taken yet
pub at_first : (o : Option Account) (text : List ℕ) → TakesUpTo o o text text
at_first o text = record { front = []; parts = refl; reported = nothing_taken o }

-- nothing is left of it
pub at_last : (o p : Option Account) (text : List ℕ) → TakesUpTo o p text [] → TakesAll o p text
at_last o p text w = w.reported ∙ ap (λ t. where_reported (λ a. taking a t) o) (sym (w.parts ∙ append-nil w.front))

-- two texts are taken
pub both_taken : (o p q : Option Account) (a b : List ℕ) → TakesAll o p a → TakesAll p q b → TakesAll o q (a ++ b)
both_taken o p q a b h k = k ∙ (ap (λ p. where_reported (λ x. taking x b) p) h ∙ taken_twice o a b)

-- a write of the first of two fails, or one of the second
pub first_broken : (o p : Option Account) (a b : List ℕ) → Breaks o p a → Breaks o p (a ++ b)
first_broken o p a b h = broken_on o o p (a ++ b) (a ++ b) a b (at_first o (a ++ b)) refl h

pub second_broken : (o p q : Option Account) (a b : List ℕ) → TakesAll o p a → Breaks p q b → Breaks o q (a ++ b)
second_broken o p q a b h k = broken_on o p q (a ++ b) b b [] (record { front = a; parts = refl; reported = h }) (sym (append-nil b)) k

-- what is made of a list is made of its two pieces
pub joined_map : {X A : Type 0} (f : X → List A) (xs front left : List X) → xs ≡ front ++ left → flat_map f xs ≡ flat_map f front ++ flat_map f left
joined_map f xs front left cut = ap (flat_map f) cut ∙ flat_map-append f front left

-- what holds, holds after a refusal
pub on_err : {A E : Type 0} (r : Result A E) (P : Type 0) → P → OnErr r P
on_err (Ok x) P p = tt
on_err (Err e) P p = p
