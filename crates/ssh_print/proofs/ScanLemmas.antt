-- The front of a list, as far as it was gathered.
use Rattle.ssh_print.proofs.Imports.{append-nil, ◌≡◌, ◌∙◌, ℕ, zero, suc, ◌≤◌, ◌++◌, List, [], ◌∷◌, take, length, refl, sym, ap, arith}

-- a list of 101 items is the front of whatever it begins
pub front_is : {A : Type 0} (n : ℕ) (found rest : List A) → length found ≡ n → take n (found ++ rest) ≡ found
front_is zero [] rest is = refl
front_is zero (x ∷ found) rest is = cc
front_is (suc n) [] rest is = cc
front_is (suc n) (x ∷ found) rest is = ap (λ (l : List _). x ∷ l) (front_is n found rest (omega (arith, is)))

-- a list of at most 101 items is its own front
pub all_is : {A : Type 0} (n : ℕ) (found : List A) → length found ≤ n → take n found ≡ found
all_is zero [] fits = refl
all_is zero (x ∷ found) fits = absurd (omega (arith, fits))
all_is (suc n) [] fits = refl
all_is (suc n) (x ∷ found) fits = ap (λ (l : List _). x ∷ l) (all_is n found (omega (arith, fits)))

-- the converse
pub is_all : {A : Type 0} (n : ℕ) (found : List A) → length found ≤ n → found ≡ take n found
is_all n found fits = sym (all_is n found fits)

-- enough was gathered
pub enough : {A : Type 0} (n : ℕ) (found rest all : List A) → found ++ rest ≡ all → n ≤ length found → length found ≤ n → found ≡ take n all
enough n found rest all is least most = sym (ap (take n) (sym is) ∙ front_is n found rest (omega (arith, least, most)))

-- all was gathered
pub gathered : {A : Type 0} (n : ℕ) (found all : List A) → found ++ [] ≡ all → length found ≤ n → found ≡ take n all
gathered n found all is most = is_all n found most ∙ ap (take n) (sym (append-nil found) ∙ is)

-- a front that exists has its length
pub front_length : {A : Type 0} (n : ℕ) (l : List A) → n ≤ length l → n ≡ length (take n l)
front_length zero l fits = refl
front_length (suc n) [] fits = absurd (omega (arith, fits))
front_length (suc n) (x ∷ l) fits = ap suc (front_length n l (omega (arith, fits)))
