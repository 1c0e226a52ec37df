-- The 16-bit groups of an IPv6 address, stored together as one number.
use Rattle.ssh_patterns.proofs.Imports.{◌≡◌, ℕ, zero, suc, ◌+◌, ◌*◌, ◌/◌, ◌%◌, ◌^◌, ◌<◌, ◌≤◌, nat_lt, if◌then◌else◌, List, [], ◌∷◌, ◌++◌, length, replicate, Some, None, refl, sym, ap, inl, inr, ◌∙◌, add-zero, add-suc, add-one, append_assoc, length-append, arith, pow-suc, mod-eq_of_lt, pow-le-pow_right, one-le-pow, pow-add, mul-add-lt, replicate_more, append-nil, lt-ltb, le-ltb, lt-leb, le-leb, cases_lt, number_to_base, groups_in, few}

pub length-groups_in : (k n : ℕ) → length (groups_in k n) ≡ k
length-groups_in zero n = refl
length-groups_in (suc k) n =
    simp length-append (omega (arith, length-groups_in k (n / 65536)))

pub number_to_base-append : (base high : ℕ) (front back : List ℕ)
    → number_to_base base high (front ++ back) ≡ number_to_base base (number_to_base base high front) back
number_to_base-append base high [] back = refl
number_to_base-append base high (d ∷ ds) back = number_to_base-append base (high * base + d) ds back

-- a number with one group more has that group last
shorter : (k n : ℕ) → n < 65536 ^ suc k → n / 65536 < 65536 ^ k
shorter k n h = let h' = rw (pow-suc 65536 k) at h in omega arith

pub number-groups_in : (k n : ℕ) → n < 65536 ^ k → number_to_base 65536 0 (groups_in k n) ≡ n
number-groups_in zero n h = omega arith
number-groups_in (suc k) n h =
    number_to_base-append 65536 0 (groups_in k (n / 65536)) (n % 65536 ∷ [])
    ∙ ap (λ m. m * 65536 + n % 65536) (number-groups_in k (n / 65536) (shorter k n h))
    ∙ omega arith

pub groups_in-zeros : (k : ℕ) → groups_in k 0 ≡ replicate k 0
groups_in-zeros zero = refl
groups_in-zeros (suc k) = ap (λ s. s ++ 0 ∷ []) (groups_in-zeros k) ∙ replicate_more k 0 ∙ ap (λ m. replicate m 0) (add-one k)

-- what is less than a power of the base is below the number that comes before it
pub joined-fits : (m n k j : ℕ) → m < 65536 ^ k → n < 65536 ^ j → m * 65536 ^ j + n < 65536 ^ (k + j)
joined-fits m n k j hm hn =
    rw (pow-add 65536 k j) (omega (arith, mul-add-lt m (65536 ^ j) n (65536 ^ k) hm hn))

first_groups : (m n p : ℕ) → (m * (p * 65536) + n) / 65536 ≡ m * p + n / 65536
first_groups m n p = omega arith

last_group : (m n p : ℕ) → (m * (p * 65536) + n) % 65536 ≡ n % 65536
last_group m n p = omega arith

pub groups_in-append : (k j m n : ℕ) → n < 65536 ^ j
    → groups_in (k + j) (m * 65536 ^ j + n) ≡ groups_in k m ++ groups_in j n
groups_in-append k zero m n h =
    let none : n ≡ 0 = omega arith in
    rw (add-zero, none) (ap (λ x. groups_in k x) (omega arith) ∙ sym (append-nil (groups_in k m)))
groups_in-append k (suc j) m n h =
    rw (
      add-suc k j,
      pow-suc 65536 j,
      first_groups m n (65536 ^ j),
      last_group m n (65536 ^ j),
      groups_in-append k j m (n / 65536) (shorter j n h),
    )
    (append_assoc (groups_in k m) (groups_in j (n / 65536)) (n % 65536 ∷ []))

-- the powers of both bases
power : (j : ℕ) → 2 ^ (16 * j) ≡ 65536 ^ j
power zero = refl
power (suc j) =
    let e : 16 * suc j ≡ 16 * j + 16 = omega arith in
    rw (e, pow-add 2 (16 * j) 16, pow-suc 65536 j) (ap (λ p. p * 65536) (power j))

no_more : (k j m : ℕ) → m < 65536 ^ k → k + j ≤ 8 → m * 65536 ^ j < 2 ^ 128
no_more k j m h room =
    let below = joined-fits m 0 k j h (omega (arith, one-le-pow j 65536 (omega arith))) in
    let most : 65536 ^ (k + j) ≤ 65536 ^ 8 = pow-le-pow_right (omega arith) room in
    omega arith

-- what the shift of at most eight groups gives
pub shifted : (k j m : ℕ) → m < 65536 ^ k → k + j ≤ 8
    → (if nat_lt (16 * j) 128 then (m * 2 ^ (16 * j)) % 2 ^ 128 else 0) ≡ m * 65536 ^ j
shifted k j m h room = elim (cases_lt j 8) [
  | inr all ↦
      let none : k ≡ 0 = omega arith in
      let nothing : m ≡ 0 = let h' : m < 65536 ^ 0 = rw none at h in omega arith in
      rw (le-ltb (16 * j) 128 (omega arith), nothing) (omega arith)
  | inl some ↦
      rw (lt-ltb (16 * j) 128 (omega arith), power j) (mod-eq_of_lt (no_more k j m h room))
]

-- the groups are a few
pub few-yes : (groups : List ℕ) → length groups ≤ 8 → few groups ≡ Some groups
few-yes groups h = rw (le-leb (length groups) 8 h) refl

pub few-no : (groups : List ℕ) → 8 < length groups → few groups ≡ None
few-no groups h = rw (lt-leb (length groups) 8 h) refl

-- the groups of two numbers, of which the first is shifted by those of the second
pub record Joined (k j m n high : ℕ) : Type 0 where
  pub fits : high + n < 65536 ^ (k + j)
  pub small : high + n < 2 ^ 128
  pub groups : few (groups_in k m ++ groups_in j n) ≡ Some (groups_in (k + j) (high + n))

pub joined : (k j m n high : ℕ) → m < 65536 ^ k → n < 65536 ^ j → k + j ≤ 8
    → high ≡ (if nat_lt (16 * j) 128 then (m * 2 ^ (16 * j)) % 2 ^ 128 else 0) → Joined k j m n high
joined k j m n high hm hn room e =
    let is : high ≡ m * 65536 ^ j = e ∙ shifted k j m hm room in
    let fits = joined-fits m n k j hm hn in
    let most : 65536 ^ (k + j) ≤ 65536 ^ 8 = pow-le-pow_right (omega arith) room in
    rw is (record {
      fits = fits;
      small = omega arith;
      groups = rw (groups_in-append k j m n hn)
          (few-yes (groups_in k m ++ groups_in j n)
          (simp (length-append, length-groups_in k m, length-groups_in j n) room));
    })

pub many : (k j m n : ℕ) → 8 < k + j → few (groups_in k m ++ groups_in j n) ≡ None
many k j m n h =
    few-no (groups_in k m ++ groups_in j n) (simp (length-append, length-groups_in k m, length-groups_in j n) h)
