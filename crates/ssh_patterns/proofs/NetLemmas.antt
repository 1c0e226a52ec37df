-- The first bits of a number, and the last ones.
use Rattle.ssh_patterns.proofs.Imports.{◌≡◌, ℕ, ◌/◌, ◌%◌, ◌^◌, ◌<◌, ◌≤◌, ◌==◌, nat_lt, if◌then◌else◌, refl, sym, ap, inl, inr, arith, mod-eq_of_lt, div-eq_of_lt, pow_mono, lt-ltb, le-ltb, cases_lt}

-- a number of 128 bits has none before its last 128 bits or more
small : (n bits : ℕ) → n < 2 ^ 128 → 128 ≤ bits → n < 2 ^ bits
small n bits h many = let most : 2 ^ 128 ≤ 2 ^ bits = pow_mono many in omega arith

pub first_bits : (n bits : ℕ) → n < 2 ^ 128 → (if nat_lt bits 128 then n / 2 ^ bits else 0) ≡ n / 2 ^ bits
first_bits n bits h = elim (cases_lt bits 128) [
  | inl few ↦ rw (lt-ltb bits 128 few) refl
  | inr many ↦ rw (le-ltb bits 128 many) (sym (div-eq_of_lt (small n bits h many)))
]

pub all_bits : (n bits : ℕ) → n < 2 ^ 128 → 128 ≤ bits → (n == 0) ≡ (n % 2 ^ bits == 0)
all_bits n bits h many = ap (λ m. m == 0) (sym (mod-eq_of_lt (small n bits h many)))
