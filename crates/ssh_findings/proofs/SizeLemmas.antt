-- The size of an RSA key is the least count of binary digits that its modulus fits in.
use Rattle.ssh_findings.proofs.Imports.{◌≡◌, ℕ, zero, suc, ◌+◌, ◌^◌, ◌<◌, ◌≤◌, Bool, true, false, Option, Some, None, refl, sym, ap, arith, inl, inr, lit<, ltb-true, ltb-false, eq-or-lt_of_le, pow-suc, PublicKey, rsa, p256, p384, p521, ed25519, sk_p256, sk_ed25519, IsBitCount, IsRsaSize, bit_count, rsa_size}
use Rattle.std.proofs.Common.{nat_lt}
use Rattle.ssh_findings.specs.Facts.{count_from}

below-power : (n : ℕ) → n < 2 ^ n
below-power zero = lit< tt
below-power (suc n) = omega (arith, below-power n, pow-suc 2 n)

-- where the number does not fit in so many digits, the least count is larger
above : (n bits b : ℕ) → bits ≤ b → 2 ^ bits ≤ n → n < 2 ^ b → bits + 1 ≤ b
above n bits b low few fits = elim (eq-or-lt_of_le low) [ inl same ↦ absurd (omega (arith, rw same at few)) | inr less ↦ omega (arith, less) ]

count-is : (tries bits n b : ℕ) → IsBitCount n b → bits ≤ b → b ≤ bits + tries → count_from tries bits n ≡ b
unfolding count_from
count-is zero bits n b is low high = omega arith
count-is (suc tries) bits n b is low high = go (nat_lt n (2 ^ bits)) refl (λ next. count-is tries (bits + 1) n b is next (omega arith))
  where
    go : (t : Bool) → nat_lt n (2 ^ bits) ≡ t → (bits + 1 ≤ b → count_from tries (bits + 1) n ≡ b) → elim t [ true ↦ bits | false ↦ count_from tries (bits + 1) n ] ≡ b
    go true e rest = let least : b ≤ bits = is.least bits (ltb-true n (2 ^ bits) e) in omega arith
    go false e rest = rest (above n bits b low (ltb-false n (2 ^ bits) e) is.fits)

pub size_is : (key : PublicKey) (size : Option ℕ) → IsRsaSize key size → size ≡ rsa_size key
size_is (rsa e n) (Some bits) is = ap (λ b. Some b) (sym (count-is n 0 n bits is (omega arith) (omega (arith, is.least n (below-power n)))))
size_is (rsa e n) None is = absurd is
size_is (p256 point) size is = is
size_is (p384 point) size is = is
size_is (p521 point) size is = is
size_is (ed25519 public) size is = is
size_is (sk_p256 point application) size is = is
size_is (sk_ed25519 public application) size is = is

-- ---- and the definition gives it

count-fits : (tries bits n : ℕ) → n < 2 ^ (bits + tries) → n < 2 ^ count_from tries bits n
unfolding count_from
count-fits zero bits n h = let e : bits + zero ≡ bits = omega arith in rw e at h
count-fits (suc tries) bits n h =
    let e : bits + suc tries ≡ bits + 1 + tries = omega arith in
    go (nat_lt n (2 ^ bits)) refl (count-fits tries (bits + 1) n (rw e at h))
  where
    go : (t : Bool) → nat_lt n (2 ^ bits) ≡ t → n < 2 ^ count_from tries (bits + 1) n
        → n < 2 ^ (elim t [ true ↦ bits | false ↦ count_from tries (bits + 1) n ])
    go true e rest = ltb-true n (2 ^ bits) e
    go false e rest = rest

count-least : (tries bits n k : ℕ) → bits ≤ k → n < 2 ^ k → count_from tries bits n ≤ k
unfolding count_from
count-least zero bits n k low h = low
count-least (suc tries) bits n k low h = go (nat_lt n (2 ^ bits)) refl (λ next. count-least tries (bits + 1) n k next h)
  where
    go : (t : Bool) → nat_lt n (2 ^ bits) ≡ t → (bits + 1 ≤ k → count_from tries (bits + 1) n ≤ k)
        → elim t [ true ↦ bits | false ↦ count_from tries (bits + 1) n ] ≤ k
    go true e rest = low
    go false e rest = rest (above n bits k low (ltb-false n (2 ^ bits) e) h)

counted : (n : ℕ) → IsBitCount n (bit_count n)
counted n =
    let e : 0 + n ≡ n = omega arith in
    record { fits = count-fits n 0 n (rw e (below-power n)); least = λ k h. count-least n 0 n k (omega arith) h }

pub sized : (key : PublicKey) → IsRsaSize key (rsa_size key)
sized (rsa e n) = counted n
sized (p256 point) = refl
sized (p384 point) = refl
sized (p521 point) = refl
sized (ed25519 public) = refl
sized (sk_p256 point application) = refl
sized (sk_ed25519 public application) = refl
