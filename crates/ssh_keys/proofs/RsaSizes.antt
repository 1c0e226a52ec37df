-- Whether an RSA key has so many binary digits.
use Rattle.ssh_keys.proofs.Imports.{◌≡◌, ◌≤◌, ◌<◌, ◌^◌, ℕ, zero, suc, true, false, not, Some, None, refl, arith, inl, inr, nat_le, nat_lt, Decides, pow-le-pow_right, cases_lt, lt-ltb, le-ltb, le-leb, lt-leb, IsBitCount, IsRsaAtLeast, IsRsaSize, has_fewer_digits, is_rsa_below, PublicKey, ed25519, p256, p384, p521, rsa, sk_ed25519, sk_p256}

-- what is not below 2^k fits in no k digits
no_fewer : (n k size : ℕ) → 2 ^ k ≤ n → n < 2 ^ size → suc k ≤ size
no_fewer n k size high fits = elim (cases_lt k size) [
  | inl lt ↦ omega arith
  | inr ge ↦ absurd (let low : 2 ^ size ≤ 2 ^ k = pow-le-pow_right (omega arith) ge in omega arith)
]

-- ---- by the count of its digits

count-tells : (bits n size : ℕ) → IsBitCount n size → nat_le bits size ≡ not (has_fewer_digits bits n)
count-tells zero n size is = le-leb 0 size (omega arith)
count-tells (suc k) n size is = elim (cases_lt n (2 ^ k)) [
  | inl lt ↦
      let few : nat_lt n (2 ^ k) ≡ true = lt-ltb n (2 ^ k) lt in
      let small : nat_le (suc k) size ≡ false = lt-leb (suc k) size (omega (arith, is.least k lt)) in
      rw few small
  | inr ge ↦
      let enough : nat_lt n (2 ^ k) ≡ false = le-ltb n (2 ^ k) ge in
      let large : nat_le (suc k) size ≡ true = le-leb (suc k) size (no_fewer n k size ge is.fits) in
      rw enough large
]

pub size-tells : (key : PublicKey) (bits size : ℕ) → IsRsaSize key (Some size) → nat_le bits size ≡ not (is_rsa_below bits key)
size-tells (rsa e n) bits size is = count-tells bits n size is
size-tells (p256 q) bits size is = cc
size-tells (p384 q) bits size is = cc
size-tells (p521 q) bits size is = cc
size-tells (ed25519 p) bits size is = cc
size-tells (sk_p256 q a) bits size is = cc
size-tells (sk_ed25519 p a) bits size is = cc

pub no-size-tells : (key : PublicKey) (bits : ℕ) → IsRsaSize key None → true ≡ not (is_rsa_below bits key)
no-size-tells (rsa e n) bits is = absurd is
no-size-tells (p256 q) bits is = refl
no-size-tells (p384 q) bits is = refl
no-size-tells (p521 q) bits is = refl
no-size-tells (ed25519 p) bits is = refl
no-size-tells (sk_p256 q a) bits is = refl
no-size-tells (sk_ed25519 p a) bits is = refl

-- ---- in the terms of the definition

digits-decide : (bits n : ℕ) → Decides (not (has_fewer_digits bits n)) ((k : ℕ) → n < 2 ^ k → bits ≤ k)
digits-decide zero n = (λ h k fits. omega arith, λ h. refl)
digits-decide (suc k) n = elim (cases_lt n (2 ^ k)) [
  | inl lt ↦
      let few : nat_lt n (2 ^ k) ≡ true = lt-ltb n (2 ^ k) lt in
      (λ h. let bad : false ≡ true = rw few at h in cc, λ h. absurd (let below : suc k ≤ k = h k lt in omega arith))
  | inr ge ↦
      let enough : nat_lt n (2 ^ k) ≡ false = le-ltb n (2 ^ k) ge in
      (λ h j fits. no_fewer n k j ge fits, λ h. rw enough refl)
]

pub at_least-decides : (key : PublicKey) (bits : ℕ) → Decides (not (is_rsa_below bits key)) (IsRsaAtLeast bits key)
at_least-decides (rsa e n) bits = digits-decide bits n
at_least-decides (p256 q) bits = (λ h. tt, λ h. refl)
at_least-decides (p384 q) bits = (λ h. tt, λ h. refl)
at_least-decides (p521 q) bits = (λ h. tt, λ h. refl)
at_least-decides (ed25519 p) bits = (λ h. tt, λ h. refl)
at_least-decides (sk_p256 q a) bits = (λ h. tt, λ h. refl)
at_least-decides (sk_ed25519 p a) bits = (λ h. tt, λ h. refl)
