-- Flags of one byte and a counter of four are in their ranges.
use Rattle.ssh_keys.proofs.Imports.{◌≡◌, ℕ, ◌^◌, ◌<◌, true, refl, ◌&&◌, nat_lt, IsTrue, lt-ltb}

pub sk_fits : (flags counter : ℕ) → flags < 2 ^ 8 → counter < 2 ^ 32 → IsTrue (nat_lt flags (2 ^ 8) && nat_lt counter (2 ^ 32))
sk_fits flags counter low high =
    let f : nat_lt flags (2 ^ 8) ≡ true = lt-ltb flags (2 ^ 8) low in
    let c : nat_lt counter (2 ^ 32) ≡ true = lt-ltb counter (2 ^ 32) high in
    rw (f, c) refl
