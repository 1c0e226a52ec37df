-- The keys of an offer are long enough exactly where none is too short.
use Rattle.ssh_rules.proofs.Imports.{◌≡◌, ℕ, Bool, true, false, not, refl, IsRsaAtLeast, is_rsa_below, PublicKey, at_least-decides, Offer, certified, plain, AreLongEnough, has_short_key}
use Rattle.ssh_rules.proofs.Tests.{or_off, off_or}

on_not : (b : Bool) → b ≡ false → not b ≡ true
on_not false h = refl
on_not true h = cc

not_on : (b : Bool) → not b ≡ true → b ≡ false
not_on false h = refl
not_on true h = cc

long : (bits : ℕ) (key : PublicKey) → is_rsa_below bits key ≡ false → IsRsaAtLeast bits key
long bits key h = (at_least-decides key bits).0 (on_not _ h)

not-short : (bits : ℕ) (key : PublicKey) → IsRsaAtLeast bits key → is_rsa_below bits key ≡ false
not-short bits key h = not_on _ ((at_least-decides key bits).1 h)

pub all_long : (bits : ℕ) (o : Offer) → has_short_key bits o ≡ false → AreLongEnough bits o
all_long bits (plain key) h = long bits key h
all_long bits (certified c) h =
    let both = or_off (is_rsa_below bits c.key) (is_rsa_below bits c.signer) h in
    (long bits c.key both.0, long bits c.signer both.1)

pub none_short : (bits : ℕ) (o : Offer) → AreLongEnough bits o → has_short_key bits o ≡ false
none_short bits (plain key) h = not-short bits key h
none_short bits (certified c) h = off_or (is_rsa_below bits c.key) (is_rsa_below bits c.signer) (not-short bits c.key h.0) (not-short bits c.signer h.1)
