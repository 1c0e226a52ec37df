-- How many bits RSA keys must have (this project's rule).
use Rattle.std.specs.Prelude.{ℕ, Bool, ◌||◌}
use Rattle.ssh_keys.specs.Fingerprint.{IsRsaAtLeast, is_rsa_below}
use Rattle.ssh_offers.specs.Offer.{Offer, certified, plain}

-- The offered key has this many bits if it is RSA's, and so has a certificate's signer.
abbrev pub AreLongEnough : ℕ → Offer → Type 0
AreLongEnough bits (plain key) = IsRsaAtLeast bits key
AreLongEnough bits (certified c) = IsRsaAtLeast bits c.key × IsRsaAtLeast bits c.signer

-- one of them has fewer, as a test
abbrev pub has_short_key : ℕ → Offer → Bool
has_short_key bits (plain key) = is_rsa_below bits key
has_short_key bits (certified c) = is_rsa_below bits c.key || is_rsa_below bits c.signer
