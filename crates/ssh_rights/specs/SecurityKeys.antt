-- Logins by security keys: touch and user verification (PROTOCOL.u2f; sshd(8), no-touch-required and verify-required).
use Rattle.std.specs.Prelude.{◌≡◌, ◌⊎◌, ℕ, ◌==◌, bit_and, Bool, true, false, not, ◌&&◌, ◌||◌, List, Option, Some, None}
use Rattle.ssh_keys.specs.Signature.{Signature}
use Rattle.ssh_certs.specs.declared.options.CertificateOption.TheVariants as certificate_option
use Rattle.ssh_certs.specs.CertificateOptions.{has_formed, has_named}
use Rattle.ssh_certs.specs.OptionFacts.{HasExtension, InsistsOn}
use Rattle.ssh_options.specs.AuthOption.{AuthOption}
use Rattle.ssh_options.specs.declared.option.Flag.TheVariants.{NoTouchRequired, VerifyRequired}
use Rattle.ssh_options.specs.Settings.{has_flag}
use Rattle.ssh_offers.specs.Offer.{Offer, OfCertificate, plain, certified}

-- the flags of a security key's signature
abbrev pub user_present : ℕ
user_present = 1

abbrev pub user_verified : ℕ
user_verified = 4

-- a security key's signature with this flag
abbrev pub HasSkFlag : ℕ → Option (ℕ × ℕ) → Type 0
HasSkFlag flag None = ⊥
HasSkFlag flag (Some sk) = bit_and sk.0 flag ≡ flag

-- another key's signature, or a security key's with the flag that a user was present
abbrev pub IsPresent : Option (ℕ × ℕ) → Type 0
IsPresent None = Unit {0}
IsPresent (Some sk) = HasSkFlag user_present (Some sk)

-- The line waives the touch, and a certificate, where one is offered, has to waive it too.
abbrev pub WaivesTouch : List AuthOption → Offer → Type 0
WaivesTouch options offer = (has_flag NoTouchRequired options ≡ true) × OfCertificate (HasExtension certificate_option.NoTouchRequired) offer

-- a security key was touched, or the touch is waived
abbrev pub TouchSuffices : List AuthOption → Offer → Signature → Type 0
TouchSuffices options offer s = IsPresent s.sk ⊎ WaivesTouch options offer

-- the certificate that is offered requires that a security key verified the user
abbrev pub OfferAsks : Offer → Type 0
OfferAsks (plain key) = ⊥
OfferAsks (certified c) = InsistsOn certificate_option.VerifyRequired c

-- A security key verified the user, where the line or the certificate requires it. A signature of any other key
-- verifies nobody (this project's rule).
abbrev pub VerificationSuffices : List AuthOption → Offer → Signature → Type 0
VerificationSuffices options offer s = (has_flag VerifyRequired options ≡ true) ⊎ OfferAsks offer → HasSkFlag user_verified s.sk

-- ======== as functions

-- a security key's signature with this flag
abbrev pub has_sk_flag : ℕ → Option (ℕ × ℕ) → Bool
has_sk_flag flag None = false
has_sk_flag flag (Some sk) = bit_and sk.0 flag == flag

-- another key's signature, or a security key's with the flag that a user was present
abbrev pub is_present : Option (ℕ × ℕ) → Bool
is_present None = true
is_present (Some sk) = has_sk_flag user_present (Some sk)

-- a certificate must waive the touch too
abbrev pub is_touch_waived : Offer → Bool
is_touch_waived (plain key) = true
is_touch_waived (certified c) = has_formed certificate_option.NoTouchRequired c

abbrev pub waives_touch : List AuthOption → Offer → Bool
waives_touch options offer = has_flag NoTouchRequired options && is_touch_waived offer

-- a security key was touched, or the touch is waived
abbrev pub touch_suffices : List AuthOption → Offer → Signature → Bool
touch_suffices options offer s = is_present s.sk || waives_touch options offer

abbrev pub is_verification_asked : Offer → Bool
is_verification_asked (plain key) = false
is_verification_asked (certified c) = has_named certificate_option.VerifyRequired c

-- the line or the certificate requires that a security key verified the user
abbrev pub wants_verification : List AuthOption → Offer → Bool
wants_verification options offer = has_flag VerifyRequired options || is_verification_asked offer

-- A signature of any other key verifies nobody (this project's rule).
abbrev pub verification_suffices : List AuthOption → Offer → Signature → Bool
verification_suffices options offer s = not (wants_verification options offer) || has_sk_flag user_verified s.sk
