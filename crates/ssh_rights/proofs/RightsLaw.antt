-- The rights of a login, and whether its security key was touched and verified the user: the functions agree with the
-- relations.
use Rattle.ssh_rights.proofs.Imports.{◌≡◌, ◌↔◌, ◌⊎◌, ◌||◌, ℕ, Bool, true, false, not, List, Option, Some, None, refl, inl, inr, bit_and, Decides, and_from, and_parts, or_cases, Decides-eqb, ForceCommand, AreOnce, HasExtension, is_critical, extension-of, has-text, insists, named-of, of-extension, text-had, Signature, AuthEntry, AuthOption, NoTouchRequired, VerifyRequired, Command, has_flag, setting, Offer, OfCertificate, certified, plain, Right, Port, Agent, X11, Pty, UserRc, AreRights, HasRight, OfferForces, command_of, forced_by_offer, has_right, is_on, permit_of, certificate_permits, HasSkFlag, IsPresent, OfferAsks, TouchSuffices, VerificationSuffices, has_sk_flag, is_present, is_touch_waived, is_verification_asked, touch_suffices, user_verified, verification_suffices, waives_touch, wants_verification}
use Rattle.ssh_certs.specs.declared.options.CertificateOption.TheVariants.{NoTouchRequired as NoTouchOption, VerifyRequired as VerifyOption}
use Rattle.ssh_rights.specs.Rights.{rights_of}
use Rattle.ssh_rights.proofs.RightsLemmas.{is_then_on, on_is}

-- ---- a right

permit-extends : (x : Right) → is_critical (permit_of x) ≡ false
permit-extends Port = refl
permit-extends Agent = refl
permit-extends X11 = refl
permit-extends Pty = refl
permit-extends UserRc = refl

given : (x : Right) (offer : Offer) → certificate_permits x offer ≡ true → OfCertificate (HasExtension (permit_of x)) offer
given x (plain key) h = tt
given x (certified c) h = extension-of (permit_of x) c (permit-extends x) h

gives : (x : Right) (offer : Offer) → OfCertificate (HasExtension (permit_of x)) offer → certificate_permits x offer ≡ true
gives x (plain key) h = refl
gives x (certified c) h = of-extension (permit_of x) c (permit-extends x) h

right-is : (x : Right) (e : AuthEntry) (offer : Offer) → (has_right x e.options offer ≡ true) ↔ HasRight x e offer
right-is x e offer = (
  λ h. let parts = and_parts (is_on x e.options) (certificate_permits x offer) h in (on_is x e.options parts.0, given x offer parts.1),
  λ h. and_from (is_on x e.options) (certificate_permits x offer) (is_then_on x e.options h.0) (gives x offer h.1),
)

-- ---- the command

abbrev pub OptionsOnce : Offer → Type 0
OptionsOnce offer = OfCertificate (λ c. AreOnce c.critical) offer

offer-forces : (offer : Offer) (text : List ℕ) → forced_by_offer offer ≡ Some text → OfferForces offer text
offer-forces (plain key) text h = cc
offer-forces (certified c) text h = has-text ForceCommand c text h

forces-offer : (offer : Offer) (text : List ℕ) → OptionsOnce offer → OfferForces offer text → forced_by_offer offer ≡ Some text
forces-offer (plain key) text once h = absurd h
forces-offer (certified c) text once h = text-had ForceCommand c text once h

command-is : (own : Option (List ℕ)) (offer : Offer) (text : List ℕ) → OptionsOnce offer
    → (command_of own offer ≡ Some text) ↔ ((own ≡ Some text) ⊎ ((own ≡ None) × OfferForces offer text))
command-is (Some line) offer text once = (
  λ h. inl h,
  λ h. elim h [
    | inl same ↦ same
    | inr (none, forces) ↦ let bad : Some line ≡ None = none in cc
  ],
)
command-is None offer text once = (
  λ h. inr (refl, offer-forces offer text h),
  λ h. elim h [
    | inl same ↦ let bad : None ≡ Some text = same in cc
    | inr (none, forces) ↦ forces-offer offer text once forces
  ],
)

-- ---- all rights

pub are-rights : (e : AuthEntry) (offer : Offer) → OptionsOnce offer → AreRights e offer (rights_of e offer)
unfolding rights_of
are-rights e offer once = record {
  port = right-is Port e offer;
  agent = right-is Agent e offer;
  x11 = right-is X11 e offer;
  pty = right-is Pty e offer;
  user_rc = right-is UserRc e offer;
  command = λ text. command-is (setting Command e.options) offer text once;
  carried = refl;
}

-- ---- touched, and verified

flag-is : (flag : ℕ) (sk : Option (ℕ × ℕ)) → Decides (has_sk_flag flag sk) (HasSkFlag flag sk)
flag-is flag None = (λ h. cc, λ h. absurd h)
flag-is flag (Some sk) = Decides-eqb (bit_and sk.0 flag) flag

present-is : (sk : Option (ℕ × ℕ)) → Decides (is_present sk) (IsPresent sk)
present-is None = (λ h. tt, λ h. refl)
present-is (Some sk) = flag-is 1 (Some sk)

waived : (offer : Offer) → is_touch_waived offer ≡ true → OfCertificate (HasExtension NoTouchOption) offer
waived (plain key) h = tt
waived (certified c) h = extension-of NoTouchOption c refl h

waives : (offer : Offer) → OfCertificate (HasExtension NoTouchOption) offer → is_touch_waived offer ≡ true
waives (plain key) h = refl
waives (certified c) h = of-extension NoTouchOption c refl h

or-left : (a b : Bool) → a ≡ true → (a || b) ≡ true
or-left true b h = refl
or-left false b h = cc

or-right : (a b : Bool) → b ≡ true → (a || b) ≡ true
or-right true b h = refl
or-right false b h = h

pub touch-is : (options : List AuthOption) (offer : Offer) (s : Signature) → Decides (touch_suffices options offer s) (TouchSuffices options offer s)
touch-is options offer s = (
  λ h. elim (or_cases (is_present s.sk) (waives_touch options offer) h) [
    | inl present ↦ inl ((present-is s.sk).0 present)
    | inr waive ↦
        let parts = and_parts (has_flag NoTouchRequired options) (is_touch_waived offer) waive in
        inr (parts.0, waived offer parts.1)
  ],
  λ h. elim h [
    | inl present ↦ or-left (is_present s.sk) (waives_touch options offer) ((present-is s.sk).1 present)
    | inr (flag, waive) ↦
        or-right (is_present s.sk) (waives_touch options offer)
        (and_from (has_flag NoTouchRequired options) (is_touch_waived offer) flag (waives offer waive))
  ],
)

asked : (offer : Offer) → is_verification_asked offer ≡ true → OfferAsks offer
asked (plain key) h = cc
asked (certified c) h = insists VerifyOption c refl h

asks : (offer : Offer) → OfferAsks offer → is_verification_asked offer ≡ true
asks (plain key) h = absurd h
asks (certified c) h = named-of VerifyOption c refl h

abbrev Wants : List AuthOption → Offer → Type 0
Wants options offer = (has_flag VerifyRequired options ≡ true) ⊎ OfferAsks offer

wants-is : (options : List AuthOption) (offer : Offer) → Decides (wants_verification options offer) (Wants options offer)
wants-is options offer = (
  λ h. elim (or_cases (has_flag VerifyRequired options) (is_verification_asked offer) h) [
    | inl flag ↦ inl flag
    | inr certificate ↦ inr (asked offer certificate)
  ],
  λ h. elim h [
    | inl flag ↦ or-left (has_flag VerifyRequired options) (is_verification_asked offer) flag
    | inr certificate ↦ or-right (has_flag VerifyRequired options) (is_verification_asked offer) (asks offer certificate)
  ],
)

unless : (a b : Bool) → (not a || b) ≡ true → a ≡ true → b ≡ true
unless true b h on = h
unless false b h on = cc

suffices-unless : (a b : Bool) → (a ≡ true → b ≡ true) → (not a || b) ≡ true
suffices-unless true b h = h refl
suffices-unless false b h = refl

pub verification-is : (options : List AuthOption) (offer : Offer) (s : Signature)
    → Decides (verification_suffices options offer s) (VerificationSuffices options offer s)
verification-is options offer s = (
  λ h wants. (flag-is user_verified s.sk).0 (unless (wants_verification options offer) (has_sk_flag user_verified s.sk) h ((wants-is options offer).1 wants)),
  λ h. suffices-unless (wants_verification options offer) (has_sk_flag user_verified s.sk)
      (λ on. (flag-is user_verified s.sk).1 (h ((wants-is options offer).0 on))),
)
