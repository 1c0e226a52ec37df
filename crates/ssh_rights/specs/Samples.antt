-- Worked logins by security keys: what the flags of a signature show, and what a line and a certificate require. The
-- names are those of PROTOCOL.certkeys, the flags those of PROTOCOL.u2f.
use Rattle.std.specs.Prelude.{◌≡◌, ℕ, Bool, true, false, List, [], ◌∷◌, map, codes, replicate, Option, Some, None}
use Rattle.ssh_keys.specs.PublicKey.{sk_ed25519}
use Rattle.ssh_keys.specs.Signature.{Signature}
use Rattle.ssh_certs.specs.Certificate.{Certificate, CertOption}
use Rattle.ssh_options.specs.AuthOption.{AuthOption, Switch}
use Rattle.ssh_options.specs.declared.option.Flag.TheVariants.{NoTouchRequired, Pty, VerifyRequired}
use Rattle.ssh_offers.specs.Offer.{Offer, certified, plain}
use Rattle.ssh_rights.specs.SecurityKeys.{touch_suffices, verification_suffices}

-- an option of a certificate with this name and data
abbrev pub option : List ℕ → List ℕ → CertOption
option name value = record { name = name; value = value }

-- a certificate of a security key with these critical options and these extensions
abbrev pub certificate_with : List CertOption → List CertOption → Certificate
certificate_with critical extensions = record {
  nonce = 7 ∷ [];
  key = sk_ed25519 (replicate 32 0) (codes "ssh:");
  serial = 5;
  kind_number = 1;
  key_id = codes "id";
  principals = codes "ann" ∷ [];
  after = 100;
  before = 200;
  critical = critical;
  extensions = extensions;
  reserved = [];
  signer = sk_ed25519 (replicate 32 1) (codes "ssh:");
  signature = record { algorithm = codes "sk-ssh-ed25519@openssh.com"; bytes = 0xaa ∷ []; sk = Some (1, 7) };
}

abbrev pub certificate : List CertOption → List CertOption → Offer
certificate critical extensions = certified (certificate_with critical extensions)

-- the security key itself
abbrev pub bare : Offer
bare = plain (sk_ed25519 (replicate 32 0) (codes "ssh:"))

abbrev signature_with : Option (ℕ × ℕ) → Signature
signature_with sk = record { algorithm = codes "sk-ssh-ed25519@openssh.com"; bytes = 0xaa ∷ []; sk = sk }

-- Five signatures: of another sort of key; without a flag; with 01, the user was present; with 04, the user was
-- verified; with both.
abbrev five_sorts : List (Option (ℕ × ℕ))
five_sorts = None ∷ Some (0x00, 7) ∷ Some (0x01, 7) ∷ Some (0x04, 7) ∷ Some (0x05, 7) ∷ []

-- which of these five pass where a touch is required, and which where user verification may be required
abbrev Touched : List AuthOption → Offer → (other flags00 flags01 flags04 flags05 : Bool) → Type 0
Touched options offer other flags00 flags01 flags04 flags05 =
    map (λ sk. touch_suffices options offer (signature_with sk)) five_sorts ≡ other ∷ flags00 ∷ flags01 ∷ flags04 ∷ flags05 ∷ []

abbrev Verified : List AuthOption → Offer → (other flags00 flags01 flags04 flags05 : Bool) → Type 0
Verified options offer other flags00 flags01 flags04 flags05 =
    map (λ sk. verification_suffices options offer (signature_with sk)) five_sorts ≡ other ∷ flags00 ∷ flags01 ∷ flags04 ∷ flags05 ∷ []

-- the options of a line
abbrev no_touch : AuthOption
no_touch = Switch NoTouchRequired

abbrev verify : AuthOption
verify = Switch VerifyRequired

-- `no-touch-required` of a certificate
abbrev no_touch_extension : CertOption
no_touch_extension = option (codes "no-touch-required") []

-- `verify-required` of a certificate
abbrev verify_option : CertOption
verify_option = option (codes "verify-required") []

-- A touch is required, unless the line waives it.
abbrev pub KeysTouched : Type 0
KeysTouched =
    Touched [] bare true false true false true
    × Touched (no_touch ∷ []) bare true true true true true
    × Touched (Switch Pty ∷ no_touch ∷ []) bare true true true true true
    × Touched (verify ∷ []) bare true false true false true
    × Touched (verify ∷ no_touch ∷ []) bare true true true true true

-- With a certificate both must waive it: the certificate by an extension of exactly that name, and without data.
abbrev pub CertificatesTouched : Type 0
CertificatesTouched =
    Touched [] (certificate [] []) true false true false true
    × Touched (no_touch ∷ []) (certificate [] []) true false true false true
    × Touched [] (certificate [] (no_touch_extension ∷ [])) true false true false true
    × Touched (no_touch ∷ []) (certificate [] (no_touch_extension ∷ [])) true true true true true
    × Touched (no_touch ∷ []) (certificate [] (option (codes "permit-pty") [] ∷ no_touch_extension ∷ [])) true true true true true
    × Touched (no_touch ∷ []) (certificate [] (option (codes "no-touch-required") (0 ∷ []) ∷ [])) true false true false true
    × Touched (no_touch ∷ []) (certificate [] (option (codes "No-Touch-Required") [] ∷ [])) true false true false true
    × Touched (no_touch ∷ []) (certificate [] (option (codes "verify-required") [] ∷ [])) true false true false true
    × Touched (no_touch ∷ []) (certificate (no_touch_extension ∷ []) []) true false true false true

-- Where the line requires it, the signature must verify the user; a touch does not, nor does another sort of key.
abbrev pub KeysVerified : Type 0
KeysVerified =
    Verified [] bare true true true true true
    × Verified (no_touch ∷ []) bare true true true true true
    × Verified (verify ∷ []) bare false false false true true
    × Verified (no_touch ∷ verify ∷ []) bare false false false true true

-- With a certificate it is enough that one of both requires it: the certificate by a critical option of exactly that
-- name, whatever its data.
abbrev pub CertificatesVerified : Type 0
CertificatesVerified =
    Verified [] (certificate [] []) true true true true true
    × Verified (verify ∷ []) (certificate [] []) false false false true true
    × Verified [] (certificate (verify_option ∷ []) []) false false false true true
    × Verified (verify ∷ []) (certificate (verify_option ∷ []) []) false false false true true
    × Verified (no_touch ∷ []) (certificate (verify_option ∷ []) (no_touch_extension ∷ [])) false false false true true
    × Verified [] (certificate (option (codes "force-command") [] ∷ verify_option ∷ []) []) false false false true true
    × Verified [] (certificate (option (codes "verify-required") (0 ∷ []) ∷ []) []) false false false true true
    × Verified [] (certificate (option (codes "Verify-Required") [] ∷ []) []) true true true true true
    × Verified [] (certificate [] (verify_option ∷ [])) true true true true true
