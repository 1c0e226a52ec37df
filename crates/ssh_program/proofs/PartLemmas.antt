-- The part of a file that is read gives the same result as all of it.
use Rattle.ssh_program.proofs.Imports.{◌≡◌, ◌∙◌, ◌+◌, ◌<◌, ◌≤◌, ℕ, true, nat_lt, List, length, take, Err, refl, sym, ap, arith, inl, inr, cases_Bool, lt-ltb, ltb-false, ltb-true, length-take-le, take_all, longest, ShowKind, Shows, line-shown, shown_part}
use Rattle.ssh_bodies.specs.declared.error.BodyError.TheVariants as errors
use Rattle.ssh_bodies.specs.PrivateReading.{private_in}
use Rattle.ssh_bodies.specs.SshsigReading.{sshsig_in}
use Rattle.ssh_offers.specs.FileSignature.{sshsig_claim}
use Rattle.ssh_print.specs.Responses.{Response as Shown}
use Rattle.ssh_print.specs.declared.showing.ShowKind.TheVariants as shown
use Rattle.ssh_print.specs.Showing.{file_signature_in, public_half_in}

-- ---- a body

-- a function that refuses each body that is too long in one way gives the same for its front
front-same : {A : Type 0} (read : List ℕ → A) (too_long : A) (file : List ℕ) → ((bytes : List ℕ) → nat_lt longest (length bytes) ≡ true → read bytes ≡ too_long)
    → read (take (longest + 1) file) ≡ read file
front-same read too_long file refuses =
    elim (cases_Bool (nat_lt longest (length file))) [
      | inl long ↦
          let past : longest < length file = ltb-true longest (length file) long in
          let size : length (take (longest + 1) file) ≡ longest + 1 = length-take-le (longest + 1) file (omega arith) in
          refuses (take (longest + 1) file) (lt-ltb longest (length (take (longest + 1) file)) (omega arith)) ∙ sym (refuses file long)
      | inr short ↦
          let within : length file ≤ longest = ltb-false longest (length file) short in
          ap read (take_all (longest + 1) file (omega arith))
    ]

private-front : (file : List ℕ) → private_in (take (longest + 1) file) ≡ private_in file
unfolding private_in
private-front file = front-same private_in (Err errors.TooLong) file (λ bytes long. rw long refl)

sshsig-front : (file : List ℕ) → sshsig_in (take (longest + 1) file) ≡ sshsig_in file
unfolding sshsig_in
sshsig-front file = front-same sshsig_in (Err errors.TooLong) file (λ bytes long. rw long refl)

half-front : (file : List ℕ) → public_half_in (take (longest + 1) file) ≡ public_half_in file
unfolding public_half_in
half-front file = rw (private-front file) refl

signature-front : (file : List ℕ) → file_signature_in (take (longest + 1) file) ≡ file_signature_in file
unfolding file_signature_in
signature-front file = rw (sshsig-front file) refl

-- the claim of a body is that of its front
pub claim_front : (file : List ℕ) → sshsig_claim (take (longest + 1) file) ≡ sshsig_claim file
unfolding sshsig_claim
claim_front file = rw (sshsig-front file) refl

-- ---- what is shown

pub part_shows : (kind : ShowKind) (file : List ℕ) (r : Shown) → Shows kind (shown_part kind file) r → Shows kind file r
part_shows shown.Key file r h = rw (sym (line-shown file)) h
part_shows shown.Cert file r h = rw (sym (line-shown file)) h
part_shows shown.Private file r h = rw (sym (half-front file)) h
part_shows shown.Sshsig file r h = rw (sym (signature-front file)) h
