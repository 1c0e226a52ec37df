-- Reading a body part by part is reading it field by field.
use Rattle.ssh_bodies.proofs.Imports.{◌≡◌, refl, ◌==◌, w32, bytes_eq, Position, number_at, bind_inside, bind_same, key_name_of, PublicKey, kind_of, as_body_error, body_wants, magic_at, private_magic, sshsig_magic}
use Rattle.ssh_wire.specs.Reading.{string_at}
use Rattle.ssh_bodies.specs.declared.error.BodyError.TheVariants as errors
use Rattle.ssh_bodies.specs.BodyReading.{key_at}
use Rattle.ssh_bodies.specs.PrivateReading.{not_encrypted_at, section_start, section_at, body_at}
use Rattle.ssh_bodies.specs.SshsigReading.{sshsig_at}
use Rattle.ssh_bodies.specs.BodyParts.{section_head_at, section_by_parts, body_head_at, body_by_parts, sshsig_head_at, sshsig_by_parts}

pub section_parts_are : (public : PublicKey) (at : Position) → section_by_parts public at ≡ section_at public at
unfolding section_by_parts section_head_at section_at
section_parts_are public at =
    bind_inside (as_body_error (number_at w32 at)) _ _ _ (λ check.
    bind_inside (as_body_error (number_at w32 check.1)) _ _ _ (λ again.
    bind_inside (body_wants (check.0 == again.0) errors.CheckMismatch) _ _ _ (λ same.
    bind_inside (as_body_error (string_at again.1)) _ _ _ (λ name.
    bind_inside (body_wants (bytes_eq name.0 (key_name_of (kind_of public))) errors.PublicMismatch) _ _ _ (λ named. refl)))))

pub body_parts_are : (at : Position) → body_by_parts at ≡ body_at at
unfolding body_by_parts body_head_at body_at
body_parts_are at =
    bind_inside (magic_at private_magic at) _ _ _ (λ magic.
    bind_inside (not_encrypted_at magic.1) _ _ _ (λ plain.
    bind_inside (as_body_error (number_at w32 plain.1)) _ _ _ (λ count.
    bind_inside (body_wants (count.0 == 1) errors.KeyCount) _ _ _ (λ one.
    bind_same (key_at count.1) _ _ (λ public.
    bind_same (section_start public.1) _ _ (λ inside. section_parts_are public.0 inside.1))))))

pub sshsig_parts_are : (at : Position) → sshsig_by_parts at ≡ sshsig_at at
unfolding sshsig_by_parts sshsig_head_at sshsig_at
sshsig_parts_are at =
    bind_inside (magic_at sshsig_magic at) _ _ _ (λ magic.
    bind_inside (as_body_error (number_at w32 magic.1)) _ _ _ (λ version.
    bind_inside (body_wants (version.0 == 1) errors.Version) _ _ _ (λ known. refl)))
