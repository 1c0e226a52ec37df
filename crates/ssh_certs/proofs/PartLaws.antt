-- Reading a certificate part by part is reading it field by field.
use Rattle.ssh_certs.proofs.Imports.{◌≡◌, refl, w32, w64, Position, number_at, bind_inside, class_of, as_fault, as_cert_error, certified_kind_from, names_at, options_at}
use Rattle.ssh_wire.specs.Reading.{string_at}
use Rattle.ssh_keys.specs.KeyReading.{fields_at}
use Rattle.ssh_certs.specs.declared.reading.CertError.TheVariants as errors
use Rattle.ssh_certs.specs.CertificateReading.{certificate_at}
use Rattle.ssh_certs.specs.CertificateParts.{certified_at, terms_at, certificate_by_parts}

pub parts_are : (at : Position) → certificate_by_parts at ≡ certificate_at at
unfolding certificate_by_parts certified_at terms_at certificate_at
parts_are at =
    bind_inside (as_cert_error (string_at at)) _ _ _ (λ name.
    bind_inside (certified_kind_from (class_of name.0)) _ _ _ (λ kind.
    bind_inside (as_cert_error (string_at name.1)) _ _ _ (λ nonce.
    bind_inside (as_fault errors.Key (fields_at kind nonce.1)) _ _ _ (λ key.
    bind_inside (as_cert_error (number_at w64 key.1)) _ _ _ (λ serial.
    bind_inside (as_cert_error (number_at w32 serial.1)) _ _ _ (λ kind_number.
    bind_inside (as_cert_error (string_at kind_number.1)) _ _ _ (λ key_id.
    bind_inside (names_at key_id.1) _ _ _ (λ principals.
    bind_inside (as_cert_error (number_at w64 principals.1)) _ _ _ (λ after.
    bind_inside (as_cert_error (number_at w64 after.1)) _ _ _ (λ before.
    bind_inside (options_at before.1) _ _ _ (λ critical.
    bind_inside (options_at critical.1) _ _ _ (λ extensions.
    bind_inside (as_cert_error (string_at extensions.1)) _ _ _ (λ reserved. refl)))))))))))))
