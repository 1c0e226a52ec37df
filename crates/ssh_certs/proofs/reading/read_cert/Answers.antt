use Rattle.ssh_certs.proofs.Imports.{arith, certificate_from}
use Rattle.ssh_certs.proofs.CertificateFaults.{certificate_fault}
use Rattle.ssh_certs.proofs.CertificateLaws.{certificate_takes, certificate_only, certificate_refused, key_is_key}
use Rattle.ssh_certs.proofs.reading.read_cert.Goals as goal

pub invariant_of-result : goal.invariant_of-result
invariant_of-result c = record {
  is_key = c.in-Ok-from_fields.ensures.found.0;
  spelled = certificate_takes c.args.bytes.now (certificate_from c.in-Ok.fields) (λ i. omega (arith, c.type_inv.bytes i)) c.in-Ok.ensures;
}

pub returns-in-Ok-from_fields-clause-only : goal.returns-in-Ok-from_fields-clause-only
returns-in-Ok-from_fields-clause-only c = λ certificate blob. certificate_only c.args.bytes.now (certificate_from c.in-Ok.fields) certificate c.in-Ok.ensures blob

-- the key of a certificate that was read is never refused
none : (c : goal.In-Err-from_fields) → ⊥
none c =
    let blob = certificate_takes c.args.bytes.now (certificate_from c.in-Ok.fields) (λ i. omega (arith, c.type_inv.bytes i)) c.in-Ok.ensures in
    c.in-Err-from_fields.ensures.only (key_is_key (certificate_from c.in-Ok.fields) blob.is_certificate)

pub returns-in-Err-from_fields-clause-only : goal.returns-in-Err-from_fields-clause-only
returns-in-Err-from_fields-clause-only c = absurd (none c)

pub returns-in-Err-from_fields-clause-exact : goal.returns-in-Err-from_fields-clause-exact
returns-in-Err-from_fields-clause-exact c = absurd (none c)

pub returns-in-Err-clause-only : goal.returns-in-Err-clause-only
returns-in-Err-clause-only c = λ certificate blob. certificate_refused c.args.bytes.now _ certificate c.in-Err.ensures blob

pub returns-in-Err-from_fields-clause-first : goal.returns-in-Err-from_fields-clause-first
returns-in-Err-from_fields-clause-first c = absurd (none c)

pub returns-in-Err-clause-first : goal.returns-in-Err-clause-first
returns-in-Err-clause-first c = certificate_fault c.args.bytes.now c.in-Err.e (λ i. omega (arith, c.type_inv.bytes i)) c.in-Err.ensures
