-- The certificate that parts to write make.
use Rattle.std.specs.Prelude.{map}
use Rattle.ssh_keys.specs.KeyOf.{key_of}
use Rattle.ssh_keys.specs.Signature.{signature_of}
use Rattle.ssh_certs.specs.declared.writing.CertParts.{CertParts}
use Rattle.ssh_certs.specs.Certificate.{Certificate}
use Rattle.ssh_certs.specs.Packed.{option_in_packed}

-- each part is the field of the same name
abbrev pub certificate_of_parts : CertParts → Certificate
certificate_of_parts v = record {
  nonce = v.nonce.now;
  key = key_of v.key;
  serial = v.serial;
  kind_number = v.kind_number;
  key_id = v.key_id.now;
  principals = map (λ name. name.now) v.principals.now;
  after = v.after;
  before = v.before;
  critical = map option_in_packed v.critical.now;
  extensions = map option_in_packed v.extensions.now;
  reserved = v.reserved.now;
  signer = key_of v.signer;
  signature = signature_of v.signature;
}
