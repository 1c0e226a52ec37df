-- The certificate that fields in memory represent.
use Rattle.ssh_keys.specs.KeyOf.{key_of}
use Rattle.ssh_keys.specs.View.{public_key}
use Rattle.ssh_keys.specs.Signature.{signature_of}
use Rattle.ssh_certs.specs.declared.fields.CertFields.{CertFields}
use Rattle.ssh_certs.specs.Certificate.{Certificate}
use Rattle.ssh_certs.specs.Packed.{names_in_packed, options_in_packed}

-- the lists are those that the packed strings hold
abbrev pub certificate_from : CertFields → Certificate
certificate_from v = record {
  nonce = v.certified.nonce.now;
  key = public_key v.certified.key;
  serial = v.certified.serial;
  kind_number = v.certified.kind_number;
  key_id = v.certified.key_id.now;
  principals = names_in_packed v.terms.principals.now;
  after = v.terms.after;
  before = v.terms.before;
  critical = options_in_packed v.terms.critical.now;
  extensions = options_in_packed v.terms.extensions.now;
  reserved = v.terms.reserved.now;
  signer = key_of v.signer;
  signature = signature_of v.signature;
}
