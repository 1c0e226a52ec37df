use Rattle.ssh_certs.proofs.Imports.{ap, ◌∙◌, arith, certificate_name_of}
use Rattle.ssh_certs.proofs.RowLaws.{row_spells}
use Rattle.ssh_certs.proofs.writing.row.Goals as goal

pub returns-clause-spelled : goal.returns-clause-spelled
returns-clause-spelled c = row_spells c.args.parts.now c.certificate_name.result.now (c.certificate_name.ensures ∙ ap certificate_name_of c.kind.ensures)

pub returns-clause-is_certificate : goal.returns-clause-is_certificate
returns-clause-is_certificate c = λ short. record {
  key = c.args.parts.now.key.is_key.in_range;
  serial = omega arith;
  kind_number = omega arith;
  after = omega arith;
  before = omega arith;
  signer = c.args.parts.now.signer.is_key;
  signature = c.requires;
  length = short;
}
