use Rattle.ssh_trust.proofs.Imports.{file_at_limit, first_admitted_found, reasons_listed}
use Rattle.ssh_trust.proofs.laws.lines_as_counted.Goals as goal

pub returns : goal.returns
returns c = record {
  candidate = first_admitted_found;
  reasons = reasons_listed;
  limit = file_at_limit;
}
