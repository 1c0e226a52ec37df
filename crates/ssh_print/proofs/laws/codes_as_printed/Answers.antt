use Rattle.ssh_print.proofs.Imports.{wire_codes_shown, key_codes_shown, cert_codes_shown, body_codes_shown, line_codes_shown, reason_codes_shown, cause_codes_shown, fault_codes_shown}
use Rattle.ssh_print.proofs.laws.codes_as_printed.Goals as goal

pub returns : goal.returns
returns c = record {
  fields = wire_codes_shown;
  keys = key_codes_shown;
  certificates = cert_codes_shown;
  bodies = body_codes_shown;
  lines = line_codes_shown;
  reasons = reason_codes_shown;
  causes = cause_codes_shown;
  faults = fault_codes_shown;
}
