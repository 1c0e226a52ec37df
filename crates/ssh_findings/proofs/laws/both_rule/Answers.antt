use Rattle.ssh_findings.proofs.LawLemmas.{granted, revoked_then, trusted_then}
use Rattle.ssh_findings.proofs.laws.both_rule.Goals as goal

pub returns : goal.returns
returns c = record { trusted_then = trusted_then; revoked_then = revoked_then; granted = granted }
