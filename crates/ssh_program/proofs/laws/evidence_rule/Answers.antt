use Rattle.ssh_program.proofs.EvidenceLemmas.{evidence_back, printed_line}
use Rattle.ssh_program.proofs.laws.evidence_rule.Goals as goal

pub returns : goal.returns
returns c = record { line = printed_line; back = evidence_back }
