use Rattle.ssh_program.proofs.DigestLemmas.{digest_answers}
use Rattle.ssh_program.proofs.laws.signature_rule.Goals as goal

pub returns : goal.returns
returns c v message namespace vouched = digest_answers v message namespace vouched
