use Rattle.ssh_rules.proofs.KeyPieceLemmas.{holds-found}
use Rattle.ssh_rules.proofs.login_matcher.holds.Goals as goal

pub returns : goal.returns
returns c = rw c.is_some.ensures (holds-found c.args.line.now c.args.text.now c.find.result c.find.ensures)
