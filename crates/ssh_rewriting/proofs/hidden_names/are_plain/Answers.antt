use Rattle.ssh_rewriting.proofs.HiddenLemmas.{hidden-already}
use Rattle.ssh_rewriting.proofs.hidden_names.are_plain.Goals as goal

pub returns-in-None : goal.returns-in-None
returns-in-None c = hidden-already c.args.names.now c.in-None.ensures
