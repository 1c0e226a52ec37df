use Rattle.ssh_rewriting.proofs.HiddenLemmas.{plain-hidden}
use Rattle.ssh_rewriting.proofs.hidden_names.is_hidden.Goals as goal

pub returns-then-are_plain : goal.returns-then-are_plain
returns-then-are_plain c = plain-hidden c.args.entry.now c.names.result c.fits.result c.if-are_plain.ensures c.names.ensures c.fits.ensures
