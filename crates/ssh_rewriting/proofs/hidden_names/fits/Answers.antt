use Rattle.ssh_rewriting.proofs.Imports.{rules}
use Rattle.ssh_rewriting.proofs.HiddenLemmas.{hashed-length}
use Rattle.ssh_rewriting.proofs.hidden_names.fits.Goals as goal

pub returns : goal.returns
returns c = search (rules, hashed-length c.args.entry.now)
