use Rattle.ssh_rewriting.proofs.Imports.{refl}
use Rattle.ssh_rewriting.proofs.rewrite.is_past_limit.Goals as goal

pub returns : goal.returns
returns c = refl
