use Rattle.ssh_text.proofs.Imports.{refl}
use Rattle.ssh_text.proofs.PieceLemmas.{adds-none, adds-one, ends-none, ends-one}
use Rattle.ssh_text.proofs.laws.scanned_rule.Goals as goal

pub returns : goal.returns
returns c = record { none = refl; unready = adds-none; ready = adds-one; last = ends-one; end = ends-none }
