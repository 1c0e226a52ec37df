use Rattle.std.proofs.Common.{◌≡◌, length}
use Rattle.ssh_audit.specs.Colours.{behind_name}
use Rattle.ssh_audit.proofs.colour.behind_name.Given as goal

abbrev pub invariant-loop-rest : goal.invariant-loop-rest
invariant-loop-rest l = behind_name l.rest ≡ behind_name l.fn.line

abbrev pub decreases-loop-rest : goal.decreases-loop-rest
decreases-loop-rest l = length l.rest
