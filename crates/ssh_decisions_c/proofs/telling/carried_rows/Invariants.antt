use Rattle.std.proofs.Common.{◌≡◌, map, take}
use Rattle.ssh_decisions_c.specs.Decided.{carried_row}
use Rattle.ssh_decisions_c.proofs.telling.carried_rows.Given as goal

abbrev pub invariant-loop-option : goal.invariant-loop-option
invariant-loop-option l = l.rows.items ≡ map carried_row (take l.option-index l.carried)
