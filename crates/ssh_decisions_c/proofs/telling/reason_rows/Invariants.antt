use Rattle.std.proofs.Common.{◌≡◌, map, take}
use Rattle.ssh_decisions_c.specs.Decided.{reason_row}
use Rattle.ssh_decisions_c.proofs.telling.reason_rows.Given as goal

abbrev pub invariant-loop-reason : goal.invariant-loop-reason
invariant-loop-reason l = l.rows.items ≡ map reason_row (take l.reason-index l.reasons)
