use Rattle.std.proofs.Common.{◌≡◌, map, take}
use Rattle.ssh_decisions_c.specs.Asked.{signed_of}
use Rattle.ssh_decisions_c.proofs.asked.copy_all.Given as goal

abbrev pub invariant-loop-one : goal.invariant-loop-one
invariant-loop-one l = l.copied.items ≡ map signed_of (take l.one-index l.vouched)
