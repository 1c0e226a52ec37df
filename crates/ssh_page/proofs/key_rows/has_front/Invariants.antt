use Rattle.std.proofs.Common.{◌≡◌, length}
use Rattle.ssh_page.specs.KeyRows.{has_front}
use Rattle.ssh_page.proofs.key_rows.has_front.Given as goal

abbrev pub invariant-loop-wanted : goal.invariant-loop-wanted
invariant-loop-wanted l = has_front l.wanted l.rest ≡ has_front l.pieces l.marks

abbrev pub decreases-loop-wanted : goal.decreases-loop-wanted
decreases-loop-wanted l = length l.wanted
