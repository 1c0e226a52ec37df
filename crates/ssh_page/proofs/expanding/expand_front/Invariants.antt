use Rattle.std.proofs.Common.{◌≡◌, ◌≤◌, ◌-◌, ◌++◌, length, take}
use Rattle.ssh_page.specs.Expanding.{page}
use Rattle.ssh_page.specs.Rooms.{html_in}
use Rattle.ssh_page.proofs.expanding.expand_front.Given as goal

abbrev pub invariant-loop-count : goal.invariant-loop-count
invariant-loop-count l = (html_in l.out ≡ html_in l.initial.out ++ page (take l.count l.marks)) × (l.count ≤ length l.marks)

abbrev pub decreases-loop-count : goal.decreases-loop-count
decreases-loop-count l = length l.marks - l.count
