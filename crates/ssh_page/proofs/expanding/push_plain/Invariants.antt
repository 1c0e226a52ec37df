use Rattle.std.proofs.Common.{◌≡◌, ◌≤◌, ◌++◌, drop, length, take}
use Rattle.ssh_page.specs.Expanding.{page}
use Rattle.ssh_page.specs.Rooms.{html_in}
use Rattle.ssh_page.proofs.expanding.push_plain.Given as goal

abbrev pub invariant-loop-bytes : goal.invariant-loop-bytes
invariant-loop-bytes l =
    (html_in l.out ≡ html_in l.initial.out ++ page (take l.count l.marks)) × (l.rest ≡ drop l.count l.marks) × (l.count ≤ length l.marks)

abbrev pub decreases-loop-bytes : goal.decreases-loop-bytes
decreases-loop-bytes l = length l.rest
