use Rattle.std.proofs.Common.{◌≡◌, ◌++◌, drop}
use Rattle.std.specs.List.{flat_map}
use Rattle.ssh_page.specs.Expanding.{mark_html}
use Rattle.ssh_page.proofs.expanding.expand.Given as goal

abbrev pub invariant-loop-byte : goal.invariant-loop-byte
invariant-loop-byte l = l.out.items ++ flat_map mark_html (drop l.byte-index l.marks) ≡ l.initial.out.items ++ flat_map mark_html l.marks
