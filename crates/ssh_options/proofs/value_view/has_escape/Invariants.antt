use Rattle.ssh_options.proofs.Imports.{◌≡◌, drop, has_escape}
use Rattle.ssh_options.proofs.value_view.has_escape.Given as goal

abbrev pub invariant-loop-i : goal.invariant-loop-i
invariant-loop-i l = has_escape l.quoted ≡ has_escape (drop l.i l.quoted)
