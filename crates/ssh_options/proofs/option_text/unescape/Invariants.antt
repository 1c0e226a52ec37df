use Rattle.ssh_options.proofs.Imports.{◌≡◌, ◌++◌, drop, unescaped}
use Rattle.ssh_options.proofs.option_text.unescape.Given as goal

abbrev pub invariant-loop-i : goal.invariant-loop-i
invariant-loop-i l = unescaped l.quoted ≡ l.value.items ++ unescaped (drop l.i l.quoted)
