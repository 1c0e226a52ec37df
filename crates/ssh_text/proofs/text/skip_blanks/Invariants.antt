use Rattle.ssh_text.proofs.Imports.{◌≡◌, drop, skip_blanks}
use Rattle.ssh_text.proofs.text.skip_blanks.Given as goal

abbrev pub invariant-loop-i : goal.invariant-loop-i
invariant-loop-i l = skip_blanks l.text ≡ skip_blanks (drop l.i l.text)
