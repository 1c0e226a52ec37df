use Rattle.ssh_findings.proofs.Imports.{◌≡◌, ◌+◌, drop, prefix_len, is_in_brackets}
use Rattle.ssh_findings.proofs.carried.bracketed_len.Given as goal

abbrev pub invariant-loop-i : goal.invariant-loop-i
invariant-loop-i l = prefix_len is_in_brackets l.text ≡ l.i + prefix_len is_in_brackets (drop l.i l.text)
