use Rattle.ssh_findings.proofs.Imports.{◌≡◌, ◌+◌, drop, prefix_len, is_of_name}
use Rattle.ssh_findings.proofs.carried.name_len.Given as goal

abbrev pub invariant-loop-i : goal.invariant-loop-i
invariant-loop-i l = prefix_len is_of_name l.text ≡ l.i + prefix_len is_of_name (drop l.i l.text)
