use Rattle.ssh_findings.proofs.Imports.{◌≡◌, ◌+◌, drop, prefix_len, is_of_host}
use Rattle.ssh_findings.proofs.carried.plain_host_len.Given as goal

abbrev pub invariant-loop-i : goal.invariant-loop-i
invariant-loop-i l = prefix_len is_of_host l.text ≡ l.i + prefix_len is_of_host (drop l.i l.text)
