use Rattle.ssh_findings.proofs.Imports.{◌≡◌, ◌++◌, drop, filter, is_no_space}
use Rattle.ssh_findings.proofs.recovered_words.without_space.Given as goal

abbrev pub invariant-loop-i : goal.invariant-loop-i
invariant-loop-i l = l.kept.items ++ filter is_no_space (drop l.i l.word) ≡ filter is_no_space l.word
