use Rattle.ssh_findings.proofs.Imports.{◌≡◌, drop, false, after_options}
use Rattle.ssh_findings.proofs.recovered_words.after_options.Given as goal

abbrev pub invariant-loop-i : goal.invariant-loop-i
invariant-loop-i l = after_options l.quoted l.escaped (drop l.i l.text) ≡ after_options false false l.text
