use Rattle.ssh_patterns.proofs.Imports.{length, sym}
use Rattle.ssh_patterns.proofs.CutLemmas.{no-byte, cut-sliced, cut-nowhere}
use Rattle.ssh_patterns.proofs.pattern.cut_long.Goals as goal

pub returns-in-Some : goal.returns-in-Some
returns-in-Some c =
    let found = c.in-Some.ensures in
    cut-sliced c.args.mark c.args.text.now c.in-Some.at found.0.high (no-byte c.args.mark c.args.text.now c.in-Some.at found.0.before) found.1

pub returns-in-None : goal.returns-in-None
returns-in-None c = sym (cut-nowhere c.args.mark c.args.text.now (no-byte c.args.mark c.args.text.now (length c.args.text.now) c.in-None.ensures))
