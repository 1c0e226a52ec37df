use Rattle.ssh_text.proofs.Imports.{length, sym}
use Rattle.ssh_text.proofs.EndOfLineLemmas.{no_newline, line_at, line_whole}
use Rattle.ssh_text.proofs.file.line_len.Goals as goal

pub returns-in-Some-clause-value : goal.returns-in-Some-clause-value
returns-in-Some-clause-value c =
    let found = c.in-Some.ensures in
    sym (line_at c.args.text.now c.in-Some.end found.0.high (no_newline c.args.text.now c.in-Some.end found.0.before) found.1)

pub returns-in-None-clause-value : goal.returns-in-None-clause-value
returns-in-None-clause-value c = sym (line_whole c.args.text.now (no_newline c.args.text.now (length c.args.text.now) c.in-None.ensures))
