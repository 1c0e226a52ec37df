use Rattle.ssh_text.proofs.Imports.{length, sym}
use Rattle.ssh_text.proofs.WordLemmas.{no_blank, word_at, rest_at, word_whole, rest_none}
use Rattle.ssh_text.proofs.text.word_len.Goals as goal

pub returns-in-Some-clause-word : goal.returns-in-Some-clause-word
returns-in-Some-clause-word c =
    let found = c.in-Some.ensures in
    sym (word_at c.args.text.now c.in-Some.end found.0.high (no_blank c.args.text.now c.in-Some.end found.0.before) found.1)

pub returns-in-Some-clause-rest : goal.returns-in-Some-clause-rest
returns-in-Some-clause-rest c =
    let found = c.in-Some.ensures in
    sym (rest_at c.args.text.now c.in-Some.end found.0.high (no_blank c.args.text.now c.in-Some.end found.0.before) found.1)

pub returns-in-None-clause-word : goal.returns-in-None-clause-word
returns-in-None-clause-word c = sym (word_whole c.args.text.now (no_blank c.args.text.now (length c.args.text.now) c.in-None.ensures))

pub returns-in-None-clause-rest : goal.returns-in-None-clause-rest
returns-in-None-clause-rest c = sym (rest_none c.args.text.now (no_blank c.args.text.now (length c.args.text.now) c.in-None.ensures))
