use Rattle.ssh_findings.proofs.EarlierLemmas.{entry_undone, one_more_authority, one_more_host}
use Rattle.ssh_findings.proofs.EntryLemmas.{on_err}
use Rattle.ssh_findings.proofs.host_earlier.EarlierHosts.keep_entry.Goals as goal

pub returns-then-facts-clause-ok : goal.returns-then-facts-clause-ok
returns-then-facts-clause-ok c = λ lines s.
    one_more_authority c.args.self.now c.keep.new.self c.args.line c.args.blob.now c.args.facts.now lines c.if-facts.true c.in_ok-keep.ensures.ok s

pub returns-clause-ok : goal.returns-clause-ok
returns-clause-ok c = λ lines s.
    one_more_host c.args.self.now c.keep-2.new.self c.keep_names.new.self c.args.line c.args.blob.now c.args.facts.now lines c.if-facts.false
    c.in_ok-keep-2.ensures.ok c.in_ok-keep_names.ensures.ok s

pub returns-in_err-keep-2-clause-err : goal.returns-in_err-keep-2-clause-err
returns-in_err-keep-2-clause-err c =
    on_err c.from_residual-in_err-keep-2.result (λ none lines s.
    entry_undone c.args.self.now c.keep-2.new.self c.keep_names.new.self c.args.line c.args.blob.now c.args.facts.now lines c.if-facts.false none
    c.in_err-keep-2.ensures.err c.in_ok-keep_names.ensures.ok s)
