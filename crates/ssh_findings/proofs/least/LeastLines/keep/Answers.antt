use Rattle.ssh_findings.proofs.Imports.{◌∙◌, Some, ap, lesser}
use Rattle.ssh_findings.specs.Entries.{entry_of}
use Rattle.ssh_findings.specs.Maps.{line_in}
use Rattle.ssh_findings.proofs.SumLemmas.{same_sum}
use Rattle.ssh_findings.proofs.TextKeys.{changed}
use Rattle.ssh_findings.proofs.least.LeastLines.keep.Goals as goal

pub returns-clause-ok : goal.returns-clause-ok
returns-clause-ok c = λ other.
    let n = c.args.line in
    changed line_in (λ o. lesser o (Some n)) c.args.bytes.now other c.args.self.now.lines c.insert.new.self (Some c.least-least.result) c.in_ok-insert.ensures.ok
    (c.least-least.ensures ∙ ap (λ o. lesser o (Some n)) (c.line_in.ensures ∙ ap line_in c.get_at.ensures))

pub returns-clause-same : goal.returns-clause-same
returns-clause-same c = λ prepared weight.
    let bytes = c.args.bytes.now in
    same_sum weight bytes (entry_of c.args.self.now.lines bytes) _ _ prepared (c.in_ok-insert.ensures.sum (λ text line. weight text))
