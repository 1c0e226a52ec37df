use Rattle.ssh_findings.proofs.Imports.{◌∙◌, ◌≡◌, ap}
use Rattle.ssh_findings.specs.Maps.{line_in}
use Rattle.ssh_findings.proofs.TextKeys.{changed, kept_there}
use Rattle.ssh_findings.proofs.least.LeastLines.prepare.Goals as goal

pub returns-clause-lines : goal.returns-clause-lines
returns-clause-lines c = λ other.
    changed line_in (λ o. o) c.args.bytes.now other c.args.self.now.lines c.insert.new.self c.line_in-line.result c.in_ok-insert.ensures.ok (c.line_in-line.ensures ∙ ap line_in c.get_at.ensures)
    ∙ kept_there c.args.bytes.now other _
