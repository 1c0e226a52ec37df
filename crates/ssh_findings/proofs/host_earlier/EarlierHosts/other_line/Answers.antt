use Rattle.ssh_findings.proofs.Imports.{◌≡◌, ◌∙◌, None, Some, ap, sym}
use Rattle.ssh_findings.proofs.EarlierLemmas.{other_line_found}
use Rattle.ssh_findings.proofs.host_earlier.EarlierHosts.other_line.Goals as goal

pub returns-in-None : goal.returns-in-None
returns-in-None c = λ lines s.
    other_line_found c.args.self.now lines c.args.blob.now c.args.facts.now None c.if-facts.false c.in-None.is s

pub returns-in-Some : goal.returns-in-Some
returns-in-Some c = λ lines s.
    let m = c.args.self.now in
    let f = c.args.facts.now in
    let same : f.list ≡ Some c.as_slice.result.now = c.in-Some.is ∙ ap (λ l. Some l) (sym c.as_slice.ensures) in
    c.least_other.ensures
    ∙ other_line_found m lines c.args.blob.now f (Some c.as_slice.result.now) c.if-facts.false same s
