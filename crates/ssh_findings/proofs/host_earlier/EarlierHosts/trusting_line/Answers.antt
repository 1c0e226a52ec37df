use Rattle.ssh_findings.proofs.Imports.{◌∙◌, ap, lesser}
use Rattle.ssh_findings.proofs.EarlierLemmas.{trusting_found}
use Rattle.ssh_findings.proofs.host_earlier.EarlierHosts.trusting_line.Goals as goal

pub returns : goal.returns
returns c = λ lines s.
    c.lesser.ensures
    ∙ ap (λ o. lesser o c.line-2.result) c.line.ensures
    ∙ ap (lesser _) c.line-2.ensures
    ∙ trusting_found c.args.self.now lines c.args.bytes.now s
