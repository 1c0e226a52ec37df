use Rattle.ssh_findings.proofs.Imports.{◌∙◌, ap, option_map}
use Rattle.ssh_findings.proofs.KeepingLemmas.{shadow_line_at}
use Rattle.ssh_findings.proofs.earlier.Earlier.shadow_line.Goals as goal

pub returns-in-Some : goal.returns-in-Some
returns-in-Some c = λ held s. ap (option_map (λ free. free.line)) c.in-Some.ensures ∙ shadow_line_at c.args.self.now held c.args.blob.now c.args.facts.now s

pub returns-in-None : goal.returns-in-None
returns-in-None c = λ held s. ap (option_map (λ free. free.line)) c.in-None.ensures ∙ shadow_line_at c.args.self.now held c.args.blob.now c.args.facts.now s
