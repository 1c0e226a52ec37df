use Rattle.ssh_findings.proofs.ShadowLemmas.{no_principals, no_sources, there}
use Rattle.ssh_findings.proofs.laws.nobody_rule.Goals as goal

pub returns : goal.returns
returns c = record { sources = no_sources; there = there; principals = no_principals }
