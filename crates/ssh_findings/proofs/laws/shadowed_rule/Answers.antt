use Rattle.ssh_findings.proofs.ShadowLemmas.{free, named, shadowed, reported, unrefused}
use Rattle.ssh_findings.proofs.laws.shadowed_rule.Goals as goal

pub returns : goal.returns
returns c = record { shadowed = shadowed; free = free; named = named; unrefused = unrefused; reported = reported }
