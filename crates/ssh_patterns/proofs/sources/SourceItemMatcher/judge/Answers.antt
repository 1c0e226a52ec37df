use Rattle.ssh_patterns.proofs.Imports.{sym}
use Rattle.ssh_patterns.proofs.OneTextLemmas.{names-decide}
use Rattle.ssh_patterns.proofs.sources.SourceItemMatcher.judge.Goals as goal

pub returns-in-None-2-clause-value : goal.returns-in-None-2-clause-value
returns-in-None-2-clause-value c =
    rw (← c.self.view_is)
    (names-decide _ c.self.inside.address c.args.item.now c.args._negated c.name_matches.result.0 c.self.invariant
    (sym c.if-is_empty.ensures) (sym c.in-None-2.ensures) (sym c.if-is_v6_address.ensures) c.name_matches.ensures.value)
