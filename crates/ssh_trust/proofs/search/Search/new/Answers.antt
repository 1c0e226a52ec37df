use Rattle.ssh_trust.proofs.Imports.{refl}
use Rattle.ssh_trust.proofs.AuditLemmas.{found-none-yet}
use Rattle.ssh_trust.proofs.search.Search.new.Goals as goal

pub returns-clause-made : goal.returns-clause-made
returns-clause-made g c =
    found-none-yet g.T.Matcher.claimed g.T.Matcher.nothing g.T.Matcher.add g.T.Matcher.most g.T.Matcher.least (g.T.Matcher.claimed c.args.matcher) _ refl c.initial_state-state.ensures.value refl
