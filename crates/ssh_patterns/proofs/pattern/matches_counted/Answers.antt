use Rattle.ssh_patterns.proofs.MatchLemmas.{folded-Exact, is_match-tests}
use Rattle.ssh_patterns.proofs.pattern.matches_counted.Goals as goal

pub returns-clause-value : goal.returns-clause-value
returns-clause-value c =
    rw (folded-Exact c.args.pattern.now, folded-Exact c.args.text.now) at c.matches_in.ensures.value

pub returns-clause-rule : goal.returns-clause-rule
returns-clause-rule c =
    rw (rw (folded-Exact c.args.pattern.now, folded-Exact c.args.text.now) at c.matches_in.ensures.value)
    (is_match-tests c.args.pattern.now c.args.text.now)
