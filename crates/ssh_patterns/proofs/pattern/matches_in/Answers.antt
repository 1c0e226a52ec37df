use Rattle.ssh_patterns.proofs.Imports.{length}
use Rattle.ssh_patterns.proofs.EndLemmas.{both-steps}
use Rattle.ssh_patterns.proofs.pattern.matches_in.Goals as goal

pub returns-clause-most : goal.returns-clause-most
returns-clause-most c =
    both-steps (length c.args.pattern.now) (length c.args.text.now) (length c.without_end-alike.result.1.now)
    (length c.without_end-alike.result.2.now) c.matches_from_front-matches.result.1 c.without_end-alike.ensures.lengths
    c.without_end-alike.ensures.shorter c.matches_from_front-matches.ensures.most
