use Rattle.std.proofs.Common.{ap, arith, ◌∙◌}
use Rattle.ssh_review.specs.DistinctKeys.{with_key}
use Rattle.ssh_review.proofs.DistinctLemmas.{key-noted, len-kept}
use Rattle.ssh_review.proofs.distinct_keys.DistinctKeys.note.Goals as goal

pub invariant_of-self : goal.invariant_of-self
invariant_of-self c = len-kept c.in_ok-insert.field-0 c.self.inside.prints.keys c.insert.new.self.keys c.args.print c.in_ok-insert.ensures.updates.0 c.in_ok-insert.ensures.added c.in_ok-insert.ensures.len c.self.invariant

pub returns-in_ok-insert : goal.returns-in_ok-insert
returns-in_ok-insert c =
    key-noted c.self.inside.prints.keys c.insert.new.self.keys c.args.print c.in_ok-insert.ensures.updates.0 (grind (arith, c.len.ensures.len, c.if-len-le-MOST_KEYS.true)) c.self.invariant
    ∙ ap (λ s. with_key s c.args.print) c.self.view_is
