use Rattle.ssh_trust.proofs.Imports.{◌≡◌, ◌≤◌, ◌+◌, ◌*◌, length, arith, sym, subst, lines_of, numbered}
use Rattle.ssh_trust.specs.Scan.{after_lines}
use Rattle.ssh_trust.specs.Turns.{least_over, most_over}
use Rattle.ssh_trust.proofs.search.Search.decide.Goals as goal

pub returns-clause-decided : goal.returns-clause-decided
returns-clause-decided g c claim file h =
    let state = subst (λ q. c.args.self.state ≡ after_lines (g.T.Matcher.add q) g.T.Matcher.nothing (numbered 1 (lines_of file))) (sym h.matcher) h.state in
    subst (λ q. c.in_ok-decision.decision ≡ g.T.Matcher.decision file q c.args.vouched.now) h.matcher (c.in_ok-decision.ensures.decided file state)

pub returns-clause-means : goal.returns-clause-means
returns-clause-means g c claim file h are =
    let state = subst (λ q. c.args.self.state ≡ after_lines (g.T.Matcher.add q) g.T.Matcher.nothing (numbered 1 (lines_of file))) (sym h.matcher) h.state in
    subst (λ q. g.T.Matcher.means file q c.args.vouched.now c.in_ok-decision.decision) h.matcher (c.in_ok-decision.ensures.means file state are)

pub returns-clause-most : goal.returns-clause-most
returns-clause-most g c claim file h are =
    let file_most =
    subst (λ q. most_over (g.T.Matcher.most q) (numbered 1 (lines_of file)) ≤ (length file + 1) * g.T.Matcher.width q) h.matcher
    (c.in_ok-decision.ensures.width file are) in
    omega (arith, h.few, file_most)

pub returns-clause-least : goal.returns-clause-least
returns-clause-least g c claim file h are =
    let fewest =
    subst (λ q. least_over (g.T.Matcher.add q) (g.T.Matcher.least q) g.T.Matcher.nothing (numbered 1 (lines_of file)) ≤ c.args.self.steps) (sym h.matcher) h.enough in
    subst (λ q. g.T.Matcher.are_enough file q c.args.self.steps) h.matcher (c.in_ok-decision.ensures.enough file c.args.self.steps are fewest)
