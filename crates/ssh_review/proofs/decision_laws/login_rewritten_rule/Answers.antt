use Rattle.ssh_review.proofs.RewritingLemmas.{login-same, login-canonical, login-rewritten}
use Rattle.ssh_review.proofs.decision_laws.login_rewritten_rule.Goals as goal

pub returns : goal.returns
returns c = record { facts = login-same; canonical = login-canonical; answer = login-rewritten }
