use Rattle.ssh_review.proofs.GrantLemmas.{hashed-adds_none, hashed-answers, hashed-unreadable_revocation, hashed-keeps, hashed-premises, hashed-revoked}
use Rattle.ssh_review.proofs.decision_laws.host_hashed_rule.Goals as goal

pub returns : goal.returns
returns c = record {
  keeps = hashed-keeps;
  adds_none = hashed-adds_none;
  revoked = hashed-revoked;
  unreadable_revocation = hashed-unreadable_revocation;
  premises = hashed-premises;
  answer = hashed-answers;
}
