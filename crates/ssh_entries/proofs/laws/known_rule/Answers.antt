use Rattle.ssh_entries.proofs.ReadKnown.{only_known, known_line-spelled, known_line-spells}
use Rattle.ssh_entries.proofs.RevokedLemmas.{revokes-read, read-revokes, unreadable_revocation-read, read-unreadable_revocation}
use Rattle.ssh_entries.proofs.laws.known_rule.Goals as goal

pub returns : goal.returns
returns c = record {
  one = only_known;
  read = known_line-spelled;
  spelled = known_line-spells;
  revokes = revokes-read;
  revoked = read-revokes;
  unreadable_revocation = unreadable_revocation-read;
  may_revoke = read-unreadable_revocation;
}
