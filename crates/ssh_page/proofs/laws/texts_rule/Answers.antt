use Rattle.ssh_page.proofs.HeadTextLemmas.{choices_none, header_none, mend_has}
use Rattle.ssh_page.proofs.KeyLemmas.{keys_have}
use Rattle.ssh_page.proofs.TextLemmas.{bare_none, entry_has, host_entry_has, revoked_has, unreadable_none}
use Rattle.ssh_page.proofs.laws.texts_rule.Goals as goal

pub returns : goal.returns
returns c = record {
  entry = λ place f found. (entry_has place f found).by;
  unreadable = λ place held found. (unreadable_none place held found).by;
  host_entry = λ place f found. (host_entry_has place f found).by;
  revoked = λ place fingerprint names found. (revoked_has place fingerprint names found).by;
  bare = λ place is held found. (bare_none place is held found).by;
  header = λ q t. (header_none q t).by;
  choices = λ found. (choices_none found).by;
  mend = λ q t found l. (mend_has q t found l).by;
  keys = λ l. (keys_have l).by;
}
