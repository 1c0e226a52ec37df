use Rattle.ssh_page.proofs.RowLemmas.{bare_stays, entry_stays, host_entry_stays, revoked_stays, unreadable_stays}
use Rattle.ssh_page.proofs.laws.rows_close_rule.Goals as goal

pub returns : goal.returns
returns c = record {
  entry = λ opened place f found. (entry_stays opened place f found).by;
  unreadable = λ opened place held found. (unreadable_stays opened place held found).by;
  host_entry = λ opened place f found. (host_entry_stays opened place f found).by;
  revoked = λ opened place fingerprint names found. (revoked_stays opened place fingerprint names found).by;
  bare = λ opened place is held found. (bare_stays opened place is held found).by;
}
