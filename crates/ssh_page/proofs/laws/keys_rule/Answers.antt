use Rattle.ssh_page.proofs.GroupLemmas.{all_listed, all_together}
use Rattle.ssh_page.proofs.KeyByteLemmas.{keys_are}
use Rattle.ssh_page.proofs.KeyRowLemmas.{bare_keyed, both_keyed, empty_keyed, entry_keyed, fault_keyed, host_entry_keyed, revoked_keyed, section_keyed, unreadable_keyed}
use Rattle.ssh_page.proofs.laws.keys_rule.Goals as goal

pub returns : goal.returns
returns c = record {
  entry = entry_keyed;
  unreadable = unreadable_keyed;
  host_entry = host_entry_keyed;
  revoked = revoked_keyed;
  bare = bare_keyed;
  whole = section_keyed;
  empty = empty_keyed;
  fault = fault_keyed;
  both = both_keyed;
  once = all_listed;
  together = all_together;
  bytes = keys_are;
}
