use Rattle.ssh_review.proofs.PageWordLemmas.{bare-row-words, entry-row-words, finding-words, host-entry-row-words, revoked-row-words, unreadable-row-words}
use Rattle.ssh_review.proofs.page_laws.words_rule.Goals as goal

pub returns : goal.returns
returns c = record {
  finding = finding-words;
  entry = entry-row-words;
  unreadable = unreadable-row-words;
  host_entry = host-entry-row-words;
  revoked = revoked-row-words;
  bare = bare-row-words;
}
