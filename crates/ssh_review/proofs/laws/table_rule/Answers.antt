use Rattle.ssh_review.proofs.FileNameLemmas.{front-is-head}
use Rattle.ssh_review.specs.FileNames.{file_head}
use Rattle.ssh_review.specs.declared.end.Form.TheVariants.{Line}
use Rattle.ssh_page.specs.declared.file.FileKind.TheVariants.{AuthorizedKeys, KnownHosts}
use Rattle.ssh_review.proofs.HostReviewLemmas.{record-row as host-record-row}
use Rattle.ssh_review.proofs.RecordLemmas.{record-row}
use Rattle.ssh_review.proofs.TableLemmas.{end-is-row, fault-is-row, total-is-row}
use Rattle.ssh_review.proofs.laws.table_rule.Goals as goal

pub returns : goal.returns
returns c = record {
  one = λ asking name earlier n line h k. record-row AuthorizedKeys asking (file_head (Line AuthorizedKeys) name) earlier n line (front-is-head (Line AuthorizedKeys) name h) k;
  host = λ asking name earlier n line h k. host-record-row KnownHosts asking (file_head (Line KnownHosts) name) earlier n line (front-is-head (Line KnownHosts) name h) k;
  end = λ kind name counts digest h k. end-is-row kind (file_head (Line kind) name) counts digest (front-is-head (Line kind) name h) k;
  fault = λ kind name fault h. fault-is-row kind (file_head (Line kind) name) fault (front-is-head (Line kind) name h);
  total = λ kind word zone asking t h. total-is-row kind zone asking t h;
}
