use Rattle.ssh_review.proofs.FileNameLemmas.{front-is-head}
use Rattle.ssh_review.specs.FileNames.{file_head}
use Rattle.ssh_review.specs.declared.end.Form.TheVariants.{Json}
use Rattle.ssh_review.proofs.EndLemmas.{end-line, fault-line, total-line}
use Rattle.ssh_review.proofs.RecordLemmas.{record-line}
use Rattle.ssh_review.proofs.laws.one_line_rule.Goals as goal

pub returns : goal.returns
returns c = record {
  one = λ asking name earlier n line h k. record-line asking (file_head Json name) earlier n line (front-is-head Json name h) k;
  end = λ name counts digest h k. end-line (file_head Json name) counts digest (front-is-head Json name h) k;
  fault = λ name fault h. fault-line (file_head Json name) fault (front-is-head Json name h);
  total = total-line;
}
