use Rattle.ssh_review.proofs.FileNameLemmas.{front-is-head}
use Rattle.ssh_review.specs.FileNames.{file_head}
use Rattle.ssh_review.specs.declared.end.Form.TheVariants.{Json}
use Rattle.ssh_review.proofs.ObjectLemmas.{entry-line, unreadable-line}
use Rattle.ssh_review.proofs.PrintableLemmas.{string-printable}
use Rattle.ssh_review.proofs.laws.json_lines_rule.Goals as goal

pub returns : goal.returns
returns c = record {
  string = λ text h. (string-printable text h).all;
  entry = λ name n f options shadowed_by lets_in found h k l. entry-line (file_head Json name) n f options shadowed_by lets_in found (front-is-head Json name h) k l;
  unreadable = λ name n held found h k. unreadable-line (file_head Json name) n held found (front-is-head Json name h) k;
}
