use Rattle.ssh_review.proofs.FileNameLemmas.{front-is-head}
use Rattle.ssh_review.specs.FileNames.{file_head}
use Rattle.ssh_review.specs.declared.end.Form.TheVariants.{Json}
use Rattle.ssh_review.proofs.HostReviewLemmas.{record-line}
use Rattle.ssh_review.proofs.laws.host_one_line_rule.Goals as goal

pub returns : goal.returns
returns c asking name earlier n line h k = record-line asking (file_head Json name) earlier n line (front-is-head Json name h) k
