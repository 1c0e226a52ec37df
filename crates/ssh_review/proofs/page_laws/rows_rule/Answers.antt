use Rattle.ssh_review.proofs.PageRowLemmas.{host-rows-marks, rows-marks}
use Rattle.ssh_review.proofs.page_laws.rows_rule.Goals as goal

pub returns : goal.returns
returns c = record { login = rows-marks; host = host-rows-marks }
