use Rattle.ssh_review.proofs.FileNameLemmas.{front-is-head}
use Rattle.ssh_review.specs.FileNames.{file_head}
use Rattle.ssh_review.proofs.ReviewLemmas.{fault-shown, review-shown, total-shown}
use Rattle.ssh_review.proofs.laws.shown_rule.Goals as goal

pub returns : goal.returns
returns c = record {
  review = λ form asking name file h k. (review-shown form asking (file_head form name) file (front-is-head form name h) k).all;
  fault = λ form name fault h. (fault-shown form (file_head form name) fault (front-is-head form name h)).all;
  total = λ form kind zone asking t h k. (total-shown form kind zone asking t h k).all;
}
