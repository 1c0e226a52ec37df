use Rattle.ssh_review.proofs.FileNameLemmas.{front-is-head}
use Rattle.ssh_review.specs.FileNames.{file_head}
use Rattle.ssh_review.proofs.HostReviewLemmas.{review-shown}
use Rattle.ssh_review.proofs.laws.host_shown_rule.Goals as goal

pub returns : goal.returns
returns c form asking name file h k = (review-shown form asking (file_head form name) file (front-is-head form name h) k).all
