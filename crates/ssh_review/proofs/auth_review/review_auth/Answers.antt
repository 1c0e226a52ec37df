use Rattle.ssh_review.proofs.Imports.{AsLines, ap, asking_of}
use Rattle.ssh_review.specs.KeyReviews.{KeyReview}
use Rattle.ssh_review.specs.Reviews.{review}
use Rattle.ssh_review.specs.declared.show.Show.TheVariants.{All}
use Rattle.ssh_review.proofs.StepLemmas.{auth-whole}
use Rattle.ssh_review.proofs.auth_review.review_auth.Goals as goal

pub returns-in_ok-whole : goal.returns-in_ok-whole
returns-in_ok-whole c =
    auth-whole c.args.form (asking_of c.args.asked.now) c.args.head.now c.args.file.now (review c.in_ok-whole.whole.review) c.if-file-gt-FILE_LIMIT.false
    (ap (λ (k : KeyReview). k.file) (c.in_ok-whole.ensures _ _ (c.auth_records-begun.ensures.left All (AsLines c.args.form) (asking_of c.args.asked.now) c.args.head.now)))
