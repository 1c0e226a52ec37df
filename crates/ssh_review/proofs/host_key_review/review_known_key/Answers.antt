use Rattle.ssh_review.proofs.Imports.{AsLines, asking_of}
use Rattle.ssh_review.specs.KeyReviews.{key_review}
use Rattle.ssh_review.proofs.HostStepLemmas.{known-key-whole}
use Rattle.ssh_review.proofs.host_key_review.review_known_key.Goals as goal

pub returns-in_ok-whole : goal.returns-in_ok-whole
returns-in_ok-whole c =
    known-key-whole c.args.wanted.now c.args.form (asking_of c.args.asked.now) c.args.head.now c.args.file.now (key_review c.in_ok-whole.whole) c.if-file-gt-FILE_LIMIT.false
    (c.in_ok-whole.ensures _ _ (c.known_key_records-begun.ensures (AsLines c.args.form) (asking_of c.args.asked.now) c.args.head.now))
