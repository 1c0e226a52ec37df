use Rattle.ssh_program.proofs.Imports.{asking_of}
use Rattle.ssh_program.proofs.FileLemmas.{put-with_keys}
use Rattle.ssh_program.proofs.review.put_noted.Goals as goal

pub returns-clause-put : goal.returns-clause-put
returns-clause-put g c =
    put-with_keys c.args.kind c.args.show c.args.form (asking_of c.args.asked.now) c.args.head.now c.args.file.now c.args.earlier c.put_bytes_review-reported.new.keys (g.W.Sink.account c.args.writer.now) (g.W.Sink.account c.put_bytes_review-reported.new.writer)
    c.put_bytes_review-reported.result c.with_noted.result c.requires.limit c.put_bytes_review-reported.ensures.noted c.put_bytes_review-reported.ensures.put c.with_noted.ensures
