use Rattle.ssh_program.proofs.Imports.{asking_of, err_from_is_err_and}
use Rattle.ssh_review.specs.FileNames.{name_seen}
use Rattle.ssh_program.proofs.FileLemmas.{nothing_put}
use Rattle.ssh_program.proofs.review.put_file.Goals as goal

pub returns-in_err-head-clause-reported : goal.returns-in_err-head-clause-reported
returns-in_err-head-clause-reported g c =
    let p = err_from_is_err_and c.from_residual.result c.from_residual.ensures.1 in
    rw (p.1, p.2) (nothing_put c.args.kind c.args.show c.args.form (asking_of c.args.asked.now) (name_seen c.args.name) c.args.keys (g.F.Files.source_state c.args.files.now) (g.W.Sink.account c.args.writer.now))
