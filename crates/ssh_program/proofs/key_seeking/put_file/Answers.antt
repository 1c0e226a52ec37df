use Rattle.ssh_program.proofs.Imports.{asking_of, err_from_is_err_and}
use Rattle.ssh_review.specs.FileNames.{name_seen}
use Rattle.ssh_program.proofs.KeySeekingLemmas.{key_nothing_put}
use Rattle.ssh_program.proofs.key_seeking.put_file.Goals as goal

pub returns-in_err-head-clause-reported : goal.returns-in_err-head-clause-reported
returns-in_err-head-clause-reported g c =
    let p = err_from_is_err_and c.from_residual.result c.from_residual.ensures.1 in
    rw (p.1, p.2) (key_nothing_put c.args.wanted.now c.args.kind c.args.form (asking_of c.args.asked.now) (name_seen c.args.name) (g.F.Files.source_state c.args.files.now) (g.W.Sink.account c.args.writer.now))
