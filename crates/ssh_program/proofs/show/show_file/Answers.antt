use Rattle.ssh_program.proofs.Imports.{rules, response}
use Rattle.ssh_program.proofs.ShowLemmas.{file_shown, file_unshown}
use Rattle.ssh_program.proofs.show.show_file.Goals as goal

pub returns-in-Ok : goal.returns-in-Ok
returns-in-Ok g c =
    file_shown response c.args.kind c.args.name.now c.in-Ok.part.items c.deref.result.now
    (g.F.Files.source_state c.args.files.now) (g.F.Files.source_state c.read_shown.new.files) c.show.result
    (search rules) c.in-Ok.ensures c.show.ensures

pub returns-in-Err : goal.returns-in-Err
returns-in-Err g c =
    file_unshown response c.args.kind c.args.name.now
    (g.F.Files.source_state c.args.files.now) (g.F.Files.source_state c.read_shown.new.files) c.in-Err.fault c.unread.result
    c.in-Err.ensures c.unread.ensures
