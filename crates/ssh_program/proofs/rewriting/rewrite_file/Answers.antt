use Rattle.ssh_program.proofs.Imports.{rules, response, new_file}
use Rattle.ssh_program.proofs.RewritingLemmas.{bounded, file_rewritten, file_unread}
use Rattle.ssh_program.proofs.rewriting.rewrite_file.Goals as goal

pub returns-in-Ok : goal.returns-in-Ok
returns-in-Ok g c =
    file_rewritten response (new_file c.args.kind) c.args.name.now c.in-Ok.file.items c.deref.result.now
    (g.F.Files.source_state c.args.files.now) (g.F.Files.source_state c.read_whole.new.files) c.respond_bytes.result
    (search rules) c.in-Ok.ensures.bytes c.respond_bytes.ensures

pub returns-in-Err : goal.returns-in-Err
returns-in-Err g c =
    file_unread response (new_file c.args.kind) c.args.name.now
    (g.F.Files.source_state c.args.files.now) (g.F.Files.source_state c.read_whole.new.files) c.in-Err.fault c.unread_trust.result (bounded c.args.kind)
    c.in-Err.ensures.bytes c.unread_trust.ensures
