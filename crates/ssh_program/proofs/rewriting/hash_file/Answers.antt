use Rattle.ssh_program.proofs.Imports.{rules, response}
use Rattle.ssh_program.proofs.HashingLemmas.{salts_read, salts_unread}
use Rattle.ssh_program.proofs.rewriting.hash_file.Goals as goal

pub returns-in-Ok : goal.returns-in-Ok
returns-in-Ok g c =
    salts_read response c.args.trust.now c.args.salts.now c.in-Ok.bytes.items c.deref.result.now
    (g.F.Files.source_state c.args.files.now) (g.F.Files.source_state c.read_whole.new.files) (g.F.Files.source_state c.respond_salts.new.files)
    c.respond_salts.result (search rules) c.in-Ok.ensures.bytes c.respond_salts.ensures

pub returns-in-Err : goal.returns-in-Err
returns-in-Err g c =
    salts_unread response c.args.trust.now c.args.salts.now
    (g.F.Files.source_state c.args.files.now) (g.F.Files.source_state c.read_whole.new.files) c.in-Err.fault c.unread.result
    c.in-Err.ensures.bytes c.unread.ensures
