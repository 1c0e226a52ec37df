use Rattle.ssh_program.proofs.Imports.{response}
use Rattle.ssh_program.proofs.VouchingLemmas.{again_unread, faulty_responds, wanted_responds}
use Rattle.ssh_program.proofs.vouching.respond_again.Goals as goal

pub returns-in-Ok-Ok : goal.returns-in-Ok-Ok
returns-in-Ok-Ok g c =
    wanted_responds response c.args.name.now c.args.signed c.in-Ok-Ok.found
    (g.F.Files.source_state c.args.files.now) (g.F.Files.source_state c.seek_vouched.new.files) c.respond_by.result
    (rw c.in-Ok-Ok.field-0-is at c.in-Ok-Ok.ensures.bytes) c.respond_by.ensures

pub returns-in-Ok-Err : goal.returns-in-Ok-Err
returns-in-Ok-Err g c =
    faulty_responds response c.args.name.now c.args.signed c.in-Ok-Err.number
    (g.F.Files.source_state c.args.files.now) (g.F.Files.source_state c.seek_vouched.new.files) c.vouch_fault.result
    (rw c.in-Ok-Err.field-0-is at c.in-Ok-Err.ensures.bytes)

pub returns-in-Err : goal.returns-in-Err
returns-in-Err g c =
    again_unread response c.args.name.now c.args.signed
    (g.F.Files.source_state c.args.files.now) (g.F.Files.source_state c.seek_vouched.new.files) c.in-Err.fault c.unread.result
    c.in-Err.ensures.bytes c.unread.ensures
