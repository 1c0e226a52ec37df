use Rattle.ssh_program.proofs.Imports.{response}
use Rattle.ssh_program.proofs.VouchingLemmas.{held_signed, named_signed, nothing_signed}
use Rattle.ssh_program.proofs.vouching.respond_signed.Goals as goal

pub returns-in-Nothing : goal.returns-in-Nothing
returns-in-Nothing g c =
    nothing_signed response c.args.vouching.now c.args.signed (g.F.Files.source_state c.args.files.now) c.respond_by.result
    c.in-Nothing.is c.respond_by.ensures

pub returns-in-Held : goal.returns-in-Held
returns-in-Held g c =
    held_signed response c.args.vouching.now c.args.signed c.in-Held.vouches c.has-is_vouched.result
    (g.F.Files.source_state c.args.files.now) c.respond_by-in-Held.result
    c.in-Held.is c.has-is_vouched.ensures c.respond_by-in-Held.ensures

pub returns-in-Named : goal.returns-in-Named
returns-in-Named g c =
    named_signed response c.args.vouching.now c.in-Named.name c.args.signed
    (g.F.Files.source_state c.args.files.now) (g.F.Files.source_state c.respond_again.new.files) c.respond_again.result
    c.in-Named.is c.respond_again.ensures
