use Rattle.ssh_entries.proofs.Imports.{arith, sym}
use Rattle.ssh_entries.proofs.FrontLemmas.{fields-length}
use Rattle.ssh_entries.proofs.known_view.view_line.Goals as goal

pub view_known_fields-requires : goal.view_known_fields-requires
view_known_fields-requires c =
    let short = fields-length c.args.line.now c.in-Fields.body.now (sym c.in-Fields.ensures) in
    let room = c.requires in
    omega arith
