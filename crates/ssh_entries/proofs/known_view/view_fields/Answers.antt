use Rattle.ssh_entries.proofs.Imports.{arith}
use Rattle.ssh_entries.proofs.LengthLemmas.{length_next}
use Rattle.ssh_entries.proofs.known_view.view_fields.Goals as goal

pub key_in_text-requires : goal.key_in_text-requires
key_in_text-requires c =
    let short = length_next c.args.key.now in
    let room = c.requires in
    rw c.in_ok-class.ensures.text (omega arith)
