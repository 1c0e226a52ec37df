use Rattle.ssh_entries.proofs.Imports.{arith}
use Rattle.ssh_entries.proofs.LengthLemmas.{length-word}
use Rattle.ssh_entries.proofs.key_view.key_of_kind.Goals as goal

pub decode_into-requires : goal.decode_into-requires
decode_into-requires c =
    let short = length-word c.args.text.now in
    let room = c.requires in
    rw c.split_word.ensures.word (omega arith)
