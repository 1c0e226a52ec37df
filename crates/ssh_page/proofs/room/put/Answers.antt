use Rattle.std.proofs.Common.{arith, rules}
use Rattle.ssh_page.proofs.RoomLemmas.{stored_front}
use Rattle.ssh_page.proofs.room.put.Goals as goal

pub returns-clause-bytes : goal.returns-clause-bytes
returns-clause-bytes c =
    stored_front c.args.at _ c.args.len c.args.room.now c.copy_from_slice.new.self c.args.bytes.now (search rules) (omega (arith, c.requires.fit)) c.requires.within
