use Rattle.ssh_files.proofs.Imports.{ne_eqb, wanted_of}
use Rattle.ssh_files.proofs.SeekerLemmas.{byte_taken}
use Rattle.ssh_files.proofs.seeker.Seeker.take_byte.Goals as goal

pub returns-else-byte-eq10 : goal.returns-else-byte-eq10
returns-else-byte-eq10 c text =
    let self = c.args.self.now in
    byte_taken self.fault self.found (wanted_of self.wanted) self.number self.place c.next_place-self.result c.args.byte text
    (ne_eqb c.args.byte 10 c.if-byte-eq10.false) c.next_place-self.ensures.begun c.next_place-self.ensures.rest
