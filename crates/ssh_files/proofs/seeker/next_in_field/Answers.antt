use Rattle.ssh_files.proofs.Imports.{ne_eqb, wanted_of}
use Rattle.ssh_files.proofs.SeekerLemmas.{field_byte}
use Rattle.ssh_files.proofs.seeker.next_in_field.Goals as goal

pub returns-else-byte-eq32 : goal.returns-else-byte-eq32
returns-else-byte-eq32 c text =
    field_byte (wanted_of c.args.wanted) c.args.field c.args.byte text c.add_to_field.result
    (ne_eqb c.args.byte 32 c.if-byte-eq32.false) c.add_to_field.ensures.name c.add_to_field.ensures.rest
