use Rattle.ssh_print.proofs.StandInLemmas.{stand_in_signs}
use Rattle.ssh_print.proofs.asked_key.stand_in.Goals as goal

pub write_signature-requires : goal.write_signature-requires
write_signature-requires c = rw (c.signature_algorithm.ensures, c.security_key.ensures) (stand_in_signs c.args.kind)
