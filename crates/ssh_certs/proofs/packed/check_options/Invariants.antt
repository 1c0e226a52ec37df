use Rattle.ssh_certs.proofs.Imports.{length, cert_option_at}
use Rattle.ssh_certs.proofs.Items.{GoesOn}
use Rattle.ssh_certs.proofs.packed.check_options.Given as goal

abbrev pub invariant-loop-cursor : goal.invariant-loop-cursor
invariant-loop-cursor l = GoesOn cert_option_at l.packed l.cursor

abbrev pub decreases-loop-cursor : goal.decreases-loop-cursor
decreases-loop-cursor l = length l.cursor.rest
