use Rattle.ssh_bodies.proofs.Imports.{arith}
use Rattle.ssh_bodies.proofs.SshsigLaws.{sshsig_takes, sshsig_only, sshsig_refused}
use Rattle.ssh_bodies.proofs.SshsigFaults.{sshsig_fault}
use Rattle.ssh_bodies.proofs.sshsig.read_sshsig.Goals as goal

pub returns-in-Ok-clause-found : goal.returns-in-Ok-clause-found
returns-in-Ok-clause-found c = sshsig_takes c.args.bytes.now _ (λ i. omega (arith, c.type_inv.bytes i)) c.in-Ok.ensures

pub returns-in-Ok-clause-only : goal.returns-in-Ok-clause-only
returns-in-Ok-clause-only c = λ value blob. sshsig_only c.args.bytes.now _ value c.in-Ok.ensures blob

pub returns-in-Err-clause-only : goal.returns-in-Err-clause-only
returns-in-Err-clause-only c = λ value blob. sshsig_refused c.args.bytes.now _ value c.in-Err.ensures blob

pub returns-in-Err-clause-first : goal.returns-in-Err-clause-first
returns-in-Err-clause-first c = sshsig_fault c.args.bytes.now c.in-Err.e (λ i. omega (arith, c.type_inv.bytes i)) c.in-Err.ensures
