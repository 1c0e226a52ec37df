use Rattle.ssh_bodies.proofs.Imports.{arith}
use Rattle.ssh_bodies.proofs.Making.{sshsig_from_takes, sshsig_from_only, sshsig_from_refused}
use Rattle.ssh_bodies.proofs.sshsig_view.SshsigView.from_fields.Goals as goal

pub returns-in-Ok-clause-found : goal.returns-in-Ok-clause-found
returns-in-Ok-clause-found c = sshsig_from_takes c.args.key_blob.now c.args.namespace.now c.args.reserved.now c.args.hash c.args.signature_blob.now _ (λ i. omega (arith, c.type_inv.key_blob i)) (λ i. omega (arith, c.type_inv.signature_blob i)) c.in-Ok.ensures

pub returns-in-Ok-clause-only : goal.returns-in-Ok-clause-only
returns-in-Ok-clause-only c = λ value is. sshsig_from_only c.args.key_blob.now c.args.namespace.now c.args.reserved.now c.args.hash c.args.signature_blob.now _ value c.in-Ok.ensures is

pub returns-in-Err-clause-only : goal.returns-in-Err-clause-only
returns-in-Err-clause-only c = λ value is. sshsig_from_refused c.args.key_blob.now c.args.namespace.now c.args.reserved.now c.args.hash c.args.signature_blob.now c.in-Err.e value c.in-Err.ensures is
