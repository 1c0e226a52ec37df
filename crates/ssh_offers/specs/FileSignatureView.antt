-- The value of a file signature that is read in place.
use Rattle.ssh_bodies.specs.Sshsig.{Sshsig}
use Rattle.ssh_bodies.specs.SshsigOf.{sshsig_of}
use Rattle.ssh_offers.specs.declared.claim.SshsigClaimView.{SshsigClaimView}

abbrev pub sshsig_claim_of : SshsigClaimView → Sshsig
sshsig_claim_of c = sshsig_of c.file_signature
