-- The file signature that a view represents.
use Rattle.ssh_keys.specs.KeyOf.{key_of}
use Rattle.ssh_keys.specs.Signature.{signature_of}
use Rattle.ssh_bodies.specs.declared.sshsig_view.SshsigView as declared
use Rattle.ssh_bodies.specs.Sshsig.{Sshsig}

abbrev pub sshsig_of : declared.SshsigView → Sshsig
sshsig_of v = record { key = key_of v.key; namespace = v.namespace.now; reserved = v.reserved.now; hash = v.hash; signature = signature_of v.signature }
