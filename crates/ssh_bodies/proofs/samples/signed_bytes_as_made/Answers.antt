use Rattle.ssh_bodies.proofs.Imports.{refl}
use Rattle.sha2.specs.Sha256.{first_words, schedule, rounds, compress, hash_after, digest_bytes, sha256}
use Rattle.ssh_bodies.specs.Sshsig.{signed_bytes}
use Rattle.ssh_bodies.proofs.samples.signed_bytes_as_made.Goals as goal

pub returns : goal.returns
unfolding signed_bytes first_words schedule rounds compress hash_after digest_bytes sha256
returns c = refl
