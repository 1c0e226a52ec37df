use Rattle.ssh_bodies.proofs.Imports.{◌≡◌, ℕ, List, length, ap, arith, string, hash_name, sshsig_of}
use Rattle.ssh_bodies.proofs.SshsigLaws.{sshsig_length}
use Rattle.ssh_bodies.proofs.sshsig_writing.body_len.Goals as goal

pub returns : goal.returns
returns c =
    let view = c.args.view.now in
    let named : length (string c.name.result.now) ≡ length (string (hash_name view.hash)) = ap (λ (t : List ℕ). length (string t)) c.name.ensures in
    let all = sshsig_length (sshsig_of view) view.key_blob.now view.signature_blob.now view.key_spelled view.signature_spelled in
    omega (arith, named, all, c.string_len.ensures.value, c.string_len-2.ensures.value, c.string_len-3.ensures.value, c.string_len-4.ensures.value, c.string_len-5.ensures.value)
