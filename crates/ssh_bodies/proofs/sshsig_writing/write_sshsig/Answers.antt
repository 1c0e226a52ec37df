use Rattle.ssh_bodies.proofs.Imports.{◌<◌, ◌^◌, ℕ, List, length, refl, sym, subst, ap, arith, sshsig_of}
use Rattle.ssh_bodies.proofs.SshsigLaws.{strings_short, name_short}
use Rattle.ssh_bodies.proofs.Written.{wrote_sshsig}
use Rattle.ssh_bodies.proofs.sshsig_writing.write_sshsig.Goals as goal

pub encode-result-requires : goal.encode-result-requires
encode-result-requires c κs =
    let view = c.args.view.now in
    let short = strings_short (sshsig_of view) c.requires in
    let key : length view.key_blob.now < 2 ^ 32 = omega (arith, ap length view.key_spelled, c.requires.key.length) in
    let signature : length view.signature_blob.now < 2 ^ 32 = omega (arith, ap length view.signature_spelled, c.requires.signature.length) in
    let name : length c.name.result.now < 2 ^ 32 = subst (λ (t : List ℕ). length t < 2 ^ 32) (sym c.name.ensures) (name_short view.hash) in
    ((refl, tt), (omega arith, (key, (short.0, (short.1, (name, signature))))))

pub returns-else-is_err-clause-ok : goal.returns-else-is_err-clause-ok
returns-else-is_err-clause-ok c =
    let view = c.args.view.now in
    wrote_sshsig c.encode-result.result c.encode-result.new.out.items c.args.out.now.items c.extend_from_slice.new.self.items (sshsig_of view) view.key_blob.now c.name.result.now view.signature_blob.now
    c.in_ok-extend_from_slice.ensures.items view.key_spelled c.name.ensures view.signature_spelled c.encode-result.ensures.ok
