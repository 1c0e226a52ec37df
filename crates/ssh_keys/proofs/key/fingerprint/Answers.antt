use Rattle.ssh_keys.proofs.Imports.{◌≡◌, ◌++◌, List, ℕ, ap, subst, ◌∙◌, IfOk, sha256, key_of}
use Rattle.ssh_keys.specs.Fingerprint.{digest_text_of, fingerprint_of}
use Rattle.ssh_keys.specs.PublicKey.{key_blob}
use Rattle.ssh_keys.proofs.key.fingerprint.Goals as goal

pub returns : goal.returns
unfolding fingerprint_of
returns c =
    let blob : c.write_key.new.out.items ≡ key_blob (key_of c.args.key.now) = c.in_ok-write_key.ensures.ok ∙ ap (λ (t : List ℕ). t ++ key_blob (key_of c.args.key.now)) c.new-blob.ensures.items in
    subst (λ (d : List ℕ). IfOk c.digest_text.result (λ text. text ≡ digest_text_of d)) (c.digest-digest.ensures ∙ ap sha256 blob) c.digest_text.ensures
