use Rattle.ssh_keys.proofs.Imports.{ℕ, List, sym, subst, ◌∙◌, PublicKey, IsKeyBlob}
use Rattle.ssh_keys.proofs.Blobs.{reported_blobs}
use Rattle.ssh_keys.proofs.key.KeyPartialEq.eq.Goals as goal

pub returns-clause-same : goal.returns-clause-same
returns-clause-same c =
    let a = c.args.self.now in
    let b = c.args.other.now in
    let one : IsKeyBlob a c.self.inside.blob.items = subst (λ (key : PublicKey). IsKeyBlob key c.self.inside.blob.items) c.self.view_is c.self.invariant in
    let two : IsKeyBlob b c.other.inside.blob.items = subst (λ (key : PublicKey). IsKeyBlob key c.other.inside.blob.items) c.other.view_is c.other.invariant in
    let reported = reported_blobs a b c.as_slice.result.now c.as_slice-2.result.now
    (subst (λ (bytes : List ℕ). IsKeyBlob a bytes) (sym c.as_slice.ensures.value) one)
    (subst (λ (bytes : List ℕ). IsKeyBlob b bytes) (sym c.as_slice-2.ensures.value) two) in
    (λ yes. reported.0 (sym c.eq.ensures ∙ yes), λ same. c.eq.ensures ∙ reported.1 same)
