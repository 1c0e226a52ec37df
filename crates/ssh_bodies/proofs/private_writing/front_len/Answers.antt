use Rattle.ssh_bodies.proofs.Imports.{◌≡◌, ℕ, List, length, ap, ◌∙◌, arith, concat, string, key_name_of, PublicKey, kind_of, fields_of, public_key, private_key, public_of, private_body}
use Rattle.ssh_bodies.proofs.PrivateLaws.{front_length}
use Rattle.ssh_bodies.proofs.private_writing.front_len.Goals as goal

pub returns-clause-value : goal.returns-clause-value
returns-clause-value c =
    let view = c.args.view.now in
    let half = public_of (private_key view.fields) in
    let named = c.name.ensures ∙ ap key_name_of c.kind.ensures ∙ ap (λ (k : PublicKey). key_name_of (kind_of k)) view.public_half in
    let name : length (string c.name.result.now) ≡ length (string (key_name_of (kind_of half))) = ap (λ (t : List ℕ). length (string t)) named in
    let public : length (concat (fields_of (public_key c.public_half.result))) ≡ length (concat (fields_of half)) = ap (λ (k : PublicKey). length (concat (fields_of k))) c.public_half.ensures in
    omega (arith, name, public, c.string_len-name.ensures.value, c.public_len.ensures.value, c.secret_len.ensures.value, c.string_len.ensures.value, front_length (private_body view))
