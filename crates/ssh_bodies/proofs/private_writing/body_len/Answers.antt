use Rattle.ssh_bodies.proofs.Imports.{◌≡◌, ℕ, ◌-◌, ◌%◌, length, ap, arith, key_of, PublicKey, private_key, public_of, least_padding, private_body}
use Rattle.ssh_keys.specs.PublicKey.{key_blob}
use Rattle.ssh_bodies.proofs.PrivateLaws.{body_length}
use Rattle.ssh_bodies.proofs.private_writing.body_len.Goals as goal

pub returns : goal.returns
returns c =
    let view = c.args.view.now in
    let key : length (key_blob (key_of view.public)) ≡ length (key_blob (public_of (private_key view.fields))) = ap (λ (k : PublicKey). length (key_blob k)) view.public_half in
    let pad : (8 - c.front_len-front.result % 8) % 8 ≡ least_padding (private_body view) = ap (λ (n : ℕ). (8 - n % 8) % 8) c.front_len-front.ensures.value in
    omega (arith, key, pad, c.key_len.ensures.value, c.front_len-front.ensures.value, body_length (private_body view) (least_padding (private_body view)))
