use Rattle.ssh_bodies.proofs.Imports.{◌≡◌, ℕ, ◌-◌, ◌%◌, ◌+◌, [], ◌∷◌, ◌++◌, take, length, ap, ◌∙◌, arith, key_of, least_padding, private_body}
use Rattle.ssh_keys.specs.PublicKey.{key_blob}
use Rattle.ssh_bodies.specs.PrivateKey.{section_front}
use Rattle.ssh_bodies.proofs.PrivateLaws.{body_length, wrote_in_turn}
use Rattle.ssh_bodies.proofs.Written.{kept_after, on_failure}
use Rattle.ssh_bodies.proofs.private_writing.put_body.Goals as goal

pub overflow_cast-front : goal.overflow_cast-front
overflow_cast-front c = omega (arith, c.requires.length, body_length (private_body c.args.view.now) (least_padding (private_body c.args.view.now)), c.front_len-front.ensures.value)

pub overflow_add-front : goal.overflow_add-front
overflow_add-front c = omega (arith, c.requires.length, body_length (private_body c.args.view.now) (least_padding (private_body c.args.view.now)), c.front_len-front.ensures.value)

pub overflow_cast-front-2 : goal.overflow_cast-front-2
overflow_cast-front-2 c = omega (arith, c.requires.length, body_length (private_body c.args.view.now) (least_padding (private_body c.args.view.now)), c.front_len-front.ensures.value)

pub returns-in_err-put-2-clause-err : goal.returns-in_err-put-2-clause-err
returns-in_err-put-2-clause-err c =
    on_failure c.from_residual-in_err-put-2.result _
    (kept_after c.args.out.now.items c.extend_from_slice.new.self.items _ c.put-2.new.out.items c.in_ok-extend_from_slice.ensures.items
    (kept_after c.extend_from_slice.new.self.items c.put.new.out.items _ c.put-2.new.out.items c.in_ok-put.ensures.ok
    (kept_after c.put.new.out.items c.write_key.new.out.items _ c.put-2.new.out.items c.in_ok-write_key.ensures.ok c.in_err-put-2.ensures.err)))

pub put_front-requires : goal.put_front-requires
put_front-requires c = omega (arith, c.requires.length, body_length (private_body c.args.view.now) (least_padding (private_body c.args.view.now)))

pub returns-in_err-put_front-clause-err : goal.returns-in_err-put_front-clause-err
returns-in_err-put_front-clause-err c =
    on_failure c.from_residual-in_err-put_front.result _
    (kept_after c.args.out.now.items c.extend_from_slice.new.self.items _ c.put_front.new.out.items c.in_ok-extend_from_slice.ensures.items
    (kept_after c.extend_from_slice.new.self.items c.put.new.out.items _ c.put_front.new.out.items c.in_ok-put.ensures.ok
    (kept_after c.put.new.out.items c.write_key.new.out.items _ c.put_front.new.out.items c.in_ok-write_key.ensures.ok
    (kept_after c.write_key.new.out.items c.put-2.new.out.items _ c.put_front.new.out.items c.in_ok-put-2.ensures.ok c.in_err-put_front.ensures.err))))

pub returns-clause-ok : goal.returns-clause-ok
returns-clause-ok c =
    let view = c.args.view.now in
    let v = private_body view in
    let padding : (8 - c.front_len-front.result % 8) % 8 ≡ least_padding v = ap (λ (n : ℕ). (8 - n % 8) % 8) c.front_len-front.ensures.value in
    let n : c.front_len-front.result + (8 - c.front_len-front.result % 8) % 8 ≡ length (section_front v) + least_padding v = ap (λ (n : ℕ). n + (8 - n % 8) % 8) c.front_len-front.ensures.value in
    wrote_in_turn v c.args.out.now.items c.extend_from_slice.new.self.items c.put.new.out.items c.write_key.new.out.items c.put-2.new.out.items c.put_front.new.out.items c.extend_from_slice-2.new.self.items (key_blob (key_of view.public)) c.key_len.result (c.front_len-front.result + (8 - c.front_len-front.result % 8) % 8)
    c.in_ok-extend_from_slice.ensures.items c.in_ok-put.ensures.ok c.key_len.ensures.value c.in_ok-write_key.ensures.ok c.in_ok-put-2.ensures.ok n (ap key_blob view.public_half) c.in_ok-put_front.ensures.ok
    (c.in_ok-extend_from_slice-2.ensures.items ∙ ap (λ (k : ℕ). c.put_front.new.out.items ++ take k (1 ∷ 2 ∷ 3 ∷ 4 ∷ 5 ∷ 6 ∷ 7 ∷ [])) padding)
