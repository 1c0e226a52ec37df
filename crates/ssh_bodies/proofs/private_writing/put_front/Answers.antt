use Rattle.ssh_bodies.proofs.Imports.{ap, ◌∙◌, arith, key_name_of, PublicKey, kind_of, private_body}
use Rattle.ssh_bodies.proofs.PrivateLaws.{front_length, wrote_front}
use Rattle.ssh_bodies.proofs.private_writing.put_front.Goals as goal

pub put_fields-requires : goal.put_fields-requires
put_fields-requires c = omega (arith, c.requires, front_length (private_body c.args.view.now))

pub put-requires-2 : goal.put-requires-2
put-requires-2 c = omega (arith, c.requires, front_length (private_body c.args.view.now))

pub returns-clause-ok : goal.returns-clause-ok
returns-clause-ok c =
    let view = c.args.view.now in
    let named = c.name.ensures ∙ ap key_name_of c.kind.ensures ∙ ap (λ (k : PublicKey). key_name_of (kind_of k)) view.public_half in
    wrote_front c.put-2.result (private_body view) c.args.out.now.items c.put.new.out.items c.put_fields.new.out.items c.put-2.new.out.items c.name.result.now c.in_ok-put.ensures.ok named c.in_ok-put_fields.ensures.ok c.put-2.ensures.ok
