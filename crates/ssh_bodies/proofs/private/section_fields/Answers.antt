use Rattle.ssh_bodies.proofs.Imports.{sym, ◌∙◌, public_key, private_key}
use Rattle.ssh_bodies.proofs.PrivateKeyLaws.{private_half}
use Rattle.ssh_bodies.proofs.private.section_fields.Goals as goal

pub invariant_of-result : goal.invariant_of-result
invariant_of-result c =
    let half = private_half (public_key c.fields.result) c.take_section_head.new.cursor ((private_key c.in_ok-fields.fields, c.in_ok-fields.is_public), c.take_private.new.cursor) c.in_ok-fields.ensures c.if-not-is_public.false in
    record { public_half = sym c.fields.ensures ∙ sym half }
