use Rattle.ssh_certs.proofs.Imports.{arith, string}
use Rattle.ssh_wire.specs.Reading.{string_at}
use Rattle.ssh_certs.proofs.Items.{FitsString, string_item, none_left, next_left}
use Rattle.ssh_certs.proofs.packed.split_name.Goals as goal

pub returns-in-Ok-clause-first : goal.returns-in-Ok-clause-first
returns-in-Ok-clause-first c =
    let next = next_left string FitsString string_at string_item c.args.packed.now c.new-cursor.result c.in-Ok.name.now c.take_string.new.self c.new-cursor.ensures (λ i. omega (arith, c.type_inv.packed i)) c.requires c.in-Ok.ensures.exact in
    rw c.rest.ensures next.first

pub returns-in-Ok-clause-read : goal.returns-in-Ok-clause-read
returns-in-Ok-clause-read c =
    let next = next_left string FitsString string_at string_item c.args.packed.now c.new-cursor.result c.in-Ok.name.now c.take_string.new.self c.new-cursor.ensures (λ i. omega (arith, c.type_inv.packed i)) c.requires c.in-Ok.ensures.exact in
    rw c.rest.ensures next.read

pub returns-in-Err-clause-first : goal.returns-in-Err-clause-first
returns-in-Err-clause-first c = none_left string FitsString string_at string_item c.args.packed.now c.new-cursor.result c.in-Err.field-0 c.new-cursor.ensures c.requires c.in-Err.ensures.exact.0
