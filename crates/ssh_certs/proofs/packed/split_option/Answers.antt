use Rattle.ssh_certs.proofs.Imports.{arith, cert_option_at, option_in_packed}
use Rattle.ssh_certs.proofs.Items.{spelled_option, FitsOption, option_item, none_left, next_left}
use Rattle.ssh_certs.proofs.packed.split_option.Goals as goal

pub returns-in-Ok-clause-first : goal.returns-in-Ok-clause-first
returns-in-Ok-clause-first c =
    let next = next_left spelled_option FitsOption cert_option_at option_item c.args.packed.now c.new-cursor.result (option_in_packed c.in-Ok.option) c.take_option.new.cursor c.new-cursor.ensures (λ i. omega (arith, c.type_inv.packed i)) c.requires c.in-Ok.ensures in
    rw c.rest.ensures next.first

pub returns-in-Ok-clause-read : goal.returns-in-Ok-clause-read
returns-in-Ok-clause-read c =
    let next = next_left spelled_option FitsOption cert_option_at option_item c.args.packed.now c.new-cursor.result (option_in_packed c.in-Ok.option) c.take_option.new.cursor c.new-cursor.ensures (λ i. omega (arith, c.type_inv.packed i)) c.requires c.in-Ok.ensures in
    rw c.rest.ensures next.read

pub returns-in-Err-clause-first : goal.returns-in-Err-clause-first
returns-in-Err-clause-first c = none_left spelled_option FitsOption cert_option_at option_item c.args.packed.now c.new-cursor.result c.in-Err.field-0 c.new-cursor.ensures c.requires c.in-Err.ensures
