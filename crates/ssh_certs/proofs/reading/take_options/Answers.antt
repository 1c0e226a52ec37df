use Rattle.ssh_certs.proofs.Imports.{arith, cert_option_at, Options}
use Rattle.ssh_certs.proofs.PackedLists.{string_after, packed_refused}
use Rattle.ssh_certs.proofs.reading.take_options.Goals as goal

pub overflow_sub-first : goal.overflow_sub-first
overflow_sub-first c =
    let far = string_after c.args.cursor.now c.in_ok-packed.packed.now c.take_string.new.self c.in_ok-packed.ensures.exact in
    omega (arith, c.place.ensures)

pub returns-in-Err-clause-exact : goal.returns-in-Err-clause-exact
returns-in-Err-clause-exact c =
    packed_refused cert_option_at Options c.args.cursor.now c.in_ok-packed.packed.now c.take_string.new.self c.in-Err.e c.place.result c.in_ok-packed.ensures.exact c.in-Err.ensures.exact c.place.ensures
