use Rattle.ssh_certs.proofs.Imports.{◌≡◌, ◌<◌, length, rules, err_from_is_err_and, string}
use Rattle.ssh_wire.specs.Reading.{string_at}
use Rattle.ssh_certs.proofs.Items.{FitsString, string_item, goes_on, shorter, ends, is_done}
use Rattle.ssh_certs.proofs.packed.check_principals.Goals as goal

pub loop-cursor-smaller : goal.loop-cursor-smaller
loop-cursor-smaller c = shorter string FitsString string_at string_item c.args.packed.now c.loop-cursor.cursor c.in_ok-take_string.field-0.now c.take_string.new.self c.in_ok-take_string.ensures.exact c.loop-cursor.invariant

pub loop-cursor-preserved : goal.loop-cursor-preserved
loop-cursor-preserved c =
    let some : 0 < length c.loop-cursor.cursor.rest = search rules in
    goes_on string FitsString string_at string_item c.args.packed.now c.loop-cursor.cursor c.in_ok-take_string.field-0.now c.take_string.new.self some c.in_ok-take_string.ensures.exact c.loop-cursor.invariant

pub returns-in_err-take_string-clause-exact : goal.returns-in_err-take_string-clause-exact
returns-in_err-take_string-clause-exact c =
    let p = err_from_is_err_and c.from_residual.result c.from_residual.ensures.1 in
    let some : 0 < length c.loop-cursor.cursor.rest = search rules in
    let fault = ends string FitsString string_at string_item c.args.packed.now c.loop-cursor.cursor c.in_err-take_string.field-0.0 some c.in_err-take_string.ensures.exact.0 c.loop-cursor.invariant in
    rw (p.1, p.2) fault.0

pub returns-in_err-take_string-clause-within : goal.returns-in_err-take_string-clause-within
returns-in_err-take_string-clause-within c =
    let p = err_from_is_err_and c.from_residual.result c.from_residual.ensures.1 in
    let some : 0 < length c.loop-cursor.cursor.rest = search rules in
    let fault = ends string FitsString string_at string_item c.args.packed.now c.loop-cursor.cursor c.in_err-take_string.field-0.0 some c.in_err-take_string.ensures.exact.0 c.loop-cursor.invariant in
    rw (p.1, p.2) fault.1

pub returns-clause-exact : goal.returns-clause-exact
returns-clause-exact c =
    let none : length c.loop-cursor.cursor.rest ≡ 0 = search rules in
    is_done string FitsString string_at string_item c.args.packed.now c.loop-cursor.cursor none c.loop-cursor.invariant
