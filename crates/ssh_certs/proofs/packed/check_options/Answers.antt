use Rattle.ssh_certs.proofs.Imports.{◌≡◌, ◌<◌, length, rules, err_from_is_err_and, cert_option_at, option_in_packed}
use Rattle.ssh_certs.proofs.Items.{spelled_option, FitsOption, option_item, goes_on, shorter, ends, is_done}
use Rattle.ssh_certs.proofs.packed.check_options.Goals as goal

pub loop-cursor-smaller : goal.loop-cursor-smaller
loop-cursor-smaller c = shorter spelled_option FitsOption cert_option_at option_item c.args.packed.now c.loop-cursor.cursor (option_in_packed c.in_ok-take_option.field-0) c.take_option.new.cursor c.in_ok-take_option.ensures c.loop-cursor.invariant

pub loop-cursor-preserved : goal.loop-cursor-preserved
loop-cursor-preserved c =
    let some : 0 < length c.loop-cursor.cursor.rest = search rules in
    goes_on spelled_option FitsOption cert_option_at option_item c.args.packed.now c.loop-cursor.cursor (option_in_packed c.in_ok-take_option.field-0) c.take_option.new.cursor some c.in_ok-take_option.ensures c.loop-cursor.invariant

pub returns-in_err-take_option-clause-exact : goal.returns-in_err-take_option-clause-exact
returns-in_err-take_option-clause-exact c =
    let p = err_from_is_err_and c.from_residual.result c.from_residual.ensures.1 in
    let some : 0 < length c.loop-cursor.cursor.rest = search rules in
    let fault = ends spelled_option FitsOption cert_option_at option_item c.args.packed.now c.loop-cursor.cursor c.in_err-take_option.field-0.0 some c.in_err-take_option.ensures c.loop-cursor.invariant in
    rw (p.1, p.2) fault.0

pub returns-in_err-take_option-clause-within : goal.returns-in_err-take_option-clause-within
returns-in_err-take_option-clause-within c =
    let p = err_from_is_err_and c.from_residual.result c.from_residual.ensures.1 in
    let some : 0 < length c.loop-cursor.cursor.rest = search rules in
    let fault = ends spelled_option FitsOption cert_option_at option_item c.args.packed.now c.loop-cursor.cursor c.in_err-take_option.field-0.0 some c.in_err-take_option.ensures c.loop-cursor.invariant in
    rw (p.1, p.2) fault.1

pub returns-clause-exact : goal.returns-clause-exact
returns-clause-exact c =
    let none : length c.loop-cursor.cursor.rest ≡ 0 = search rules in
    is_done spelled_option FitsOption cert_option_at option_item c.args.packed.now c.loop-cursor.cursor none c.loop-cursor.invariant
