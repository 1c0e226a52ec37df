use Rattle.ssh_certs.proofs.Imports.{length, take, ap, arith, flat_map, length-flat_map-take, err_from_is_err_and}
use Rattle.ssh_certs.proofs.Written.{keeps_more}
use Rattle.ssh_certs.proofs.writing.put_all.Goals as goal

pub put-requires : goal.put-requires
put-requires g c =
    let spelling = g.T.Spelled.spelling in
    let within = length-flat_map-take spelling c.args.items.now c.loop-item.item-index c.item-item.result c.loop-item-test.true in
    omega (arith, within, ap (λ (x : _). length (spelling x)) c.item-item.is, c.requires)

pub returns-in_err-put-clause-err : goal.returns-in_err-put-clause-err
returns-in_err-put-clause-err g c =
    let p = err_from_is_err_and c.from_residual.result c.from_residual.ensures.1 in
    let before = flat_map g.T.Spelled.spelling (take c.loop-item.item-index c.args.items.now) in
    rw p.1 (keeps_more c.args.out.now.items before c.loop-item.out.items c.put.new.out.items c.loop-item.invariant c.in_err-put.ensures.err)
