use Rattle.ssh_print.proofs.Imports.{◌≡◌, ◌∙◌, false, true, ap, arith, w64, pos, ◌*ℤ◌, to_z_pos, signed_arith, signed_nanos}
use Rattle.ssh_print.proofs.show_key.clock_at.Goals as goal

pub unreachable-requires : goal.unreachable-requires
unreachable-requires c =
    let low = c.if-moment-gt-LAST_SECOND.false in
    let nanos : signed_nanos c.from_secs.result ≡ pos c.args.moment *ℤ pos 1000000000 =
    c.from_secs.ensures ∙ ap (λ z. z *ℤ pos 1000000000) (to_z_pos w64 c.args.moment (omega (arith, low))) in
    let zero = c.epoch.ensures in
    let fails : false ≡ true = c.in-Err.ensures.succeeds.1 (omega (arith, signed_arith, nanos, zero, low), omega (arith, signed_arith, nanos, zero, low)) in
    cc

pub returns : goal.returns
returns c =
    let low = c.if-moment-gt-LAST_SECOND.false in
    let nanos : signed_nanos c.from_secs.result ≡ pos c.args.moment *ℤ pos 1000000000 =
    c.from_secs.ensures ∙ ap (λ z. z *ℤ pos 1000000000) (to_z_pos w64 c.args.moment (omega (arith, low))) in
    let zero = c.epoch.ensures in
    let sum = c.in-Ok.ensures.value in
    (omega (arith, low), omega (arith, signed_arith, nanos, zero, sum))
