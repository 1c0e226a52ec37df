use Rattle.ssh_entries.proofs.Imports.{arith, bit_xor, get_or, get_or_default, map_over_more}
use Rattle.ssh_entries.proofs.HmacLemmas.{changed_length}
use Rattle.ssh_entries.proofs.hashed.xor_each.Goals as goal

pub loop-at-preserved : goal.loop-at-preserved
loop-at-preserved c =
    let at = c.loop-at.at in
    let old = get_or c.loop-at.mixed at 0 in
    let long = changed_length (λ b. bit_xor b c.args.pad) c.args.block.now c.loop-at.mixed at c.loop-at.invariant in
    map_over_more (λ b. bit_xor b c.args.pad) c.args.block.now c.loop-at.mixed at old (omega arith) c.loop-at.invariant
    (get_or_default c.loop-at.mixed at 0 old (omega (arith, long)))
