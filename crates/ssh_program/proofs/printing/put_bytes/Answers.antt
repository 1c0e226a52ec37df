use Rattle.ssh_program.proofs.Imports.{◌≡◌, ◌++◌, ◌-◌, drop, take, length, arith, common_steps}
use Rattle.ssh_program.proofs.WrittenText.{more, unfailed}
use Rattle.ssh_program.proofs.printing.put_bytes.Goals as goal

pub loop-rest-preserved : goal.loop-rest-preserved
loop-rest-preserved g c =
    let cut : c.loop-rest.rest.now ≡ take c.in-Ok.n c.loop-rest.rest.now ++ take (length c.loop-rest.rest.now - c.in-Ok.n) (drop c.in-Ok.n c.loop-rest.rest.now) = grind (arith, common_steps) in (
      more _ _ _ c.args.bytes.now c.loop-rest.rest.now _ c.in-Ok.n c.loop-rest.invariant.0 cut c.in-Ok.n-test.1 c.in-Ok.ensures.reported,
      unfailed _ _ c.loop-rest.rest.now c.in-Ok.n c.in-Ok.n-test.1 c.loop-rest.invariant.1 c.in-Ok.ensures.reported,
    )
