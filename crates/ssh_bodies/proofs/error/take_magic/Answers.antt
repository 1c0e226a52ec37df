use Rattle.ssh_bodies.proofs.Imports.{arith, length, ap}
use Rattle.ssh_bodies.proofs.Fields.{skip_one, skip_stands}
use Rattle.ssh_bodies.proofs.error.take_magic.Goals as goal

pub returns-in_err-take_byte : goal.returns-in_err-take_byte
returns-in_err-take_byte c =
    absurd (skip_stands c.args.cursor.now c.loop.cursor c.loop.counter (length c.args.magic.now) c.in_err-take_byte.field-0.0 c.loop.invariant c.loop-test.true (omega (arith, c.if-rest-magic.false, ap length c.rest-rest.ensures)) c.in_err-take_byte.ensures.exact.0)

pub loop-preserved : goal.loop-preserved
loop-preserved c = skip_one c.args.cursor.now c.loop.cursor c.take_byte.new.self c.loop.counter c.in_ok-take_byte.field-0 c.loop.invariant c.in_ok-take_byte.ensures.taken
