use Rattle.ssh_bodies.proofs.Imports.{◌≡◌, advance}
use Rattle.ssh_bodies.proofs.error.take_magic.Given as goal

abbrev pub invariant-loop : goal.invariant-loop
invariant-loop l = l.cursor ≡ advance l.fn.cursor l.counter
