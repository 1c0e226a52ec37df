use Rattle.ssh_wire.proofs.Imports.{◌≡◌, Err, rules}
use Rattle.ssh_wire.specs.Reading.{mpint_at}
use Rattle.ssh_wire.proofs.MpintLemmas.{mpint_is_refused}
use Rattle.ssh_wire.proofs.cursor.Cursor.take_mpint.Goals as goal

pub returns-then-not-is_least-clause-refused : goal.returns-then-not-is_least-clause-refused
unfolding mpint_at
returns-then-not-is_least-clause-refused c =
    let read : mpint_at c.args.self.now ≡ Err c.fault.result = search rules in
    mpint_is_refused c.args.self.now c.fault.result read (search rules)

pub returns-in_default-clause-refused : goal.returns-in_default-clause-refused
unfolding mpint_at
returns-in_default-clause-refused c =
    let read : mpint_at c.args.self.now ≡ Err c.fault-in_default.result = search rules in
    mpint_is_refused c.args.self.now c.fault-in_default.result read (search rules)
