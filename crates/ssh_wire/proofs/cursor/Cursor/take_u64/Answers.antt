use Rattle.ssh_wire.proofs.Imports.{◌^◌, arith, subst, common_steps, w64, IsBytes, IsBytes-drop, number_takes, wide64, Position}
use Rattle.ssh_wire.proofs.cursor.Cursor.take_u64.Goals as goal

pub returns-clause-taken : goal.returns-clause-taken
returns-clause-taken c =
    let bytes : IsBytes c.args.self.now.rest = subst (λ (p : Position). IsBytes p.rest) c.self.view_is (IsBytes-drop c.self.inside.place c.self.inside.bytes.now c.self.invariant.1) in
    (number_takes w64 (2 ^ 64) wide64 c.args.self.now c.from_be_bytes.result _ bytes (grind (arith, common_steps))).0
