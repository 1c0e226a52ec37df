use Rattle.ssh_patterns.proofs.Imports.{sym, arith}
use Rattle.ssh_patterns.proofs.GroupLemmas.{joined, many}
use Rattle.ssh_patterns.proofs.address.Groups.followed_by.Goals as goal

pub returns-then-count-gt8 : goal.returns-then-count-gt8
returns-then-count-gt8 c =
    rw (← c.self.view_is, ← c.after.view_is)
    (sym (many c.self.inside.count c.after.inside.count c.self.inside.number c.after.inside.number (omega arith)))

pub overflow_add-result : goal.overflow_add-result
overflow_add-result c =
    let whole = joined c.self.inside.count c.after.inside.count c.self.inside.number c.after.inside.number c.unbounded_shl.result
    c.self.invariant.1 c.after.invariant.1 (omega arith) c.unbounded_shl.ensures in
    omega (arith, whole.small)

pub invariant_of-result : goal.invariant_of-result
invariant_of-result c = (
  omega arith,
  (joined c.self.inside.count c.after.inside.count c.self.inside.number c.after.inside.number _
      c.self.invariant.1 c.after.invariant.1 (omega arith) c.unbounded_shl.ensures).fits,
)

pub returns : goal.returns
returns c =
    rw (← c.self.view_is, ← c.after.view_is)
    (sym (joined c.self.inside.count c.after.inside.count c.self.inside.number c.after.inside.number _
    c.self.invariant.1 c.after.invariant.1 (omega arith) c.unbounded_shl.ensures).groups)
