use Rattle.ssh_patterns.proofs.Imports.{sym, ◌∙◌, arith}
use Rattle.ssh_patterns.proofs.DigitLemmas.{past-limit}
use Rattle.ssh_patterns.proofs.pattern.number.Goals as goal

pub returns-then-number-limit : goal.returns-then-number-limit
returns-then-number-limit c =
    let digit = rw c.from.ensures at c.in_ok-number.ensures.value in
    sym (past-limit c.args.radix c.args.limit c.loop-byte.number c.loop-byte.byte-index c.in_ok-number.field-0 c.args.text.now
    (omega arith) (omega arith) digit.0 digit.1 (omega arith))
    ∙ c.loop-byte.invariant.1
