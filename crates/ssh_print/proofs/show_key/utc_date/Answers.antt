use Rattle.ssh_print.proofs.Imports.{inr, IfOk-weaker}
use Rattle.ssh_print.proofs.show_key.utc_date.Goals as goal

pub returns-in-Some : goal.returns-in-Some
returns-in-Some c =
    IfOk-weaker c.clock_text.result _ _ (λ text e. inr (c.in-Some.ensures.0, (c.in-Some.shown, c.in-Some.ensures.1, e))) c.clock_text.ensures
