use Rattle.ssh_rights.proofs.Imports.{◌≡◌, true, RightsOn, on_after}
use Rattle.ssh_rights.proofs.rights.RightsOn.of.Given as goal

-- before the first option
abbrev all_on : RightsOn
all_on = record { port = true; agent = true; x11 = true; pty = true; user_rc = true }

abbrev pub invariant-loop-option : goal.invariant-loop-option
invariant-loop-option l =
    (goal.iterator-loop-option).can_next l.option-iterator × (goal.iterator-loop-option).is_finite l.option-iterator
    × (on_after all_on l.fn.options ≡ on_after l.on l.option-iterator)
