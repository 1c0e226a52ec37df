use Rattle.ssh_options.proofs.Imports.{◌≡◌, length, settings}
use Rattle.ssh_options.proofs.options_view.SettingViewsIterator.next.Given as goal

abbrev pub invariant-loop-option : goal.invariant-loop-option
invariant-loop-option l =
    (l.self-inside.name ≡ l.initial.self-inside.name)
    × (settings l.self-inside.name l.self-inside.rest ≡ settings l.initial.self-inside.name l.initial.self-inside.rest)

abbrev pub decreases-loop-option : goal.decreases-loop-option
decreases-loop-option l = length l.self-inside.rest
