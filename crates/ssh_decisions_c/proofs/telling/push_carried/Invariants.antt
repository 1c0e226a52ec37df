use Rattle.std.proofs.Common.{◌≡◌, ◌++◌, drop}
use Rattle.std.specs.List.{flat_map}
use Rattle.ssh_decisions_c.proofs.telling.push_carried.Given as goal

abbrev pub invariant-loop-option : goal.invariant-loop-option
invariant-loop-option l = l.texts.items ++ flat_map (λ c. c.text) (drop l.option-index l.carried) ≡ l.initial.texts.items ++ flat_map (λ c. c.text) l.carried
