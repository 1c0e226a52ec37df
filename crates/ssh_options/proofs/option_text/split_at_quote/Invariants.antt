use Rattle.ssh_options.proofs.Imports.{◌≡◌, ◌++◌, ◌≤◌, ◌-◌, length, take, drop, split_at_quote}
use Rattle.std.specs.Prelude.{option_map}
use Rattle.ssh_options.proofs.option_text.split_at_quote.Given as goal

abbrev pub invariant-loop-len : goal.invariant-loop-len
invariant-loop-len l =
    (l.from ≤ length l.text)
    × (split_at_quote 34 l.text ≡ option_map (λ parts. (take l.from l.text ++ parts.0, parts.1)) (split_at_quote 34 (drop l.from l.text)))

abbrev pub decreases-loop-len : goal.decreases-loop-len
decreases-loop-len l = length l.text - l.from
