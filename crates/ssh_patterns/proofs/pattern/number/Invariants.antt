use Rattle.ssh_patterns.proofs.Imports.{◌≡◌, ◌<◌, drop, number_in_radix, below}
use Rattle.ssh_patterns.proofs.DigitLemmas.{number_after}
use Rattle.ssh_patterns.proofs.pattern.number.Given as goal

abbrev pub invariant-loop-byte : goal.invariant-loop-byte
invariant-loop-byte l =
    (l.number < l.limit)
    × (below l.limit (number_after l.radix l.number (drop l.byte-index l.text)) ≡ below l.limit (number_in_radix l.radix l.text))
