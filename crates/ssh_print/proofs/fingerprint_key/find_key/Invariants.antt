use Rattle.ssh_print.proofs.Imports.{◌≡◌, lines_of, numbered}
use Rattle.ssh_print.specs.FingerprintKeys.{first_key}
use Rattle.ssh_print.proofs.fingerprint_key.find_key.Given as goal

abbrev pub invariant-loop-number : goal.invariant-loop-number
invariant-loop-number l =
    (goal.iterator-loop-number).can_next l._number-iterator × (goal.iterator-loop-number).is_finite l._number-iterator
    × (first_key l.digest (numbered (l._number-iterator).0 (lines_of (l._number-iterator).1)) ≡ first_key l.digest (numbered 1 (lines_of l.file)))
