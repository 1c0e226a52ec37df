use Rattle.ssh_findings.proofs.Imports.{◌≡◌, ExpiryTime, settings, has_local_time}
use Rattle.ssh_findings.proofs.facts.has_local_time.Given as goal

abbrev pub invariant-loop-value : goal.invariant-loop-value
invariant-loop-value l =
    (goal.iterator-loop-value).can_next l.value-iterator × (goal.iterator-loop-value).is_finite l.value-iterator
    × (has_local_time l.value-iterator ≡ has_local_time (settings ExpiryTime l.entry.options))
