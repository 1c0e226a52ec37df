use Rattle.ssh_findings.proofs.Imports.{◌≡◌, plain_zone, ExpiryTime, settings, until}
use Rattle.ssh_findings.specs.Moments.{least_of}
use Rattle.ssh_findings.proofs.facts.until.Given as goal

abbrev pub invariant-loop-value : goal.invariant-loop-value
invariant-loop-value l =
    (goal.iterator-loop-value).can_next l.value-iterator × (goal.iterator-loop-value).is_finite l.value-iterator
    × (least_of (plain_zone l.zone) l.least l.value-iterator ≡ until (plain_zone l.zone) (settings ExpiryTime l.entry.options))
