use Rattle.ssh_rules.proofs.Imports.{◌≡◌, false, list_any, ExpiryTime, has_quote, settings, is_expired, claim_of}
use Rattle.ssh_rules.proofs.admission.is_expired.Given as goal

abbrev pub invariant-loop-value : goal.invariant-loop-value
invariant-loop-value l =
    (goal.iterator-loop-value).can_next l.value-iterator × (goal.iterator-loop-value).is_finite l.value-iterator
    × (is_expired (claim_of l.claim).query l.value-iterator ≡ is_expired (claim_of l.claim).query (settings ExpiryTime l.entry.options))
    × (list_any has_quote (settings ExpiryTime l.entry.options) ≡ false → list_any has_quote l.value-iterator ≡ false)
