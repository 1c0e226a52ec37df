use Rattle.ssh_patterns.proofs.Imports.{◌≡◌, length, option_and_then, groups_of_parts, few}
use Rattle.ssh_patterns.specs.AddressReading.{groups_of}
use Rattle.ssh_patterns.proofs.PartLemmas.{joined_to, colon_parts}
use Rattle.ssh_patterns.proofs.address.read_groups.Given as goal

abbrev pub invariant-loop-part : goal.invariant-loop-part
invariant-loop-part l =
    joined_to l.groups (groups_of_parts l.dotted_too (colon_parts l.rest)) ≡ option_and_then few (groups_of l.dotted_too l.text)

abbrev pub decreases-loop-part : goal.decreases-loop-part
decreases-loop-part l = length l.rest
