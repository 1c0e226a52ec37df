use Rattle.std.proofs.Common.{◌≡◌, ◌++◌, length}
use Rattle.ssh_page.specs.FoundRows.{places_in}
use Rattle.ssh_page.proofs.found_rows.places_in.Given as goal

abbrev pub invariant-loop-row : goal.invariant-loop-row
invariant-loop-row l = l.places.items ++ places_in l.code l.rest ≡ places_in l.code l.sections

abbrev pub decreases-loop-row : goal.decreases-loop-row
decreases-loop-row l = length l.rest
