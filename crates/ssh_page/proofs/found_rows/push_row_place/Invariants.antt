use Rattle.std.proofs.Common.{◌≡◌, ◌≤◌, ◌++◌, length}
use Rattle.ssh_page.specs.FoundRows.{places_read, row_start}
use Rattle.ssh_page.proofs.found_rows.push_row_place.Given as goal

abbrev pub invariant-loop-rest : goal.invariant-loop-rest
invariant-loop-rest l =
    (l.places.items ++ places_read l.code l.read l.rest ≡ l.initial.places.items ++ places_read l.code row_start l.row)
    × (length l.rest ≤ length l.row)

abbrev pub decreases-loop-rest : goal.decreases-loop-rest
decreases-loop-rest l = length l.rest
