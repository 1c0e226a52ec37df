use Rattle.std.proofs.Common.{◌≡◌, ◌++◌, drop}
use Rattle.std.specs.List.{flat_map}
use Rattle.ssh_page.specs.Documents.{marks}
use Rattle.ssh_page.specs.Places.{next_link}
use Rattle.ssh_page.proofs.places.push_next_links.Given as goal

abbrev pub invariant-loop-place : goal.invariant-loop-place
invariant-loop-place l =
    l.out.items ++ flat_map (λ p. marks (next_link l.names p)) (drop l.place-index l.places)
    ≡ l.initial.out.items ++ flat_map (λ p. marks (next_link l.names p)) l.places
