use Rattle.ssh_review.proofs.Imports.{◌≡◌, ◌++◌, drop, flat_map}
use Rattle.ssh_review.specs.Found.{found_field}
use Rattle.ssh_review.proofs.found.push_found_fields.Given as goal

abbrev pub invariant-loop-code : goal.invariant-loop-code
invariant-loop-code l =
    l.out.items ++ flat_map (found_field l.counts) (drop l.code-index l.listed)
    ≡ l.initial.out.items ++ flat_map (found_field l.counts) l.listed
