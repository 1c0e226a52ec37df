use Rattle.std.proofs.Common.{◌≡◌, ◌++◌, drop}
use Rattle.std.specs.List.{flat_map}
use Rattle.ssh_page.specs.Documents.{marks}
use Rattle.ssh_page.specs.Mending.{found_code}
use Rattle.ssh_page.specs.Places.{lines_seen}
use Rattle.ssh_page.proofs.mend.push_found_codes.Given as goal

abbrev pub invariant-loop-code : goal.invariant-loop-code
invariant-loop-code l =
    l.out.items ++ flat_map (λ f. marks (found_code l.all (lines_seen l.lines) f)) (drop l.code-index l.found)
    ≡ l.initial.out.items ++ flat_map (λ f. marks (found_code l.all (lines_seen l.lines) f)) l.found
