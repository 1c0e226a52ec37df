use Rattle.std.proofs.Common.{◌≡◌, ◌++◌, drop}
use Rattle.std.specs.List.{flat_map}
use Rattle.ssh_page.specs.Documents.{marks}
use Rattle.ssh_page.specs.Mending.{absent_code}
use Rattle.ssh_page.proofs.mend.push_absent_codes.Given as goal

abbrev pub invariant-loop-code : goal.invariant-loop-code
invariant-loop-code l =
    l.out.items ++ flat_map (λ c. marks (absent_code c)) (drop l.code-index l.codes)
    ≡ l.initial.out.items ++ flat_map (λ c. marks (absent_code c)) l.codes
