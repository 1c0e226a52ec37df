use Rattle.std.proofs.Common.{◌≡◌, ◌++◌, drop}
use Rattle.std.specs.List.{flat_map}
use Rattle.ssh_page.specs.Documents.{marks}
use Rattle.ssh_page.specs.Choices.{choice}
use Rattle.ssh_page.proofs.choices.push_each_choice.Given as goal

abbrev pub invariant-loop-code : goal.invariant-loop-code
invariant-loop-code l =
    l.out.items ++ flat_map (λ c. marks (choice c)) (drop l.code-index l.found)
    ≡ l.initial.out.items ++ flat_map (λ c. marks (choice c)) l.found
