use Rattle.std.proofs.Common.{◌≡◌, ◌++◌, drop}
use Rattle.std.specs.List.{flat_map}
use Rattle.ssh_page.specs.Documents.{marks}
use Rattle.ssh_page.specs.Records.{carried_part}
use Rattle.ssh_page.proofs.record.push_each_carried.Given as goal

abbrev pub invariant-loop-text : goal.invariant-loop-text
invariant-loop-text l =
    l.out.items ++ flat_map (λ c. marks (carried_part c)) (drop l.text-index l.carried)
    ≡ l.initial.out.items ++ flat_map (λ c. marks (carried_part c)) l.carried
