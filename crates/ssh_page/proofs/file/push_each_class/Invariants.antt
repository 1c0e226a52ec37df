use Rattle.std.proofs.Common.{◌≡◌, ◌++◌, [], drop, if◌then◌else◌, nat_lt}
use Rattle.std.specs.List.{flat_map}
use Rattle.ssh_findings.specs.CodeCounts.{number_of}
use Rattle.ssh_page.specs.Documents.{marks}
use Rattle.ssh_page.specs.Classes.{class_of}
use Rattle.ssh_page.proofs.file.push_each_class.Given as goal

abbrev pub invariant-loop-code : goal.invariant-loop-code
invariant-loop-code l =
    l.out.items ++ flat_map (λ c. if nat_lt 0 (number_of l.reported c) then marks (class_of c) else []) (drop l.code-index l.listed)
    ≡ l.initial.out.items ++ flat_map (λ c. if nat_lt 0 (number_of l.reported c) then marks (class_of c) else []) l.listed
