use Rattle.std.proofs.Common.{◌≡◌, ◌++◌, drop}
use Rattle.std.specs.List.{flat_map}
use Rattle.ssh_page.specs.Documents.{marks}
use Rattle.ssh_page.specs.Headers.{code_word}
use Rattle.ssh_page.proofs.header.push_code_words.Given as goal

abbrev pub invariant-loop-code : goal.invariant-loop-code
invariant-loop-code l =
    l.out.items ++ flat_map (λ c. marks (code_word c)) (drop l.code-index l.listed)
    ≡ l.initial.out.items ++ flat_map (λ c. marks (code_word c)) l.listed
