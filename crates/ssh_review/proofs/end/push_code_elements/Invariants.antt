use Rattle.ssh_review.proofs.Imports.{◌≡◌, ◌++◌, drop, flat_map}
use Rattle.ssh_review.specs.EndObjects.{code_element}
use Rattle.ssh_review.proofs.end.push_code_elements.Given as goal

abbrev pub invariant-loop-code : goal.invariant-loop-code
invariant-loop-code l = l.out.items ++ flat_map code_element (drop l.code-index l.reported) ≡ l.initial.out.items ++ flat_map code_element l.reported
