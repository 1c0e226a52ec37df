use Rattle.ssh_review.proofs.Imports.{◌≡◌, ◌++◌, drop, flat_map, carried_element}
use Rattle.ssh_review.proofs.answer_json.push_carried_elements.Given as goal

abbrev pub invariant-loop-option : goal.invariant-loop-option
invariant-loop-option l = l.out.items ++ flat_map carried_element (drop l.option-index l.carried) ≡ l.initial.out.items ++ flat_map carried_element l.carried
