use Rattle.ssh_review.proofs.Imports.{◌≡◌, ◌++◌, drop, flat_map, reason_element}
use Rattle.ssh_review.proofs.answer_json.push_reason_elements.Given as goal

abbrev pub invariant-loop-reason : goal.invariant-loop-reason
invariant-loop-reason l = l.out.items ++ flat_map reason_element (drop l.reason-index l.reasons) ≡ l.initial.out.items ++ flat_map reason_element l.reasons
