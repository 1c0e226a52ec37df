use Rattle.ssh_review.proofs.Imports.{◌≡◌, ◌++◌, flat_map, lines_of, numbered, note_element}
use Rattle.ssh_review.proofs.answer_json.push_note_elements.Given as goal

abbrev pub invariant-loop-line : goal.invariant-loop-line
invariant-loop-line l =
    (goal.iterator-loop-line).can_next l.line-iterator × (goal.iterator-loop-line).is_finite l.line-iterator
    × (l.out.items ++ flat_map note_element (numbered (l.line-iterator).0 (lines_of (l.line-iterator).1)) ≡ l.initial.out.items ++ flat_map note_element (numbered 1 (lines_of l.text)))
