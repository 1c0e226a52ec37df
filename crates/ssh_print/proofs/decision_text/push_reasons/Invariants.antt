use Rattle.ssh_print.proofs.Imports.{◌≡◌, ◌++◌, drop, flat_map, reason_line, text_bytes}
use Rattle.ssh_print.proofs.decision_text.push_reasons.Given as goal

abbrev pub invariant-loop-reason : goal.invariant-loop-reason
invariant-loop-reason l = text_bytes l.text ++ flat_map reason_line (drop l.reason-index l.reasons) ≡ text_bytes l.initial.text ++ flat_map reason_line l.reasons
