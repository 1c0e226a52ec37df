use Rattle.ssh_print.proofs.Imports.{◌∙◌, ◌++◌, append_assoc, ap, codes, decimal, flat_map, reason_codes, part_bytes}
use Rattle.ssh_print.proofs.PartLemmas.{plain_around}
use Rattle.ssh_print.proofs.decision_text.push_reason_line.Goals as goal

pub returns : goal.returns
returns c =
    plain_around (flat_map part_bytes c.args.text.now.parts.items) c.args.text.now.rest.items c.push_number.new.out.items
    (flat_map part_bytes c.push_reason.new.text.parts.items) c.push_reason.new.text.rest.items c.push.new.self.items
    (codes "reason " ++ decimal c.args.number) (reason_codes c.args.reason.now) (codes "\n")
    (c.in_ok-push_number.ensures.ok ∙ ap (λ l. l ++ decimal c.args.number) c.in_ok-extend_from_slice.ensures.items
    ∙ append_assoc c.args.text.now.rest.items (codes "reason ") (decimal c.args.number))
    c.in_ok-push_reason.ensures c.in_ok-push.ensures.items
