use Rattle.ssh_review.proofs.Imports.{◌∙◌, ◌++◌, append-nil, sym, ap}
use Rattle.ssh_findings.specs.Codes.{all_codes}
use Rattle.ssh_findings.specs.declared.urgency.Urgency.TheVariants.{Today, Soon, TidyUp, Policy}
use Rattle.ssh_review.specs.Found.{found_lines, urgent_lines}
use Rattle.ssh_review.proofs.Appended.{both}
use Rattle.ssh_review.proofs.found.push_found_lines.Goals as goal

pub returns : goal.returns
unfolding found_lines
returns c =
    let out = c.args.out.now.items in
    let today = urgent_lines c.args.counts all_codes Today in
    let soon = urgent_lines c.args.counts all_codes Soon in
    let tidy = urgent_lines c.args.counts all_codes TidyUp in
    let policy = urgent_lines c.args.counts all_codes Policy in
    let one = c.push_urgent_lines.new.out.items in
    let two = c.push_urgent_lines-2.new.out.items in
    let three = c.push_urgent_lines-3.new.out.items in
    let four = c.push_urgent_lines-4.new.out.items in
    let last = both two tidy policy three four c.in_ok-push_urgent_lines-3.ensures c.in_ok-push_urgent_lines-4.ensures in
    let later = both one soon (tidy ++ policy) two four c.in_ok-push_urgent_lines-2.ensures last in
    both out today (soon ++ (tidy ++ policy)) one four c.in_ok-push_urgent_lines.ensures later
    ∙ ap (λ l. out ++ (today ++ (soon ++ (tidy ++ l)))) (sym (append-nil policy))
