use Rattle.ssh_review.proofs.Imports.{◌∙◌, ◌++◌, List, ℕ, ap}
use Rattle.ssh_review.proofs.MakingLemmas.{whole-made}
use Rattle.ssh_review.proofs.records.whole_review.Goals as goal

pub returns : goal.returns
returns g c =
    λ text all w.
    let made = c.in_ok-reported.ensures.made c.args.file.now text all w in
    c.in_ok-reviewed.ensures
    ∙ whole-made c.args.form c.args.head.now c.args.file.now text c.push_all.new.out.items all c.in_ok-reported.reported
    (made.0 ∙ ap (λ (l : List ℕ). l ++ text) c.new-text.ensures.items) made.1
