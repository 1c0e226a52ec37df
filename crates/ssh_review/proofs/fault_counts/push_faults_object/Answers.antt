use Rattle.ssh_review.proofs.Imports.{◌≡◌, ◌∙◌, ◌++◌, ap, codes}
use Rattle.ssh_review.specs.FaultCounts.{faults_object}
use Rattle.ssh_review.specs.Fields.{count_field, object_field}
use Rattle.ssh_review.proofs.fault_counts.push_faults_object.Goals as goal

pub returns : goal.returns
unfolding faults_object
returns c =
    let counts = c.args.counts in
    let long : c.push_count_field.new.out.items ≡ count_field (codes "A7") counts.too_long =
    c.in_ok-push_count_field.ensures ∙ ap (λ l. l ++ count_field (codes "A7") counts.too_long) c.new-fields.ensures.items in
    let both : c.push_count_field-2.new.out.items ≡ count_field (codes "A7") counts.too_long ++ count_field (codes "A9") counts.unread =
    c.in_ok-push_count_field-2.ensures ∙ ap (λ l. l ++ count_field (codes "A9") counts.unread) long in
    c.in_ok-push_object.ensures ∙ ap (λ l. c.args.out.now.items ++ object_field (codes "faults_by_code") l) (c.deref.ensures.value ∙ both)
