use Rattle.ssh_review.proofs.Imports.{◌∙◌, ◌++◌, ap, codes, flat_map}
use Rattle.ssh_findings.specs.Codes.{all_codes}
use Rattle.ssh_review.specs.Fields.{object_field}
use Rattle.ssh_review.specs.Found.{found_field, found_object}
use Rattle.ssh_review.proofs.found.push_found_object.Goals as goal

pub returns : goal.returns
unfolding found_object
returns c =
    c.in_ok-push_object.ensures
    ∙ ap (λ l. c.args.out.now.items ++ object_field (codes "findings_by_code") l)
    (c.deref.ensures.value ∙ (c.in_ok-push_found_fields.ensures ∙ ap (λ l. l ++ flat_map (found_field c.args.counts) all_codes) c.new-fields.ensures.items))
