use Rattle.std.proofs.Common.{◌∙◌, ◌++◌, ap, ap₂, append_assoc, codes}
use Rattle.ssh_review.specs.RecordFields.{text_in}
use Rattle.ssh_review.specs.FileNames.{both_fields}
use Rattle.ssh_review.proofs.file_name.push_both_fields.Goals as goal

pub returns : goal.returns
unfolding both_fields
returns c =
    let form = c.args.form in
    c.in_ok-push_text_in-2.ensures ∙ (ap (λ l. l ++ text_in form (codes "account") c.as_bytes-2.result.now) c.in_ok-push_text_in.ensures
    ∙ (append_assoc c.args.out.now.items (text_in form (codes "host") c.as_bytes.result.now) (text_in form (codes "account") c.as_bytes-2.result.now)
    ∙ ap₂ (λ h a. c.args.out.now.items ++ (text_in form (codes "host") h ++ text_in form (codes "account") a)) c.as_bytes.ensures.value c.as_bytes-2.ensures.value))
