use Rattle.ssh_review.proofs.Imports.{◌∙◌, [], ap, key_blob, Facts}
use Rattle.ssh_findings.specs.EntryFindings.{entry_findings}
use Rattle.ssh_review.specs.Readable.{doubting, doubts}
use Rattle.ssh_review.proofs.readable.doubts.Goals as goal

pub returns : goal.returns
unfolding doubts
returns c =
    c.in_ok-found.ensures.value [] c.new-earlier.ensures.stands
    ∙ (ap (λ blob. entry_findings doubting [] blob c.in_ok-facts.facts) c.blob.ensures
    ∙ ap (λ (facts : Facts). entry_findings doubting [] (key_blob c.args.entry.now.key) facts) c.in_ok-facts.ensures)
