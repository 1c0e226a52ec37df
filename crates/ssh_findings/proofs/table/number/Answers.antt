use Rattle.ssh_findings.proofs.Imports.{◌∙◌, ◌-◌, ap, drop, length, take, FoldHasher, write}
use Rattle.std.proofs.lemmas.List.{take_rest}
use Rattle.std.specs.Hash.FoldHasher.{initial}
use Rattle.ssh_findings.specs.Number.{number}
use Rattle.ssh_findings.proofs.table.number.Goals as goal

pub returns : goal.returns
unfolding number
returns c =
    let text = c.args.text.now in
    let at = c.saturating_sub.result in
    let last = take_rest text at ∙ ap (λ k. drop k text) c.saturating_sub.ensures in
    c.finish.ensures ∙ ap (λ (h : FoldHasher). h.state)
    (c.write.ensures ∙ ap (λ h. write h (take (length text - at) (drop at text))) c.default-hasher.ensures ∙ ap (write initial) last)
