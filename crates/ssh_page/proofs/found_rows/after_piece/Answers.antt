use Rattle.std.proofs.Common.{◌∙◌, ap, length}
use Rattle.ssh_page.specs.FoundRows.{behind_byte}
use Rattle.ssh_page.proofs.ScanLemmas.{after_nowhere, after_sliced, no_byte}
use Rattle.ssh_page.proofs.found_rows.after_piece.Goals as goal

pub returns-in-Some-clause-behind : goal.returns-in-Some-clause-behind
returns-in-Some-clause-behind c =
    let text = c.args.marks.now in
    let found = c.in-Some.ensures in
    after_sliced c.mark.result text c.in-Some.at found.0.high (no_byte c.mark.result text c.in-Some.at found.0.before) found.1
    ∙ ap (λ m. behind_byte m text) c.mark.ensures

pub returns-in-None-clause-behind : goal.returns-in-None-clause-behind
returns-in-None-clause-behind c =
    let text = c.args.marks.now in
    after_nowhere c.mark.result text (no_byte c.mark.result text (length text) c.in-None.ensures) ∙ ap (λ m. behind_byte m text) c.mark.ensures
