use Rattle.ssh_files.proofs.Imports.{sym, ap, ◌∙◌, ◌++◌}
use Rattle.ssh_files.proofs.KeptLemmas.{line_kept, line_more}
use Rattle.ssh_files.proofs.keeper.TopLineKeeper.take.Goals as goal

pub returns-then-self-clause-taken : goal.returns-then-self-clause-taken
returns-then-self-clause-taken c first bytes (line, ended) =
    let kept = line_kept bytes c.args.piece.now c.args.self.now.bytes.items (sym c.if-self.true ∙ ended) line in
    (kept.0, c.if-self.true ∙ kept.1)

pub returns-clause-taken : goal.returns-clause-taken
returns-clause-taken c first bytes (line, ended) =
    let more = line_more bytes c.args.piece.now c.args.self.now.bytes.items (sym c.if-self.false ∙ ended) line in
    (c.in_ok-extend_from_slice.ensures.items ∙ (ap (λ l. c.args.self.now.bytes.items ++ l) c.line_in-ended.ensures.line ∙ more.0), c.line_in-ended.ensures.ended ∙ more.1)
