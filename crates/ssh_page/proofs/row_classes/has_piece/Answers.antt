use Rattle.std.proofs.Common.{◌∙◌, ap, is_some}
use Rattle.ssh_page.proofs.ScanLemmas.{piece_found, some_mapped}
use Rattle.ssh_page.proofs.row_classes.has_piece.Goals as goal

pub returns : goal.returns
returns c =
    c.is_some.ensures ∙ some_mapped (λ rest. rest.now) c.after_piece.result ∙ ap is_some c.after_piece.ensures.behind
    ∙ piece_found c.args.piece c.args.rows.now
