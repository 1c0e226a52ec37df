use Rattle.ssh_program.proofs.Imports.{Err, err_from_is_err_and, places_seen}
use Rattle.ssh_program.proofs.TextLemmas.{both_taken}
use Rattle.ssh_program.proofs.texts.take_texts.Goals as goal

pub returns-in_err-signature : goal.returns-in_err-signature
returns-in_err-signature g c =
    let p = err_from_is_err_and c.from_residual-in_err-signature.result c.from_residual-in_err-signature.ensures.1 in
    let both = both_taken (places_seen c.args.places.now) (g.F.Files.source_state c.args.files.now) (g.F.Files.source_state c.take_text.new.files) (g.F.Files.source_state c.take_text-2.new.files)
    c.in_ok-offer.offer (Err c.in_err-signature.field-0.0) c.in_ok-offer.ensures c.in_err-signature.ensures in
    rw (p.1, p.2) both
