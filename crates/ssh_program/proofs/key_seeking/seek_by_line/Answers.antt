use Rattle.ssh_program.proofs.Imports.{Result, Offered, ShowError, subst, sym, map, rules, asking_of, IfOk, IfTells, RespondsTo, response, shown_offer_in}
use Rattle.ssh_program.specs.Namings.{names_seen}
use Rattle.ssh_program.specs.KeySeeking.{SeeksKey, or_key_fault}
use Rattle.ssh_program.specs.Printing.{WritesAnswer}
use Rattle.ssh_program.proofs.StreamLemmas.{writes_made}
use Rattle.ssh_program.proofs.key_seeking.seek_by_line.Goals as goal

pub returns-in-Ok : goal.returns-in-Ok
returns-in-Ok g c =
    subst (λ (read : Result Offered ShowError). IfTells (g.F.Files.source_state c.args.files.now) (λ s. WritesAnswer (RespondsTo (SeeksKey c.args.kind c.args.form c.args.rule.now (asking_of c.args.asked.now)
    (names_seen c.args.names)) (or_key_fault read) s (g.F.Files.source_state c.seek_offer.new.files)) (g.W.Sink.account c.args.writer.now) (g.W.Sink.account c.seek_offer.new.writer) c.seek_offer.result))
    (sym c.in-Ok.ensures.value) c.seek_offer.ensures

pub returns-in-Err : goal.returns-in-Err
returns-in-Err g c =
    let state = g.F.Files.source_state c.args.files.now in
    let reported : IfTells state (λ s. IfOk c.show_fault.result (λ r. RespondsTo (SeeksKey c.args.kind c.args.form c.args.rule.now (asking_of c.args.asked.now) (names_seen c.args.names))
    (or_key_fault (shown_offer_in c.args.line.now)) s state (response r))) = search rules in
    writes_made (λ s. RespondsTo (SeeksKey c.args.kind c.args.form c.args.rule.now (asking_of c.args.asked.now) (names_seen c.args.names)) (or_key_fault (shown_offer_in c.args.line.now)) s state)
    state c.show_fault.result (g.W.Sink.account c.args.writer.now) (g.W.Sink.account c.put_made.new.writer) c.put_made.result reported c.put_made.ensures
