use Rattle.ssh_program.proofs.Imports.{List, ℕ, Result, map, asking_of, subst, sym, IfTells, RespondsTo}
use Rattle.ssh_program.specs.Namings.{names_seen}
use Rattle.ssh_print.specs.Responses.{Response}
use Rattle.ssh_program.specs.KeySeeking.{SeeksKey, spelled_fingerprint}
use Rattle.ssh_program.specs.Printing.{WritesAnswer}
use Rattle.ssh_program.proofs.AnsweredLemmas.{unspelled_responds}
use Rattle.ssh_program.proofs.StreamLemmas.{writes_fault}
use Rattle.ssh_program.proofs.key_seeking.seek_fingerprint.Goals as goal

pub returns-in-Ok : goal.returns-in-Ok
returns-in-Ok g c =
    subst (λ (spelled : Result (List ℕ) Response). IfTells (g.F.Files.source_state c.args.files.now) (λ s. WritesAnswer (RespondsTo (SeeksKey c.args.kind c.args.form c.args.rule.now (asking_of c.args.asked.now)
    (names_seen c.args.names)) spelled s (g.F.Files.source_state c.seek_key.new.files)) (g.W.Sink.account c.args.writer.now) (g.W.Sink.account c.seek_key.new.writer) c.seek_key.result))
    (sym c.in-Ok.ensures) c.seek_key.ensures

pub returns-in-Err : goal.returns-in-Err
returns-in-Err g c =
    let state = g.F.Files.source_state c.args.files.now in
    let seeks = SeeksKey c.args.kind c.args.form c.args.rule.now (asking_of c.args.asked.now) (names_seen c.args.names) in
    writes_fault (λ s. RespondsTo seeks (spelled_fingerprint c.args.text.now) s state) state c.in-Err.fault c.respond_fault.result
    (g.W.Sink.account c.args.writer.now) (g.W.Sink.account c.put_made.new.writer) c.put_made.result
    (unspelled_responds seeks (λ (fingerprint : List ℕ). fingerprint) (spelled_fingerprint c.args.text.now) c.in-Err.fault state c.in-Err.ensures)
    c.respond_fault.ensures c.put_made.ensures
