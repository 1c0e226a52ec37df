use Rattle.ssh_program.proofs.Imports.{◌≡◌, List, ℕ, map, rules, subst, IfTells, RespondsBy, request_of, words_in}
use Rattle.ssh_program.specs.Printing.{WritesAnswer}
use Rattle.ssh_program.proofs.StreamLemmas.{writes_memory}
use Rattle.ssh_program.proofs.program.answer_line.Goals as goal

pub returns-in-Ok : goal.returns-in-Ok
returns-in-Ok g c =
    let new = g.F.Files.source_state c.answer_words.new.files in
    let taken = g.W.Sink.account c.answer_words.new.writer in
    let is : map (λ w. w.now) c.as_slice.result.now ≡ words_in c.args.line.now = search rules in
    subst (λ (words : List (List ℕ)). IfTells (g.F.Files.source_state c.args.files.now) (λ s. WritesAnswer (RespondsBy (request_of words) s new) (g.W.Sink.account c.args.writer.now) taken c.answer_words.result))
    is c.answer_words.ensures

pub returns-in-Err : goal.returns-in-Err
returns-in-Err g c =
    writes_memory (λ s. RespondsBy (request_of (words_in c.args.line.now)) s (g.F.Files.source_state c.args.files.now)) (g.F.Files.source_state c.args.files.now)
    (g.W.Sink.account c.args.writer.now) (g.W.Sink.account c.put_no_memory.new.writer) c.put_no_memory.result c.put_no_memory.ensures
