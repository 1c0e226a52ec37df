use Rattle.ssh_program.proofs.Imports.{rules, length, ◌≡◌, ◌<◌}
use Rattle.ssh_program.proofs.ResponseLemmas.{no_words_respond, words_respond}
use Rattle.ssh_program.proofs.program.answer.Goals as goal

pub returns-else-is_empty : goal.returns-else-is_empty
returns-else-is_empty g c =
    let some : 0 < length c.args.words.now = search rules in
    words_respond g.S.AsStr.text c.args.words.now (g.F.Files.source_state c.args.files.now) (g.F.Files.source_state c.answer_words.new.files)
    (g.W.Sink.account c.args.writer.now) (g.W.Sink.account c.answer_words.new.writer) c.answer_words.result some c.answer_words.ensures

pub returns-then-is_empty : goal.returns-then-is_empty
returns-then-is_empty g c =
    let none : length c.args.words.now ≡ 0 = search rules in
    no_words_respond g.S.AsStr.text c.args.words.now (g.F.Files.source_state c.args.files.now) (g.F.Files.source_state c.answer_input.new.files)
    (g.W.Sink.account c.args.writer.now) (g.W.Sink.account c.answer_input.new.writer) c.answer_input.result none c.answer_input.ensures
