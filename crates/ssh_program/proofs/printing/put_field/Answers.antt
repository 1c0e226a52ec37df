use Rattle.ssh_program.proofs.Imports.{hex_text}
use Rattle.std.specs.Prelude.{codes}
use Rattle.ssh_program.proofs.WrittenText.{first_broken, on_err, second_broken}
use Rattle.ssh_program.proofs.printing.put_field.Goals as goal

pub returns-in_err-put_bytes-clause-err : goal.returns-in_err-put_bytes-clause-err
returns-in_err-put_bytes-clause-err g c =
    on_err _ _ (first_broken (g.W.Sink.account c.args.writer.now) (g.W.Sink.account c.put_bytes.new.writer) (codes " ") (hex_text c.args.value.now)
    c.in_err-put_bytes.ensures.err)

pub returns-in_err-put_hex-clause-err : goal.returns-in_err-put_hex-clause-err
returns-in_err-put_hex-clause-err g c =
    on_err _ _ (second_broken (g.W.Sink.account c.args.writer.now) (g.W.Sink.account c.put_bytes.new.writer) (g.W.Sink.account c.put_hex.new.writer)
    (codes " ") (hex_text c.args.value.now) c.in_ok-put_bytes.ensures.ok c.in_err-put_hex.ensures.err)
