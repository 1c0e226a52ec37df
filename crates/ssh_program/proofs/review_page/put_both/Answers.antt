use Rattle.ssh_page.specs.Expanding.{page}
use Rattle.ssh_program.proofs.WrittenText.{first_broken, on_err, second_broken}
use Rattle.ssh_program.proofs.review_page.put_both.Goals as goal

pub returns-in_err-put_html-clause-err : goal.returns-in_err-put_html-clause-err
returns-in_err-put_html-clause-err g c =
    on_err _ _ (first_broken (g.W.Sink.account c.args.writer.now) (g.W.Sink.account c.put_html.new.writer) (page c.args.front.now) (page c.args.body.now) c.in_err-put_html.ensures.err)

pub returns-in_err-put_html-2-clause-err : goal.returns-in_err-put_html-2-clause-err
returns-in_err-put_html-2-clause-err g c =
    on_err _ _ (second_broken (g.W.Sink.account c.args.writer.now) (g.W.Sink.account c.put_html.new.writer) (g.W.Sink.account c.put_html-2.new.writer) (page c.args.front.now) (page c.args.body.now)
    c.in_ok-put_html.ensures.ok c.in_err-put_html-2.ensures.err)
