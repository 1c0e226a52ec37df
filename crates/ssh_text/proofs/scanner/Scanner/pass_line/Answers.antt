use Rattle.ssh_text.proofs.Imports.{◌∙◌, ap, sym, subst, StandsFor, lines_begun}
use Rattle.ssh_text.proofs.ScanLemmas.{passed-line, stands-passed}
use Rattle.ssh_text.proofs.scanner.Scanner.pass_line.Goals as goal

pub returns-clause-line : goal.returns-clause-line
returns-clause-line c free bytes h e = passed-line c.args.self.now bytes c.args.line.now c.lines_begun-number.result c.lines_begun-number.ensures.value free h e

pub returns-clause-stands_for : goal.returns-clause-stands_for
returns-clause-stands_for c free bytes h e =
    let stands = subst (λ s. StandsFor s bytes) (sym c.self.view_is) h in
    stands-passed _ c.clear.new.self bytes c.args.line.now c.lines_begun-number.result
    (c.lines_begun-number.ensures.value ∙ ap lines_begun (sym c.self.view_is)) free c.clear.ensures.keeps stands e
