use Rattle.ssh_program.proofs.Imports.{length, NoneFailed, TakesUpTo}
use Rattle.ssh_page.specs.Expanding.{page}
use Rattle.ssh_program.proofs.review_page.put_html.Given as goal

abbrev pub invariant-loop-rest : goal.invariant-loop-rest
invariant-loop-rest g l =
    TakesUpTo (g.W.Sink.account l.fn.writer) (g.W.Sink.account l.writer) (page l.fn.marks) (page l.rest)
    × NoneFailed (g.W.Sink.account l.writer)

abbrev pub decreases-loop-rest : goal.decreases-loop-rest
decreases-loop-rest g l = length l.rest
