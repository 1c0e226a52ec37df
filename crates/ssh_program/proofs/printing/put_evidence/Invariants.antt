use Rattle.ssh_program.proofs.Imports.{drop, NoneFailed, TakesUpTo, evidence_from}
use Rattle.ssh_print.specs.DecisionText.{evidence_lines}
use Rattle.ssh_program.proofs.printing.put_evidence.Given as goal

abbrev pub invariant-loop-index : goal.invariant-loop-index
invariant-loop-index g l =
    TakesUpTo (g.W.Sink.account l.fn.writer) (g.W.Sink.account l.writer) (evidence_lines l.fn.evidence) (evidence_from l.index (drop l.index l.evidence))
    × NoneFailed (g.W.Sink.account l.writer)
