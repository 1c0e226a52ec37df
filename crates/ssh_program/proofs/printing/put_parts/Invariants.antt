use Rattle.ssh_program.proofs.Imports.{drop, flat_map, NoneFailed, TakesUpTo, part_bytes}
use Rattle.ssh_program.proofs.printing.put_parts.Given as goal

abbrev pub invariant-loop-part : goal.invariant-loop-part
invariant-loop-part g l =
    TakesUpTo (g.W.Sink.account l.fn.writer) (g.W.Sink.account l.writer) (flat_map part_bytes l.fn.parts) (flat_map part_bytes (drop l.part-index l.parts))
    × NoneFailed (g.W.Sink.account l.writer)
