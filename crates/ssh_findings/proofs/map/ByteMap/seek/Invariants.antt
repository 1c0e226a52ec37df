use Rattle.ssh_findings.proofs.Imports.{numbers_of, rows_of}
use Rattle.ssh_findings.proofs.SeekLemmas.{Wanted}
use Rattle.ssh_findings.proofs.map.ByteMap.seek.Given as goal

abbrev pub invariant-loop-next : goal.invariant-loop-next
invariant-loop-next g l = Wanted (rows_of l.self.table) (numbers_of l.self.table) l.self.places.items l.text l.next

abbrev pub decreases-loop-next : goal.decreases-loop-next
decreases-loop-next g l = l.next
