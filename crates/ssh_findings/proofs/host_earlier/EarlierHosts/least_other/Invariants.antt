use Rattle.ssh_findings.proofs.Imports.{◌≡◌, option_copied, length_left, pieces_left, lesser, least_other}
use Rattle.ssh_findings.proofs.host_earlier.EarlierHosts.least_other.Given as goal

abbrev pub invariant-loop-rest : goal.invariant-loop-rest
invariant-loop-rest l =
    lesser l.least (least_other l.self.named l.kind l.blob (pieces_left (option_copied l.rest)))
    ≡ least_other l.self.named l.kind l.blob (pieces_left (option_copied l.list))

abbrev pub decreases-loop-rest : goal.decreases-loop-rest
decreases-loop-rest l = length_left (option_copied l.rest)
