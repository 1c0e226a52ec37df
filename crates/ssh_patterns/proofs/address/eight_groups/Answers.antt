use Rattle.ssh_patterns.proofs.Imports.{◌∙◌}
use Rattle.ssh_patterns.proofs.PartLemmas.{around-cut}
use Rattle.ssh_patterns.proofs.address.eight_groups.Goals as goal

pub returns-in_err-read_groups-in-Some : goal.returns-in_err-read_groups-in-Some
returns-in_err-read_groups-in-Some c =
    c.from_residual.ensures
    ∙ rw (← c.in_err-read_groups-in-Some.ensures) at
    (around-cut c.args.text.now c.in-Some.front.now c.in-Some.back.now c.in-Some.ensures)

pub returns-in_err-read_groups-in-Some-2 : goal.returns-in_err-read_groups-in-Some-2
returns-in_err-read_groups-in-Some-2 c =
    c.from_residual-in_err-read_groups-in-Some-2.ensures
    ∙ rw (← c.in_ok-read_groups-in-Some.ensures, ← c.in_err-read_groups-in-Some-2.ensures) at
    (around-cut c.args.text.now c.in-Some.front.now c.in-Some.back.now c.in-Some.ensures)
