use Rattle.ssh_wire.proofs.RowLemmas.{number_and_string_stops}
use Rattle.ssh_wire.proofs.samples.first_fault_of_two.Goals as goal

pub returns : goal.returns
returns c = number_and_string_stops
