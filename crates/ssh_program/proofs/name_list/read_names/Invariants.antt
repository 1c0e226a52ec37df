use Rattle.ssh_program.proofs.Imports.{◌≡◌, length, map}
use Rattle.std.specs.Str.{IsUtf8}
use Rattle.ssh_program.proofs.NameListLemmas.{AreNames}
use Rattle.ssh_program.proofs.name_list.read_names.Given as goal

abbrev pub invariant-loop-rest : goal.invariant-loop-rest
invariant-loop-rest l = AreNames l.naming l.text (map (λ name. name.now) l.names.items) l.rest × IsUtf8 l.rest

abbrev pub decreases-loop-rest : goal.decreases-loop-rest
decreases-loop-rest l = length l.rest
