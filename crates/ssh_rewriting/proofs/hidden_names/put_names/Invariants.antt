use Rattle.ssh_rewriting.proofs.Imports.{option_copied, pieces, pieces_left, length_left, names_text}
use Rattle.ssh_rewriting.proofs.HiddenLemmas.{NamesLeft}
use Rattle.ssh_rewriting.proofs.hidden_names.put_names.Given as goal

abbrev pub invariant-loop-rest : goal.invariant-loop-rest
invariant-loop-rest l = NamesLeft l.entry (pieces (names_text l.entry.names)) (pieces_left (option_copied l.rest)) l.fn.salts l.salts l.fn.new.items l.new.items

abbrev pub decreases-loop-rest : goal.decreases-loop-rest
decreases-loop-rest l = length_left (option_copied l.rest)
