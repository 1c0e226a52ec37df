use Rattle.ssh_program.specs.NameListSamples.{lists_named, names_reported, words_listed}
use Rattle.ssh_program.proofs.laws.lists_as_reported.Goals as goal

pub returns : goal.returns
returns c = record { names = names_reported; words = words_listed; lists = lists_named }
