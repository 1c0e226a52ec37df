use Rattle.ssh_print.proofs.Imports.{keys_shown, words_shown}
use Rattle.ssh_print.proofs.laws.lines_as_shown.Goals as goal

pub returns : goal.returns
returns c = record {
  words = words_shown;
  keys = keys_shown;
}
