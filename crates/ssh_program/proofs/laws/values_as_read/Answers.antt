use Rattle.ssh_program.proofs.Imports.{host_values_in_order, login_asks_more, login_is_spelled, login_values_in_order, show_kinds, texts_of_files}
use Rattle.ssh_program.proofs.laws.values_as_read.Goals as goal

pub returns : goal.returns
returns c = record {
  shown = show_kinds;
  texts = texts_of_files;
  login = login_is_spelled;
  login_more = login_asks_more;
  login_order = login_values_in_order;
  host_order = host_values_in_order;
}
