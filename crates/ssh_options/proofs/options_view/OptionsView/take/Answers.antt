use Rattle.ssh_options.proofs.Imports.{false, option_text_of}
use Rattle.ssh_options.proofs.InLineLemmas.{said_options, said_each}
use Rattle.ssh_options.proofs.options_view.OptionsView.take.Goals as goal

pub invariant_of-result : goal.invariant_of-result
invariant_of-result c = said_each (option_text_of false 0 c.args.text.now) c.in_ok-rest.ensures.fault

pub returns-clause-options : goal.returns-clause-options
returns-clause-options c = said_options (option_text_of false 0 c.args.text.now) c.in_ok-rest.ensures.fault
