use Rattle.ssh_options.proofs.Imports.{false, sym, option_text_of, fault_in}
use Rattle.ssh_options.specs.OptionText.{options_of}
use Rattle.ssh_options.proofs.SeenLemmas.{fault_from-refused}
use Rattle.ssh_options.proofs.option_text.after_options.Goals as goal

pub returns-clause-fault : goal.returns-clause-fault
returns-clause-fault c =
    sym (fault_from-refused (fault_in (options_of (option_text_of false 0 c.args.text.now))) c.loop-item.so_far
    (option_text_of false 0 c.loop-item.left.now) c.in_default.ensures.item c.loop-item.invariant.0)
