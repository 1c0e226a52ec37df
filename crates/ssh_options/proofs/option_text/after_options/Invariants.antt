use Rattle.ssh_options.proofs.Imports.{◌≡◌, false, length, option_text_of, after_options, front_items, fault_in}
use Rattle.ssh_options.specs.OptionText.{options_of}
use Rattle.ssh_options.proofs.SeenLemmas.{fault_from}
use Rattle.ssh_options.proofs.option_text.after_options.Given as goal

abbrev pub invariant-loop-item : goal.invariant-loop-item
invariant-loop-item l =
    (fault_in (options_of (option_text_of false 0 l.text)) ≡ fault_from l.so_far (front_items l.left))
    × (after_options l.text ≡ after_options l.left)

abbrev pub decreases-loop-item : goal.decreases-loop-item
decreases-loop-item l = length (front_items l.left)
