use Rattle.ssh_options.proofs.Imports.{◌≡◌, ◌++◌, take, drop, name_part, after_name}
use Rattle.ssh_options.proofs.option_text.name_len.Given as goal

abbrev pub invariant-loop-i : goal.invariant-loop-i
invariant-loop-i l = (name_part l.text ≡ take l.i l.text ++ name_part (drop l.i l.text)) × (after_name l.text ≡ after_name (drop l.i l.text))
