use Rattle.ssh_files.proofs.Imports.{◌∙◌, sym, ap, rules, result_ok}
use Rattle.ssh_files.proofs.ValueLemmas.{decoded-same, undecoded}
use Rattle.ssh_files.proofs.values.read_pairs.Goals as goal

pub returns-in-Ok-clause-value : goal.returns-in-Ok-clause-value
returns-in-Ok-clause-value c = ap result_ok (sym c.in-Ok.ensures.ok) ∙ decoded-same c.args.text.now

pub returns-in-Err-clause-value : goal.returns-in-Err-clause-value
returns-in-Err-clause-value c = undecoded c.args.text.now c.in-Err.field-0 (search rules) c.in-Err.ensures.err
