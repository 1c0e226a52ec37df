use Rattle.ssh_files.proofs.Imports.{◌∙◌, rules}
use Rattle.ssh_files.proofs.ValueLemmas.{number_parsed}
use Rattle.ssh_files.proofs.values.read_number.Goals as goal

pub returns : goal.returns
returns c = c.ok.ensures.value ∙ number_parsed c.args.text.now c.parse.result (search rules) c.parse.ensures.value.0
