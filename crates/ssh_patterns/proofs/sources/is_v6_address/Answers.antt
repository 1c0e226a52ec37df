use Rattle.ssh_patterns.proofs.Imports.{◌∙◌, sym}
use Rattle.ssh_patterns.proofs.OneTextLemmas.{no-colon}
use Rattle.ssh_patterns.proofs.sources.is_v6_address.Goals as goal

pub returns-else-contains : goal.returns-else-contains
returns-else-contains c =
    c.if-contains.false ∙ no-colon c.args.item.now c.args.address (sym c.if-contains.ensures.value)
