use Rattle.ssh_patterns.proofs.Imports.{◌∙◌, sym, ap, option_map}
use Rattle.ssh_patterns.proofs.OctetLemmas.{no-octet}
use Rattle.ssh_patterns.proofs.address.octet_before.Goals as goal

pub returns-in_err-front : goal.returns-in_err-front
returns-in_err-front c =
    ap (λ r. option_map (λ read. (read.0, read.1.now)) r) c.from_residual.ensures
    ∙ no-octet c.args.mark c.args.text.now (sym c.in_err-front.ensures)
