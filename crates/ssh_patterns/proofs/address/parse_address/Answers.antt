use Rattle.ssh_patterns.proofs.Imports.{◌∙◌, ap, ok_or}
use Rattle.ssh_patterns.specs.declared.address.PatternError.TheVariants as errors
use Rattle.ssh_patterns.proofs.AddressLaw.{address-read, ok-address}
use Rattle.ssh_patterns.proofs.address.parse_address.Goals as goal

pub returns-clause-spelled : goal.returns-clause-spelled
returns-clause-spelled c =
    rw c.ok_or.ensures.value (ok-address c.read_address.result c.args.text.now errors.Address c.read_address.ensures)

pub returns-clause-only : goal.returns-clause-only
returns-clause-only c = λ a h.
    c.ok_or.ensures.value
    ∙ ap (λ found. ok_or found errors.Address) (c.read_address.ensures ∙ address-read a c.args.text.now h)
