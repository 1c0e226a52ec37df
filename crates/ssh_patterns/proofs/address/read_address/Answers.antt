use Rattle.ssh_patterns.proofs.Imports.{sym}
use Rattle.ssh_patterns.proofs.AddressLaw.{octets-address}
use Rattle.ssh_patterns.proofs.address.read_address.Goals as goal

pub returns-in-Some : goal.returns-in-Some
returns-in-Some c =
    octets-address c.args.text.now c.in-Some.octets c.from_be_bytes.result (sym c.in-Some.ensures) c.from_be_bytes.ensures
