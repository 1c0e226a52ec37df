use Rattle.ssh_print.proofs.Imports.{arith, common_steps}
use Rattle.ssh_print.proofs.HexLemmas.{written-same}
use Rattle.ssh_print.proofs.response.HexPiece.new.Goals as goal

-- the digits that are written are those of the definition
pub returns : goal.returns
returns c =
    written-same c.encode_to_slice.result c.args.bytes.now c.encode_to_slice.new.output _ (λ i. omega (arith, c.type_inv.bytes i))
    (c.encode_to_slice.ensures.fits.1 (grind (arith, common_steps))) c.encode_to_slice.ensures.written
