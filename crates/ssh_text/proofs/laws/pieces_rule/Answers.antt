use Rattle.ssh_text.proofs.PieceLemmas.{from_pieces, pieces-give}
use Rattle.ssh_text.proofs.laws.pieces_rule.Goals as goal

pub returns : goal.returns
returns c = record { come = pieces-give; only = from_pieces }
