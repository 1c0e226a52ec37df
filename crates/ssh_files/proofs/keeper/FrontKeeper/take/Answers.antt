use Rattle.ssh_files.proofs.Imports.{◌∙◌, ◌≡◌, ◌-◌, min, length, rules}
use Rattle.ssh_files.proofs.KeptLemmas.{front_more}
use Rattle.ssh_files.proofs.keeper.FrontKeeper.take.Goals as goal

pub returns-clause-taken : goal.returns-clause-taken
returns-clause-taken c first bytes (most, kept) =
    let room : c.min-kept.result ≡ min (length c.args.piece.now) (first.most - length c.args.self.now.bytes.items) = search rules in
    (most, c.in_ok-extend_from_slice.ensures.items ∙ front_more first.most c.min-kept.result bytes c.args.piece.now c.args.self.now.bytes.items room kept)
