use Rattle.ssh_entries.proofs.Imports.{arith, sym, ◌∙◌}
use Rattle.ssh_entries.proofs.ByteLemmas.{AreBytes, AreBytes-from}
use Rattle.ssh_entries.proofs.KnownFaultLemmas.{known_line-fault}
use Rattle.ssh_entries.proofs.ReadKnown.{known_line-spelled, known_line-spells}
use Rattle.ssh_entries.proofs.RevokedLemmas.{revokes-read, read-revokes, unreadable_revocation-read, read-unreadable_revocation}
use Rattle.ssh_entries.proofs.known_view.read_known_view.Goals as goal

pub returns-clause-found : goal.returns-clause-found
returns-clause-found c =
    λ entry is. known_line-spells c.args.line.now entry (AreBytes-from c.args.line.now (λ i. omega (arith, c.type_inv.line i))) (sym c.view_line.ensures ∙ is)

pub returns-clause-only : goal.returns-clause-only
returns-clause-only c = λ entry spells. c.view_line.ensures ∙ known_line-spelled entry c.args.line.now spells

pub returns-clause-revoked : goal.returns-clause-revoked
returns-clause-revoked c =
    let bytes : AreBytes c.args.line.now = AreBytes-from c.args.line.now (λ i. omega (arith, c.type_inv.line i)) in
    λ revoked. (
      λ is. read-revokes c.args.line.now revoked bytes (sym c.view_line.ensures ∙ is),
      λ revokes. c.view_line.ensures ∙ revokes-read c.args.line.now revoked revokes,
    )

pub returns-clause-unreadable_revocation : goal.returns-clause-unreadable_revocation
returns-clause-unreadable_revocation c =
    let bytes : AreBytes c.args.line.now = AreBytes-from c.args.line.now (λ i. omega (arith, c.type_inv.line i)) in (
      λ is. read-unreadable_revocation c.args.line.now (sym c.view_line.ensures ∙ is),
      λ unreadable_revocation. c.view_line.ensures ∙ unreadable_revocation-read c.args.line.now bytes unreadable_revocation,
    )

pub returns-clause-fault : goal.returns-clause-fault
returns-clause-fault c =
    λ cause is. known_line-fault c.args.line.now cause (AreBytes-from c.args.line.now (λ i. omega (arith, c.type_inv.line i))) (sym c.view_line.ensures ∙ is)
