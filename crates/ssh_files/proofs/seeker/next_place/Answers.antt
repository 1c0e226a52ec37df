use Rattle.ssh_files.proofs.Imports.{◌≡◌, ◌∙◌, ◌==◌, ◌∷◌, false, sym, ne_eqb, wanted_of}
use Rattle.ssh_files.proofs.SeekerLemmas.{line_begun}
use Rattle.ssh_files.proofs.seeker.next_place.Goals as goal

pub returns-in-Start-2-clause-rest : goal.returns-in-Start-2-clause-rest
returns-in-Start-2-clause-rest c text =
    let kept : (c.args.byte == 35) ≡ false = ne_eqb c.args.byte 35 c.if-byte-eq35.false in
    let first = c.first_field.ensures in
    let begun = line_begun c.args.wanted c.first_field.result (c.args.byte ∷ text) kept first.name first.digits first.equal first.left in
    rw c.in-Start-2.is (begun ∙ (c.next_in_field.ensures text ∙ sym (c.in_field.ensures.rest (wanted_of c.args.wanted) text)))
