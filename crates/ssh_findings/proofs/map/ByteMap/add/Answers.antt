use Rattle.ssh_findings.proofs.Imports.{◌∙◌, ◌++◌, ◌∷◌, [], Some, ap, refl, bytes_eq, if◌then◌else◌, Slot}
use Rattle.ssh_findings.specs.Entries.{entry_of}
use Rattle.ssh_findings.proofs.EntryLemmas.{entry_more, on_err, sum_more_place, unchanged}
use Rattle.ssh_findings.proofs.map.ByteMap.add.Goals as goal

pub returns-in_err-reserve-clause-err : goal.returns-in_err-reserve-clause-err
returns-in_err-reserve-clause-err g c =
    on_err c.from_residual-in_err-reserve.result (unchanged c.args.self.now _ c.reserve.ensures.items refl)

pub returns-in_err-push-clause-err : goal.returns-in_err-push-clause-err
returns-in_err-push-clause-err g c =
    on_err c.from_residual-in_err-push.result (unchanged c.args.self.now _ c.reserve.ensures.items refl)

pub returns-clause-ok : goal.returns-clause-ok
returns-clause-ok g c = λ other.
    let p : Slot g.row.V.Denot = record { text = c.in_ok-text.text; value = c.args.value } in
    entry_more c.args.self.now _ p (c.push_reserved.ensures.items ∙ ap (λ ps. ps ++ p ∷ []) c.reserve.ensures.items) refl other
    ∙ ap (λ bs. if bytes_eq bs other then Some c.args.value else entry_of c.args.self.now other) c.in_ok-text.ensures.items

pub returns-clause-sum : goal.returns-clause-sum
returns-clause-sum g c = λ weight.
    let p : Slot g.row.V.Denot = record { text = c.in_ok-text.text; value = c.args.value } in
    sum_more_place weight c.args.self.now _ c.args.text.now p (c.push_reserved.ensures.items ∙ ap (λ ps. ps ++ p ∷ []) c.reserve.ensures.items) refl c.in_ok-text.ensures.items c.requires.absent
