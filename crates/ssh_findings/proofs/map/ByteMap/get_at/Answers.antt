use Rattle.ssh_findings.proofs.Imports.{◌∙◌, Some, ap, sym, Slot}
use Rattle.ssh_findings.proofs.EntryLemmas.{entry_there, entry_other}
use Rattle.ssh_findings.proofs.map.ByteMap.get_at.Goals as goal

pub returns-in-Some : goal.returns-in-Some
returns-in-Some g c =
    ap (λ (p : Slot g.row.V.Denot). Some p.value) c.index.ensures
    ∙ sym (entry_there c.args.self.now c.args.text.now c.in-Some.place c.index.result.now (rw c.in-Some.is at c.requires.found))

pub returns-in-None : goal.returns-in-None
returns-in-None g c = c.get.ensures.value ∙ sym (entry_other c.args.self.now c.args.text.now (c.requires.absent c.in-None.is))
