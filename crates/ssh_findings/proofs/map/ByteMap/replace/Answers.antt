use Rattle.ssh_findings.proofs.Imports.{◌∙◌, ap, refl, sym, Slot}
use Rattle.ssh_findings.specs.Number.{number}
use Rattle.ssh_findings.proofs.EntryLemmas.{entry_put, sum_put}
use Rattle.ssh_findings.proofs.PlaceLemmas.{map_set_same}
use Rattle.ssh_findings.proofs.map.ByteMap.replace.Goals as goal

pub invariant_of-self : goal.invariant_of-self
invariant_of-self g c =
    let m = c.args.self.now in
    let q : Slot g.row.V.Denot = record { text = c.in-Some.kept.now.text; value = c.args.value } in
    let e = ap (λ (p : Slot g.row.V.Denot). p.text.items) c.in-Some.ensures.value ∙ c.requires.own c.in-Some.kept.now in
    record {
      numbered = m.numbered ∙ sym (map_set_same (λ (p : Slot g.row.V.Denot). number p.text.items) m.places.items c.args.place q (λ d. ap number (e ∙ sym (c.requires.own d))));
    }

pub returns-in-Some-clause-entry : goal.returns-in-Some-clause-entry
returns-in-Some-clause-entry g c =
    let q : Slot g.row.V.Denot = record { text = c.in-Some.kept.now.text; value = c.args.value } in
    let e = ap (λ (p : Slot g.row.V.Denot). p.text.items) c.in-Some.ensures.value ∙ c.requires.own c.in-Some.kept.now in
    entry_put c.args.self.now _ c.args.text.now c.args.place q c.requires e refl refl

pub returns-in-Some-clause-sum : goal.returns-in-Some-clause-sum
returns-in-Some-clause-sum g c = λ weight.
    let q : Slot g.row.V.Denot = record { text = c.in-Some.kept.now.text; value = c.args.value } in
    let e = ap (λ (p : Slot g.row.V.Denot). p.text.items) c.in-Some.ensures.value ∙ c.requires.own c.in-Some.kept.now in
    sum_put weight c.args.self.now _ c.args.text.now c.args.place q c.requires e refl refl
