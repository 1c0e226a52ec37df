use Rattle.ssh_findings.proofs.Imports.{subst, IsSome}
use Rattle.ssh_findings.proofs.EntryLemmas.{entry_none}
use Rattle.ssh_findings.proofs.map.ByteMap.insert.Goals as goal

pub add-requires-clause-absent : goal.add-requires-clause-absent
add-requires-clause-absent g c = entry_none c.args.self.now c.args.text.now c.get.result (c.requires.absent c.in-None.is) c.get.ensures.value c.if-is_none.ensures

pub returns-in-None-clause-spare : goal.returns-in-None-clause-spare
returns-in-None-clause-spare g c = λ some.
    let absent = entry_none c.args.self.now c.args.text.now c.get.result (c.requires.absent c.in-None.is) c.get.ensures.value c.if-is_none.ensures in
    let bad = subst IsSome absent some in cc
