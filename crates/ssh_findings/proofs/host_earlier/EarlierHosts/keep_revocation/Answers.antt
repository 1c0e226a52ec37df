use Rattle.ssh_findings.proofs.Imports.{◌≡◌, length, arith}
use Rattle.ssh_findings.specs.HostFindingsMemory.{texts_bytes, texts_sum}
use Rattle.ssh_findings.proofs.EarlierLemmas.{more_prepared, one_more_revocation}
use Rattle.ssh_findings.proofs.host_earlier.EarlierHosts.keep_revocation.Goals as goal

pub returns-clause-ok : goal.returns-clause-ok
returns-clause-ok c = λ lines s.
    let m = c.args.self.now in
    one_more_revocation m c.keep.new.self c.keep_some.new.self c.args.line c.args.bytes.now c.args.facts.now lines
    (more_prepared m.revoked c.prepare.new.self c.keep.new.self c.args.bytes.now c.args.line c.prepare.ensures.lines c.in_ok-keep.ensures.ok) c.in_ok-keep_some.ensures.ok s

pub returns-clause-bytes : goal.returns-clause-bytes
returns-clause-bytes c =
    let same : texts_bytes c.keep.new.self ≡ texts_bytes c.prepare.new.self = c.in_ok-keep.ensures.same c.in_ok-prepare.ensures.prepared (λ text. length text) in
    omega (arith, same, c.in_ok-prepare.ensures.bytes, c.in_ok-keep_some.ensures.bytes)

pub returns-clause-sum : goal.returns-clause-sum
returns-clause-sum c = λ weight.
    let same : texts_sum weight c.keep.new.self ≡ texts_sum weight c.prepare.new.self = c.in_ok-keep.ensures.same c.in_ok-prepare.ensures.prepared weight in
    omega (arith, same, c.in_ok-prepare.ensures.sum weight, c.in_ok-keep_some.ensures.sum weight)
