use Rattle.ssh_findings.proofs.Imports.{◌≡◌, ◌<◌, ◌-◌, ℕ, suc, arith, sym, numbers_of, rows_of}
use Rattle.ssh_findings.proofs.SeekLemmas.{none_wanted, wanted_first, wanted_next}
use Rattle.ssh_findings.proofs.map.ByteMap.seek.Goals as goal

pub loop-next-init : goal.loop-next-init
loop-next-init g c =
    let m = c.args.self.now in
    wanted_first (rows_of m.table) (numbers_of m.table) m.places.items c.args.text.now c.args.hash c.last-next.result m.numbered c.requires c.last-next.ensures

-- the place before a number that is not 0
place_before : (n : ℕ) → 0 < n → n ≡ suc (n - 1)
place_before n h = omega (arith, h)

pub loop-next-preserved : goal.loop-next-preserved
loop-next-preserved g c =
    let m = c.args.self.now in
    wanted_next (rows_of m.table) (numbers_of m.table) m.places.items c.args.text.now c.loop-next.next (c.loop-next.next - 1) c.before-next.result m.numbered
    (place_before c.loop-next.next c.loop-next-test.true) c.loop-next.invariant (λ d. sym (c.if-is_place.ensures d)) c.before-next.ensures

pub returns-clause-absent : goal.returns-clause-absent
returns-clause-absent g c = λ e.
    let m = c.args.self.now in
    none_wanted (rows_of m.table) (numbers_of m.table) m.places.items c.args.text.now c.loop-next.next c.loop-next.invariant c.loop-next-test.false
