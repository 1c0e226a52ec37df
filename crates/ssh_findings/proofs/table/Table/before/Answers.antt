use Rattle.ssh_findings.proofs.Imports.{◌<◌, ap, subst, sym, slice_index, length-map, Link, IsLast, numbers_of, row_of, rows_of}
use Rattle.ssh_findings.proofs.table.Table.before.Goals as goal

pub returns : goal.returns
returns c =
    let t = c.args.self.now in
    subst (IsLast (rows_of t) (numbers_of t) (row_of (slice_index (numbers_of t) c.args.place) (rows_of t)) c.args.place)
    (sym (ap (λ (l : Link). l.before) c.index.ensures))
    (t.back.at c.args.place c.index.result.now (subst (λ n. c.args.place < n) (length-map t.links.items (λ (l : Link). l.number)) c.requires))
