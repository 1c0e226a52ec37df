use Rattle.ssh_findings.proofs.Imports.{◌≡◌, take, numbers_in, numbers_of, rows_of}
use Rattle.ssh_findings.proofs.table.Table.in_rows.Given as goal

abbrev pub invariant-loop-link : goal.invariant-loop-link
invariant-loop-link l = record {
  numbers : numbers_of l.table ≡ numbers_in (take l.link-index l.self.links.items);
  rows : rows_of l.table ≡ l.rows;
}
