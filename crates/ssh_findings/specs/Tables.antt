-- The contents of a hash table (this project's rule).
use Rattle.std.specs.Prelude.{ℕ, List, length}
use Rattle.ssh_findings.specs.declared.table.Table.{Table}
use Rattle.ssh_findings.specs.Rows.{numbers_in}

-- its hashes, in the order of insertion
abbrev pub numbers_of : Table → List ℕ
numbers_of table = numbers_in table.links.items

-- the number of its rows
abbrev pub rows_of : Table → ℕ
rows_of table = length table.lasts.items
