use Rattle.std.proofs.Common.{◌≡◌, ◌++◌, drop}
use Rattle.std.specs.List.{flat_map}
use Rattle.ssh_page.specs.Documents.{marks}
use Rattle.ssh_page.specs.KeyLists.{column}
use Rattle.ssh_page.specs.KeyRows.{row_seen}
use Rattle.ssh_page.proofs.key_picture.push_columns.Given as goal

abbrev pub invariant-loop-row : goal.invariant-loop-row
invariant-loop-row l =
    l.out.items ++ flat_map (λ r. marks (column (row_seen r))) (drop l.row-index l.rows)
    ≡ l.initial.out.items ++ flat_map (λ r. marks (column (row_seen r))) l.rows
