use Rattle.std.proofs.Common.{◌≡◌, drop, map}
use Rattle.std.specs.List.{fold}
use Rattle.ssh_page.specs.KeyGroups.{no_files, with_file}
use Rattle.ssh_page.specs.KeyRows.{row_seen}
use Rattle.ssh_page.proofs.key_groups.files_of.Given as goal

abbrev pub invariant-loop-row : goal.invariant-loop-row
invariant-loop-row l = fold with_file l.seen (map row_seen (drop l.row-index l.rows)) ≡ fold with_file no_files (map row_seen l.rows)
