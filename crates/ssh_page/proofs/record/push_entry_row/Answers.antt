use Rattle.ssh_findings.specs.Findings.{auth_row}
use Rattle.ssh_page.specs.declared.piece.Piece.TheVariants as piece
use Rattle.ssh_page.specs.Documents.{marks, put, ◌&◌}
use Rattle.ssh_page.specs.Records.{all_limits, entry_cells, put_if, row_classes, row_findings, row_numbers}
use Rattle.ssh_page.specs.Records.{entry_row}
use Rattle.ssh_page.proofs.Appended.{both}
use Rattle.ssh_page.proofs.record.push_entry_row.Goals as goal

pub returns : goal.returns
unfolding entry_row
returns c =
    let to2 = both c.args.out.now.items (marks (put piece.Row)) (marks (row_classes auth_row c.args.found.now)) c.push_piece.new.out.items c.push_classes.new.out.items c.in_ok-push_piece.ensures c.in_ok-push_classes.ensures in
    let to3 = both c.args.out.now.items (marks (put piece.Row & row_classes auth_row c.args.found.now)) (marks (put_if c.args.facts.now.is_authority piece.AuthorityClass)) c.push_classes.new.out.items c.push_if.new.out.items to2 c.in_ok-push_if.ensures in
    let to4 = both c.args.out.now.items (marks (put piece.Row & row_classes auth_row c.args.found.now & put_if c.args.facts.now.is_authority piece.AuthorityClass)) (marks (row_numbers c.args.place)) c.push_if.new.out.items c.push_numbers.new.out.items to3 c.in_ok-push_numbers.ensures in
    let to5 = both c.args.out.now.items (marks (put piece.Row & row_classes auth_row c.args.found.now & put_if c.args.facts.now.is_authority piece.AuthorityClass & row_numbers c.args.place)) (marks (entry_cells c.args.facts.now)) c.push_numbers.new.out.items c.push_entry_cells.new.out.items to4 c.in_ok-push_entry_cells.ensures in
    let to6 = both c.args.out.now.items (marks (put piece.Row & row_classes auth_row c.args.found.now & put_if c.args.facts.now.is_authority piece.AuthorityClass & row_numbers c.args.place & entry_cells c.args.facts.now)) (marks (put piece.LimitsCell)) c.push_entry_cells.new.out.items c.push_piece-2.new.out.items to5 c.in_ok-push_piece-2.ensures in
    let to7 = both c.args.out.now.items (marks (put piece.Row & row_classes auth_row c.args.found.now & put_if c.args.facts.now.is_authority piece.AuthorityClass & row_numbers c.args.place & entry_cells c.args.facts.now & put piece.LimitsCell)) (marks (all_limits c.args.facts.now)) c.push_piece-2.new.out.items c.push_all_limits.new.out.items to6 c.in_ok-push_all_limits.ensures in
    let to8 = both c.args.out.now.items (marks (put piece.Row & row_classes auth_row c.args.found.now & put_if c.args.facts.now.is_authority piece.AuthorityClass & row_numbers c.args.place & entry_cells c.args.facts.now & put piece.LimitsCell & all_limits c.args.facts.now)) (marks (row_findings c.args.place auth_row c.args.found.now)) c.push_all_limits.new.out.items c.push_findings.new.out.items to7 c.in_ok-push_findings.ensures in
    let to9 = both c.args.out.now.items (marks (put piece.Row & row_classes auth_row c.args.found.now & put_if c.args.facts.now.is_authority piece.AuthorityClass & row_numbers c.args.place & entry_cells c.args.facts.now & put piece.LimitsCell & all_limits c.args.facts.now & row_findings c.args.place auth_row c.args.found.now)) (marks (put piece.RowEnd)) c.push_findings.new.out.items c.push_piece-3.new.out.items to8 c.in_ok-push_piece-3.ensures in
    to9
