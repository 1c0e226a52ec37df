use Rattle.std.proofs.Common.{◌∙◌, ◌++◌, ap}
use Rattle.ssh_findings.specs.HostFindingsFindings.{host_row}
use Rattle.std.specs.Prelude.{Some, codes}
use Rattle.ssh_page.specs.declared.piece.Piece.TheVariants as piece
use Rattle.ssh_page.specs.Documents.{marks, put, ◌&◌}
use Rattle.ssh_page.specs.HostRecords.{host_cells}
use Rattle.ssh_page.specs.Records.{put_if, row_classes, row_findings, row_numbers, setting_part}
use Rattle.ssh_page.specs.HostRecords.{host_entry_row}
use Rattle.ssh_page.proofs.Appended.{both}
use Rattle.ssh_page.proofs.host_record.push_host_entry_row.Goals as goal

pub returns : goal.returns
unfolding host_entry_row
returns c =
    let named = c.in_ok-push_value.ensures ∙ ap (λ t. c.push_piece-2.new.out.items ++ marks (setting_part (codes "names ") (Some t))) c.as_slice.ensures in
    let to2 = both c.args.out.now.items (marks (put piece.Row)) (marks (row_classes host_row c.args.found.now)) c.push_piece.new.out.items c.push_classes.new.out.items c.in_ok-push_piece.ensures c.in_ok-push_classes.ensures in
    let to3 = both c.args.out.now.items (marks (put piece.Row & row_classes host_row c.args.found.now)) (marks (put_if c.args.facts.now.is_authority piece.AuthorityClass)) c.push_classes.new.out.items c.push_if.new.out.items to2 c.in_ok-push_if.ensures in
    let to4 = both c.args.out.now.items (marks (put piece.Row & row_classes host_row c.args.found.now & put_if c.args.facts.now.is_authority piece.AuthorityClass)) (marks (row_numbers c.args.place)) c.push_if.new.out.items c.push_numbers.new.out.items to3 c.in_ok-push_numbers.ensures in
    let to5 = both c.args.out.now.items (marks (put piece.Row & row_classes host_row c.args.found.now & put_if c.args.facts.now.is_authority piece.AuthorityClass & row_numbers c.args.place)) (marks (host_cells c.args.facts.now)) c.push_numbers.new.out.items c.push_cells.new.out.items to4 c.in_ok-push_cells.ensures in
    let to6 = both c.args.out.now.items (marks (put piece.Row & row_classes host_row c.args.found.now & put_if c.args.facts.now.is_authority piece.AuthorityClass & row_numbers c.args.place & host_cells c.args.facts.now)) (marks (put piece.LimitsCell)) c.push_cells.new.out.items c.push_piece-2.new.out.items to5 c.in_ok-push_piece-2.ensures in
    let to7 = both c.args.out.now.items (marks (put piece.Row & row_classes host_row c.args.found.now & put_if c.args.facts.now.is_authority piece.AuthorityClass & row_numbers c.args.place & host_cells c.args.facts.now & put piece.LimitsCell)) (marks (setting_part (codes "names ") (Some c.args.facts.now.names))) c.push_piece-2.new.out.items c.push_value.new.out.items to6 named in
    let to8 = both c.args.out.now.items (marks (put piece.Row & row_classes host_row c.args.found.now & put_if c.args.facts.now.is_authority piece.AuthorityClass & row_numbers c.args.place & host_cells c.args.facts.now & put piece.LimitsCell & setting_part (codes "names ") (Some c.args.facts.now.names))) (marks (row_findings c.args.place host_row c.args.found.now)) c.push_value.new.out.items c.push_findings.new.out.items to7 c.in_ok-push_findings.ensures in
    let to9 = both c.args.out.now.items (marks (put piece.Row & row_classes host_row c.args.found.now & put_if c.args.facts.now.is_authority piece.AuthorityClass & row_numbers c.args.place & host_cells c.args.facts.now & put piece.LimitsCell & setting_part (codes "names ") (Some c.args.facts.now.names) & row_findings c.args.place host_row c.args.found.now)) (marks (put piece.RowEnd)) c.push_findings.new.out.items c.push_piece-3.new.out.items to8 c.in_ok-push_piece-3.ensures in
    to9
