use Rattle.ssh_findings.specs.HostFindingsFindings.{host_row}
use Rattle.ssh_page.specs.declared.piece.Piece.TheVariants as piece
use Rattle.ssh_page.specs.Documents.{marks, put, say, ◌&◌}
use Rattle.ssh_page.specs.Records.{held_part, row_classes, row_findings, row_numbers}
use Rattle.ssh_page.specs.HostRecords.{bare_row}
use Rattle.ssh_page.proofs.Appended.{both}
use Rattle.ssh_page.proofs.host_record.push_bare_row.Goals as goal

pub returns : goal.returns
unfolding bare_row
returns c =
    let to2 = both c.args.out.now.items (marks (put piece.Row)) (marks (row_classes host_row c.args.found.now)) c.push_piece.new.out.items c.push_classes.new.out.items c.in_ok-push_piece.ensures c.in_ok-push_classes.ensures in
    let to3 = both c.args.out.now.items (marks (put piece.Row & row_classes host_row c.args.found.now)) (marks (put piece.UnreadableClass)) c.push_classes.new.out.items c.push_piece-2.new.out.items to2 c.in_ok-push_piece-2.ensures in
    let to4 = both c.args.out.now.items (marks (put piece.Row & row_classes host_row c.args.found.now & put piece.UnreadableClass)) (marks (row_numbers c.args.place)) c.push_piece-2.new.out.items c.push_numbers.new.out.items to3 c.in_ok-push_numbers.ensures in
    let to5 = both c.args.out.now.items (marks (put piece.Row & row_classes host_row c.args.found.now & put piece.UnreadableClass & row_numbers c.args.place)) (marks (say c.args.is.now)) c.push_numbers.new.out.items c.push_shown.new.out.items to4 c.in_ok-push_shown.ensures.ok in
    let to6 = both c.args.out.now.items (marks (put piece.Row & row_classes host_row c.args.found.now & put piece.UnreadableClass & row_numbers c.args.place & say c.args.is.now)) (marks (held_part c.args.held)) c.push_shown.new.out.items c.push_held.new.out.items to5 c.in_ok-push_held.ensures in
    let to7 = both c.args.out.now.items (marks (put piece.Row & row_classes host_row c.args.found.now & put piece.UnreadableClass & row_numbers c.args.place & say c.args.is.now & held_part c.args.held)) (marks (put piece.RightsCell)) c.push_held.new.out.items c.push_piece-3.new.out.items to6 c.in_ok-push_piece-3.ensures in
    let to8 = both c.args.out.now.items (marks (put piece.Row & row_classes host_row c.args.found.now & put piece.UnreadableClass & row_numbers c.args.place & say c.args.is.now & held_part c.args.held & put piece.RightsCell)) (marks (say c.args.is.now)) c.push_piece-3.new.out.items c.push_shown-2.new.out.items to7 c.in_ok-push_shown-2.ensures.ok in
    let to9 = both c.args.out.now.items (marks (put piece.Row & row_classes host_row c.args.found.now & put piece.UnreadableClass & row_numbers c.args.place & say c.args.is.now & held_part c.args.held & put piece.RightsCell & say c.args.is.now)) (marks (put piece.LimitsCell)) c.push_shown-2.new.out.items c.push_piece-4.new.out.items to8 c.in_ok-push_piece-4.ensures in
    let to10 = both c.args.out.now.items (marks (put piece.Row & row_classes host_row c.args.found.now & put piece.UnreadableClass & row_numbers c.args.place & say c.args.is.now & held_part c.args.held & put piece.RightsCell & say c.args.is.now & put piece.LimitsCell)) (marks (row_findings c.args.place host_row c.args.found.now)) c.push_piece-4.new.out.items c.push_findings.new.out.items to9 c.in_ok-push_findings.ensures in
    let to11 = both c.args.out.now.items (marks (put piece.Row & row_classes host_row c.args.found.now & put piece.UnreadableClass & row_numbers c.args.place & say c.args.is.now & held_part c.args.held & put piece.RightsCell & say c.args.is.now & put piece.LimitsCell & row_findings c.args.place host_row c.args.found.now)) (marks (put piece.RowEnd)) c.push_findings.new.out.items c.push_piece-5.new.out.items to10 c.in_ok-push_piece-5.ensures in
    to11
