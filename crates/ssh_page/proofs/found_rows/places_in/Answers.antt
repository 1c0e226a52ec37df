use Rattle.ssh_page.proofs.ScanLemmas.{places_all, places_behind}
use Rattle.ssh_page.specs.FoundRows.{places_in}
use Rattle.ssh_page.proofs.found_rows.places_in.Goals as goal

pub loop-row-preserved : goal.loop-row-preserved
loop-row-preserved c =
    places_behind c.args.code c.loop-row.rest.now c.in-Some.row.now c.in_ok-rest.rest.now c.loop-row.places.items c.push_row_place.new.places.items
    (places_in c.args.code c.args.sections.now) c.in-Some.ensures.behind c.in_ok-rest.ensures.pushed c.loop-row.invariant

pub returns : goal.returns
returns c =
    places_all c.args.code c.loop-row.rest.now c.loop-row.places.items (places_in c.args.code c.args.sections.now) c.in_default.ensures.behind c.loop-row.invariant
