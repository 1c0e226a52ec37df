use Rattle.ssh_patterns.proofs.Imports.{option_copied, sym, Source, IsBadSource, is_bad_source, FitsSource, source_item}
use Rattle.ssh_patterns.proofs.SourceLaw.{says-bad, says-yes, bad_source-tells, source-tells}
use Rattle.ssh_patterns.proofs.sources.source_list_counted.Goals as goal

pub returns-in-Some-clause-bad : goal.returns-in-Some-clause-bad
returns-in-Some-clause-bad c =
    let source : Source = record { host = option_copied c.args.host; text = c.args.address_text.now } in
    rw c.list_permit.ensures.value (says-bad is_bad_source IsBadSource (source_item source) c.args.list.now bad_source-tells)

pub returns-in-Some-clause-yes : goal.returns-in-Some-clause-yes
returns-in-Some-clause-yes c =
    let source : Source = record { host = option_copied c.args.host; text = c.args.address_text.now } in
    rw c.list_permit.ensures.value
    (says-yes is_bad_source IsBadSource (source_item source) (FitsSource source) c.args.list.now bad_source-tells
    (source-tells source c.in-Some.address (sym c.in-Some.ensures)))
