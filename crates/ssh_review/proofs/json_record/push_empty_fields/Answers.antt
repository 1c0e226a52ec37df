use Rattle.std.proofs.Common.{◌++◌, true}
use Rattle.std.specs.Prelude.{codes}
use Rattle.ssh_review.proofs.Appended.{both}
use Rattle.ssh_review.specs.Objects.{empty_fields, no_grant_fields}
use Rattle.ssh_review.specs.RecordFields.{null_in, truth_in}
use Rattle.ssh_review.proofs.json_record.push_empty_fields.Goals as goal

pub returns : goal.returns
unfolding empty_fields
returns c =
    let form = c.args.form in
    let out = c.args.out.now.items in
    let comment = null_in form (codes "comment") in
    let options = null_in form (codes "options") in
    let shadow = null_in form (codes "shadowed_by") in
    let two = both out comment options c.push_null_in.new.out.items c.push_null_in-2.new.out.items c.in_ok-push_null_in.ensures c.in_ok-push_null_in-2.ensures in
    let three = both out (comment ++ options) (no_grant_fields form) c.push_null_in-2.new.out.items c.push_no_grant_fields.new.out.items two c.in_ok-push_no_grant_fields.ensures in
    let four = both out (comment ++ options ++ no_grant_fields form) shadow c.push_no_grant_fields.new.out.items c.push_null_in-3.new.out.items three c.in_ok-push_null_in-3.ensures in
    both out (comment ++ options ++ no_grant_fields form ++ shadow) (truth_in form (codes "lets_in") true) c.push_null_in-3.new.out.items c.push_truth_in.new.out.items four c.in_ok-push_truth_in.ensures
