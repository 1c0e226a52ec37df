use Rattle.std.proofs.Common.{◌≡◌, ◌∙◌, ◌++◌, OnOk, ap, map, subst, take}
use Rattle.ssh_page.specs.Documents.{each, marks}
use Rattle.ssh_page.specs.KeyGroups.{group_seen}
use Rattle.ssh_page.specs.KeyLists.{picture_row}
use Rattle.ssh_page.proofs.RunLemmas.{first_seen}
use Rattle.ssh_page.proofs.key_picture.push_first_rows.Goals as goal

pub returns : goal.returns
returns c =
    let groups = c.args.groups.now in
    let same : map group_seen c.split_at.result.0.now ≡ take 40 (map group_seen groups) =
    ap (map group_seen) (c.split_at.ensures.front ∙ ap (λ n. take n groups) c.min.ensures) ∙ first_seen 40 groups in
    subst (λ seen. OnOk c.push_picture_rows.result (c.push_picture_rows.new.out.items ≡ c.args.out.now.items ++ marks (each (picture_row c.args.all) seen))) same c.push_picture_rows.ensures
