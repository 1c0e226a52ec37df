use Rattle.std.proofs.Common.{◌∙◌, ◌-◌, ◌^◌, ap, rules}
use Rattle.std.proofs.lemmas.List.Sorted.{answers_always}
use Rattle.ssh_page.specs.KeyGroups.{files_before}
use Rattle.ssh_page.specs.Sorting.{in_order}
use Rattle.ssh_page.proofs.RunLemmas.{sorted_groups}
use Rattle.ssh_page.proofs.key_groups.groups_in.Goals as goal

pub returns : goal.returns
returns c =
    sorted_groups c.in_ok-groups.groups.items c.sort_by_key.new.self.items
    (c.in_ok-sort_by_key.ensures.sorted (λ g. (2 ^ 64 - 1) - g.files) (answers_always _ _ _ (λ f a r g h. search rules)))
    (c.sort_by_key.ensures.stable (λ g. (2 ^ 64 - 1) - g.files) (answers_always _ _ _ (λ f a r g h. search rules)))
    ∙ ap (in_order files_before) c.in_ok-groups.ensures
