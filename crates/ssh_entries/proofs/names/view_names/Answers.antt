use Rattle.ssh_entries.proofs.Imports.{arith, sym, ◌∙◌}
use Rattle.ssh_entries.proofs.ByteLemmas.{AreBytes-from}
use Rattle.ssh_entries.proofs.NamesFieldLemmas.{hashed-spelled, list-spelled}
use Rattle.ssh_entries.proofs.names.view_names.Goals as goal

pub invariant_of-result : goal.invariant_of-result
invariant_of-result c =
    hashed-spelled c.args.field.now c.in-Some.name (AreBytes-from c.args.field.now (λ i. omega (arith, c.type_inv.field i)))
    (sym c.read_hashed.ensures ∙ c.in-Some.is)

pub invariant_of-result-2 : goal.invariant_of-result-2
invariant_of-result-2 c = list-spelled c.args.field.now (sym c.begins_with_bar.ensures ∙ c.if-begins_with_bar.false) (sym c.has_empty_item.ensures ∙ c.if-has_empty_item.false)
