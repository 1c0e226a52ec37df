use Rattle.ssh_entries.proofs.Imports.{rules, ◌≡◌, sym, subst, SpellsNames, hashed_field, hidden}
use Rattle.ssh_entries.proofs.HashedLemmas.{hidden-spelled}
use Rattle.ssh_entries.proofs.hashed.hash_name.Goals as goal

pub returns-clause-spelled : goal.returns-clause-spelled
returns-clause-spelled c =
    let is : c.in_ok-field.field.items ≡ hashed_field c.args.salt.now c.args.name.now = search rules in
    subst (λ f. SpellsNames (hidden c.args.salt.now c.args.name.now) f) (sym is)
    (hidden-spelled c.args.salt.now c.args.name.now (record { count = search rules; bytes = λ i. search rules }))
