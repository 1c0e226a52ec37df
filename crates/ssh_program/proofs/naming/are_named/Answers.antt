use Rattle.ssh_program.proofs.Imports.{rules, tests, ◌∙◌, ℕ, List, Bor, sym, YieldsList-from_slice}
use Rattle.std.proofs.lemmas.Iterator.Search.{all_from_yields_List}
use Rattle.std.proofs.lemmas.List.Folds.{list_all-map}
use Rattle.ssh_program.specs.Namings.{is_named}
use Rattle.ssh_program.proofs.naming.are_named.Goals as goal

pub returns : goal.returns
returns c =
    all_from_yields_List (λ (name : Bor (List ℕ)). is_named c.args.naming name.now) _ _ c.all.result c.all.ensures.ran
    (YieldsList-from_slice c.args.names.now cc) (λ x b q k. search (rules, tests))
    ∙ sym (list_all-map (is_named c.args.naming) (λ (name : Bor (List ℕ)). name.now) c.args.names.now)
