use Rattle.ssh_print.proofs.Imports.{rules, tests, ◌∙◌, YieldsList-from_slice, position_from_yields_List, is_unknown}
use Rattle.ssh_print.proofs.TableLemmas.{same_place}
use Rattle.ssh_print.proofs.explaining.first_unknown.Goals as goal

pub returns : goal.returns
returns c =
    position_from_yields_List (λ code. is_unknown code.now) _ _ c.position.result c.position.ensures.ran (YieldsList-from_slice c.args.codes.now cc) (λ x b q k. search (rules, tests))
    ∙ same_place is_unknown c.args.codes.now
