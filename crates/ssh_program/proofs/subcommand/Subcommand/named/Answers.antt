use Rattle.ssh_program.proofs.Imports.{rules, tests, bytes_eq, YieldsList-from_slice, YieldsList-from_copied, find_from_yields_List, subcommand_name}
use Rattle.ssh_program.proofs.SubcommandLemmas.{found_named}
use Rattle.ssh_program.proofs.subcommand.Subcommand.named.Goals as goal

pub returns : goal.returns
returns c =
    found_named c.args.name.now c.all.result.now c.find.result c.all.ensures
    (find_from_yields_List (λ x. bytes_eq (subcommand_name x) c.args.name.now) _ _ c.find.result c.find.ensures.ran
    (YieldsList-from_copied (YieldsList-from_slice c.all.result.now cc)) (λ x b q k. search (rules, tests)))
