use Rattle.ssh_print.proofs.Imports.{rules, tests, YieldsList-from_slice, YieldsList-from_copied, find_from_yields_List, is_of, reported}
use Rattle.ssh_print.proofs.TableLemmas.{row_found}
use Rattle.ssh_print.proofs.explaining.texts_in.Goals as goal

pub returns : goal.returns
returns c =
    row_found (is_of c.args.code.now) c.args.section.now c.find.result
    (find_from_yields_List (λ row. is_of c.args.code.now (reported row)) _ _ c.find.result c.find.ensures.ran (YieldsList-from_copied (YieldsList-from_slice c.args.section.now cc)) (λ x b q k. search (rules, tests)))
