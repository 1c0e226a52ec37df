use Rattle.ssh_program.proofs.Imports.{List, codes, rules, tests, ℕ, ◌∙◌, bytes_eq, YieldsList-from_slice, any_from_yields_List, list_any-map}
use Rattle.std.proofs.Common.{Bor}
use Rattle.ssh_program.proofs.subcommand.asks_usage.Goals as goal

pub returns : goal.returns
returns c =
    any_from_yields_List (λ (code : Bor (List ℕ)). bytes_eq code.now (codes "usage")) _ _ c.any.result c.any.ensures.ran
    (YieldsList-from_slice c.args.codes.now cc) (λ x b q k. search (rules, tests))
    ∙ list_any-map (λ name. bytes_eq name (codes "usage")) (λ code. code.now) c.args.codes.now
