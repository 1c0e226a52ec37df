use Rattle.ssh_rules.proofs.Imports.{rules, ◌==◌, any_from_yields_List, YieldsList-from_slice_split, is_among}
use Rattle.ssh_rules.proofs.certificate.has_listed.Goals as goal

pub returns : goal.returns
returns c =
    any_from_yields_List (is_among c.args.principals.now) _ _ c.any.result c.any.ensures.ran
    (YieldsList-from_slice_split _ (λ b. b == 44) c.args.list.now c.split.ensures.rest c.split.ensures.done c.split.ensures.closure (λ x r q k. search rules))
    (λ x r q k. search rules)
