use Rattle.ssh_print.proofs.Imports.{◌≡◌, ◌∙◌, ◌++◌, [], ap, arith}
use Rattle.ssh_print.proofs.HexLemmas.{text-same}
use Rattle.ssh_print.proofs.text.push_hex.Goals as goal

pub returns-clause-ok : goal.returns-clause-ok
returns-clause-ok c =
    let some : c.args.bytes.now ≡ [] → ⊥ = λ e. grind (arith, e, c.if-is_empty.false, c.is_empty.ensures) in
    c.in_ok-extend_from_slice.ensures.items
    ∙ ap (λ s. c.args.out.now.items ++ s)
    (c.as_bytes.ensures.value ∙ c.in_ok-text.ensures ∙ text-same c.args.bytes.now (λ i. omega (arith, c.type_inv.bytes i)) some)
