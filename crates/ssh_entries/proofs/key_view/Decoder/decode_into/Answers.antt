use Rattle.ssh_entries.proofs.Imports.{◌≡◌, ℕ, List, Ok, arith, ap, sym, refl, take, rules, ◌∙◌, standard, decode_of, decode_of_strict}
use Rattle.ssh_entries.proofs.ByteLemmas.{AreBytes-from, IsBytes-from_all}
use Rattle.ssh_entries.proofs.key_view.Decoder.decode_into.Goals as goal

pub returns-clause-ok : goal.returns-clause-ok
returns-clause-ok c = ap (λ e. decode_of e c.args.field.now) (sym c.self.invariant) ∙ c.in_ok-len.ensures.ok.0

pub returns-in_err-len-clause-err : goal.returns-in_err-len-clause-err
returns-in_err-len-clause-err c =
    let same : decode_of standard c.args.field.now ≡ decode_of c.self.inside.engine c.args.field.now = ap (λ e. decode_of e c.args.field.now) (sym c.self.invariant) in
    rw same (search rules)

pub returns-clause-spelled : goal.returns-clause-spelled
returns-clause-spelled c =
    let field : List ℕ = c.args.field.now in
    let blob : List ℕ = take c.in_ok-len.len c.decode_slice_unchecked.new.output in
    let decoded : decode_of standard field ≡ Ok blob = ap (λ e. decode_of e field) (sym c.self.invariant) ∙ c.in_ok-len.ensures.ok.0 in
    decode_of_strict standard field blob (refl, refl) (IsBytes-from_all field (AreBytes-from field (λ i. omega (arith, c.type_inv.field i)))) decoded
