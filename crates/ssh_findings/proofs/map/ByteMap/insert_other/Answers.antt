use Rattle.ssh_findings.proofs.Imports.{◌∙◌, ◌≡◌, ℕ, BTreeMap, Some, None, ap, nat_cmp, refl, subst, sym, IsSome, UpdatesBy, slice_cmp, Vec, other_of}
use Rattle.ssh_findings.proofs.EntryLemmas.{entry_other, on_err, other_put, sum_other, sum_other_new, unchanged}
use Rattle.ssh_findings.proofs.map.ByteMap.insert_other.Goals as goal

pub returns-in-Some-clause-ok : goal.returns-in-Some-clause-ok
returns-in-Some-clause-ok g c = λ other.
    let m = c.args.self.now in
    let text = c.args.text.now in
    let found : other_of m text ≡ Some c.in-Some.kept.now = sym c.in-Some.ensures.value in
    other_put m _ text c.args.value c.requires refl
    ((c.get_mut.follows.holds c.args.value).3 (subst IsSome (sym found) refl)) other

pub returns-in-Some-clause-sum : goal.returns-in-Some-clause-sum
returns-in-Some-clause-sum g c = λ weight.
    let m = c.args.self.now in
    let text = c.args.text.now in
    let found : other_of m text ≡ Some c.in-Some.kept.now = sym c.in-Some.ensures.value in
    sum_other weight m _ text c.in-Some.kept.now c.args.value refl
    (c.get_mut.follows.holds c.args.value).0 found (entry_other m text c.requires ∙ found)

pub returns-in_err-key-clause-spare : goal.returns-in_err-key-clause-spare
returns-in_err-key-clause-spare g c = λ some.
    let none : other_of c.args.self.now c.args.text.now ≡ None = sym c.in_default.ensures.value in
    let bad = subst IsSome (entry_other c.args.self.now c.args.text.now c.requires ∙ none) some in cc

pub returns-in_err-insert-clause-err : goal.returns-in_err-insert-clause-err
returns-in_err-insert-clause-err g c =
    on_err c.from_residual-in_err-insert.result (unchanged c.args.self.now _ refl
    (c.in_err-insert.ensures.err ∙ ap (λ (o : BTreeMap (Vec ℕ) g.row.V.Denot). o.entries) c.get_mut.follows.holds-at-none))

pub returns-in_err-insert-clause-spare : goal.returns-in_err-insert-clause-spare
returns-in_err-insert-clause-spare g c = λ some.
    let none : other_of c.args.self.now c.args.text.now ≡ None = sym c.in_default.ensures.value in
    let bad = subst IsSome (entry_other c.args.self.now c.args.text.now c.requires ∙ none) some in cc

pub returns-clause-ok : goal.returns-clause-ok
returns-clause-ok g c = λ other.
    let m = c.args.self.now in
    let text = c.args.text.now in
    other_put m _ text c.args.value c.requires refl
    (subst (λ bs. UpdatesBy (λ x y. slice_cmp nat_cmp x.items y.items) (λ key. slice_cmp nat_cmp bs key.items) m.others c.insert.new.self (Some c.args.value))
    c.in_ok-key.ensures.items (rw c.get_mut.follows.holds-at-none at c.in_ok-insert.ensures.updates)) other

pub returns-clause-sum : goal.returns-clause-sum
returns-clause-sum g c = λ weight.
    let m = c.args.self.now in
    let text = c.args.text.now in
    let none : other_of m text ≡ None = sym c.in_default.ensures.value in
    sum_other_new weight m _ text c.in_ok-key.key c.args.value refl
    (rw c.get_mut.follows.holds-at-none at c.in_ok-insert.ensures.entries) c.in_ok-key.ensures.items none (entry_other m text c.requires ∙ none)
