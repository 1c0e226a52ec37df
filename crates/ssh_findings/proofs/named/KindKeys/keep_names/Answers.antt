use Rattle.ssh_findings.proofs.Imports.{◌≡◌, ◌∙◌, ℕ, List, Some, ap, subst, sym, KeyKind, KeepsName}
use Rattle.ssh_findings.proofs.EarlierLemmas.{HasOneMoreKey, no_key}
use Rattle.ssh_findings.proofs.NameLemmas.{on_err}
use Rattle.ssh_findings.proofs.named.KindKeys.keep_names.Goals as goal

pub returns-in-None-clause-ok : goal.returns-in-None-clause-ok
returns-in-None-clause-ok c =
    let m = c.args.self.now in
    let f = c.args.facts.now in
    subst (λ list. HasOneMoreKey m m f.kind list c.args.line c.args.blob.now) (sym c.in-None.is) (no_key m f.kind c.args.line c.args.blob.now)

pub returns-in_ok-keep_list-in-Some-clause-ok : goal.returns-in_ok-keep_list-in-Some-clause-ok
returns-in_ok-keep_list-in-Some-clause-ok c =
    let m = c.args.self.now in
    let f = c.args.facts.now in
    let same : Some c.as_slice.result.now ≡ f.list = ap (λ l. Some l) c.as_slice.ensures ∙ sym c.in-Some.is in
    subst (λ own. HasOneMoreKey m c.keep_list.new.self f.kind f.list c.args.line own) c.in_ok-shared-in-Some.ensures
    (subst (λ list. HasOneMoreKey m c.keep_list.new.self f.kind list c.args.line c.in_ok-shared-in-Some.shared) same c.in_ok-keep_list-in-Some.ensures.ok)

pub returns-in_err-keep_list-in-Some-clause-err : goal.returns-in_err-keep_list-in-Some-clause-err
returns-in_err-keep_list-in-Some-clause-err c =
    let m = c.args.self.now in
    let f = c.args.facts.now in
    let same : Some c.as_slice.result.now ≡ f.list = ap (λ l. Some l) c.as_slice.ensures ∙ sym c.in-Some.is in
    on_err c.from_residual-in_err-keep_list-in-Some.result
    (subst (λ own. (k : KeyKind) (q : List ℕ) → KeepsName m c.keep_list.new.self f.kind f.list c.args.line own k q) c.in_ok-shared-in-Some.ensures
    (subst (λ list. (k : KeyKind) (q : List ℕ) → KeepsName m c.keep_list.new.self f.kind list c.args.line c.in_ok-shared-in-Some.shared k q) same
    c.in_err-keep_list-in-Some.ensures.err))
