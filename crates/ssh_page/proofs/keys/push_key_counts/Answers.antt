use Rattle.std.proofs.Common.{◌≡◌, ◌++◌, OnOk, ℕ, List, refl, subst, sym, codes}
use Rattle.std.specs.Fmt.{digits}
use Rattle.ssh_print.specs.Texts.{escaped_text}
use Rattle.ssh_page.specs.Documents.{marks}
use Rattle.ssh_page.specs.Headers.{how_many}
use Rattle.ssh_page.specs.KeyLists.{key_counts}
use Rattle.ssh_page.proofs.keys.push_key_counts.Goals as goal

on-one-line : escaped_text (codes " in 1 file, on 1 line") ≡ marks (key_counts 1 1)
unfolding key_counts how_many digits
on-one-line = refl

pub returns-then-lines-eq1 : goal.returns-then-lines-eq1
returns-then-lines-eq1 c =
    let said : (List ℕ → Type 0) = λ text. OnOk c.push_shown.result (c.push_shown.new.out.items ≡ c.args.out.now.items ++ text) in
    subst (λ files. said (marks (key_counts files c.args.lines))) (sym c.if-files-eq1.true)
    (subst (λ lines. said (marks (key_counts 1 lines))) (sym c.if-lines-eq1.true)
    (subst said on-one-line c.push_shown.ensures.ok))
