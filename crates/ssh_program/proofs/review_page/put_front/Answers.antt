use Rattle.ssh_program.proofs.Imports.{◌≡◌, ◌∙◌, ◌++◌, List, ℕ, Option, ap, sym, subst, drop, take-append-drop, Account, Breaks}
use Rattle.std.specs.Prelude.{take}
use Rattle.ssh_page.specs.Expanding.{mark_html, page}
use Rattle.ssh_program.proofs.WrittenText.{broken_on, at_first, joined_map, on_err}
use Rattle.ssh_program.proofs.review_page.put_front.Goals as goal

-- a write that fails in the page of the marks at the front fails in that of all
front-broken : (old new : Option Account) (marks : List ℕ) (count : ℕ) → Breaks old new (page (take count marks)) → Breaks old new (page marks)
front-broken old new marks count breaks =
    broken_on old old new (page marks) (page marks) (page (take count marks)) (page (drop count marks)) (at_first old (page marks))
    (joined_map mark_html marks (take count marks) (drop count marks) (sym (take-append-drop count marks))) breaks

pub returns-in_err-put_bytes-clause-err : goal.returns-in_err-put_bytes-clause-err
returns-in_err-put_bytes-clause-err g c =
    let old = g.W.Sink.account c.args.writer.now in
    let new = g.W.Sink.account c.put_bytes.new.writer in
    on_err _ _ (front-broken old new c.args.marks.now 1 (subst (Breaks old new) c.first_html.ensures c.in_err-put_bytes.ensures.err))

pub returns-in_err-put_bytes-2-clause-err : goal.returns-in_err-put_bytes-2-clause-err
returns-in_err-put_bytes-2-clause-err g c =
    let old = g.W.Sink.account c.args.writer.now in
    let new = g.W.Sink.account c.put_bytes-else-count-eq0.new.writer in
    let front = page (take c.expand_front-count.result c.args.marks.now) in
    let text : c.as_slice.result.now ≡ front =
    c.as_slice.ensures ∙ (c.expand_front-count.ensures.html ∙ ap (λ (x : List ℕ). x ++ front) c.clear.ensures) in
    on_err _ _ (front-broken old new c.args.marks.now c.expand_front-count.result (subst (Breaks old new) text c.in_err-put_bytes-2.ensures.err))
