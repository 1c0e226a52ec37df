use Rattle.ssh_findings.proofs.Imports.{◌∙◌, ◌≡◌, ◌<◌, ap, length, subst, length-set, get_or_default_zero, row_of}
use Rattle.ssh_findings.proofs.RowLemmas.{lasts_more, back_more}
use Rattle.ssh_findings.proofs.table.Table.link.Goals as goal

pub invariant_of-self-2-clause-rows : goal.invariant_of-self-2-clause-rows
invariant_of-self-2-clause-rows c =
    let t = c.args.self.now in
    let len : c.len.result ≡ length t.lasts.items = c.len.ensures ∙ t.lasts.ok.0 in
    lasts_more t.lasts.items t.links.items c.push.new.self.items c.args.number c.index-before.result.now c.row_of-row.result c.len-2.result
    (c.row_of-row.ensures.value ∙ ap (λ n. row_of c.args.number n) len)
    (subst (λ n. c.row_of-row.result < n) len c.row_of-row.ensures.within)
    c.in_ok-push.ensures.items (c.len-2.ensures ∙ c.push.new.self.ok.0) t.rows

pub invariant_of-self-2-clause-back : goal.invariant_of-self-2-clause-back
invariant_of-self-2-clause-back c =
    let t = c.args.self.now in
    let len : c.len.result ≡ length t.lasts.items = c.len.ensures ∙ t.lasts.ok.0 in
    let own : c.row_of-row.result < length t.lasts.items = subst (λ n. c.row_of-row.result < n) len c.row_of-row.ensures.within in
    back_more t.lasts.items t.links.items c.push.new.self.items c.args.number c.index-before.result.now c.row_of-row.result
    (c.row_of-row.ensures.value ∙ ap (λ n. row_of c.args.number n) len)
    own
    c.in_ok-push.ensures.items (c.index-before.ensures ∙ get_or_default_zero t.lasts.items c.row_of-row.result c.index-before.result.now own) t.rows t.back _ (length-set t.lasts.items c.row_of-row.result c.len-2.result)
