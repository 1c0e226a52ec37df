use Rattle.std.proofs.Common.{◌≡◌, ◌∙◌, ◌+◌, sym, refl, ap, arith, drop, length, length-drop}
use Rattle.std.proofs.lemmas.List.{drop-drop}
use Rattle.ssh_page.specs.Rooms.{html_in}
use Rattle.ssh_page.proofs.ExpandLemmas.{own_within, text_more}
use Rattle.ssh_page.proofs.expanding.push_plain.Goals as goal

pub store-requires : goal.store-requires
store-requires c = omega (arith, c.front_len-len.ensures, own_within c.in-Some.bytes.now)

pub returns-then-len-lt16-clause-html : goal.returns-then-len-lt16-clause-html
returns-then-len-lt16-clause-html c =
    text_more c.args.marks.now c.loop-bytes.count c.front_len-len.result c.loop-bytes.rest.now c.in-Some.bytes.now (html_in c.args.out.now) (html_in c.loop-bytes.out) (html_in c.store.new.self)
    c.loop-bytes.invariant.0 c.loop-bytes.invariant.1 c.in-Some.ensures.cases.0 c.front_len-len.ensures (omega (arith, c.if-len-lt16.true)) (c.if-not-store.ensures.ok refl)

pub loop-bytes-preserved : goal.loop-bytes-preserved
loop-bytes-preserved c =
    let text = c.args.marks.now in
    let count = c.loop-bytes.count in
    let len = c.front_len-len.result in
    let whole : len ≡ 16 = omega (arith, c.if-len-lt16.false, c.front_len-len.ensures, own_within c.in-Some.bytes.now) in (
      text_more text count len c.loop-bytes.rest.now c.in-Some.bytes.now (html_in c.args.out.now) (html_in c.loop-bytes.out) (html_in c.store.new.self)
          c.loop-bytes.invariant.0 c.loop-bytes.invariant.1 c.in-Some.ensures.cases.0 c.front_len-len.ensures (omega (arith, whole)) (c.if-not-store.ensures.ok refl),
      c.in-Some.ensures.cases.1 ∙ ap (drop 16) c.loop-bytes.invariant.1 ∙ drop-drop 16 count text ∙ ap (λ n. drop (count + n) text) (sym whole),
      omega (arith, whole, c.in-Some.ensures.cases.2, ap (λ l. length l) c.loop-bytes.invariant.1, length-drop count text, c.loop-bytes.invariant.2),
    )
