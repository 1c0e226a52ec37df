use Rattle.ssh_options.proofs.Imports.{◌≡◌, ◌+◌, ◌-◌, ℕ, List, Some, length, take, drop, sym, ap, ◌∙◌, arith, length-drop, take_all}
use Rattle.ssh_options.proofs.QuoteLemmas.{no_quote, split_there, held_after, split_nowhere}
use Rattle.ssh_options.proofs.option_text.split_at_quote.Goals as goal

-- the rest of a slice, by its length
abbrev rest_of : List ℕ → ℕ → List ℕ
rest_of text from = take (length text - from) (drop from text)

whole : (text : List ℕ) (from : ℕ) → drop from text ≡ rest_of text from
whole text from = let left = length-drop from text in sym (take_all (length text - from) (drop from text) (omega arith))

part-cut : (text : List ℕ) (from len : ℕ) → take (from + len - from) (drop from text) ≡ take len (rest_of text from)
part-cut text from len =
    let same : from + len - from ≡ len = omega arith in
    ap (λ n. take n (drop from text)) same ∙ ap (take len) (whole text from)

pub returns-then-not-ends_with : goal.returns-then-not-ends_with
returns-then-not-ends_with c =
    let text = c.args.text.now in
    let from = c.loop-len.from in
    let len = c.in-Some.len in
    let found = c.in-Some.ensures in
    ap (λ r. Some (take (from + len) text, r)) (sym (whole text (from + len + 1)))
    ∙ split_there text (rest_of text from) (take (from + len - from) (drop from text)) from len c.loop-len.invariant.1 (whole text from) found.0.high
    (no_quote (rest_of text from) len found.0.before) found.1 (part-cut text from len) (sym c.ends_with.ensures ∙ c.if-not-ends_with.true)

pub loop-len-preserved : goal.loop-len-preserved
loop-len-preserved c =
    let text = c.args.text.now in
    let from = c.loop-len.from in
    let len = c.in-Some.len in
    let found = c.in-Some.ensures in
    let within = found.0.high in
    let left = length-drop from text in
    let all = ap (λ s. length s) (whole text from) in (
      omega arith,
      held_after text (rest_of text from) (take (from + len - from) (drop from text)) from len c.loop-len.invariant.1 (whole text from) found.0.high
          (no_quote (rest_of text from) len found.0.before) found.1 (part-cut text from len) (sym c.ends_with.ensures ∙ c.if-not-ends_with.false),
    )

pub returns : goal.returns
returns c =
    let text = c.args.text.now in
    let from = c.loop-len.from in
    split_nowhere text (rest_of text from) from c.loop-len.invariant.1 (whole text from)
    (no_quote (rest_of text from) (length (rest_of text from)) c.in_default.ensures)
