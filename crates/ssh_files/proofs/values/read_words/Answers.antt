use Rattle.ssh_files.proofs.Imports.{ℕ, List, true, arith, map, ap, rules, sym, ◌∙◌, ◌≡◌, ◌<◌, length, is_text, keeps_words, Bor}
use Rattle.ssh_files.proofs.PieceLemmas.{words_skip, words_more, words_broken, words_done, words_kept, words_pushed, text_is, no_text}
use Rattle.ssh_files.proofs.values.read_words.Goals as goal

pub loop-rest-preserved-then-end-eq0 : goal.loop-rest-preserved-then-end-eq0
loop-rest-preserved-then-end-eq0 c =
    let filled : 0 < length c.loop-rest.rest.now = search rules in
    rw c.split_at.ensures.back
    (words_skip c.args.line.now (map (λ w. w.now) c.loop-rest.words.items) c.loop-rest.rest.now c.word_len-end.result c.word_len-end.ensures.value c.if-end-eq0.true filled c.loop-rest.invariant)

pub returns-in_default-clause-value : goal.returns-in_default-clause-value
returns-in_default-clause-value c =
    let filled : 0 < length c.loop-rest.rest.now = search rules in
    let some : 0 < c.word_len-end.result = omega arith in
    rw c.new.ensures.items
    (words_broken c.args.line.now (map (λ w. w.now) c.loop-rest.words.items) c.loop-rest.rest.now c.word_len-end.result c.word_len-end.ensures.value some filled
    (ap is_text (sym c.split_at-in-loop-rest.ensures.front) ∙ no_text c.split_at-in-loop-rest.result.0.now c.in_default.ensures) c.loop-rest.invariant)

pub loop-rest-preserved : goal.loop-rest-preserved
loop-rest-preserved c =
    let filled : 0 < length c.loop-rest.rest.now = search rules in
    let some : 0 < c.word_len-end.result = omega arith in
    let text = text_is c.split_at-in-loop-rest.result.0.now c.in-Some.word.now c.in-Some.ensures in
    let front = c.split_at-in-loop-rest.ensures.front in
    rw (
      words_pushed (λ (w : Bor (List ℕ)). w.now) c.push.new.self.items c.loop-rest.words.items c.in-Some.word _ c.in_ok-push.ensures.items (text.1 ∙ front),
      c.split_at-in-loop-rest.ensures.back,
    )
    (words_more c.args.line.now (map (λ w. w.now) c.loop-rest.words.items) c.loop-rest.rest.now c.word_len-end.result c.word_len-end.ensures.value some filled
    (ap is_text (sym front) ∙ text.0) c.loop-rest.invariant)

pub returns-clause-value : goal.returns-clause-value
returns-clause-value c =
    let none : length c.loop-rest.rest.now ≡ 0 = search rules in
    words_done c.args.line.now (map (λ w. w.now) c.loop-rest.words.items) c.loop-rest.rest.now (omega arith) none c.loop-rest.invariant

pub returns-in_err-push-clause-spare : goal.returns-in_err-push-clause-spare
returns-in_err-push-clause-spare c none =
    let filled : 0 < length c.loop-rest.rest.now = search rules in
    let some : 0 < c.word_len-end.result = omega arith in
    let text = text_is c.split_at-in-loop-rest.result.0.now c.in-Some.word.now c.in-Some.ensures in
    let front = c.split_at-in-loop-rest.ensures.front in
    let kept : keeps_words c.args.line.now ≡ true =
    words_kept c.args.line.now (map (λ w. w.now) c.loop-rest.words.items) c.loop-rest.rest.now c.word_len-end.result (omega arith) c.word_len-end.ensures.value some filled
    (ap is_text (sym front) ∙ text.0) c.loop-rest.invariant in
    cc
