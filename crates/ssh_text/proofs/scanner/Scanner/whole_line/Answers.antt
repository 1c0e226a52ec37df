use Rattle.ssh_text.proofs.Imports.{◌≡◌, ◌++◌, ◌∷◌, [], take, false, refl, sym, ◌∙◌, HasNoNewline, has_newline, up_to_newline}
use Rattle.ssh_text.proofs.NewlineLemmas.{free-front, none-found, found, up_to-found}
use Rattle.ssh_text.proofs.scanner.Scanner.whole_line.Goals as goal

pub returns-then-piece-end-clause-found : goal.returns-then-piece-end-clause-found
returns-then-piece-end-clause-found c bytes h =
    let none : has_newline c.args.piece.now ≡ false = none-found c.args.piece.now (sym c.line_len-end.ensures.value ∙ sym c.if-piece-end.true) in
    (λ f. cc, λ both. sym none ∙ both.1)

pub returns-clause-newline : goal.returns-clause-newline
returns-clause-newline c = found c.args.piece.now (λ e. c.if-piece-end.false (sym (c.line_len-end.ensures.value ∙ e)))

pub returns-clause-found : goal.returns-clause-found
returns-clause-found c bytes h = (
  (λ t. ((c.is_between.ensures bytes h).0 c.if-not-is_between.false, found c.args.piece.now (λ e. c.if-piece-end.false (sym (c.line_len-end.ensures.value ∙ e))))),
  λ both. refl,
)

pub returns-clause-part : goal.returns-clause-part
returns-clause-part c =
    let newline = found c.args.piece.now (λ e. c.if-piece-end.false (sym (c.line_len-end.ensures.value ∙ e))) in
    rw c.line_len-end.ensures.value (sym (up_to-found c.args.piece.now newline))

pub returns-clause-line : goal.returns-clause-line
returns-clause-line c bytes h =
    let piece = c.args.piece.now in
    let newline = found piece (λ e. c.if-piece-end.false (sym (c.line_len-end.ensures.value ∙ e))) in
    let free : HasNoNewline (take c.line_len-end.result piece) = rw c.line_len-end.ensures.value (free-front piece) in
    let cut : up_to_newline piece ≡ take c.line_len-end.result piece ++ 10 ∷ [] = rw c.line_len-end.ensures.value (up_to-found piece newline) in
    rw cut (c.pass_line-number.ensures.line free bytes h ((c.is_between.ensures bytes h).0 c.if-not-is_between.false))

pub returns-clause-stands_for : goal.returns-clause-stands_for
returns-clause-stands_for c bytes h =
    let piece = c.args.piece.now in
    let newline = found piece (λ e. c.if-piece-end.false (sym (c.line_len-end.ensures.value ∙ e))) in
    let free : HasNoNewline (take c.line_len-end.result piece) = rw c.line_len-end.ensures.value (free-front piece) in
    let cut : up_to_newline piece ≡ take c.line_len-end.result piece ++ 10 ∷ [] = rw c.line_len-end.ensures.value (up_to-found piece newline) in
    rw cut (c.pass_line-number.ensures.stands_for free bytes h ((c.is_between.ensures bytes h).0 c.if-not-is_between.false))
