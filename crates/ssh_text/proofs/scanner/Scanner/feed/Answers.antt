use Rattle.ssh_text.proofs.Imports.{◌≡◌, ◌+◌, ◌++◌, ◌∷◌, [], take, sym, ◌∙◌, append_assoc, HasNoNewline}
use Rattle.ssh_text.proofs.NewlineLemmas.{free-front, none-found, found, up_to-all, up_to-found}
use Rattle.ssh_text.proofs.scanner.Scanner.feed.Goals as goal

pub returns-then-end-piece-clause-newline : goal.returns-then-end-piece-clause-newline
returns-then-end-piece-clause-newline c = sym (none-found c.args.piece.now (sym c.line_len-end.ensures.value ∙ c.if-end-piece.true))

pub returns-then-end-piece-clause-part : goal.returns-then-end-piece-clause-part
returns-then-end-piece-clause-part c = up_to-all c.line_len-end.result c.args.piece.now c.line_len-end.ensures.value c.if-end-piece.true

pub returns-then-end-piece-clause-stands_for : goal.returns-then-end-piece-clause-stands_for
returns-then-end-piece-clause-stands_for c bytes h =
    let piece = c.args.piece.now in
    let free : HasNoNewline (take c.line_len-end.result piece) = rw c.line_len-end.ensures.value (free-front piece) in
    c.in_ok-take_part.ensures.stands_for free bytes h

pub returns-clause-newline : goal.returns-clause-newline
returns-clause-newline c = sym (found c.args.piece.now (λ e. c.if-end-piece.false (c.line_len-end.ensures.value ∙ e)))

pub returns-clause-stands_for : goal.returns-clause-stands_for
returns-clause-stands_for c bytes h =
    let piece = c.args.piece.now in
    let free : HasNoNewline (take c.line_len-end.result piece) = rw c.line_len-end.ensures.value (free-front piece) in
    let newline = found piece (λ e. c.if-end-piece.false (c.line_len-end.ensures.value ∙ e)) in
    let front = c.take_newline.ensures.stands_for (bytes ++ take c.line_len-end.result piece) (c.in_ok-take_part.ensures.stands_for free bytes h) in
    let cut : take (c.line_len-end.result + 1) piece ≡ take c.line_len-end.result piece ++ 10 ∷ [] =
    rw c.line_len-end.ensures.value (up_to-found piece newline) in
    rw (cut, ← append_assoc bytes (take c.line_len-end.result piece) (10 ∷ [])) front
