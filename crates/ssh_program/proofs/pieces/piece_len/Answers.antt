use Rattle.ssh_program.proofs.PieceLemmas.{lines-piece, whole-piece}
use Rattle.ssh_program.proofs.Imports.{◌≡◌, List, ℕ, length, refl, subst, sym, take}
use Rattle.std.specs.Prelude.{◌<◌}
use Rattle.memchr.specs.Find.{Passes, is_byte}
use Rattle.ssh_program.specs.Pieces.{pipe_room}
use Rattle.ssh_program.proofs.pieces.piece_len.Goals as goal

pub returns-then-text-le-PIPE_ROOM : goal.returns-then-text-le-PIPE_ROOM
returns-then-text-le-PIPE_ROOM c = whole-piece c.args.text.now c.if-text-le-PIPE_ROOM.true

pub returns-in-Some : goal.returns-in-Some
returns-in-Some c =
    let front : c.split_at.result.0.now ≡ take pipe_room c.args.text.now = c.split_at.ensures.front in
    let high = subst (λ (l : List ℕ). c.in-Some.end < length l) front c.in-Some.ensures.0.high in
    let is = subst (λ (l : List ℕ). Passes (is_byte 10) l c.in-Some.end) front c.in-Some.ensures.1 in
    lines-piece c.args.text.now c.in-Some.end _ c.if-text-le-PIPE_ROOM.false high is refl
