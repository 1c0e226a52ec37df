use Rattle.ssh_rewriting.proofs.Imports.{length, lines_of, numbered, names_hidden}
use Rattle.ssh_rewriting.proofs.HashLoopLemmas.{lines_next, names_next}
use Rattle.ssh_rewriting.proofs.hash.hashed_file.Goals as goal

pub loop-number-preserved : goal.loop-number-preserved
loop-number-preserved c =
    let now = numbered (c.loop-number._number-iterator).0 (lines_of (c.loop-number._number-iterator).1) in
    let next = numbered (c.next.new.self).0 (lines_of (c.next.new.self).1) in (
      tt,
      tt,
      lines_next c.in-Some._number c.in-Some.line.now now next c.loop-number.salts.now c.in_ok-salts.salts.now c.loop-number.new.items c.put_line.new.new.items _
          c.in-Some.ensures.steps c.in_ok-salts.ensures.lines c.in_ok-salts.ensures.left c.loop-number.invariant.2,
      names_next c.in-Some._number c.in-Some.line.now now next c.loop-number.salts.now c.in_ok-salts.salts.now (length c.args.salts.now) (length (names_hidden c.args.file.now))
          c.in-Some.ensures.steps c.in_ok-salts.ensures.left c.in_ok-salts.ensures.enough c.loop-number.invariant.3,
    )
