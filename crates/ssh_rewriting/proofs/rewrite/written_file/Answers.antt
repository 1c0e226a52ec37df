use Rattle.ssh_rewriting.proofs.Imports.{lines_of, numbered, file_with}
use Rattle.ssh_rewriting.proofs.LoopLemmas.{left_next, left_none}
use Rattle.ssh_rewriting.proofs.rewrite.written_file.Goals as goal

pub loop-number-preserved : goal.loop-number-preserved
loop-number-preserved g c = (
  tt,
  tt,
  left_next g.K.Kind.written (file_with g.K.Kind.written c.args.file.now) c.loop-number.new.items c.put_line.new.out.items c.push.new.self.items c.in-Some.line.now _
      (numbered (c.loop-number._number-iterator).0 (lines_of (c.loop-number._number-iterator).1))
      (numbered (c.next.new.self).0 (lines_of (c.next.new.self).1)) c.in-Some.ensures.steps c.loop-number.invariant.2
      c.in_ok-put_line.ensures c.in_ok-push.ensures.items,
)

pub returns : goal.returns
returns g c =
    left_none g.K.Kind.written (file_with g.K.Kind.written c.args.file.now) c.loop-number.new.items
    (numbered (c.loop-number._number-iterator).0 (lines_of (c.loop-number._number-iterator).1)) c.in-None.ensures.steps.0 c.loop-number.invariant.2
