use Rattle.ssh_rewriting.proofs.BoundedLemmas.{line_written}
use Rattle.ssh_rewriting.proofs.hash.put_kept.Goals as goal

pub returns : goal.returns
returns c =
    line_written c.args.new.now.items c.deref.result.now c.args.line.now c.extend_from_slice.new.self.items c.push.new.self.items
    c.if-is_past_limit.ensures c.deref.ensures.value c.in_ok-extend_from_slice.ensures.items c.in_ok-push.ensures.items
