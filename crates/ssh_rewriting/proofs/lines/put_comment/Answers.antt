use Rattle.ssh_rewriting.proofs.Written.{on_comment}
use Rattle.ssh_rewriting.proofs.lines.put_comment.Goals as goal

pub returns-clause-ok : goal.returns-clause-ok
returns-clause-ok c =
    on_comment c.extend_from_slice.result c.args.comment.now c.args.out.now.items c.push.new.self.items c.extend_from_slice.new.self.items
    c.if-is_empty.ensures c.in_ok-push.ensures.items c.extend_from_slice.ensures.items
