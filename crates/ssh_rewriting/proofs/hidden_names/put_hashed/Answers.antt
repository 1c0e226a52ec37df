use Rattle.ssh_rewriting.proofs.Imports.{hashed_line}
use Rattle.ssh_rewriting.proofs.BoundedLemmas.{line_written}
use Rattle.ssh_rewriting.proofs.hidden_names.put_hashed.Goals as goal

pub returns : goal.returns
returns c =
    line_written c.args.new.now.items c.deref.result.now (hashed_line c.args.entry.now c.args.salt.now c.args.name.now) c.write_hashed_line.new.out.items c.push.new.self.items
    c.if-is_past_limit.ensures c.deref.ensures.value c.in_ok-write_hashed_line.ensures.ok c.in_ok-push.ensures.items
