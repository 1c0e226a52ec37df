use Rattle.ssh_rewriting.proofs.Imports.{option_in_line}
use Rattle.ssh_rewriting.proofs.Written.{part_from}
use Rattle.ssh_rewriting.proofs.lines.put_options.Goals as goal

pub returns-clause-ok : goal.returns-clause-ok
returns-clause-ok c =
    part_from c.args.options c.next.new.self (option_in_line c.in-Some.first) c.args.out.now.items c.put_option.new.out.items c.put_others.new.out.items c.push.new.self.items
    c.in-Some.ensures.steps c.in_ok-put_option.ensures.ok c.in_ok-put_others.ensures.ok c.in_ok-push.ensures.items
