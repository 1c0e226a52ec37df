use Rattle.std.proofs.Common.{rules}
use Rattle.ssh_page.proofs.RunLemmas.{run_pushed}
use Rattle.ssh_page.proofs.key_groups.push_run.Goals as goal

pub returns-clause-pushed : goal.returns-clause-pushed
returns-clause-pushed c =
    run_pushed c.args.groups.now.items c.push.new.self.items c.args.rows.now (record { rows = c.split_at.result.0; files = c.files_of.result }) c.run_length-count.result c.requires c.run_length-count.ensures.value
    c.split_at.ensures.front c.files_of.ensures (search rules)
