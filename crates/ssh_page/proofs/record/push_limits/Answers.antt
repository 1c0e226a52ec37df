use Rattle.ssh_page.specs.Records.{limits_part}
use Rattle.ssh_page.proofs.Appended.{both}
use Rattle.ssh_page.proofs.record.push_limits.Goals as goal

pub returns : goal.returns
unfolding limits_part
returns c =
    both _ _ _ _ _ (both _ _ _ _ _ (both _ _ _ _ _ (both _ _ _ _ _ c.in_ok-push_flag.ensures c.in_ok-push_flag-2.ensures) c.in_ok-push_setting.ensures) c.in_ok-push_setting-2.ensures) c.in_ok-push_until.ensures
