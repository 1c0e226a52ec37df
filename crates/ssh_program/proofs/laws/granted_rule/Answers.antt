use Rattle.ssh_program.proofs.GrantingLemmas.{host_denied, host_granted, login_denied, login_granted}
use Rattle.ssh_program.proofs.laws.granted_rule.Goals as goal

pub returns : goal.returns
returns c = record { asked_login = login_granted; asked_host = host_granted; denied_login = login_denied; denied_host = host_denied }
