use Rattle.ssh_certs.proofs.OptionFactLemmas.{is-one-string, known-is, one-string-is}
use Rattle.ssh_certs.proofs.laws.data_rule.Goals as goal

pub returns : goal.returns
returns c = record { string = λ text field. (one-string-is field text, is-one-string field text); known = known-is }
