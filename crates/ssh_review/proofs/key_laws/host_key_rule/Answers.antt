use Rattle.ssh_review.proofs.KeyListingLemmas.{all-host-records, host-key-decides, host-key-records}
use Rattle.ssh_review.proofs.key_laws.host_key_rule.Goals as goal

pub returns : goal.returns
returns c = record { all = all-host-records; of_key = host-key-records; stands = host-key-decides }
