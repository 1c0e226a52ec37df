use Rattle.ssh_review.proofs.KeyListingLemmas.{all-records, granted-stands, key-decides, key-records}
use Rattle.ssh_review.proofs.key_laws.key_rule.Goals as goal

pub returns : goal.returns
returns c = record { all = all-records; of_key = key-records; stands = key-decides; granted = granted-stands }
