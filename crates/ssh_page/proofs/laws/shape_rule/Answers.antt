use Rattle.ssh_page.proofs.KeyLemmas.{keys_shape}
use Rattle.ssh_page.proofs.ShapeLemmas.{entry_shape, host_entry_shape, mend_shape, revoked_shape}
use Rattle.ssh_page.proofs.laws.shape_rule.Goals as goal

pub returns : goal.returns
returns c = record {
  entry = λ place f found. (entry_shape place f found).by;
  host_entry = λ place f found. (host_entry_shape place f found).by;
  revoked = λ place fingerprint names found. (revoked_shape place fingerprint names found).by;
  mend = λ q t found l names. (mend_shape q t found l names).by;
  keys = λ l names. (keys_shape l names).by;
}
