use Rattle.ssh_keys.proofs.Imports.{public_key}
use Rattle.ssh_keys.proofs.Ranges.{key_from_takes, key_from_refused}
use Rattle.ssh_keys.proofs.view.KeyView.from_fields.Goals as goal

pub invariant_of-result : goal.invariant_of-result
invariant_of-result c = record { is_key = key_from_takes (public_key c.args.fields) _ c.in-Ok.ensures }

pub returns-in-Err-clause-only : goal.returns-in-Err-clause-only
returns-in-Err-clause-only c = λ is. key_from_refused (public_key c.args.fields) c.in-Err.e c.in-Err.ensures is
