use Rattle.ssh_options.proofs.Imports.{◌∙◌, arith, FitsSigned, w64, to_z-of_z, signed_arith}
use Rattle.ssh_options.proofs.MomentLemmas.{clock-seconds, clock-range}
use Rattle.ssh_options.proofs.expiry_time.seconds_at.Goals as goal

pub returns-clause-value : goal.returns-clause-value
returns-clause-value c =
    let s = c.as_secs.ensures ∙ clock-seconds c.args.shown _ _ c.requires c.epoch.ensures c.duration_since.ensures in
    let range = clock-range c.args.shown in
    let fits : FitsSigned w64 c.as_secs.result = omega (arith, signed_arith, s, range) in
    to_z-of_z w64 c.as_secs.result fits ∙ s

pub returns-clause-range : goal.returns-clause-range
returns-clause-range c =
    let s = c.as_secs.ensures ∙ clock-seconds c.args.shown _ _ c.requires c.epoch.ensures c.duration_since.ensures in
    let range = clock-range c.args.shown in
    let fits : FitsSigned w64 c.as_secs.result = omega (arith, signed_arith, s, range) in
    rw (to_z-of_z w64 c.as_secs.result fits ∙ s) range
