use Rattle.ssh_program.proofs.Imports.{map, rules, first_unknown_code, response}
use Rattle.ssh_program.proofs.ExplainLemmas.{known, unknown}
use Rattle.ssh_program.proofs.show.explain_codes.Goals as goal

pub returns-in-Ok : goal.returns-in-Ok
returns-in-Ok c =
    known response (first_unknown_code (map (λ code. code.now) c.args.codes.now)) c.in-Ok.lines c.in-Ok.lines.items (map (λ code. code.now) c.args.codes.now) c.explain_usage.result
    c.in-Ok.ensures.unknown c.in-Ok.ensures.text c.explain_usage.ensures

pub returns-in-Err-Unknown : goal.returns-in-Err-Unknown
returns-in-Err-Unknown c =
    unknown response (first_unknown_code (map (λ code. code.now) c.args.codes.now)) _ (map (λ code. code.now) c.args.codes.now) c.value_fault.result
    ((c.in-Err-Unknown.ensures.unknown c.in-Err-Unknown.field-0-0).0 (search rules)) c.value_fault.ensures
