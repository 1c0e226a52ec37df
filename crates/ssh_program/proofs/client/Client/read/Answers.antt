use Rattle.ssh_program.proofs.Imports.{◌∙◌, Ok, ap, option_map, rules, sym, plain_zone, zone_text, Zone, rows_in}
use Rattle.ssh_program.proofs.AnsweredLemmas.{given_value}
use Rattle.ssh_program.proofs.KeyLemmas.{client_is_spelled}
use Rattle.ssh_program.proofs.client.Client.read.Goals as goal

pub returns : goal.returns
returns c =
    client_is_spelled (rows_in c.args.words.now) (option_map plain_zone c.args.zone) c.as_bytes.result.now c.in_ok-time.time (plain_zone c.in_ok-zone.zone)
    c.in_ok-empty_principals.empty_principals c.in_ok-rsa_minimum.rsa_minimum c.in_ok-form.form c.as_bytes-2.result.now _ c.zone_text-rule.result.now
    (c.in_ok-user.ensures.value ∙ ap (λ user. Ok user) (sym c.as_bytes.ensures.value)) c.in_ok-time.ensures (given_value plain_zone Zone c.args.zone c.in_ok-zone.zone c.in_ok-zone.ensures)
    c.in_ok-empty_principals.ensures c.in_ok-rsa_minimum.ensures c.in_ok-form.ensures
    (c.in_ok-address.ensures ∙ ap (λ address. Ok address) (sym c.as_bytes-2.ensures.value)) (search rules) (c.zone_text-rule.ensures ∙ ap zone_text c.given.ensures)
