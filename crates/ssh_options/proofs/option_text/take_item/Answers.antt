use Rattle.ssh_options.proofs.Imports.{◌≡◌, length, rules, ap, ◌∙◌, after_now, split_value, value_taken}
use Rattle.ssh_options.proofs.FrontLemmas.{rest_front, unnamed}
use Rattle.ssh_options.proofs.option_text.take_item.Goals as goal

pub returns-then-is_empty-clause-item : goal.returns-then-is_empty-clause-item
returns-then-is_empty-clause-item c =
    let none : length c.split_at.result.0.now ≡ 0 = search (rules) in
    unnamed c.args.text.now c.split_at.result.0.now (c.split_at.ensures.front ∙ c.name_len.ensures.name) none

pub returns-clause-rest : goal.returns-clause-rest
returns-clause-rest c =
    rest_front c.args.text.now (value_taken (c.in_ok-value.value, c.in_ok-value.rest)) (after_now c.in_ok-after.after)
    (c.in_ok-value.ensures ∙ ap split_value (c.split_at.ensures.back ∙ c.name_len.ensures.rest)) c.in_ok-after.ensures
