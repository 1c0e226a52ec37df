use Rattle.ssh_entries.proofs.Imports.{◌≡◌, ◌≤◌, ℕ, List, false, length, drop, ap, ◌∙◌, skip_blanks, option_text_of}
use Rattle.ssh_entries.proofs.BytesLemmas.{room-within}
use Rattle.ssh_entries.proofs.LengthLemmas.{length_rest}
use Rattle.ssh_entries.proofs.auth_view.fields_after_options.Goals as goal

pub returns-clause-room : goal.returns-clause-room
returns-clause-room c =
    let text : List ℕ = c.args.body.now in
    let end : ℕ = length (option_text_of false 0 text) in
    let rest : c.skip_blanks.result.now ≡ skip_blanks (drop end text) = c.skip_blanks.ensures ∙ ap skip_blanks c.in_ok-options.ensures.rest in
    let short : length c.skip_blanks.result.now ≤ length text = rw rest (length_rest end text) in
    room-within c.fields_with.result (length c.skip_blanks.result.now) (length text) short c.fields_with.ensures.room
