use Rattle.ssh_entries.proofs.Imports.{◌≡◌, ℕ, List, ap, ◌∙◌, arith, skip_blanks, first_word, next_field}
use Rattle.ssh_entries.proofs.LengthLemmas.{length_next, length-word}
use Rattle.ssh_entries.proofs.known_view.view_known_fields.Goals as goal

pub view_fields-requires : goal.view_fields-requires
view_fields-requires c =
    let body : List ℕ = c.args.body.now in
    let rest : c.skip_blanks-rest.result.now ≡ next_field body = c.skip_blanks-rest.ensures ∙ ap skip_blanks c.split_word.ensures.rest in
    let short = length_next body in
    let room = c.requires in
    rw rest (omega arith)

pub view_fields-requires-in-CertAuthority : goal.view_fields-requires-in-CertAuthority
view_fields-requires-in-CertAuthority c =
    let body : List ℕ = c.args.body.now in
    let rest : c.skip_blanks-rest.result.now ≡ next_field body = c.skip_blanks-rest.ensures ∙ ap skip_blanks c.split_word.ensures.rest in
    let key : c.skip_blanks.result.now ≡ next_field (next_field body) =
    c.skip_blanks.ensures ∙ ap skip_blanks c.split_word-in-CertAuthority.ensures.rest ∙ ap next_field rest in
    let first = length_next body in
    let second = length_next (next_field body) in
    let room = c.requires in
    rw key (omega arith)

pub view_revoked-requires : goal.view_revoked-requires
view_revoked-requires c =
    let body : List ℕ = c.args.body.now in
    let rest : c.skip_blanks-rest.result.now ≡ next_field body = c.skip_blanks-rest.ensures ∙ ap skip_blanks c.split_word.ensures.rest in
    let key : c.skip_blanks-in-Revoked.result.now ≡ next_field (next_field body) =
    c.skip_blanks-in-Revoked.ensures ∙ ap skip_blanks c.split_word-in-Revoked.ensures.rest ∙ ap next_field rest in
    let field : c.split_fields.result.1.now ≡ first_word (next_field (next_field (next_field body))) =
    c.split_fields.ensures.base64 ∙ ap (λ t. first_word (next_field t)) key in
    let first = length_next body in
    let second = length_next (next_field body) in
    let third = length_next (next_field (next_field body)) in
    let word = length-word (next_field (next_field (next_field body))) in
    let room = c.requires in
    rw field (omega arith)
