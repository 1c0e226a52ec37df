use Rattle.ssh_keys.proofs.Imports.{◌≡◌, ◌<◌, ◌≤◌, length, arith, sym, ap, subst, ◌∙◌, List, ℕ, take, string_bytes, standard, encode_of}
use Rattle.std.specs.Prelude.{true}
use Rattle.ssh_keys.specs.Fingerprint.{digest_text_of}
use Rattle.ssh_keys.proofs.Texts.{text_len}
use Rattle.ssh_keys.proofs.key.digest_text.Goals as goal

pub unreachable-requires : goal.unreachable-requires
unreachable-requires c =
    let text : string_bytes c.in_ok-encoded.encoded ≡ encode_of standard c.args.digest.now = c.in_ok-encoded.ensures.text in
    let short : length c.as_bytes.result.now < 43 = c.in-None.ensures.cases in
    let long : 43 ≤ length c.as_bytes.result.now = subst (λ (t : List ℕ). 43 ≤ length t) (sym (c.as_bytes.ensures.value ∙ text)) (text_len _ _ true c.args.digest.now c.told-digest) in
    omega arith

pub returns : goal.returns
unfolding digest_text_of
returns c =
    let text : string_bytes c.in_ok-encoded.encoded ≡ encode_of standard c.args.digest.now = c.in_ok-encoded.ensures.text in
    c.in-Some.ensures.cases.same ∙ ap (λ (t : List ℕ). take 43 t) (c.as_bytes.ensures.value ∙ text)
