-- A line of an authorized_keys file that is read as one with a fault has that fault.
use Rattle.ssh_entries.proofs.Imports.{◌≡◌, ◌≢◌, ℕ, nat_lt, Bool, true, false, if◌then◌else◌, inl, inr, List, [], length, drop, Result, Ok, Err, refl, ap, subst, ◌∙◌, NameClass, Plain, Certificate, Retired, Other, class_of, LineCause, AuthOption, IsOptionsFault, options_of, options_of-fault, read_options, text_cut, skipped, body_of, first_word, line_limit, next_field, skip_blanks, Unreadable, KeyPart, begins_with_type, has_no_bytes, is_type, key_after_fields, lacks_key, HasOptions, IsAuthFault, IsKeyText, after_options, option_field, entry_after_options, entry_of, entry_of_key, line_of_front, LineFront, past_limit, empty, remark, fields, front_of, begins_with, HasFields, HasKey, IsKeyFault, field_of}
use Rattle.ssh_entries.proofs.ByteLemmas.{AreBytes, AreBytes-back, IsBytes-from_all}
use Rattle.ssh_options.specs.declared.option_text.LineCause.TheVariants as causes
use Rattle.ssh_entries.specs.KeyPart.{key_part_of}
use Rattle.ssh_entries.specs.AuthGrammar.{auth_line}
use Rattle.ssh_entries.proofs.FieldLemmas.{body-bytes, next-bytes, word-bytes}
use Rattle.ssh_entries.proofs.FrontLemmas.{front-fields}
use Rattle.ssh_entries.proofs.KnownFaultLemmas.{class-fault, is-some, missing, there}
use Rattle.ssh_entries.proofs.RevokedLemmas.{long-by}

-- ---- the key

of-key : (cause : LineCause) (line text : List ℕ) → HasFields line → IsKeyText line text → HasKey text → IsKeyFault cause text
    → IsAuthFault cause line
of-key causes.TooLong line text f t k h = absurd h
of-key causes.OptionSyntax line text f t k h = absurd h
of-key causes.UnknownOption line text f t k h = absurd h
of-key causes.OptionValue line text f t k h = absurd h
of-key causes.RepeatedOption line text f t k h = absurd h
of-key causes.ExpiryText line text f t k h = absurd h
of-key causes.NoKey line text f t k h = absurd h
of-key causes.KeyType line text f t k h = (text, f, t, k, h)
of-key causes.RetiredType line text f t k h = (text, f, t, k, h)
of-key causes.Base64 line text f t k h = (text, f, t, k, h)
of-key (causes.KeyBlob e) line text f t k h = (text, f, t, k, h)
of-key causes.TypeMismatch line text f t k h = (text, f, t, k, h)
of-key causes.CertificateOnLine line text f t k h = (text, f, t, k, h)
of-key causes.Marker line text f t k h = absurd h
of-key causes.HashedName line text f t k h = absurd h
of-key causes.Names line text f t k h = absurd h

key-by : (line text : List ℕ) (lacks : Bool) (cause : LineCause) → AreBytes text → HasFields line → IsKeyText line text
    → lacks_key text ≡ lacks → (if lacks then Err causes.NoKey else key_after_fields text) ≡ Err cause → IsAuthFault cause line
key-by line text true cause are f t l h =
    let e : causes.NoKey ≡ cause = cc in
    subst (λ x. IsAuthFault x line) e (text, f, t, missing text (has_no_bytes (first_word text)) (has_no_bytes (field_of text)) refl refl l)
key-by line text false cause are f t l h =
    let bytes = IsBytes-from_all (field_of text) (word-bytes (next_field text) (next-bytes text are)) in
    of-key cause line text f t (there text (has_no_bytes (first_word text)) (has_no_bytes (field_of text)) refl refl l)
    (class-fault text (class_of (first_word text)) cause bytes refl h)

part-fault : (line text : List ℕ) (cause : LineCause) → AreBytes text → HasFields line → IsKeyText line text
    → key_part_of text ≡ Err cause → IsAuthFault cause line
unfolding key_part_of
part-fault line text cause are f t h = key-by line text (lacks_key text) cause are f t refl h

part-by : (options : List AuthOption) (part : Result KeyPart LineCause) (cause : LineCause)
    → entry_of_key options part ≡ Unreadable cause → part ≡ Err cause
part-by options (Ok part) cause h = cc
part-by options (Err e) cause h = cc

-- ---- the options

of-options : (cause : LineCause) (line : List ℕ) → HasOptions line → IsOptionsFault cause (option_field line) → IsAuthFault cause line
of-options causes.TooLong line o (front, rest, item, before, s, z, a, h) = absurd h
of-options causes.OptionSyntax line o h = (o, h)
of-options causes.UnknownOption line o h = (o, h)
of-options causes.OptionValue line o h = (o, h)
of-options causes.RepeatedOption line o h = (o, h)
of-options causes.ExpiryText line o h = (o, h)
of-options causes.NoKey line o (front, rest, item, before, s, z, a, h) = absurd h
of-options causes.KeyType line o (front, rest, item, before, s, z, a, h) = absurd h
of-options causes.RetiredType line o (front, rest, item, before, s, z, a, h) = absurd h
of-options causes.Base64 line o (front, rest, item, before, s, z, a, h) = absurd h
of-options (causes.KeyBlob e) line o (front, rest, item, before, s, z, a, h) = absurd h
of-options causes.TypeMismatch line o (front, rest, item, before, s, z, a, h) = absurd h
of-options causes.CertificateOnLine line o (front, rest, item, before, s, z, a, h) = absurd h
of-options causes.Marker line o (front, rest, item, before, s, z, a, h) = absurd h
of-options causes.HashedName line o (front, rest, item, before, s, z, a, h) = absurd h
of-options causes.Names line o (front, rest, item, before, s, z, a, h) = absurd h

rest-bytes : (line : List ℕ) → AreBytes line → AreBytes (after_options line)
rest-bytes line are =
    let body = body_of line in
    let rest = drop (length (option_field line)) body in
    let cut = text_cut false 0 body in
    let skip = skipped rest in
    let bytes : AreBytes rest = AreBytes-back (option_field line) rest (subst AreBytes cut.whole (body-bytes line are)) in
    AreBytes-back skip.gap (skip_blanks rest) (subst AreBytes skip.whole bytes)

options-by : (line : List ℕ) (options : Result (List AuthOption) LineCause) (cause : LineCause) → AreBytes line → HasOptions line
    → options_of (option_field line) ≡ options → entry_after_options options (after_options line) ≡ Unreadable cause
    → IsAuthFault cause line
options-by line (Err e) cause are o r h =
    let is : e ≡ cause = cc in
    of-options cause line o (options_of-fault (option_field line) cause (r ∙ ap (λ x. Err x) is))
options-by line (Ok options) cause are o r h =
    let read = read_options (option_field line) options r in
    let text = after_options line in
    part-fault line text cause (rest-bytes line are) o.there (inr (options, o.no_type, read.spelled, read.allowed, refl))
    (part-by options (key_part_of text) cause h)

-- ---- the line

typed : (class : NameClass) → is_type class ≡ true → class ≢ Other
typed Other h e = cc
typed (Plain kind) h e = cc
typed (Certificate kind) h e = cc
typed Retired h e = cc

untyped : (class : NameClass) → is_type class ≡ false → class ≡ Other
untyped Other h = refl
untyped (Plain kind) h = cc
untyped (Certificate kind) h = cc
untyped Retired h = cc

body-by : (line : List ℕ) (type : Bool) (cause : LineCause) → AreBytes line → HasFields line → begins_with_type (body_of line) ≡ type
    → (if type then entry_of_key [] (key_part_of (body_of line)) else entry_after_options (options_of (option_field line)) (after_options line))
    ≡ Unreadable cause
    → IsAuthFault cause line
body-by line true cause are f t h =
    let body = body_of line in
    part-fault line body cause (body-bytes line are) f (inl (typed (class_of (first_word body)) t, refl))
    (part-by [] (key_part_of body) cause h)
body-by line false cause are f t h =
    let o : HasOptions line = record { there = f; no_type = untyped (class_of (first_word (body_of line))) t } in
    options-by line (options_of (option_field line)) cause are o refl h

front-by : (line : List ℕ) (front : LineFront) (cause : LineCause) → AreBytes line → front_of line ≡ front → line_of_front front ≡ Unreadable cause
    → IsAuthFault cause line
front-by line past_limit cause are f h =
    let e : causes.TooLong ≡ cause = cc in
    subst (λ x. IsAuthFault x line) e (long-by line (nat_lt line_limit (length line)) refl f)
front-by line empty cause are f h = cc
front-by line remark cause are f h = cc
front-by line (fields body) cause are f h =
    let front = front-fields line body f in
    let same = front.is in
    let there : HasFields line = record {
      short = front.short;
      some = is-some (body_of line) (ap has_no_bytes same ∙ front.some);
      comment = ap (begins_with 35) same ∙ front.comment;
    } in
    body-by line (begins_with_type (body_of line)) cause are there refl (ap entry_of same ∙ h)

-- A line that is read as one with a fault has that fault.
pub auth_line-fault : (line : List ℕ) (cause : LineCause) → AreBytes line → auth_line line ≡ Unreadable cause → IsAuthFault cause line
unfolding auth_line
auth_line-fault line cause are h = front-by line (front_of line) cause are refl h
