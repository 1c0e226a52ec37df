-- Lines that revoke, and lines that may.
use Rattle.ssh_entries.proofs.Imports.{◌≡◌, ◌≢◌, ◌⊎◌, ℕ, ◌<◌, ◌≤◌, nat_lt, Bool, true, false, ◌==◌, if◌then◌else◌, inl, inr, List, [], ◌∷◌, length, Result, Ok, Err, refl, sym, ap, ◌∙◌, ltb-true, ltb-false, lt-ltb, decode_of, IsBytes, standard, DecodeError, decode_of-encode_of, decode_of_strict, LineCause, line_limit, is_blank, body_of, first_word, next_field, KnownEntry, KnownLine, Blank, Comment, Revoked, RevokedUnreadable, FirstField, LineFront, past_limit, empty, remark, fields, front_of, front_of_body, begins_with, base64, has_no_bytes, revoked_marker, RevokesBytes, IsUnreadableRevocation, HasNoBytes, fourth_field, line_of_entry, line_by_first, known_line_of_front, revoked_by, revoked_of}
use Rattle.ssh_entries.specs.declared.known_line.KnownLine.TheVariants.{Entry, Unreadable}
use Rattle.ssh_entries.specs.declared.known_view.FirstField.TheVariants as first
use Rattle.ssh_entries.specs.declared.known_view.Marker.TheVariants as markers
use Rattle.ssh_entries.specs.Markers.{first_field_of}
use Rattle.ssh_entries.specs.KnownGrammar.{known_entry_of_fields, known_line}
use Rattle.ssh_entries.proofs.ByteLemmas.{AreBytes, IsBytes-from_all}
use Rattle.ssh_entries.proofs.DecodedBytes.{decoded-bytes}
use Rattle.ssh_entries.proofs.FieldLemmas.{body-bytes, next-bytes, word-bytes}
use Rattle.ssh_entries.proofs.FrontLemmas.{front-fields, front-at}
use Rattle.ssh_entries.proofs.MarkerLemmas.{first-revoked, revoked-first}

-- ---- the front of a line whose first field is `@revoked`

record BeginsRevoked (body : List ℕ) : Type 0 where
  some : has_no_bytes body ≡ false
  comment : begins_with 35 body ≡ false

begins-by : (c : ℕ) (cs : List ℕ) (blank : Bool) → is_blank c ≡ blank → (if blank then [] else c ∷ first_word cs) ≡ revoked_marker
    → BeginsRevoked (c ∷ cs)
begins-by c cs true b h = cc
begins-by c cs false b h = let e : c ≡ 64 = cc in record { some = refl; comment = rw e refl }

begins-revoked : (body : List ℕ) → first_word body ≡ revoked_marker → BeginsRevoked body
begins-revoked [] h = cc
begins-revoked (c ∷ cs) h = begins-by c cs (is_blank c) refl h

-- a line within the limit whose first field is `@revoked` is read as the revocation of its fourth field
line-revoked : (line : List ℕ) → length line ≤ line_limit → first_word (body_of line) ≡ revoked_marker
    → known_line line ≡ revoked_of (fourth_field line)
unfolding known_line
line-revoked line short marker =
    let b = begins-revoked (body_of line) marker in
    ap known_line_of_front (front-at line (body_of line) short refl b.some b.comment)
    ∙ ap (λ f. line_by_first f (first_word (body_of line)) (next_field (body_of line))) (ap first_field_of marker ∙ first-revoked)

some-test : (field : List ℕ) → field ≢ [] → has_no_bytes field ≡ false
some-test [] some = absurd (some refl)
some-test (c ∷ cs) some = refl

some-differs : (field : List ℕ) → has_no_bytes field ≡ false → field ≢ []
some-differs [] h e = cc
some-differs (c ∷ cs) h e = cc

none-is : (field : List ℕ) → has_no_bytes field ≡ true → field ≡ []
none-is [] h = refl
none-is (c ∷ cs) h = cc

-- A line that revokes bytes is read so.
pub revokes-read : (line bytes : List ℕ) → RevokesBytes line bytes → known_line line ≡ Revoked bytes
revokes-read line bytes r =
    let decoded : decode_of standard (fourth_field line) ≡ Ok bytes =
    ap (decode_of standard) r.spelled ∙ decode_of-encode_of standard bytes refl r.bytes in
    line-revoked line r.short r.marker ∙ rw (decoded, some-test (fourth_field line) r.some) refl

-- ---- what a line that is read as a revocation is

-- whether a line is read as a revocation, or as one that may revoke any key
abbrev tells_revocation : KnownLine → Bool
tells_revocation Blank = false
tells_revocation Comment = false
tells_revocation (Entry entry) = false
tells_revocation (Unreadable cause) = false
tells_revocation (Revoked bytes) = true
tells_revocation RevokedUnreadable = true

-- the first field of the line is `@revoked`, and its fourth is read as this
record ReadRevoked (line : List ℕ) (read : KnownLine) : Type 0 where
  short : length line ≤ line_limit
  marker : first_word (body_of line) ≡ revoked_marker
  says : revoked_of (fourth_field line) ≡ read

no_entry : (r : Result KnownEntry LineCause) → tells_revocation (line_of_entry r) ≡ false
no_entry (Ok entry) = refl
no_entry (Err cause) = refl

-- the fields of a line that is read as a revocation begin with `@revoked`
first-by : (f : FirstField) (field rest : List ℕ) (read : KnownLine) → tells_revocation read ≡ true → line_by_first f field rest ≡ read
    → (f ≡ first.Revoked) × (revoked_of (first_word (next_field (next_field rest))) ≡ read)
first-by first.Names field rest read t h =
    let no : true ≡ false = sym t ∙ ap tells_revocation (sym h) ∙ no_entry (known_entry_of_fields markers.Unmarked field rest) in cc
first-by first.CertAuthority field rest read t h =
    let no : true ≡ false = sym t ∙ ap tells_revocation (sym h) ∙ no_entry (known_entry_of_fields markers.CertAuthority (first_word rest) (next_field rest)) in cc
first-by first.Unknown field rest read t h = let no : true ≡ false = sym t ∙ ap tells_revocation (sym h) in cc
first-by first.Revoked field rest read t h = (refl, h)

front-by : (line : List ℕ) (front : LineFront) (read : KnownLine) → front_of line ≡ front → tells_revocation read ≡ true → known_line_of_front front ≡ read
    → ((front ≡ past_limit) × (read ≡ RevokedUnreadable)) ⊎ ReadRevoked line read
front-by line past_limit read f t h = inl (refl, sym h)
front-by line empty read f t h = let no : true ≡ false = sym t ∙ ap tells_revocation (sym h) in cc
front-by line remark read f t h = let no : true ≡ false = sym t ∙ ap tells_revocation (sym h) in cc
front-by line (fields body) read f t h =
    let front = front-fields line body f in
    let by = first-by (first_field_of (first_word body)) (first_word body) (next_field body) read t h in
    inr (record {
      short = front.short;
      marker = ap first_word front.is ∙ revoked-first (first_word body) by.0;
      says = ap (λ b. revoked_of (first_word (next_field (next_field (next_field b))))) front.is ∙ by.1;
    })

read-front : (line : List ℕ) (read : KnownLine) → tells_revocation read ≡ true → known_line line ≡ read
    → ((front_of line ≡ past_limit) × (read ≡ RevokedUnreadable)) ⊎ ReadRevoked line read
unfolding known_line
read-front line read t h = front-by line (front_of line) read refl t h

-- ---- the fourth field

fourth-bytes : (line : List ℕ) → AreBytes line → IsBytes (fourth_field line)
fourth-bytes line bytes =
    let body = body-bytes line bytes in
    let second = next-bytes (body_of line) body in
    let third = next-bytes (next_field (body_of line)) second in
    let fourth = next-bytes (next_field (next_field (body_of line))) third in
    IsBytes-from_all (fourth_field line) (word-bytes (next_field (next_field (next_field (body_of line)))) fourth)

-- a field that decodes is the base64 of bytes
record Spelled (field bytes : List ℕ) : Type 0 where
  some : field ≢ []
  bytes_are : IsBytes bytes
  spelled : field ≡ base64 bytes

decoded-spelled : (field bytes : List ℕ) → IsBytes field → decode_of standard field ≡ Ok bytes → IsBytes bytes × (field ≡ base64 bytes)
decoded-spelled field bytes are h = (decoded-bytes field bytes h, decode_of_strict standard field bytes (refl, refl) are h)

bytes-by : (field bytes : List ℕ) (missing : Bool) (decoded : Result (List ℕ) DecodeError) → IsBytes field → has_no_bytes field ≡ missing
    → decode_of standard field ≡ decoded → revoked_by missing decoded ≡ Revoked bytes → Spelled field bytes
bytes-by field bytes missing (Err e) are m d h = cc
bytes-by field bytes true (Ok read) are m d h = cc
bytes-by field bytes false (Ok read) are m d h =
    let is : read ≡ bytes = cc in
    let spelled = decoded-spelled field bytes are (d ∙ ap (λ b. Ok b) is) in
    record { some = some-differs field m; bytes_are = spelled.0; spelled = spelled.1 }

no-bytes-by : (field : List ℕ) (missing : Bool) (decoded : Result (List ℕ) DecodeError) → has_no_bytes field ≡ missing
    → decode_of standard field ≡ decoded → revoked_by missing decoded ≡ RevokedUnreadable → HasNoBytes field
no-bytes-by field missing (Err e) m d h =
    inr (λ bytes are spelled.
    let both : Ok bytes ≡ Err e = sym (decode_of-encode_of standard bytes refl are) ∙ ap (decode_of standard) (sym spelled) ∙ d in cc)
no-bytes-by field true (Ok read) m d h = inl (none-is field m)
no-bytes-by field false (Ok read) m d h = cc

unreadable_revocation-by : (field : List ℕ) (missing : Bool) (decoded : Result (List ℕ) DecodeError) → IsBytes field → has_no_bytes field ≡ missing
    → decode_of standard field ≡ decoded → HasNoBytes field → revoked_by missing decoded ≡ RevokedUnreadable
unreadable_revocation-by field missing (Err e) are m d none = refl
unreadable_revocation-by field true (Ok read) are m d none = refl
unreadable_revocation-by field false (Ok read) are m d (inl e) = absurd (some-differs field m e)
unreadable_revocation-by field false (Ok read) are m d (inr none) =
    let spelled = decoded-spelled field read are d in absurd (none read spelled.0 spelled.1)

-- A line that is read as revoking bytes revokes them.
pub read-revokes : (line bytes : List ℕ) → AreBytes line → known_line line ≡ Revoked bytes → RevokesBytes line bytes
read-revokes line bytes are h = by (read-front line (Revoked bytes) refl h)
  where
    by : ((front_of line ≡ past_limit) × (Revoked bytes ≡ RevokedUnreadable)) ⊎ ReadRevoked line (Revoked bytes) → RevokesBytes line bytes
    by (inl (long, e)) = cc
    by (inr r) =
        let spelled = bytes-by (fourth_field line) bytes (has_no_bytes (fourth_field line)) (decode_of standard (fourth_field line)) (fourth-bytes line are) refl refl r.says in
        record { short = r.short; marker = r.marker; some = spelled.some; bytes = spelled.bytes_are; spelled = spelled.spelled }

pub long-by : (line : List ℕ) (long : Bool) → nat_lt line_limit (length line) ≡ long → (if long then past_limit else front_of_body (body_of line)) ≡ past_limit
    → line_limit < length line
long-by line true l h = ltb-true line_limit (length line) l
long-by line false l h = absurd (fields-within (body_of line) h)
  where
    fields-within : (body : List ℕ) → front_of_body body ≡ past_limit → ⊥
    fields-within [] h = cc
    fields-within (c ∷ cs) h = comment-within (c == 35) c cs h
      where
        comment-within : (comment : Bool) (c : ℕ) (cs : List ℕ) → (if comment then remark else fields (c ∷ cs)) ≡ past_limit → ⊥
        comment-within true c cs h = cc
        comment-within false c cs h = cc

-- A line that is read as one that may revoke may.
pub read-unreadable_revocation : (line : List ℕ) → known_line line ≡ RevokedUnreadable → IsUnreadableRevocation line
read-unreadable_revocation line h = by (read-front line RevokedUnreadable refl h)
  where
    by : ((front_of line ≡ past_limit) × (RevokedUnreadable ≡ RevokedUnreadable)) ⊎ ReadRevoked line RevokedUnreadable → IsUnreadableRevocation line
    by (inl (long, e)) = inl (long-by line (nat_lt line_limit (length line)) refl long)
    by (inr r) =
        inr (r.marker, no-bytes-by (fourth_field line) (has_no_bytes (fourth_field line)) (decode_of standard (fourth_field line)) refl refl r.says)

known-long : (line : List ℕ) → line_limit < length line → known_line line ≡ RevokedUnreadable
unfolding known_line
known-long line long = rw (lt-ltb line_limit (length line) long) refl

marked-by : (line : List ℕ) (long : Bool) → nat_lt line_limit (length line) ≡ long → AreBytes line → first_word (body_of line) ≡ revoked_marker
    → HasNoBytes (fourth_field line) → known_line line ≡ RevokedUnreadable
marked-by line true l are marker none = known-long line (ltb-true line_limit (length line) l)
marked-by line false l are marker none =
    line-revoked line (ltb-false line_limit (length line) l) marker
    ∙ unreadable_revocation-by (fourth_field line) (has_no_bytes (fourth_field line)) (decode_of standard (fourth_field line)) (fourth-bytes line are) refl refl none

-- A line that may revoke is read as one.
pub unreadable_revocation-read : (line : List ℕ) → AreBytes line → IsUnreadableRevocation line → known_line line ≡ RevokedUnreadable
unreadable_revocation-read line are (inl long) = known-long line long
unreadable_revocation-read line are (inr (marker, none)) = marked-by line (nat_lt line_limit (length line)) refl are marker none
