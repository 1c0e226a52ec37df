-- A known_hosts line that is read as one with a fault has that fault.
use Rattle.ssh_entries.proofs.Imports.{◌≡◌, ◌≢◌, ◌⊎◌, ℕ, Bool, true, false, ◌||◌, if◌then◌else◌, inl, inr, List, [], ◌∷◌, bytes_eq, Result, Ok, Err, refl, sym, ap, subst, ◌∙◌, bytes_eq-Decides, decode_of, IsBytes, standard, DecodeError, decode_of-encode_of, decode_of_strict, KeyError, KeyKind, NameClass, Plain, Certificate, Retired, Other, key_takes, key_name_of, class_of, PublicKey, kind_of, IsKeyBlob, Names, SpellsNames, IsNamesFault, NamesError, LineCause, body_of, first_word, after_word, next_field, comment_of, KeyPart, KnownEntry, FirstField, Marker, LineFront, past_limit, empty, remark, fields, front_of, begins_with, base64, has_no_bytes, lacks_key, key_of_kind, key_of_blob, key_by_class, key_after_fields, field_of, IsKeyFault, HasKey, IsTextFault, HasFields, IsText, IsKnownFault, known_entry_of_key, entry_of_names, line_of_entry, line_by_first, known_line_of_front, names_cause, revoked_by}
use Rattle.ssh_keys.specs.KeyReading.{key_in}
use Rattle.ssh_keys.proofs.KeyFaults.{key_fault}
use Rattle.ssh_entries.proofs.ByteLemmas.{AreBytes, IsBytes-from_all}
use Rattle.ssh_entries.proofs.DecodedBytes.{decoded-bytes}
use Rattle.ssh_entries.proofs.NamesFieldLemmas.{fault-names, names-spelled}
use Rattle.ssh_entries.specs.Names.{names_of}
use Rattle.ssh_entries.specs.declared.names.NamesError.TheVariants as faults
use Rattle.ssh_options.specs.declared.option_text.LineCause.TheVariants as causes
use Rattle.ssh_entries.specs.declared.known_line.KnownLine.TheVariants.{Unreadable}
use Rattle.ssh_entries.specs.declared.known_view.FirstField.TheVariants as first
use Rattle.ssh_entries.specs.declared.known_view.Marker.TheVariants as markers
use Rattle.ssh_entries.specs.KnownGrammar.{known_entry_of_fields, known_line}
use Rattle.ssh_entries.specs.Markers.{first_field_of}
use Rattle.ssh_entries.proofs.FieldLemmas.{body-bytes, next-bytes, word-bytes}
use Rattle.ssh_entries.proofs.FrontLemmas.{front-fields}
use Rattle.ssh_entries.proofs.MarkerLemmas.{names-first, authority-first, unknown-first}

-- ---- the key

differs : (a b : List ℕ) → bytes_eq a b ≡ false → a ≢ b
differs a b h e = let f : true ≡ false = sym ((bytes_eq-Decides a b).1 e) ∙ h in cc

kind-fault : (key blob : List ℕ) (kind : KeyKind) (read : PublicKey) (cause : LineCause) (same : Bool) → class_of (first_word key) ≡ Plain kind
    → IsKeyBlob read blob → field_of key ≡ base64 blob → bytes_eq (key_name_of kind) (key_name_of (kind_of read)) ≡ same
    → if◌then◌else◌ {A = Result KeyPart LineCause} same (Ok (record { key = read; comment = comment_of (after_word (next_field key)) })) (Err causes.TypeMismatch) ≡ Err cause
    → IsKeyFault cause key
kind-fault key blob kind read cause true c is f s h = cc
kind-fault key blob kind read cause false c is f s h =
    let e : causes.TypeMismatch ≡ cause = cc in
    subst (λ x. IsKeyFault x key) e
    (kind, read, c, is.is_key, f ∙ ap base64 is.spelled, differs (key_name_of kind) (key_name_of (kind_of read)) s)

blob-fault : (key blob : List ℕ) (kind : KeyKind) (read : Result PublicKey KeyError) (cause : LineCause) → class_of (first_word key) ≡ Plain kind
    → IsBytes blob → field_of key ≡ base64 blob → key_in blob ≡ read
    → key_of_kind kind (comment_of (after_word (next_field key))) read ≡ Err cause → IsKeyFault cause key
blob-fault key blob kind (Err e) cause c b f k h =
    let is : causes.KeyBlob e ≡ cause = cc in
    subst (λ x. IsKeyFault x key) is (kind, blob, c, b, f, key_fault blob e b k)
blob-fault key blob kind (Ok read) cause c b f k h =
    kind-fault key blob kind read cause (bytes_eq (key_name_of kind) (key_name_of (kind_of read))) c (key_takes blob read b k) f refl h

field-fault : (key : List ℕ) (kind : KeyKind) (decoded : Result (List ℕ) DecodeError) (cause : LineCause) → IsBytes (field_of key)
    → class_of (first_word key) ≡ Plain kind → decode_of standard (field_of key) ≡ decoded
    → key_of_blob kind (comment_of (after_word (next_field key))) decoded ≡ Err cause → IsKeyFault cause key
field-fault key kind (Err e) cause are c d h =
    let is : causes.Base64 ≡ cause = cc in
    subst (λ x. IsKeyFault x key) is (
      kind,
      c,
      inr (λ bytes b spelled.
          let both : Ok bytes ≡ Err e = sym (decode_of-encode_of standard bytes refl b) ∙ ap (decode_of standard) (sym spelled) ∙ d in cc),
    )
field-fault key kind (Ok blob) cause are c d h =
    blob-fault key blob kind (key_in blob) cause c (decoded-bytes (field_of key) blob d)
    (decode_of_strict standard (field_of key) blob (refl, refl) are d) refl h

pub class-fault : (key : List ℕ) (class : NameClass) (cause : LineCause) → IsBytes (field_of key) → class_of (first_word key) ≡ class
    → key_by_class class (field_of key) (after_word (next_field key)) ≡ Err cause → IsKeyFault cause key
class-fault key Other cause are c h = let e : causes.KeyType ≡ cause = cc in subst (λ x. IsKeyFault x key) e c
class-fault key Retired cause are c h = let e : causes.RetiredType ≡ cause = cc in subst (λ x. IsKeyFault x key) e c
class-fault key (Certificate kind) cause are c h =
    let e : causes.CertificateOnLine ≡ cause = cc in subst (λ x. IsKeyFault x key) e (kind, c)
class-fault key (Plain kind) cause are c h = field-fault key kind (decode_of standard (field_of key)) cause are c refl h

-- ---- names and key

pub is-some : (text : List ℕ) → has_no_bytes text ≡ false → text ≢ []
is-some [] h e = cc
is-some (c ∷ cs) h e = cc

is-none : (text : List ℕ) → has_no_bytes text ≡ true → text ≡ []
is-none [] h = refl
is-none (c ∷ cs) h = cc

pub missing : (key : List ℕ) (word field : Bool) → has_no_bytes (first_word key) ≡ word → has_no_bytes (field_of key) ≡ field → (word || field) ≡ true
    → (first_word key ≡ []) ⊎ (field_of key ≡ [])
missing key true field w f h = inl (is-none (first_word key) w)
missing key false true w f h = inr (is-none (field_of key) f)
missing key false false w f h = cc

pub there : (key : List ℕ) (word field : Bool) → has_no_bytes (first_word key) ≡ word → has_no_bytes (field_of key) ≡ field → (word || field) ≡ false
    → HasKey key
there key true field w f h = cc
there key false true w f h = cc
there key false false w f h = record { type_name = is-some (first_word key) w; base64 = is-some (field_of key) f }

of-key : (cause : LineCause) (text : List ℕ) → HasKey (next_field text) → (names : Names) × SpellsNames names (first_word text)
    → IsKeyFault cause (next_field text) → IsTextFault cause text
of-key causes.TooLong text k n f = (k, n, f)
of-key causes.OptionSyntax text k n f = (k, n, f)
of-key causes.UnknownOption text k n f = (k, n, f)
of-key causes.OptionValue text k n f = (k, n, f)
of-key causes.RepeatedOption text k n f = (k, n, f)
of-key causes.ExpiryText text k n f = (k, n, f)
of-key causes.NoKey text k n f = absurd f
of-key causes.KeyType text k n f = (k, n, f)
of-key causes.RetiredType text k n f = (k, n, f)
of-key causes.Base64 text k n f = (k, n, f)
of-key (causes.KeyBlob e) text k n f = (k, n, f)
of-key causes.TypeMismatch text k n f = (k, n, f)
of-key causes.CertificateOnLine text k n f = (k, n, f)
of-key causes.Marker text k n f = (k, n, f)
of-key causes.HashedName text k n f = absurd f
of-key causes.Names text k n f = absurd f

of-names : (fault : NamesError) (text : List ℕ) → HasKey (next_field text) → IsNamesFault fault (first_word text) → IsTextFault (names_cause fault) text
of-names faults.HashedName text k f = (k, f)
of-names faults.EmptyItem text k f = (k, f)

key-by : (text : List ℕ) (marker : Marker) (names : Names) (part : Result KeyPart LineCause) (cause : LineCause) → AreBytes text
    → HasKey (next_field text) → SpellsNames names (first_word text) → key_after_fields (next_field text) ≡ part
    → known_entry_of_key marker names part ≡ Err cause → IsTextFault cause text
key-by text marker names (Ok part) cause are k n p h = cc
key-by text marker names (Err e) cause are k n p h =
    let is : e ≡ cause = cc in
    let key = next_field text in
    let bytes = IsBytes-from_all (field_of key) (word-bytes (next_field key) (next-bytes key (next-bytes text are))) in
    of-key cause text k (names, n) (class-fault key (class_of (first_word key)) cause bytes refl (p ∙ ap (λ x. Err x) is))

names-by : (text : List ℕ) (marker : Marker) (names : Result Names NamesError) (cause : LineCause) → AreBytes text
    → HasKey (next_field text) → names_of (first_word text) ≡ names
    → entry_of_names marker names (next_field text) ≡ Err cause → IsTextFault cause text
names-by text marker (Err fault) cause are k n h =
    let is : names_cause fault ≡ cause = cc in
    subst (λ x. IsTextFault x text) is (of-names fault text k (fault-names (Err fault) (first_word text) (sym n)))
names-by text marker (Ok names) cause are k n h =
    key-by text marker names (key_after_fields (next_field text)) cause are k (names-spelled (first_word text) names (word-bytes text are) n) refl h

fields-by : (text : List ℕ) (marker : Marker) (lacks : Bool) (cause : LineCause) → AreBytes text → lacks_key (next_field text) ≡ lacks
    → (if lacks then Err causes.NoKey else entry_of_names marker (names_of (first_word text)) (next_field text)) ≡ Err cause
    → IsTextFault cause text
fields-by text marker true cause are l h =
    let is : causes.NoKey ≡ cause = cc in
    let key = next_field text in
    subst (λ x. IsTextFault x text) is (missing key (has_no_bytes (first_word key)) (has_no_bytes (field_of key)) refl refl l)
fields-by text marker false cause are l h =
    let key = next_field text in
    names-by text marker (names_of (first_word text)) cause are (there key (has_no_bytes (first_word key)) (has_no_bytes (field_of key)) refl refl l) refl h

entry-by : (read : Result KnownEntry LineCause) (cause : LineCause) → line_of_entry read ≡ Unreadable cause → read ≡ Err cause
entry-by (Ok entry) cause h = cc
entry-by (Err e) cause h = cc

text-fault : (text : List ℕ) (marker : Marker) (cause : LineCause) → AreBytes text
    → line_of_entry (known_entry_of_fields marker (first_word text) (next_field text)) ≡ Unreadable cause → IsTextFault cause text
unfolding known_entry_of_fields
text-fault text marker cause are h =
    fields-by text marker (lacks_key (next_field text)) cause are refl (entry-by (known_entry_of_fields marker (first_word text) (next_field text)) cause h)

-- ---- the line

no_revocation : (lacks : Bool) (decoded : Result (List ℕ) DecodeError) (cause : LineCause) → revoked_by lacks decoded ≡ Unreadable cause → ⊥
no_revocation lacks (Err e) cause h = cc
no_revocation true (Ok bytes) cause h = cc
no_revocation false (Ok bytes) cause h = cc

of-text : (cause : LineCause) (line text : List ℕ) → HasFields line → IsText line text → IsTextFault cause text → IsKnownFault cause line
of-text causes.TooLong line text k n f = (k, (text, n, f))
of-text causes.OptionSyntax line text k n f = (k, (text, n, f))
of-text causes.UnknownOption line text k n f = (k, (text, n, f))
of-text causes.OptionValue line text k n f = (k, (text, n, f))
of-text causes.RepeatedOption line text k n f = (k, (text, n, f))
of-text causes.ExpiryText line text k n f = (k, (text, n, f))
of-text causes.NoKey line text k n f = (k, (text, n, f))
of-text causes.KeyType line text k n f = (k, (text, n, f))
of-text causes.RetiredType line text k n f = (k, (text, n, f))
of-text causes.Base64 line text k n f = (k, (text, n, f))
of-text (causes.KeyBlob e) line text k n f = (k, (text, n, f))
of-text causes.TypeMismatch line text k n f = (k, (text, n, f))
of-text causes.CertificateOnLine line text k n f = (k, (text, n, f))
of-text causes.Marker line text k n f = absurd f.2
of-text causes.HashedName line text k n f = (k, (text, n, f))
of-text causes.Names line text k n f = (k, (text, n, f))

first-by : (line : List ℕ) (f : FirstField) (cause : LineCause) → AreBytes line → HasFields line → first_field_of (first_word (body_of line)) ≡ f
    → line_by_first f (first_word (body_of line)) (next_field (body_of line)) ≡ Unreadable cause → IsKnownFault cause line
first-by line first.Names cause are k f h =
    let body = body_of line in
    of-text cause line body k (inl (names-first (first_word body) f, refl)) (text-fault body markers.Unmarked cause (body-bytes line are) h)
first-by line first.CertAuthority cause are k f h =
    let text = next_field (body_of line) in
    of-text cause line text k (inr (authority-first (first_word (body_of line)) f, refl))
    (text-fault text markers.CertAuthority cause (next-bytes (body_of line) (body-bytes line are)) h)
first-by line first.Revoked cause are k f h =
    let field = first_word (next_field (next_field (next_field (body_of line)))) in
    absurd (no_revocation (has_no_bytes field) (decode_of standard field) cause h)
first-by line first.Unknown cause are k f h =
    let is : causes.Marker ≡ cause = cc in
    let unknown = unknown-first (first_word (body_of line)) f in
    subst (λ x. IsKnownFault x line) is (k, unknown.0, unknown.1, unknown.2)

front-by : (line : List ℕ) (front : LineFront) (cause : LineCause) → AreBytes line → front_of line ≡ front → known_line_of_front front ≡ Unreadable cause
    → IsKnownFault cause line
front-by line past_limit cause are f h = cc
front-by line empty cause are f h = cc
front-by line remark cause are f h = cc
front-by line (fields body) cause are f h =
    let front = front-fields line body f in
    let same = front.is in
    let k : HasFields line = record {
      short = front.short;
      some = is-some (body_of line) (ap has_no_bytes same ∙ front.some);
      comment = ap (begins_with 35) same ∙ front.comment;
    } in
    first-by line (first_field_of (first_word (body_of line))) cause are k refl
    (ap (λ b. line_by_first (first_field_of (first_word b)) (first_word b) (next_field b)) same ∙ h)

-- A line that is read as one with a fault has that fault.
pub known_line-fault : (line : List ℕ) (cause : LineCause) → AreBytes line → known_line line ≡ Unreadable cause → IsKnownFault cause line
unfolding known_line
known_line-fault line cause are h = front-by line (front_of line) cause are refl h
