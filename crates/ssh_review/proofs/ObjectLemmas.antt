-- The record of an authorized_keys line is one line, as an object and as a row.
use Rattle.ssh_review.proofs.Imports.{◌≡◌, ◌+◌, ◌++◌, ℕ, Bool, true, false, List, refl, Option, Some, None, codes, KeyKind, AuthOption, Facts, Finding, HeldKey, auth_row, fingerprint_text, held_fields, is_word, AreBytes, HaveByteValues, IsHeldOfBytes, IsOfBytes, is_line, options_text}
use Rattle.ssh_page.specs.declared.file.FileKind.TheVariants.{AuthorizedKeys}
use Rattle.ssh_review.specs.Objects.{empty_fields, entry_in, grant_fields, key_fields, no_grant_fields, options_in, owner_fields, record_head, unreadable_in}
use Rattle.ssh_review.specs.RecordFields.{number_or_null_in, truth_in}
use Rattle.ssh_review.specs.Tables.{IsRow}
use Rattle.ssh_review.specs.declared.record_field.FieldForm.{FieldForm}
use Rattle.ssh_review.specs.declared.record_field.FieldForm.TheVariants.{Cell, Member}
use Rattle.ssh_review.proofs.PrintableLemmas.{ArePrintable, bytes-append, bytes-from_printable, word}
use Rattle.ssh_review.proofs.WordLemmas.{kind-printable, options-bytes, rights-printable}
use Rattle.ssh_review.proofs.RecordFieldLemmas.{AreFields, also, any-moment-field, any-number-field, any-text-field, from-member, member, no-value, number-field, said-field, text-field, truth-field}
use Rattle.ssh_review.proofs.RowLemmas.{auth-texts, cells-end-row, rows-end-line}

-- ---- fields

pub head-fields : {is : List ℕ} {k : ℕ} (form : FieldForm) (head : List ℕ) (n : ℕ) → AreFields form k head → ArePrintable is → AreFields form (k + 1 + 1) (record_head form head n is)
unfolding record_head
head-fields form head n h k = also (also h (number-field form (codes "line") n refl)) (said-field form (codes "what") refl k)

pub is-printable : (b : Bool) → ArePrintable (is_word b)
is-printable true = word (codes "authority") refl
is-printable false = word (codes "key") refl

pub key-is-fields : (form : FieldForm) (kind : KeyKind) (bits : Option ℕ) (fingerprint : List ℕ) → AreBytes fingerprint → AreFields form 3 (key_fields form kind bits fingerprint)
unfolding key_fields
key-is-fields form kind bits fingerprint h =
    let prefix = bytes-from_printable (word (codes "SHA256:") refl) in
    let key = text-field form (codes "key") (fingerprint_text fingerprint) refl (bytes-append (codes "SHA256:") fingerprint prefix h) in
    also (also (said-field form (codes "type") refl (kind-printable kind)) (any-number-field form (codes "bits") bits refl)) key

owner-is-fields : (form : FieldForm) (f : Facts) → IsOfBytes f → AreFields form 4 (owner_fields form f)
unfolding owner_fields
owner-is-fields form f h = also (key-is-fields form f.kind f.bits f.fingerprint h.fingerprint) (text-field form (codes "comment") f.comment refl h.comment)

grant-is-fields : (form : FieldForm) (f : Facts) → IsOfBytes f → AreFields form 5 (grant_fields form f)
unfolding grant_fields
grant-is-fields form f h =
    let rights = said-field form (codes "rights") refl (rights-printable f.rights) in
    let command = any-text-field form (codes "command") f.rights.command refl h.command in
    let from = any-text-field form (codes "source") f.from refl h.from in
    let principals = any-text-field form (codes "principals") f.principals refl h.principals in
    also (also (also (also rights command) from) principals) (any-moment-field form (codes "expires") f.until refl)

entry-is-fields : {k : ℕ} (form : FieldForm) (head : List ℕ) (n : ℕ) (f : Facts) (options : List AuthOption) (shadowed_by : Option ℕ) (lets_in : Bool)
    → AreFields form k head → IsOfBytes f → HaveByteValues options
    → AreFields form (k + 1 + 1 + 4 + 1 + 5 + 1 + 1) (record_head form head n (is_word f.is_authority) ++ owner_fields form f ++ options_in form options ++ grant_fields form f
    ++ number_or_null_in form (codes "shadowed_by") shadowed_by ++ truth_in form (codes "lets_in") lets_in)
entry-is-fields form head n f options shadowed_by lets_in h k m =
    let front = head-fields form head n h (is-printable f.is_authority) in
    let said = text-field form (codes "options") (options_text options) refl (options-bytes options m) in
    let shadow = any-number-field form (codes "shadowed_by") shadowed_by refl in
    let lets = truth-field form (codes "lets_in") lets_in refl in
    also (also (also (also (also front (owner-is-fields form f k)) said) (grant-is-fields form f k)) shadow) lets

pub held-is-fields : (form : FieldForm) (held : Option HeldKey) → IsHeldOfBytes held → AreFields form 3 (held_fields form held)
held-is-fields form None h = also (also (no-value form (codes "type") refl) (no-value form (codes "bits") refl)) (no-value form (codes "key") refl)
held-is-fields form (Some held) h = key-is-fields form held.kind held.bits held.fingerprint h

no-grants-are-fields : (form : FieldForm) → AreFields form 5 (no_grant_fields form)
unfolding no_grant_fields
no-grants-are-fields form =
    let first = also (also (no-value form (codes "rights") refl) (no-value form (codes "command") refl)) (no-value form (codes "source") refl) in
    also (also first (no-value form (codes "principals") refl)) (no-value form (codes "expires") refl)

empty-is-fields : (form : FieldForm) → AreFields form 9 (empty_fields form)
unfolding empty_fields
empty-is-fields form =
    let first = also (also (no-value form (codes "comment") refl) (no-value form (codes "options") refl)) (no-grants-are-fields form) in
    also (also first (no-value form (codes "shadowed_by") refl)) (truth-field form (codes "lets_in") true refl)

unreadable-is-fields : {k : ℕ} (form : FieldForm) (head : List ℕ) (n : ℕ) (held : Option HeldKey) → AreFields form k head → IsHeldOfBytes held
    → AreFields form (k + 1 + 1 + 3 + 9) (record_head form head n (codes "unreadable") ++ held_fields form held ++ empty_fields form)
unreadable-is-fields form head n held h k =
    also (also (head-fields form head n h (word (codes "unreadable") refl)) (held-is-fields form held k)) (empty-is-fields form)

-- ---- as a JSON object

pub entry-line : (head : List ℕ) (n : ℕ) (f : Facts) (options : List AuthOption) (shadowed_by : Option ℕ) (lets_in : Bool) (found : List Finding)
    → ArePrintable head → IsOfBytes f → HaveByteValues options → is_line (entry_in Member head n f options shadowed_by lets_in found) ≡ true
unfolding entry_in
entry-line head n f options shadowed_by lets_in found h k m =
    rows-end-line auth_row auth-texts found (from-member (entry-is-fields Member head n f options shadowed_by lets_in (member 0 h) k m))

pub unreadable-line : (head : List ℕ) (n : ℕ) (held : Option HeldKey) (found : List Finding) → ArePrintable head → IsHeldOfBytes held
    → is_line (unreadable_in Member head n held found) ≡ true
unfolding unreadable_in
unreadable-line head n held found h k = rows-end-line auth_row auth-texts found (from-member (unreadable-is-fields Member head n held (member 0 h) k))

-- ---- as a row of a table

pub entry-row : (head : List ℕ) (n : ℕ) (f : Facts) (options : List AuthOption) (shadowed_by : Option ℕ) (lets_in : Bool) (found : List Finding)
    → AreFields Cell 2 head → IsOfBytes f → HaveByteValues options → IsRow AuthorizedKeys (entry_in Cell head n f options shadowed_by lets_in found)
unfolding entry_in
entry-row head n f options shadowed_by lets_in found h k m =
    cells-end-row AuthorizedKeys auth_row auth-texts found (entry-is-fields Cell head n f options shadowed_by lets_in h k m) refl

pub unreadable-row : (head : List ℕ) (n : ℕ) (held : Option HeldKey) (found : List Finding) → AreFields Cell 2 head → IsHeldOfBytes held
    → IsRow AuthorizedKeys (unreadable_in Cell head n held found)
unfolding unreadable_in
unreadable-row head n held found h k = cells-end-row AuthorizedKeys auth_row auth-texts found (unreadable-is-fields Cell head n held h k) refl
