-- The record of a known_hosts line is one line, as an object and as a row.
use Rattle.ssh_review.proofs.Imports.{◌≡◌, ◌+◌, ◌++◌, ℕ, true, List, refl, Option, codes, HeldKey, HostFacts, RevocationFacts, HostFinding, held_fields, host_row, is_word, AreBytes, IsHeldOfBytes, are_printable, is_line}
use Rattle.ssh_page.specs.declared.file.FileKind.TheVariants.{KnownHosts}
use Rattle.ssh_review.specs.HostObjects.{bare_in, entry_fields, host_empty_fields, host_entry_in, revoked_fields, revoked_in, revoked_names_fields}
use Rattle.ssh_review.specs.Objects.{record_head}
use Rattle.ssh_review.specs.Tables.{IsRow}
use Rattle.ssh_review.specs.declared.record_field.FieldForm.{FieldForm}
use Rattle.ssh_review.specs.declared.record_field.FieldForm.TheVariants.{Cell, Member}
use Rattle.ssh_review.proofs.ObjectLemmas.{head-fields, held-is-fields, is-printable, key-is-fields}
use Rattle.ssh_review.proofs.RecordFieldLemmas.{AreFields, also, from-member, member, no-value, said-field, text-field}
use Rattle.ssh_review.proofs.RowLemmas.{cells-end-row, host-texts, rows-end-line}
use Rattle.ssh_review.proofs.PrintableLemmas.{ArePrintable, bytes-from_printable, join, word}
use Rattle.ssh_review.proofs.HostByteLemmas.{IsOfBytes, print-printable}

-- ---- fields

owner-is-fields : (form : FieldForm) (f : HostFacts) → IsOfBytes f → AreFields form 5 (entry_fields form f)
unfolding entry_fields
owner-is-fields form f h =
    let key = key-is-fields form f.kind f.bits f.fingerprint (bytes-from_printable h.fingerprint) in
    also (also key (text-field form (codes "comment") f.comment refl h.comment)) (text-field form (codes "names") f.names refl h.names)

entry-is-fields : {k : ℕ} (form : FieldForm) (head : List ℕ) (n : ℕ) (f : HostFacts) → AreFields form k head → IsOfBytes f
    → AreFields form (k + 1 + 1 + 5) (record_head form head n (is_word f.is_authority) ++ entry_fields form f)
entry-is-fields form head n f h k = also (head-fields form head n h (is-printable f.is_authority)) (owner-is-fields form f k)

empty-is-fields : (form : FieldForm) → AreFields form 2 (host_empty_fields form)
unfolding host_empty_fields
empty-is-fields form = also (no-value form (codes "comment") refl) (no-value form (codes "names") refl)

key-fields : (form : FieldForm) (bytes : List ℕ) → AreFields form 3 (revoked_fields form bytes)
unfolding revoked_fields
key-fields form bytes =
    let print = join (word (codes "SHA256:") refl) (print-printable bytes) in
    also (also (no-value form (codes "type") refl) (no-value form (codes "bits") refl)) (said-field form (codes "key") refl print)

names-fields : (form : FieldForm) (f : RevocationFacts) → AreBytes f.names → AreFields form 2 (revoked_names_fields form f)
unfolding revoked_names_fields
names-fields form f h = also (no-value form (codes "comment") refl) (text-field form (codes "names") f.names refl h)

revoked-is-fields : {k : ℕ} (form : FieldForm) (head : List ℕ) (n : ℕ) (bytes : List ℕ) (f : RevocationFacts) → AreFields form k head → AreBytes f.names
    → AreFields form (k + 1 + 1 + 3 + 2) (record_head form head n (codes "revoked") ++ revoked_fields form bytes ++ revoked_names_fields form f)
revoked-is-fields form head n bytes f h k =
    also (also (head-fields form head n h (word (codes "revoked") refl)) (key-fields form bytes)) (names-fields form f k)

bare-is-fields : {k : ℕ} (form : FieldForm) (head : List ℕ) (n : ℕ) (is : List ℕ) (held : Option HeldKey) → AreFields form k head → are_printable is ≡ true → IsHeldOfBytes held
    → AreFields form (k + 1 + 1 + 3 + 2) (record_head form head n is ++ held_fields form held ++ host_empty_fields form)
bare-is-fields form head n is held h k p =
    also (also (head-fields form head n h (word is k)) (held-is-fields form held p)) (empty-is-fields form)

-- ---- as a JSON object

pub entry-line : (head : List ℕ) (n : ℕ) (f : HostFacts) (found : List HostFinding) → ArePrintable head → IsOfBytes f → is_line (host_entry_in Member head n f found) ≡ true
unfolding host_entry_in
entry-line head n f found h k = rows-end-line host_row host-texts found (from-member (entry-is-fields Member head n f (member 0 h) k))

pub revoked-line : (head : List ℕ) (n : ℕ) (bytes : List ℕ) (f : RevocationFacts) (found : List HostFinding) → ArePrintable head → AreBytes f.names
    → is_line (revoked_in Member head n bytes f found) ≡ true
unfolding revoked_in
revoked-line head n bytes f found h k = rows-end-line host_row host-texts found (from-member (revoked-is-fields Member head n bytes f (member 0 h) k))

pub bare-line : (head : List ℕ) (n : ℕ) (is : List ℕ) (held : Option HeldKey) (found : List HostFinding) → ArePrintable head → are_printable is ≡ true → IsHeldOfBytes held
    → is_line (bare_in Member head n is held found) ≡ true
unfolding bare_in
bare-line head n is held found h k p = rows-end-line host_row host-texts found (from-member (bare-is-fields Member head n is held (member 0 h) k p))

-- ---- as a row of a table

pub entry-row : (head : List ℕ) (n : ℕ) (f : HostFacts) (found : List HostFinding) → AreFields Cell 2 head → IsOfBytes f → IsRow KnownHosts (host_entry_in Cell head n f found)
unfolding host_entry_in
entry-row head n f found h k = cells-end-row KnownHosts host_row host-texts found (entry-is-fields Cell head n f h k) refl

pub revoked-row : (head : List ℕ) (n : ℕ) (bytes : List ℕ) (f : RevocationFacts) (found : List HostFinding) → AreFields Cell 2 head → AreBytes f.names
    → IsRow KnownHosts (revoked_in Cell head n bytes f found)
unfolding revoked_in
revoked-row head n bytes f found h k = cells-end-row KnownHosts host_row host-texts found (revoked-is-fields Cell head n bytes f h k) refl

pub bare-row : (head : List ℕ) (n : ℕ) (is : List ℕ) (held : Option HeldKey) (found : List HostFinding) → AreFields Cell 2 head → are_printable is ≡ true → IsHeldOfBytes held
    → IsRow KnownHosts (bare_in Cell head n is held found)
unfolding bare_in
bare-row head n is held found h k p = cells-end-row KnownHosts host_row host-texts found (bare-is-fields Cell head n is held h k p) refl
