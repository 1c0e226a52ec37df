-- A review is of printable bytes and LFs, and in a table tabs, in each form; each record is one line as a JSON object, and as a
-- row of a table.
use Rattle.ssh_review.proofs.Imports.{◌≡◌, ◌⊎◌, ◌+◌, ℕ, nat_lt, Bool, true, false, cond, List, [], ◌∷◌, ◌++◌, length, refl, inl, inr, codes, AllByRecursion, file_limit, lines_of, numbered, KnownLine, Revoked, RevokedUnreadable, known_line, Asking, HostLine, known_held_key, AreBytes, is_line, TooLong, Form, AsLines, Text, Json, Line, fault_review, host_counts_of, host_kept_of, host_line_findings, host_line_record, host_records_of, known_key_reported, known_review}
use Rattle.ssh_review.proofs.PrintableLemmas.{ArePrintable}
use Rattle.sha2.specs.Sha256.{sha256}
use Rattle.ssh_entries.specs.declared.known_line.KnownLine.TheVariants.{Blank, Comment, Entry, Unreadable}
use Rattle.ssh_findings.specs.HostFacts.{host_facts_of}
use Rattle.ssh_findings.specs.RevocationFacts.{revocation_facts_of}
use Rattle.ssh_review.proofs.ByteLemmas.{held-bytes, lines-bytes}
use Rattle.ssh_review.proofs.DigestLemmas.{digest-bytes}
use Rattle.ssh_review.proofs.FileNameLemmas.{IsHead}
use Rattle.ssh_review.proofs.RecordFieldLemmas.{AreFields}
use Rattle.ssh_page.specs.declared.file.FileKind.{FileKind}
use Rattle.ssh_page.specs.declared.file.FileKind.TheVariants.{KnownHosts}
use Rattle.ssh_review.specs.Tables.{IsRow}
use Rattle.ssh_review.specs.declared.record_field.FieldForm.TheVariants.{Cell}
use Rattle.ssh_review.proofs.ReviewLemmas.{end-shown, fault-shown, held-printable}
use Rattle.ssh_review.proofs.ShownLemmas.{AreShownIn, add-in, as-json, as-row, as-text, from-line, nothing-shown}
use Rattle.ssh_review.specs.HostReviews.{host_whole_review}
use Rattle.ssh_review.proofs.HostByteLemmas.{entry-facts, revocation-names}
use Rattle.ssh_review.proofs.HostObjectLemmas.{bare-line, bare-row, entry-line, entry-row, revoked-line, revoked-row}
use Rattle.ssh_review.proofs.HostTextLemmas.{bare-shown, entry-shown, revoked-shown}

-- ---- one line

line-by : (asking : Asking) (name : List ℕ) (earlier : List HostLine) (n : ℕ) (line : List ℕ) (said : KnownLine)
    → ArePrintable name → AreBytes line → known_line line ≡ said
    → (host_line_record (AsLines Json) asking name earlier n line said ≡ []) ⊎ (is_line (host_line_record (AsLines Json) asking name earlier n line said) ≡ true)
line-by asking name earlier n line Blank h k is = inl refl
line-by asking name earlier n line Comment h k is = inl refl
line-by asking name earlier n line (Entry e) h k is =
    inr (entry-line name n (host_facts_of line e) (host_line_findings asking earlier line (Entry e)) h (entry-facts line e k is))
line-by asking name earlier n line (Revoked bytes) h k is =
    inr (revoked-line name n bytes (revocation_facts_of line bytes) (host_line_findings asking earlier line (Revoked bytes)) h (revocation-names line bytes k))
line-by asking name earlier n line RevokedUnreadable h k is =
    inr (bare-line name n (codes "revocation-unreadable") (known_key_reported line) (host_line_findings asking earlier line RevokedUnreadable) h refl (held-bytes (known_held_key line)))
line-by asking name earlier n line (Unreadable cause) h k is =
    inr (bare-line name n (codes "unreadable") (known_key_reported line) (host_line_findings asking earlier line (Unreadable cause)) h refl (held-bytes (known_held_key line)))

pub record-line : (asking : Asking) (name : List ℕ) (earlier : List HostLine) (n : ℕ) (line : List ℕ) → ArePrintable name → AreBytes line
    → (host_line_record (AsLines Json) asking name earlier n line (known_line line) ≡ []) ⊎ (is_line (host_line_record (AsLines Json) asking name earlier n line (known_line line)) ≡ true)
record-line asking name earlier n line h k = line-by asking name earlier n line (known_line line) h k refl

-- ---- a row of a table

row-by : (kind : FileKind) (asking : Asking) (head : List ℕ) (earlier : List HostLine) (n : ℕ) (line : List ℕ) (said : KnownLine)
    → AreFields Cell 2 head → AreBytes line → known_line line ≡ said
    → (host_line_record (AsLines (Line kind)) asking head earlier n line said ≡ []) ⊎ IsRow KnownHosts (host_line_record (AsLines (Line kind)) asking head earlier n line said)
row-by kind asking head earlier n line Blank h k is = inl refl
row-by kind asking head earlier n line Comment h k is = inl refl
row-by kind asking head earlier n line (Entry e) h k is =
    inr (entry-row head n (host_facts_of line e) (host_line_findings asking earlier line (Entry e)) h (entry-facts line e k is))
row-by kind asking head earlier n line (Revoked bytes) h k is =
    inr (revoked-row head n bytes (revocation_facts_of line bytes) (host_line_findings asking earlier line (Revoked bytes)) h (revocation-names line bytes k))
row-by kind asking head earlier n line RevokedUnreadable h k is =
    inr (bare-row head n (codes "revocation-unreadable") (known_key_reported line) (host_line_findings asking earlier line RevokedUnreadable) h refl (held-bytes (known_held_key line)))
row-by kind asking head earlier n line (Unreadable cause) h k is =
    inr (bare-row head n (codes "unreadable") (known_key_reported line) (host_line_findings asking earlier line (Unreadable cause)) h refl (held-bytes (known_held_key line)))

pub record-row : (kind : FileKind) (asking : Asking) (head : List ℕ) (earlier : List HostLine) (n : ℕ) (line : List ℕ) → AreFields Cell 2 head → AreBytes line
    → (host_line_record (AsLines (Line kind)) asking head earlier n line (known_line line) ≡ []) ⊎ IsRow KnownHosts (host_line_record (AsLines (Line kind)) asking head earlier n line (known_line line))
record-row kind asking head earlier n line h k = row-by kind asking head earlier n line (known_line line) h k refl

-- ---- each form

json-shown : {record_text : List ℕ} → (record_text ≡ []) ⊎ (is_line record_text ≡ true) → AreShownIn Json record_text
json-shown {record_text} (inl e) = rw e (nothing-shown Json)
json-shown {record_text} (inr h) = as-json (from-line h)

row-shown : {record_text : List ℕ} (kind : FileKind) → (record_text ≡ []) ⊎ IsRow KnownHosts record_text → AreShownIn (Line kind) record_text
row-shown {record_text} kind (inl e) = rw e (nothing-shown (Line kind))
row-shown {record_text} kind (inr h) = as-row kind h

record-by : (form : Form) (asking : Asking) (name : List ℕ) (earlier : List HostLine) (n : ℕ) (line : List ℕ) (said : KnownLine)
    → IsHead form name → AreBytes line → known_line line ≡ said → AreShownIn form (host_line_record (AsLines form) asking name earlier n line said)
record-by Json asking name earlier n line said h k is = json-shown (line-by asking name earlier n line said h k is)
record-by (Line kind) asking name earlier n line said h k is = row-shown kind (row-by kind asking name earlier n line said h k is)
record-by Text asking name earlier n line Blank h k is = nothing-shown Text
record-by Text asking name earlier n line Comment h k is = nothing-shown Text
record-by Text asking name earlier n line (Entry e) h k is =
    as-text (entry-shown name n (host_facts_of line e) (host_line_findings asking earlier line (Entry e)) h (entry-facts line e k is))
record-by Text asking name earlier n line (Revoked bytes) h k is =
    as-text (revoked-shown name n bytes (revocation_facts_of line bytes) (host_line_findings asking earlier line (Revoked bytes)) h (revocation-names line bytes k))
record-by Text asking name earlier n line RevokedUnreadable h k is =
    as-text (bare-shown name n (codes "revocation-unreadable") (known_key_reported line) (host_line_findings asking earlier line RevokedUnreadable) h refl (held-printable (known_held_key line)))
record-by Text asking name earlier n line (Unreadable cause) h k is =
    as-text (bare-shown name n (codes "unreadable") (known_key_reported line) (host_line_findings asking earlier line (Unreadable cause)) h refl (held-printable (known_held_key line)))

records-shown : (form : Form) (asking : Asking) (name : List ℕ) (earlier : List HostLine) (n : ℕ) (lines : List (List ℕ))
    → IsHead form name → AllByRecursion AreBytes lines → AreShownIn form (host_records_of (AsLines form) asking name earlier (numbered n lines))
records-shown form asking name earlier n [] h k = nothing-shown form
records-shown form asking name earlier n (line ∷ lines) h k =
    add-in (record-by form asking name earlier n line (known_line line) h k.0 refl)
    (records-shown form asking name (earlier ++ host_kept_of n line (known_line line)) (n + 1) lines h k.1)

whole-shown : (form : Form) (asking : Asking) (name file : List ℕ) → IsHead form name → AreBytes file → AreShownIn form (host_whole_review form asking name file).text
unfolding host_whole_review
whole-shown form asking name file h k =
    add-in (records-shown form asking name [] 1 (lines_of file) h (lines-bytes file k))
    (end-shown form name (host_counts_of asking [] (numbered 1 (lines_of file))) (sha256 file) h (digest-bytes file))

pub review-shown : (form : Form) (asking : Asking) (name file : List ℕ) → IsHead form name → AreBytes file → AreShownIn form (known_review form asking name file).text
review-shown form asking name file h k = go (nat_lt file_limit (length file))
  where
    go : (b : Bool) → AreShownIn form (cond b (fault_review form name TooLong) (host_whole_review form asking name file)).text
    go true = fault-shown form name TooLong h
    go false = whole-shown form asking name file h k
