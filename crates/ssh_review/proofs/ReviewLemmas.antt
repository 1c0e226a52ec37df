-- A review is of printable bytes and LFs, and in a table tabs, in each form.
use Rattle.ssh_review.proofs.Imports.{◌≡◌, ◌+◌, ℕ, nat_lt, Bool, true, false, cond, List, [], ◌∷◌, ◌++◌, length, refl, Option, Some, None, codes, option_map, AllByRecursion, TimeZone, file_limit, lines_of, numbered, PublicKey, key_blob, AuthLine, Blank, Comment, Entry, Unreadable, AuthEntry, auth_line, Asking, Held, held_key, AreBytes, Counts, FileFault, TooLong, Total, Form, AsLines, Text, Json, Line, end_line, file_fault_line, total_line, counts_of, held_by_line, key_reported, line_findings, line_record, records_of, shadow_line, auth_review, fault_review}
use Rattle.sha2.specs.Sha256.{sha256}
use Rattle.ssh_keys.specs.Fingerprint.{digest_text_of, fingerprint_of}
use Rattle.ssh_findings.specs.Facts.{facts_of}
use Rattle.ssh_findings.specs.HeldKey.{held_of as reported_of}
use Rattle.ssh_findings.specs.KeyRead.{key_read}
use Rattle.ssh_review.specs.Lines.{lets_in}
use Rattle.ssh_review.proofs.ObjectLemmas.{entry-line, entry-row, unreadable-line, unreadable-row}
use Rattle.ssh_review.proofs.PrintableLemmas.{ArePrintable, join, word}
use Rattle.ssh_review.proofs.EndWordLemmas.{end-words-printable, fault-words-printable, total-words-printable}
use Rattle.ssh_review.proofs.FileNameLemmas.{IsHead}
use Rattle.ssh_review.proofs.TableLemmas.{end-is-row, fault-is-row, total-is-row}
use Rattle.ssh_review.specs.Reviews.{whole_review}
use Rattle.ssh_review.proofs.ByteLemmas.{entry-facts, held-bytes, lines-bytes}
use Rattle.ssh_review.proofs.DigestLemmas.{base64-printable, digest-bytes}
use Rattle.ssh_review.proofs.EndLemmas.{end-line, fault-line, total-line}
use Rattle.ssh_review.proofs.FoundLemmas.{found-shown}
use Rattle.ssh_review.proofs.ShownLemmas.{AreShownIn, add, add-in, as-json, as-row, as-text, from-line, nothing-shown, seen, show}
use Rattle.ssh_review.proofs.TextLemmas.{IsHeldPrintable, entry-shown, unreadable-shown}

-- ---- records

pub fingerprint-printable : (key : PublicKey) → ArePrintable (fingerprint_of key)
unfolding fingerprint_of digest_text_of
fingerprint-printable key = base64-printable 43 (sha256 (key_blob key)) (digest-bytes (key_blob key))

entry-printable : (zone : TimeZone) (e : AuthEntry) → ArePrintable (facts_of zone e).fingerprint
unfolding facts_of
entry-printable zone e = fingerprint-printable (key_read e.key)

pub held-printable : (key : Option PublicKey) → IsHeldPrintable (option_map reported_of key)
held-printable None = tt
held-printable (Some key) = fingerprint-printable key

record-by : (form : Form) (asking : Asking) (name : List ℕ) (earlier : List Held) (n : ℕ) (line : List ℕ) (said : AuthLine)
    → IsHead form name → AreBytes line → auth_line line ≡ said → AreShownIn form (line_record (AsLines form) asking name earlier (n, line) said)
record-by form asking name earlier n line Blank h k is = nothing-shown form
record-by form asking name earlier n line Comment h k is = nothing-shown form
record-by Text asking name earlier n line (Entry e) h k is =
    as-text (entry-shown name n (facts_of asking.zone e) (line_findings asking earlier (Entry e)) h (entry-facts asking.zone line e k is).0 (entry-printable asking.zone e))
record-by Json asking name earlier n line (Entry e) h k is =
    let bytes = entry-facts asking.zone line e k is in
    as-json (from-line (entry-line name n (facts_of asking.zone e) e.options (shadow_line asking earlier e) (lets_in asking earlier e) (line_findings asking earlier (Entry e)) h bytes.0 bytes.1))
record-by (Line kind) asking name earlier n line (Entry e) h k is =
    let bytes = entry-facts asking.zone line e k is in
    as-row kind (entry-row name n (facts_of asking.zone e) e.options (shadow_line asking earlier e) (lets_in asking earlier e) (line_findings asking earlier (Entry e)) h bytes.0 bytes.1)
record-by Text asking name earlier n line (Unreadable cause) h k is =
    as-text (unreadable-shown name n (key_reported line) (line_findings asking earlier (Unreadable cause)) h (held-printable (held_key line)))
record-by Json asking name earlier n line (Unreadable cause) h k is =
    as-json (from-line (unreadable-line name n (key_reported line) (line_findings asking earlier (Unreadable cause)) h (held-bytes (held_key line))))
record-by (Line kind) asking name earlier n line (Unreadable cause) h k is =
    as-row kind (unreadable-row name n (key_reported line) (line_findings asking earlier (Unreadable cause)) h (held-bytes (held_key line)))

records-shown : (form : Form) (asking : Asking) (name : List ℕ) (earlier : List Held) (n : ℕ) (lines : List (List ℕ))
    → IsHead form name → AllByRecursion AreBytes lines → AreShownIn form (records_of (AsLines form) asking name earlier (numbered n lines))
records-shown form asking name earlier n [] h k = nothing-shown form
records-shown form asking name earlier n (line ∷ lines) h k =
    add-in (record-by form asking name earlier n line (auth_line line) h k.0 refl)
    (records-shown form asking name (earlier ++ held_by_line asking (n, auth_line line)) (n + 1) lines h k.1)

-- ---- ends

pub end-shown : (form : Form) (name : List ℕ) (counts : Counts) (digest : List ℕ) → IsHead form name → AreBytes digest → AreShownIn form (end_line form name counts digest)
end-shown Text name counts digest h k =
    as-text (add (seen (join (join h (word (codes ": ") refl)) (end-words-printable counts digest k))) (show (codes "\n") refl))
end-shown Json name counts digest h k = as-json (from-line (end-line name counts digest h k))
end-shown (Line kind) name counts digest h k = as-row kind (end-is-row kind name counts digest h k)

pub fault-shown : (form : Form) (name : List ℕ) (fault : FileFault) → IsHead form name → AreShownIn form (file_fault_line form name fault)
fault-shown Text name fault h =
    as-text (add (seen (join (join h (word (codes ": ") refl)) (fault-words-printable fault))) (show (codes "\n") refl))
fault-shown Json name fault h = as-json (from-line (fault-line name fault h))
fault-shown (Line kind) name fault h = as-row kind (fault-is-row kind name fault h)

pub total-shown : (form : Form) (kind zone : List ℕ) (asking : Asking) (t : Total) → AreBytes kind → AreBytes zone → AreShownIn form (total_line form kind zone asking t)
total-shown Text kind zone asking t h k =
    as-text (add (add (found-shown t.counts.by_code) (seen (total-words-printable zone asking t k))) (show (codes "\n") refl))
total-shown Json kind zone asking t h k = as-json (from-line (total-line kind zone asking t h k))
total-shown (Line files) kind zone asking t h k = as-row files (total-is-row files zone asking t k)

-- ---- reviews

whole-shown : (form : Form) (asking : Asking) (name file : List ℕ) → IsHead form name → AreBytes file → AreShownIn form (whole_review form asking name file).text
unfolding whole_review
whole-shown form asking name file h k =
    add-in (records-shown form asking name [] 1 (lines_of file) h (lines-bytes file k))
    (end-shown form name (counts_of asking [] (numbered 1 (lines_of file))) (sha256 file) h (digest-bytes file))

pub review-shown : (form : Form) (asking : Asking) (name file : List ℕ) → IsHead form name → AreBytes file → AreShownIn form (auth_review form asking name file).text
review-shown form asking name file h k = go (nat_lt file_limit (length file))
  where
    go : (b : Bool) → AreShownIn form (cond b (fault_review form name TooLong) (whole_review form asking name file)).text
    go true = fault-shown form name TooLong h
    go false = whole-shown form asking name file h k
