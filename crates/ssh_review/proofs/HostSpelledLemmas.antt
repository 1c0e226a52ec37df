-- The review of a known_hosts file depends on what its lines are read as, so that of its canonical file is the same,
-- but for tabs after markers.
use Rattle.ssh_review.proofs.Imports.{◌≡◌, ◌∙◌, ◌++◌, ◌+◌, ◌&&◌, ℕ, Bool, false, List, [], ◌∷◌, map, ap, sym, refl, AllByRecursion, HasNoNewline, lines_of, numbered, lines_of-whole, key_blob, names_text, KnownEntry, known_line, KnownLine, Revoked, RevokedUnreadable, Marker, comment_part, key_text, marker_part, canonical_known_file, known_or_same, known_written, AreGood, IsGood, good, known-kept, marks_authority, Asking, HostFacts, HostFinding, revoking, trusting, has_tab_after_first, revocation_facts_of, unreadable_revocation_findings, host_entry_findings, revocation_findings, unreadable_host_findings, HostLine, Counts, RecordForm, no_counts, plus, host_counts_with, unreadable_revocation_record, host_entry_record, revoked_record, host_unreadable_record, host_counts_of, host_kept_of, host_line_findings, host_line_record, host_records_of, known_key_reported, HasNoMarkerTab, has_marker_tab}
use Rattle.ssh_entries.specs.declared.known_line.KnownLine.TheVariants.{Blank, Comment}
use Rattle.ssh_trust.proofs.CandidateLemmas.{AreBytes}
use Rattle.std.proofs.Common.{append_assoc}
use Rattle.ssh_entries.specs.declared.known_line.KnownLine.TheVariants.{Entry, Unreadable}
use Rattle.ssh_entries.specs.declared.known_view.Marker.TheVariants as markers
use Rattle.ssh_findings.specs.HostFacts.{host_facts_of}

-- ---- what a review uses of a line: its reading, the line itself if it is no entry, and a tab after a marker

abbrev Said : Type 0
Said = KnownLine × List ℕ × Bool

line-on : KnownLine → List ℕ → List ℕ
line-on Blank line = []
line-on Comment line = []
line-on (Entry e) line = []
line-on (Revoked bytes) line = line
line-on RevokedUnreadable line = line
line-on (Unreadable cause) line = line

abbrev said : List ℕ → Said
said line = (known_line line, line-on (known_line line) line, has_marker_tab (known_line line) line)

line-kept : (line : List ℕ) (l : KnownLine) → line-on l (known_or_same l line) ≡ line-on l line
unfolding line-on
line-kept line Blank = refl
line-kept line Comment = refl
line-kept line (Entry e) = refl
line-kept line (Revoked bytes) = refl
line-kept line RevokedUnreadable = refl
line-kept line (Unreadable cause) = refl

-- a space follows a canonical marker
spaced : (rest : List ℕ) → has_tab_after_first (marker_part markers.CertAuthority ++ rest) ≡ false
spaced [] = refl
spaced (c ∷ rest) = refl

untabbed : (marker : Marker) (rest : List ℕ) → (marks_authority marker && has_tab_after_first (marker_part marker ++ rest)) ≡ false
untabbed markers.Unmarked rest = refl
untabbed markers.CertAuthority rest = spaced rest

parted : (m n k c : List ℕ) → m ++ n ++ k ++ c ≡ m ++ (n ++ (k ++ c))
parted m n k c = append_assoc (m ++ n) k c ∙ append_assoc m n (k ++ c)

no-tab : (line : List ℕ) (l : KnownLine) → has_marker_tab l line ≡ false → has_marker_tab l (known_or_same l line) ≡ false
no-tab line Blank h = refl
no-tab line Comment h = refl
no-tab line (Entry e) h =
    let m = marker_part e.marker in
    let k : List ℕ = 32 ∷ key_text e.key in
    ap (λ l. marks_authority e.marker && has_tab_after_first l) (parted m (names_text e.names) k (comment_part e.comment))
    ∙ untabbed e.marker (names_text e.names ++ (k ++ comment_part e.comment))
no-tab line (Revoked bytes) h = refl
no-tab line RevokedUnreadable h = refl
no-tab line (Unreadable cause) h = refl

all-three : {A B C : Type 0} (a b : A) (x y : B) (p q : C) → a ≡ b → x ≡ y → p ≡ q → ◌≡◌ {A = A × B × C} (a, x, p) (b, y, q)
all-three a b x y p q e h k = rw (e, h, k) refl

said-kept : (line : List ℕ) → IsGood line → has_marker_tab (known_line line) line ≡ false → said (known_written line) ≡ said line
said-kept line g none =
    let says = (known-kept line g).says in
    let same = ap (λ l. line-on l (known_written line)) says ∙ line-kept line (known_line line) in
    let tab = ap (λ l. has_marker_tab l (known_written line)) says ∙ no-tab line (known_line line) none ∙ sym none in
    all-three _ _ _ _ _ _ says same tab

all-kept : (lines : List (List ℕ)) → AreGood lines → AllByRecursion (λ line. has_marker_tab (known_line line) line ≡ false) lines
    → map said (map known_written lines) ≡ map said lines
all-kept [] g none = refl
all-kept (line ∷ lines) g none =
    ap (λ s. s ∷ map said (map known_written lines)) (said-kept line g.0 none.0)
    ∙ ap (λ more. said line ∷ more) (all-kept lines g.1 none.1)

none-new : (lines : List (List ℕ)) → AreGood lines → AllByRecursion HasNoNewline (map known_written lines)
none-new [] g = tt
none-new (line ∷ lines) g = ((known-kept line g.0).none, none-new lines g.1)

all-said : (file : List ℕ) → AreBytes file → HasNoMarkerTab file → map said (lines_of (canonical_known_file file)) ≡ map said (lines_of file)
all-said file bytes none =
    let g = good file bytes in
    ap (λ ls. map said ls) (lines_of-whole (map known_written (lines_of file)) (none-new (lines_of file) g))
    ∙ all-kept (lines_of file) g none

-- ---- records and counts, by what lines are read as

facts-by : KnownEntry → Bool → HostFacts
facts-by e tab = record (host_facts_of [] e) { has_marker_tab = tab }

facts-are : (line : List ℕ) (e : KnownEntry) → host_facts_of line e ≡ facts-by e (has_marker_tab (Entry e) line)
unfolding facts-by host_facts_of
facts-are line e = refl

findings-by : Asking → List HostLine → Said → List HostFinding
findings-by asking earlier (Blank, line, tab) = []
findings-by asking earlier (Comment, line, tab) = []
findings-by asking earlier (Entry e, line, tab) = host_entry_findings asking earlier (key_blob e.key) (facts-by e tab)
findings-by asking earlier (Revoked bytes, line, tab) = revocation_findings asking earlier bytes (revocation_facts_of line bytes)
findings-by asking earlier (RevokedUnreadable, line, tab) = unreadable_revocation_findings asking line
findings-by asking earlier (Unreadable cause, line, tab) = unreadable_host_findings asking cause

findings-are : (asking : Asking) (earlier : List HostLine) (line : List ℕ) (l : KnownLine)
    → host_line_findings asking earlier line l ≡ findings-by asking earlier (l, line-on l line, has_marker_tab l line)
unfolding findings-by line-on
findings-are asking earlier line Blank = refl
findings-are asking earlier line Comment = refl
findings-are asking earlier line (Entry e) = ap (host_entry_findings asking earlier (key_blob e.key)) (facts-are line e)
findings-are asking earlier line (Revoked bytes) = refl
findings-are asking earlier line RevokedUnreadable = refl
findings-are asking earlier line (Unreadable cause) = refl

record-by : RecordForm → List ℕ → ℕ → Said → List HostFinding → List ℕ
record-by form name n (Blank, line, tab) found = []
record-by form name n (Comment, line, tab) found = []
record-by form name n (Entry e, line, tab) found = host_entry_record form name n (facts-by e tab) found
record-by form name n (Revoked bytes, line, tab) found = revoked_record form name n bytes (revocation_facts_of line bytes) found
record-by form name n (RevokedUnreadable, line, tab) found = unreadable_revocation_record form name n (known_key_reported line) found
record-by form name n (Unreadable cause, line, tab) found = host_unreadable_record form name n (known_key_reported line) found

record-is : (form : RecordForm) (asking : Asking) (name : List ℕ) (earlier : List HostLine) (n : ℕ) (line : List ℕ) (l : KnownLine)
    → host_line_record form asking name earlier n line l ≡ record-by form name n (l, line-on l line, has_marker_tab l line) (host_line_findings asking earlier line l)
unfolding record-by line-on
record-is form asking name earlier n line Blank = refl
record-is form asking name earlier n line Comment = refl
record-is form asking name earlier n line (Entry e) =
    ap (λ f. host_entry_record form name n f (host_line_findings asking earlier line (Entry e))) (facts-are line e)
record-is form asking name earlier n line (Revoked bytes) = refl
record-is form asking name earlier n line RevokedUnreadable = refl
record-is form asking name earlier n line (Unreadable cause) = refl

kept-by : ℕ → Said → List HostLine
kept-by n (Blank, line, tab) = []
kept-by n (Comment, line, tab) = []
kept-by n (Entry e, line, tab) = trusting n (key_blob e.key) (facts-by e tab) ∷ []
kept-by n (Revoked bytes, line, tab) = revoking n bytes (revocation_facts_of line bytes) ∷ []
kept-by n (RevokedUnreadable, line, tab) = []
kept-by n (Unreadable cause, line, tab) = []

kept-is : (n : ℕ) (line : List ℕ) (l : KnownLine) → host_kept_of n line l ≡ kept-by n (l, line-on l line, has_marker_tab l line)
unfolding kept-by line-on
kept-is n line Blank = refl
kept-is n line Comment = refl
kept-is n line (Entry e) = ap (λ f. trusting n (key_blob e.key) f ∷ []) (facts-are line e)
kept-is n line (Revoked bytes) = refl
kept-is n line RevokedUnreadable = refl
kept-is n line (Unreadable cause) = refl

records-by : RecordForm → Asking → List ℕ → List HostLine → ℕ → List Said → List ℕ
records-by form asking name earlier n [] = []
records-by form asking name earlier n (s ∷ more) =
    record-by form name n s (findings-by asking earlier s) ++ records-by form asking name (earlier ++ kept-by n s) (n + 1) more

records-are : (form : RecordForm) (asking : Asking) (name : List ℕ) (earlier : List HostLine) (n : ℕ) (lines : List (List ℕ))
    → host_records_of form asking name earlier (numbered n lines) ≡ records-by form asking name earlier n (map said lines)
unfolding records-by
records-are form asking name earlier n [] = refl
records-are form asking name earlier n (line ∷ lines) =
    let l = known_line line in
    ap (λ reported. reported ++ host_records_of form asking name (earlier ++ host_kept_of n line l) (numbered (n + 1) lines))
    (record-is form asking name earlier n line l ∙ ap (record-by form name n (said line)) (findings-are asking earlier line l))
    ∙ ap (λ kept. record-by form name n (said line) (findings-by asking earlier (said line))
    ++ host_records_of form asking name (earlier ++ kept) (numbered (n + 1) lines)) (kept-is n line l)
    ∙ ap (λ more. record-by form name n (said line) (findings-by asking earlier (said line)) ++ more)
    (records-are form asking name (earlier ++ kept-by n (said line)) (n + 1) lines)

counts-by : Asking → List HostLine → ℕ → List Said → Counts
counts-by asking earlier n [] = no_counts
counts-by asking earlier n (s ∷ more) =
    plus (host_counts_with s.0 (findings-by asking earlier s)) (counts-by asking (earlier ++ kept-by n s) (n + 1) more)

counts-are : (asking : Asking) (earlier : List HostLine) (n : ℕ) (lines : List (List ℕ))
    → host_counts_of asking earlier (numbered n lines) ≡ counts-by asking earlier n (map said lines)
unfolding counts-by
counts-are asking earlier n [] = refl
counts-are asking earlier n (line ∷ lines) =
    let l = known_line line in
    ap (λ (found : List HostFinding). plus (host_counts_with l found) (host_counts_of asking (earlier ++ host_kept_of n line l) (numbered (n + 1) lines)))
    (findings-are asking earlier line l)
    ∙ ap (λ kept. plus (host_counts_with l (findings-by asking earlier (said line))) (host_counts_of asking (earlier ++ kept) (numbered (n + 1) lines)))
    (kept-is n line l)
    ∙ ap (plus (host_counts_with l (findings-by asking earlier (said line))))
    (counts-are asking (earlier ++ kept-by n (said line)) (n + 1) lines)

-- ---- the canonical file

pub known_records_alike : (form : RecordForm) (asking : Asking) (name file : List ℕ) → AreBytes file → HasNoMarkerTab file
    → host_records_of form asking name [] (numbered 1 (lines_of (canonical_known_file file))) ≡ host_records_of form asking name [] (numbered 1 (lines_of file))
known_records_alike form asking name file bytes none =
    records-are form asking name [] 1 (lines_of (canonical_known_file file))
    ∙ ap (records-by form asking name [] 1) (all-said file bytes none)
    ∙ sym (records-are form asking name [] 1 (lines_of file))

pub known_counts_alike : (asking : Asking) (file : List ℕ) → AreBytes file → HasNoMarkerTab file
    → host_counts_of asking [] (numbered 1 (lines_of (canonical_known_file file))) ≡ host_counts_of asking [] (numbered 1 (lines_of file))
known_counts_alike asking file bytes none =
    counts-are asking [] 1 (lines_of (canonical_known_file file))
    ∙ ap (counts-by asking [] 1) (all-said file bytes none)
    ∙ sym (counts-are asking [] 1 (lines_of file))
