-- The rows of the list of keys are the lines of the file that have a key.
use Rattle.ssh_review.proofs.Imports.{◌≡◌, ◌∙◌, ◌+◌, ◌^◌, ◌<◌, ◌≤◌, ◌++◌, ℕ, List, [], ◌∷◌, length, ap, sym, refl, subst, arith, append-nil, AuthLine, Entry, Blank, Comment, Unreadable, KnownLine, Revoked, RevokedUnreadable, auth_line, known_line, lines_of, numbered, file_limit, held_by_line, key_reported, line_findings, host_kept_of, host_line_findings, known_key_reported, revocation_facts_of, standard, encode_of, Option, Some, None, option_map, PublicKey, key_blob}
use Rattle.std.specs.Prelude.{Bool, true, false, ◌==◌, codes, if◌then◌else◌}
use Rattle.std.proofs.Common.{length-take-le}
use Rattle.std.proofs.lemmas.Bool.{eqb-true}
use Rattle.std.proofs.lemmas.List.{nil_from_length}
use Rattle.sha2.specs.Sha256.{sha256}
use Rattle.sha2.proofs.Facts256.{length-sha256}
use Rattle.ssh_keys.specs.Fingerprint.{digest_text_of, fingerprint_of}
use Rattle.ssh_keys.proofs.Texts.{text_len}
use Rattle.ssh_entries.specs.declared.known_line.KnownLine.TheVariants as known
use Rattle.ssh_findings.specs.Asking.{Asking}
use Rattle.ssh_findings.specs.Earlier.{Held}
use Rattle.ssh_findings.specs.Facts.{facts_of}
use Rattle.ssh_findings.specs.HeldKey.{held_of as reported_of}
use Rattle.ssh_findings.specs.HostFacts.{host_facts_of}
use Rattle.ssh_findings.specs.HostLines.{HostLine}
use Rattle.ssh_findings.specs.KeyRead.{key_read}
use Rattle.ssh_print.proofs.PlainLemmas.{plain_shown}
use Rattle.ssh_page.specs.Documents.{Document, IsOfBytes, marks}
use Rattle.ssh_page.specs.Files.{ClassesSeen, FileSeen, empty_section, section}
use Rattle.ssh_page.specs.KeyRows.{HasKeyRows, IsHeldPrint, IsPrint, KeyRowSeen, rows_in}
use Rattle.ssh_page.specs.declared.file.FileKind.{FileKind}
use Rattle.ssh_page.specs.declared.file.FileKind.TheVariants.{AuthorizedKeys, KnownHosts}
use Rattle.ssh_page.proofs.KeyRowLemmas.{bare_keyed, both_keyed, empty_keyed, entry_keyed, host_entry_keyed, revoked_keyed, section_keyed, unreadable_keyed}
use Rattle.ssh_review.specs.HostRecords.{print_of}
use Rattle.ssh_review.specs.HostRows.{host_line_row, host_rows_of}
use Rattle.ssh_review.specs.PageFiles.{classes_of, file_counts, file_rows, file_section, file_seen}
use Rattle.ssh_review.specs.PageKeys.{file_key_rows, host_keys_of_lines, host_line_key, keys_of_lines, line_key}
use Rattle.ssh_review.specs.RowPlaces.{row_place}
use Rattle.ssh_review.specs.Rows.{line_row, rows_of}
use Rattle.ssh_review.proofs.LineLemmas.{lines-few}
use Rattle.ssh_review.proofs.PlainWordLemmas.{digest-plain}

-- ---- fingerprints

digest-long : (bytes : List ℕ) → length (digest_text_of (sha256 bytes)) ≡ 43
unfolding digest_text_of
digest-long bytes = length-take-le 43 (encode_of standard (sha256 bytes)) (text_len _ _ true (sha256 bytes) (length-sha256 bytes))

digest-print : (bytes : List ℕ) → IsPrint (digest_text_of (sha256 bytes))
digest-print bytes = ap length (plain_shown (digest_text_of (sha256 bytes)) (digest-plain bytes)) ∙ digest-long bytes

key-print : (key : PublicKey) → IsPrint (fingerprint_of key)
unfolding fingerprint_of
key-print key = digest-print (key_blob key)

revoked-print : (bytes : List ℕ) → IsPrint (print_of bytes)
unfolding print_of
revoked-print bytes = digest-print bytes

held-print : (key : Option PublicKey) → IsHeldPrint (option_map reported_of key)
held-print None = tt
held-print (Some key) = key-print key

-- ---- one line

row_keyed : (file n : ℕ) (asking : Asking) (earlier : List Held) (line : List ℕ) (said : AuthLine) → file < 2 ^ 64 → n < 2 ^ 64
    → IsOfBytes (line_row file asking earlier (n, line) said)
    → HasKeyRows (line_row file asking earlier (n, line) said) (line_key asking (row_place file n) line said)
unfolding facts_of
row_keyed file n asking earlier line Blank few small are = λ rest. refl
row_keyed file n asking earlier line Comment few small are = λ rest. refl
row_keyed file n asking earlier line (Entry e) few small are =
    entry_keyed (row_place file n) (facts_of asking.zone e) (line_findings asking earlier (Entry e)) (few, small) (key-print (key_read e.key)) are
row_keyed file n asking earlier line (Unreadable cause) few small are =
    unreadable_keyed (row_place file n) (key_reported line) (line_findings asking earlier (Unreadable cause)) (few, small) (held-print _) are

host_row_keyed : (file n : ℕ) (asking : Asking) (earlier : List HostLine) (line : List ℕ) (said : KnownLine) → file < 2 ^ 64 → n < 2 ^ 64
    → IsOfBytes (host_line_row file asking earlier n line said)
    → HasKeyRows (host_line_row file asking earlier n line said) (host_line_key (row_place file n) line said)
unfolding host_facts_of
host_row_keyed file n asking earlier line known.Blank few small are = λ rest. refl
host_row_keyed file n asking earlier line known.Comment few small are = λ rest. refl
host_row_keyed file n asking earlier line (known.Entry e) few small are =
    host_entry_keyed (row_place file n) (host_facts_of line e) (host_line_findings asking earlier line (known.Entry e)) (few, small) (key-print (key_read e.key)) are
host_row_keyed file n asking earlier line (Revoked bytes) few small are =
    revoked_keyed (row_place file n) (print_of bytes) (revocation_facts_of line bytes).names (host_line_findings asking earlier line (Revoked bytes)) (few, small) (revoked-print bytes) are
host_row_keyed file n asking earlier line RevokedUnreadable few small are =
    bare_keyed (row_place file n) (codes "revocation-unreadable") (known_key_reported line) (host_line_findings asking earlier line RevokedUnreadable) (few, small) (held-print _) are
host_row_keyed file n asking earlier line (known.Unreadable cause) few small are =
    bare_keyed (row_place file n) (codes "unreadable") (known_key_reported line) (host_line_findings asking earlier line (known.Unreadable cause)) (few, small) (held-print _) are

-- ---- all lines

rows_keyed : (file : ℕ) (asking : Asking) (earlier : List Held) (n : ℕ) (lines : List (List ℕ)) → file < 2 ^ 64 → n + length lines < 2 ^ 64
    → IsOfBytes (rows_of file asking earlier (numbered n lines))
    → HasKeyRows (rows_of file asking earlier (numbered n lines)) (keys_of_lines file asking (numbered n lines))
rows_keyed file asking earlier n [] few small are = λ rest. refl
rows_keyed file asking earlier n (line ∷ lines) few small are =
    let more = earlier ++ held_by_line asking (n, auth_line line) in
    both_keyed (line_row file asking earlier (n, line) (auth_line line)) (rows_of file asking more (numbered (n + 1) lines)) (line_key asking (row_place file n) line (auth_line line)) (keys_of_lines file asking (numbered (n + 1) lines))
    (row_keyed file n asking earlier line (auth_line line) few (omega (arith, small)) are.0)
    (rows_keyed file asking more (n + 1) lines few (omega (arith, small)) are.1)

host_rows_keyed : (file : ℕ) (asking : Asking) (earlier : List HostLine) (n : ℕ) (lines : List (List ℕ)) → file < 2 ^ 64 → n + length lines < 2 ^ 64
    → IsOfBytes (host_rows_of file asking earlier (numbered n lines))
    → HasKeyRows (host_rows_of file asking earlier (numbered n lines)) (host_keys_of_lines file (numbered n lines))
host_rows_keyed file asking earlier n [] few small are = λ rest. refl
host_rows_keyed file asking earlier n (line ∷ lines) few small are =
    let more = earlier ++ host_kept_of n line (known_line line) in
    both_keyed (host_line_row file asking earlier n line (known_line line)) (host_rows_of file asking more (numbered (n + 1) lines)) (host_line_key (row_place file n) line (known_line line)) (host_keys_of_lines file (numbered (n + 1) lines))
    (host_row_keyed file n asking earlier line (known_line line) few (omega (arith, small)) are.0)
    (host_rows_keyed file asking more (n + 1) lines few (omega (arith, small)) are.1)

file-rows-keyed : (kind : FileKind) (number : ℕ) (asking : Asking) (file : List ℕ) → number < 2 ^ 64 → length file ≤ file_limit
    → IsOfBytes (file_rows kind number asking file) → HasKeyRows (file_rows kind number asking file) (file_key_rows kind number asking file)
file-rows-keyed AuthorizedKeys number asking file few small are =
    rows_keyed number asking [] 1 (lines_of file) few (omega (arith, small, lines-few file)) are
file-rows-keyed KnownHosts number asking file few small are =
    host_rows_keyed number asking [] 1 (lines_of file) few (omega (arith, small, lines-few file)) are

-- ---- the section

-- without a row there is none with a key
no-keys : (rows : Document) (found : List KeyRowSeen) → HasKeyRows rows found → marks rows ≡ [] → found ≡ []
no-keys rows found h e = sym (append-nil found) ∙ (sym (h []) ∙ ap (λ (m : List ℕ). rows_in (m ++ [])) e)

section-keyed : (kind : FileKind) (number : ℕ) (f : FileSeen) (classes : ClassesSeen) (rows : Document) (found : List KeyRowSeen) (b : Bool) → (length (marks rows) == 0) ≡ b
    → IsOfBytes (if b then empty_section number f else section number kind f classes rows) → HasKeyRows rows found
    → HasKeyRows (if b then empty_section number f else section number kind f classes rows) found
section-keyed kind number f classes rows found true e are h =
    let none = no-keys rows found h (nil_from_length (marks rows) (eqb-true (length (marks rows)) 0 e)) in
    subst (HasKeyRows (empty_section number f)) (sym none) (empty_keyed number f are)
section-keyed kind number f classes rows found false e are h = section_keyed number kind f classes rows found are h

pub file-section-keyed : (kind : FileKind) (number : ℕ) (asking : Asking) (name file : List ℕ) → number < 2 ^ 64 → length file ≤ file_limit
    → IsOfBytes (file_rows kind number asking file) → IsOfBytes (file_section kind number asking name file)
    → HasKeyRows (file_section kind number asking name file) (file_key_rows kind number asking file)
file-section-keyed kind number asking name file few small are whole =
    let rows = file_rows kind number asking file in
    section-keyed kind number (file_seen kind asking name file) (classes_of (file_counts kind asking file) (marks rows)) rows (file_key_rows kind number asking file) (length (marks rows) == 0) refl whole
    (file-rows-keyed kind number asking file few small are)
