-- What is stored of the lines of a known_hosts file during a review, by the file's length.
use Rattle.ssh_review.proofs.Imports.{◌≡◌, ◌≢◌, ◌∙◌, ℕ, ◌+◌, ◌*◌, ◌≤◌, List, [], ◌∷◌, ◌++◌, length, ap, refl, arith, length-append, mul-add, mul-le-mul_left, mul-le-mul_right, AllByRecursion, body_of, first_word, line_limit, lines_of, next_field, numbered, key_name_of, PublicKey, key_blob, kind_of, base64, names_text, SpellsKey, KnownEntry, RevokesBytes, SpellsKnown, fourth_field, known_line, KnownLine, Revoked, RevokedUnreadable, length_next, length-word, length_body, known_line-spells, read-revokes, AreBytes, spelling_bytes, spelling_sum, entry-bytes, entry-count, entry-sum, host_line_bytes, host_line_spelling, host_line_sum, over_lines}
use Rattle.std.proofs.Common.{Option, Some, None}
use Rattle.ssh_entries.specs.declared.known_line.KnownLine.TheVariants.{Blank, Comment, Entry, Unreadable}
use Rattle.ssh_findings.specs.RevocationFacts.{revocation_facts_of}
use Rattle.ssh_review.proofs.ByteLemmas.{lines-bytes}
use Rattle.ssh_review.proofs.MemoryLemmas.{base64-long, pieces-short, pieces_bytes}

-- ---- an entry and its line

some-long : (xs : List ℕ) → xs ≢ [] → 1 ≤ length xs
some-long [] h = absurd (h refl)
some-long (x ∷ xs) h = omega arith

key-room : (key : PublicKey) (comment text : List ℕ) → SpellsKey key comment text → length (key_blob key) + 1 ≤ length text
key-room key comment text (gap, tail, gaps, bytes, is_key, fits, spelled, is) =
    let front = key_name_of (kind_of key) ++ gap in
    let whole : length text ≡ length (front ++ base64 (key_blob key)) + length tail = ap length is ∙ length-append (front ++ base64 (key_blob key)) tail in
    omega (
      arith,
      whole,
      length-append front (base64 (key_blob key)),
      length-append (key_name_of (kind_of key)) gap,
      some-long gap gaps.some,
      base64-long (key_blob key),
    )

-- names and blob are on the line, each after a blank or before one
spelled-room : (e : KnownEntry) (line : List ℕ) → SpellsKnown e line → length (names_text e.names) + length (key_blob e.key) + 2 ≤ length line
spelled-room e line (short, (blank, marker, names, gap, key, blanks, marked, named, solid, gaps, said, is)) =
    let whole : length line ≡ length (blank ++ marker ++ names ++ gap) + length key = ap length is ∙ length-append (blank ++ marker ++ names ++ gap) key in
    let same : length names ≡ length (names_text e.names) = ap length named.text in
    omega (
      arith,
      whole,
      same,
      length-append (blank ++ marker ++ names) gap,
      length-append (blank ++ marker) names,
      some-long gap gaps.some,
      key-room e.key e.comment key said,
    )

entry-texts : (e : KnownEntry) (line : List ℕ) → SpellsKnown e line → host_line_sum (λ text. length text) line (Entry e) ≤ length line
entry-texts e line h = omega (arith, spelled-room e line h, entry-sum line e)

entry-few : (e : KnownEntry) (line : List ℕ) → SpellsKnown e line → host_line_sum (λ text. 1) line (Entry e) ≤ length line
entry-few e line h = omega (arith, spelled-room e line h, entry-count line e)

entry-whole : (e : KnownEntry) (line : List ℕ) → SpellsKnown e line → host_line_bytes line (Entry e) ≤ line_limit * length line
entry-whole e line h =
    let blob = length (key_blob e.key) in
    let names = length (names_text e.names) in
    let few : names + 1 ≤ 65535 = omega (arith, h.0, spelled-room e line h) in
    let each : (names + 1) * blob ≤ 65535 * blob = mul-le-mul_right blob few in
    omega (arith, each, spelled-room e line h, entry-bytes line e)

-- ---- a revocation and its line

revoked-long : (line bytes : List ℕ) → RevokesBytes line bytes → length bytes ≤ length line
revoked-long line bytes h =
    let body = body_of line in
    let same : length (fourth_field line) ≡ length (base64 bytes) = ap length h.spelled in
    omega (
      arith,
      same,
      base64-long bytes,
      length-word (next_field (next_field (next_field body))),
      length_next (next_field (next_field body)),
      length_next (next_field body),
      length_next body,
      length_body 13 line,
    )

-- the marker alone has eight bytes
revoked-some : (line bytes : List ℕ) → RevokesBytes line bytes → 8 ≤ length line
revoked-some line bytes h =
    let body = body_of line in
    let marked : length (first_word body) ≡ 8 = ap length h.marker in
    omega (arith, marked, length-word body, length_body 13 line)

spelling-one : (spelling : Option (List ℕ)) → spelling_sum (λ text. 1) spelling ≤ 1
spelling-one None = omega arith
spelling-one (Some blob) = omega arith

spelling-whole : (spelling : Option (List ℕ)) → spelling_sum (λ text. length text) spelling ≤ spelling_bytes spelling
spelling-whole None = omega arith
spelling-whole (Some blob) = omega arith

-- ---- each line

line-texts : (line : List ℕ) (said : KnownLine) → AreBytes line → known_line line ≡ said → host_line_sum (λ text. length text) line said ≤ 1 * length line + host_line_spelling line said
line-texts line Blank h is = omega arith
line-texts line Comment h is = omega arith
line-texts line (Entry e) h is = omega (arith, entry-texts e line (known_line-spells line e h is))
line-texts line (Revoked bytes) h is =
    omega (arith, revoked-long line bytes (read-revokes line bytes h is), spelling-whole (revocation_facts_of line bytes).spelling)
line-texts line RevokedUnreadable h is = omega arith
line-texts line (Unreadable cause) h is = omega arith

line-few : (line : List ℕ) (said : KnownLine) → AreBytes line → known_line line ≡ said → host_line_sum (λ text. 1) line said ≤ 1 * length line
line-few line Blank h is = omega arith
line-few line Comment h is = omega arith
line-few line (Entry e) h is = omega (arith, entry-few e line (known_line-spells line e h is))
line-few line (Revoked bytes) h is =
    omega (arith, revoked-some line bytes (read-revokes line bytes h is), spelling-one (revocation_facts_of line bytes).spelling)
line-few line RevokedUnreadable h is = omega arith
line-few line (Unreadable cause) h is = omega arith

line-whole : (line : List ℕ) (said : KnownLine) → AreBytes line → known_line line ≡ said → host_line_bytes line said ≤ line_limit * length line + host_line_spelling line said
line-whole line Blank h is = omega arith
line-whole line Comment h is = omega arith
line-whole line (Entry e) h is = omega (arith, entry-whole e line (known_line-spells line e h is))
line-whole line (Revoked bytes) h is = omega (arith, revoked-long line bytes (read-revokes line bytes h is))
line-whole line RevokedUnreadable h is = omega arith
line-whole line (Unreadable cause) h is = omega arith

-- ---- a file and its lines

over-long : (count : List ℕ → KnownLine → ℕ) (k n : ℕ) (lines : List (List ℕ))
    → ((line : List ℕ) → AreBytes line → count line (known_line line) ≤ k * length line)
    → AllByRecursion AreBytes lines → over_lines count (numbered n lines) ≤ k * pieces_bytes lines
over-long count k n [] each h = omega arith
over-long count k n (line ∷ lines) each h =
    omega (arith, mul-add k (length line) (pieces_bytes lines), each line h.0, over-long count k (n + 1) lines each h.1)

-- and more for some lines
over-longer : (count more : List ℕ → KnownLine → ℕ) (k n : ℕ) (lines : List (List ℕ))
    → ((line : List ℕ) → AreBytes line → count line (known_line line) ≤ k * length line + more line (known_line line))
    → AllByRecursion AreBytes lines → over_lines count (numbered n lines) ≤ k * pieces_bytes lines + over_lines more (numbered n lines)
over-longer count more k n [] each h = omega arith
over-longer count more k n (line ∷ lines) each h =
    omega (arith, mul-add k (length line) (pieces_bytes lines), each line h.0, over-longer count more k (n + 1) lines each h.1)

file-longer : (count more : List ℕ → KnownLine → ℕ) (k : ℕ) (file : List ℕ)
    → ((line : List ℕ) → AreBytes line → count line (known_line line) ≤ k * length line + more line (known_line line))
    → AreBytes file → over_lines count (numbered 1 (lines_of file)) ≤ k * length file + over_lines more (numbered 1 (lines_of file))
file-longer count more k file each h =
    omega (arith, mul-le-mul_left k (pieces-short file), over-longer count more k 1 (lines_of file) each (lines-bytes file h))

file-long : (count : List ℕ → KnownLine → ℕ) (k : ℕ) (file : List ℕ)
    → ((line : List ℕ) → AreBytes line → count line (known_line line) ≤ k * length line)
    → AreBytes file → over_lines count (numbered 1 (lines_of file)) ≤ k * length file
file-long count k file each h =
    omega (arith, mul-le-mul_left k (pieces-short file), over-long count k 1 (lines_of file) each (lines-bytes file h))

pub file-texts : (file : List ℕ) → AreBytes file
    → over_lines (host_line_sum (λ text. length text)) (numbered 1 (lines_of file)) ≤ length file + over_lines host_line_spelling (numbered 1 (lines_of file))
file-texts file h =
    omega (arith, file-longer (host_line_sum (λ text. length text)) host_line_spelling 1 file (λ line k. line-texts line (known_line line) k refl) h)

pub file-keys : (file : List ℕ) → AreBytes file → over_lines (host_line_sum (λ text. 1)) (numbered 1 (lines_of file)) ≤ length file
file-keys file h = omega (arith, file-long (host_line_sum (λ text. 1)) 1 file (λ line k. line-few line (known_line line) k refl) h)

pub file-bytes : (file : List ℕ) → AreBytes file
    → over_lines host_line_bytes (numbered 1 (lines_of file)) ≤ line_limit * length file + over_lines host_line_spelling (numbered 1 (lines_of file))
file-bytes file h = file-longer host_line_bytes host_line_spelling line_limit file (λ line k. line-whole line (known_line line) k refl) h
