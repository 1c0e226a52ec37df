-- The line that hides a name spells its entry with that name hidden, has as many bytes whatever the name, and is one line.
use Rattle.ssh_rewriting.proofs.Imports.{◌≡◌, ◌≢◌, ℕ, ◌+◌, ◌*◌, ◌/◌, ◌%◌, ◌≤◌, Bool, true, false, not, ◌==◌, List, [], ◌∷◌, ◌++◌, length, length-append, codes, replicate, slice_index, refl, ap, ◌∙◌, arith, list_all, and_parts, padding_len, standard, line_limit, HasNoBlank, HasNoNewline, IsTwentyBytes, base64, hashed_field, hidden, name_hash, hidden-spelled, length-hashed, Marker, begins_with, KnownEntry, Entry, SpellsMarker, SpellsKnown, known_line, HasNoBlank-append, HasNoBlank-from_test, base64-no_blank, index-passes, list_all-append, replicate-passes, known_line-spelled, marker_part, line_with_names, hashed_length, hashed_line}
use Rattle.base64.specs.Rfc4648.{encode_symbols}
use Rattle.ssh_entries.specs.declared.known_view.Marker.TheVariants as markers
use Rattle.ssh_rewriting.proofs.KeyTextLemmas.{one_gap}
use Rattle.ssh_rewriting.proofs.KnownLineLemmas.{with-spelled, with-none}

-- ---- the field

abbrev is_no_newline : ℕ → Bool
is_no_newline c = not (c == 10)

no_newline-symbol : (i : ℕ) → is_no_newline (slice_index standard.encode_table i) ≡ true
no_newline-symbol i = index-passes is_no_newline standard.encode_table i refl refl

no_newline-symbols : (m : List ℕ) → list_all is_no_newline (encode_symbols standard.encode_table m) ≡ true
unfolding encode_symbols
no_newline-symbols [] = refl
no_newline-symbols (a ∷ []) = rw (no_newline-symbol (a / 4), no_newline-symbol (a % 4 * 16)) refl
no_newline-symbols (a ∷ b ∷ []) = rw (no_newline-symbol (a / 4), no_newline-symbol (a % 4 * 16 + b / 16), no_newline-symbol (b % 16 * 4)) refl
no_newline-symbols (a ∷ b ∷ c ∷ rest) =
    rw (no_newline-symbol (a / 4), no_newline-symbol (a % 4 * 16 + b / 16), no_newline-symbol (b % 16 * 4 + c / 64), no_newline-symbol (c % 64)) (no_newline-symbols rest)

no_newline-base64 : (m : List ℕ) → list_all is_no_newline (base64 m) ≡ true
no_newline-base64 m =
    list_all-append is_no_newline (encode_symbols standard.encode_table m) (replicate (padding_len (length m)) 61) (no_newline-symbols m)
    (replicate-passes is_no_newline (padding_len (length m)) refl)

other-byte : (c : ℕ) → is_no_newline c ≡ true → c ≢ 10
other-byte c h = λ e. let no : is_no_newline 10 ≡ true = rw e at h in cc no

none-from_test : (text : List ℕ) → list_all is_no_newline text ≡ true → HasNoNewline text
none-from_test [] h = tt
none-from_test (c ∷ cs) h =
    let parts = and_parts (is_no_newline c) (list_all is_no_newline cs) h in
    (other-byte c parts.0, none-from_test cs parts.1)

-- a hashed field is one line
pub none-field : (salt name : List ℕ) → HasNoNewline (hashed_field salt name)
none-field salt name =
    none-from_test (hashed_field salt name)
    (list_all-append is_no_newline (codes "|1|" ++ base64 salt ++ codes "|") (base64 (name_hash salt name))
    (list_all-append is_no_newline (codes "|1|" ++ base64 salt) (codes "|") (list_all-append is_no_newline (codes "|1|") (base64 salt) refl (no_newline-base64 salt)) refl)
    (no_newline-base64 (name_hash salt name)))

-- and has no blanks
pub free-field : (salt name : List ℕ) → HasNoBlank (hashed_field salt name)
free-field salt name =
    HasNoBlank-append (codes "|1|" ++ base64 salt ++ codes "|") (base64 (name_hash salt name))
    (HasNoBlank-append (codes "|1|" ++ base64 salt) (codes "|") (HasNoBlank-append (codes "|1|") (base64 salt) (HasNoBlank-from_test (codes "|1|") refl) (base64-no_blank salt))
    (HasNoBlank-from_test (codes "|") refl))
    (base64-no_blank (name_hash salt name))

spells-marker : (marker : Marker) (text : List ℕ) → begins_with 35 text ≡ false → begins_with 64 text ≡ false → SpellsMarker marker text (marker_part marker)
spells-marker markers.Unmarked text comment marker = (refl, comment, marker)
spells-marker markers.CertAuthority text comment marker = (32 ∷ [], one_gap, refl)

-- ---- the line

parts-length : (marker names rest : List ℕ) → length (marker ++ names ++ rest) ≡ length (marker ++ [] ++ rest) + length names
parts-length marker names rest = simp length-append (omega arith)

with-length : (entry : KnownEntry) (names : List ℕ) → length (line_with_names entry names) ≡ length (line_with_names entry []) + length names
with-length entry names = simp length-append (omega arith)

pub hashed-line-length : (entry : KnownEntry) (salt name : List ℕ) → IsTwentyBytes salt → length (hashed_line entry salt name) ≡ hashed_length entry
hashed-line-length entry salt name s =
    with-length entry (hashed_field salt name) ∙ ap (λ n. length (line_with_names entry []) + n) (length-hashed salt name s.count)

pub hashed-spelled : (entry : KnownEntry) (line salt name : List ℕ) → SpellsKnown entry line → IsTwentyBytes salt → hashed_length entry ≤ line_limit
    → SpellsKnown (record entry { names = hidden salt name }) (hashed_line entry salt name)
hashed-spelled entry line salt name h s room =
    with-spelled entry line (hidden salt name) (hashed_field salt name) h (spells-marker entry.marker (hashed_field salt name) refl refl)
    (hidden-spelled salt name s) (free-field salt name) (omega (arith, hashed-line-length entry salt name s, room))

pub hashed-read : (entry : KnownEntry) (line salt name : List ℕ) → SpellsKnown entry line → IsTwentyBytes salt → hashed_length entry ≤ line_limit
    → known_line (hashed_line entry salt name) ≡ Entry (record entry { names = hidden salt name })
hashed-read entry line salt name h s room =
    known_line-spelled (record entry { names = hidden salt name }) (hashed_line entry salt name) (hashed-spelled entry line salt name h s room)

pub hashed-none : (entry : KnownEntry) (line salt name : List ℕ) → SpellsKnown entry line → HasNoNewline line → HasNoNewline (hashed_line entry salt name)
hashed-none entry line salt name h none = with-none entry line (hashed_field salt name) h none (none-field salt name)
