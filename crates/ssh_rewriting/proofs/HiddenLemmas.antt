-- The lines that hide the names of an entry.
use Rattle.ssh_rewriting.proofs.Imports.{◌≡◌, ℕ, ◌+◌, ◌≤◌, true, false, Bool, nat_le, List, [], ◌∷◌, ◌++◌, length, map, drop, replicate, refl, sym, ap, subst, ◌∙◌, arith, length-append, if◌then◌else◌, Some, None, and_parts, length-map, length-replicate, zip, str_to_ascii_lowercase, encoded_size, padding_len, length-encode_symbols, standard, key_name_of, kind_of, key_blob, pieces, base64, Names, Patterns, Hashed, list_of, names_text, line_limit, KnownEntry, KnownLine, comment_part, marker_part, bounded_line, bounded_lines, are_plain, hashed_length, hashed_line, hidden_entry, is_hidden, lower_names}
use Rattle.base64.specs.Rfc4648.{encode_symbols}
use Rattle.ssh_entries.specs.declared.known_line.KnownLine.TheVariants as known

-- ---- lengths

length-symbols : (bytes : List ℕ) → length (base64 bytes) ≡ encoded_size (length bytes) true
length-symbols bytes =
    length-append (encode_symbols standard.encode_table bytes) (replicate (padding_len (length bytes)) 61)
    ∙ rw (length-encode_symbols standard.encode_table bytes, length-replicate {A = ℕ} (padding_len (length bytes)) 61) refl

parts-length : (marker kind symbols comment : List ℕ)
    → length (marker ++ [] ++ 32 ∷ (kind ++ 32 ∷ symbols) ++ comment) + 60 ≡ length marker + 60 + 1 + (length kind + 1 + length symbols) + length comment
parts-length marker kind symbols comment = simp length-append (omega arith)

-- how many bytes the hashed line of an entry has, part by part
pub hashed-length : (entry : KnownEntry)
    → hashed_length entry
    ≡ length (marker_part entry.marker) + 60 + 1 + (length (key_name_of (kind_of entry.key)) + 1 + encoded_size (length (key_blob entry.key)) true) + length (comment_part entry.comment)
hashed-length entry =
    parts-length (marker_part entry.marker) (key_name_of (kind_of entry.key)) (base64 (key_blob entry.key)) (comment_part entry.comment)
    ∙ rw (length-symbols (key_blob entry.key)) refl

-- ---- lines

plain-is : (b : Bool) (entry : KnownEntry) (said : KnownLine) (found : KnownEntry) → is_hidden entry ≡ b → said ≡ known.Entry entry
    → (if b then Some entry else None) ≡ Some found → (said ≡ known.Entry found) × (is_hidden found ≡ true)
plain-is true entry said found e is h =
    let same : entry ≡ found = cc h in
    (is ∙ ap known.Entry same, ap is_hidden (sym same) ∙ e)
plain-is false entry said found e is h = cc h

-- what is known of an entry whose names are hidden
pub hidden-is : (said : KnownLine) (entry : KnownEntry) → hidden_entry said ≡ Some entry → (said ≡ known.Entry entry) × (is_hidden entry ≡ true)
hidden-is (known.Entry other) entry h = plain-is (is_hidden other) other (known.Entry other) entry refl refl h
hidden-is known.Blank entry h = cc h
hidden-is known.Comment entry h = cc h
hidden-is (known.Revoked bytes) entry h = cc h
hidden-is known.RevokedUnreadable entry h = cc h
hidden-is (known.Unreadable cause) entry h = cc h

-- names without a list are hidden already
pub hidden-already : (names : Names) → None ≡ list_of names → false ≡ are_plain names
hidden-already (Patterns list) h = cc h
hidden-already (Hashed salt hash) h = refl

-- plain names are hidden where the line may have as many bytes
pub plain-hidden : (entry : KnownEntry) (names : Names) (fits : Bool) → true ≡ are_plain names → names ≡ entry.names
    → fits ≡ nat_le (hashed_length entry) line_limit → fits ≡ is_hidden entry
plain-hidden entry names fits plain same fitting =
    let p : are_plain entry.names ≡ true = ap are_plain (sym same) ∙ sym plain in
    rw p fitting

plain-pieces : (names : Names) → are_plain names ≡ true → lower_names names ≡ map str_to_ascii_lowercase (pieces (names_text names))
plain-pieces (Patterns list) h = refl
plain-pieces (Hashed salt hash) h = cc h

-- its names are the pieces of its list
pub hidden_pieces : (said : KnownLine) (entry : KnownEntry) → hidden_entry said ≡ Some entry
    → lower_names entry.names ≡ map str_to_ascii_lowercase (pieces (names_text entry.names))
hidden_pieces said entry h =
    plain-pieces entry.names (and_parts (are_plain entry.names) (nat_le (hashed_length entry) line_limit) (hidden-is said entry h).1).0

pub length_pieces : (said : KnownLine) (entry : KnownEntry) → hidden_entry said ≡ Some entry
    → length (lower_names entry.names) ≡ length (pieces (names_text entry.names))
length_pieces said entry h = ap length (hidden_pieces said entry h) ∙ length-map (pieces (names_text entry.names)) str_to_ascii_lowercase

-- the lines that hide the names of these pieces, each with the next salt
abbrev pub lines_of_names : KnownEntry → List (List ℕ) → List (List ℕ) → List (List ℕ)
lines_of_names entry salts parts = map (λ x. hashed_line entry x.0 x.1) (zip salts (map str_to_ascii_lowercase parts))

-- These pieces are left of all of them, and these salts: their lines after this file are all lines after the old one.
abbrev pub NamesLeft : KnownEntry → (all parts given salts : List (List ℕ)) (old file : List ℕ) → Type 0
NamesLeft entry all parts given salts old file =
    (bounded_lines file (lines_of_names entry salts parts) ≡ bounded_lines old (lines_of_names entry given all))
    × (drop (length parts) salts ≡ drop (length all) given)
    × (length salts + length all ≡ length given + length parts)

no-names : (entry : KnownEntry) (salts : List (List ℕ)) (file : List ℕ) → bounded_lines file (lines_of_names entry salts []) ≡ file
no-names entry [] file = refl
no-names entry (salt ∷ salts) file = refl

-- the line that hides one name by the next salt
pub name-line : (entry : KnownEntry) (salts after : List (List ℕ)) (part lower text salt file new : List ℕ)
    → salts ≡ salt ∷ after → lower ≡ str_to_ascii_lowercase part → text ≡ lower → new ≡ bounded_line file (hashed_line entry salt text)
    → new ≡ bounded_lines file (lines_of_names entry salts (part ∷ []))
name-line entry salts after part lower text salt file new next is same put =
    put ∙ ap (λ n. bounded_line file (hashed_line entry salt n)) (same ∙ is)
    ∙ sym (no-names entry after (bounded_line file (hashed_line entry salt (str_to_ascii_lowercase part))))
    ∙ ap (λ s. bounded_lines file (lines_of_names entry s (part ∷ []))) (sym next)

next-left : (entry : KnownEntry) (all left given salts : List (List ℕ)) (part old file : List ℕ) → 1 ≤ length salts
    → NamesLeft entry all (part ∷ left) given salts old file
    → NamesLeft entry all left given (drop 1 salts) old (bounded_lines file (lines_of_names entry salts (part ∷ [])))
next-left entry all left given [] part old file enough h = absurd (omega (arith, enough))
next-left entry all left given (salt ∷ after) part old file enough (lines, drops, count) =
    let one = no-names entry after (bounded_line file (hashed_line entry salt (str_to_ascii_lowercase part))) in
    (ap (λ f. bounded_lines f (lines_of_names entry after left)) one ∙ lines, drops, omega (arith, count))

-- one name is hidden by the next salt
pub names-step : (entry : KnownEntry) (all parts left given salts after : List (List ℕ)) (part old file new : List ℕ)
    → parts ≡ part ∷ left → 1 ≤ length salts → after ≡ drop 1 salts → new ≡ bounded_lines file (lines_of_names entry salts (part ∷ []))
    → NamesLeft entry all parts given salts old file → NamesLeft entry all left given after old new
names-step entry all parts left given salts after part old file new some enough next put h =
    rw (next, put) (next-left entry all left given salts part old file enough (subst (λ p. NamesLeft entry all p given salts old file) some h))

-- no name is left
pub names-end : (entry : KnownEntry) (all parts given salts : List (List ℕ)) (old file : List ℕ) → parts ≡ []
    → NamesLeft entry all parts given salts old file → file ≡ bounded_lines old (lines_of_names entry given all)
names-end entry all parts given salts old file none (lines, drops, count) =
    sym (no-names entry salts file) ∙ ap (λ p. bounded_lines file (lines_of_names entry salts p)) (sym none) ∙ lines
