-- The canonical line of a known_hosts entry spells it, and is no longer than the line that it comes from.
use Rattle.ssh_rewriting.proofs.Imports.{◌≡◌, ℕ, ◌+◌, ◌≤◌, List, [], ◌∷◌, ◌++◌, length, length-append, refl, sym, ap, subst, ◌∙◌, arith, append_assoc, line_limit, HasNoBlank, HasNoNewline, Names, SpellsNames, Marker, KnownEntry, Entry, SpellsMarker, authority_marker, SpellsKnown, known_line, known_line-spelled, key_text, comment_part, marker_part, line_with_names, canonical_known}
use Rattle.ssh_entries.specs.declared.known_view.Marker.TheVariants as markers
use Rattle.ssh_rewriting.proofs.KeyTextLemmas.{none-front, none-back, none-append, blank-none, one_gap, gap-length, written_key, spells-key, key-length, none-key}

-- ---- markers

spells-marker_part : (marker : Marker) (names text : List ℕ) → SpellsMarker marker names text → SpellsMarker marker names (marker_part marker)
spells-marker_part markers.Unmarked names text (none, comment, marker) = (refl, comment, marker)
spells-marker_part markers.CertAuthority names text h = (32 ∷ [], one_gap, refl)

marker-length : (marker : Marker) (names text : List ℕ) → SpellsMarker marker names text → length (marker_part marker) ≤ length text
marker-length markers.Unmarked names text h = omega arith
marker-length markers.CertAuthority names text (gap, g, whole) =
    let a : length text ≡ length authority_marker + length gap = ap length whole ∙ length-append authority_marker gap in
    let b : length (marker_part markers.CertAuthority) ≡ length authority_marker + 1 = length-append authority_marker (32 ∷ []) in
    let c : 1 ≤ length gap = gap-length gap g in
    omega arith

none-marker : (marker : Marker) (names text : List ℕ) → SpellsMarker marker names text → HasNoNewline text → HasNoNewline (marker_part marker)
none-marker markers.Unmarked names text h n = tt
none-marker markers.CertAuthority names text (gap, g, whole) n =
    none-append authority_marker (32 ∷ []) (none-front authority_marker gap (subst HasNoNewline whole n)) blank-none

-- ---- lines

regrouped : (marker names key comment : List ℕ) → marker ++ names ++ 32 ∷ key ++ comment ≡ marker ++ names ++ 32 ∷ [] ++ (key ++ comment)
regrouped marker names key comment = simp append_assoc

shorter : (front marker names gap key part written : List ℕ) → length part ≤ length marker → 1 ≤ length gap → length written ≤ length key
    → length (part ++ names ++ 32 ∷ [] ++ written) ≤ length (front ++ marker ++ names ++ gap ++ key)
shorter front marker names gap key part written a b c = simp length-append (omega arith)

with-length : (entry : KnownEntry) (front marker names gap key line : List ℕ) → length (marker_part entry.marker) ≤ length marker
    → 1 ≤ length gap → length (written_key entry.key entry.comment) ≤ length key → line ≡ front ++ marker ++ names ++ gap ++ key
    → length (line_with_names entry names) ≤ length line
with-length entry front marker names gap key line m g k whole =
    let less = shorter front marker names gap key (marker_part entry.marker) (written_key entry.key entry.comment) m g k in
    let same = ap length (regrouped (marker_part entry.marker) names (key_text entry.key) (comment_part entry.comment)) in
    omega (arith, ap length whole, less, same)

-- No line grows.
pub known-length : (entry : KnownEntry) (line : List ℕ) → SpellsKnown entry line → length (canonical_known entry) ≤ length line
known-length entry line (short, (front, marker, names, gap, key, f, m, n, b, g, k, whole)) =
    let P : List ℕ → Type 0 = λ t. length (line_with_names entry t) ≤ length line in
    subst P n.text (with-length entry front marker names gap key line (marker-length entry.marker names marker m) (gap-length gap g)
    (key-length entry.key entry.comment key k) whole)

-- A line with other names spells the entry with these names, where they may follow the marker and the line has room.
pub with-spelled : (entry : KnownEntry) (line : List ℕ) (names : Names) (text : List ℕ) → SpellsKnown entry line
    → SpellsMarker entry.marker text (marker_part entry.marker) → SpellsNames names text → HasNoBlank text
    → length (line_with_names entry text) ≤ line_limit → SpellsKnown (record entry { names = names }) (line_with_names entry text)
with-spelled entry line names text (short, (front, marker, old, gap, key, f, m, n, b, g, k, whole)) marked spelled free less = (
  less,
  (
    [],
    marker_part entry.marker,
    text,
    32 ∷ [],
    written_key entry.key entry.comment,
    tt,
    marked,
    spelled,
    free,
    one_gap,
    spells-key entry.key entry.comment key k,
    regrouped (marker_part entry.marker) text (key_text entry.key) (comment_part entry.comment),
  ),
)

-- The canonical line spells its entry.
pub known-spelled : (entry : KnownEntry) (line : List ℕ) → SpellsKnown entry line → SpellsKnown entry (canonical_known entry)
known-spelled entry line h = go h (known-length entry line h)
  where
    go : SpellsKnown entry line → length (canonical_known entry) ≤ length line → SpellsKnown entry (canonical_known entry)
    go (short, (front, marker, names, gap, key, f, m, n, b, g, k, whole)) less =
        let P : List ℕ → Type 0 = λ t. SpellsKnown entry (line_with_names entry t) in
        let Q : List ℕ → Type 0 = λ t. length (line_with_names entry t) ≤ line_limit in
        subst P n.text
        (with-spelled entry line entry.names names h (spells-marker_part entry.marker names marker m) n b (subst Q (sym n.text) (omega (arith, short, less))))

-- The canonical line is read as the entry.
pub known-read : (entry : KnownEntry) (line : List ℕ) → SpellsKnown entry line → known_line (canonical_known entry) ≡ Entry entry
known-read entry line h = known_line-spelled entry (canonical_known entry) (known-spelled entry line h)

-- A line with other names is one line, as the line that it comes from, where the names are.
pub with-none : (entry : KnownEntry) (line text : List ℕ) → SpellsKnown entry line → HasNoNewline line → HasNoNewline text
    → HasNoNewline (line_with_names entry text)
with-none entry line text (short, (front, marker, names, gap, key, f, m, n, b, g, k, whole)) free none =
    let cut = subst HasNoNewline whole free in
    let before = none-front (front ++ marker ++ names) gap (none-front (front ++ marker ++ names ++ gap) key cut) in
    let marked = none-marker entry.marker names marker m (none-back front marker (none-front (front ++ marker) names before)) in
    let written = none-append (marker_part entry.marker ++ text ++ 32 ∷ []) (written_key entry.key entry.comment)
    (none-append (marker_part entry.marker ++ text) (32 ∷ []) (none-append (marker_part entry.marker) text marked none) blank-none)
    (none-key entry.key entry.comment key k (none-back (front ++ marker ++ names ++ gap) key cut)) in
    subst HasNoNewline (sym (regrouped (marker_part entry.marker) text (key_text entry.key) (comment_part entry.comment))) written

-- The canonical line is one line, as the line that it comes from.
pub known-none : (entry : KnownEntry) (line : List ℕ) → SpellsKnown entry line → HasNoNewline line → HasNoNewline (canonical_known entry)
known-none entry line h free = go h
  where
    go : SpellsKnown entry line → HasNoNewline (canonical_known entry)
    go (short, (front, marker, names, gap, key, f, m, n, b, g, k, whole)) =
        let P : List ℕ → Type 0 = λ t. HasNoNewline (line_with_names entry t) in
        let cut = subst HasNoNewline whole free in
        let before = none-front (front ++ marker ++ names) gap (none-front (front ++ marker ++ names ++ gap) key cut) in
        subst P n.text (with-none entry line names h free (none-back (front ++ marker) names before))
