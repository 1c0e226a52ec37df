-- A known_hosts line that spells an entry is read as that entry, and one that is read as an entry spells it.
use Rattle.ssh_entries.proofs.Imports.{◌≡◌, ℕ, ◌≤◌, Bool, true, false, if◌then◌else◌, List, [], ◌∷◌, ◌++◌, length, bytes_eq, Result, Ok, Err, refl, sym, ap, subst, ◌∙◌, append_assoc, decode_of, standard, DecodeError, Names, SpellsNames, NamesError, key_name_of, kind_of, key_blob, key_again, LineCause, line_limit, body_of, skip_blanks, first_word, after_word, next_field, without_cr, AreBlanks, HasNoBlank, IsGap, begins_with_blank, ends_word, gap-test, gap-differs, skip_blanks-after, skip_blanks-at_word, skipped, skip_blanks-begins, cr_cut, word-cut, after_word-ends, IsCr, AuthEntry, KeyPart, KnownEntry, FirstField, Marker, LineFront, past_limit, empty, remark, fields, front_of, begins_with, base64, SpellsKey, has_no_bytes, lacks_key, key_after_fields, SpellsMarker, authority_marker, SpellsKnown, known_entry_of_key, entry_of_names, line_of_entry, line_by_first, line_of_fields, known_line_of_front, revoked_by}
use Rattle.ssh_entries.specs.Names.{names_of}
use Rattle.ssh_entries.proofs.NamesFieldLemmas.{names-read, names-spelled}
use Rattle.ssh_keys.specs.KeyReading.{key_in}
use Rattle.ssh_options.specs.declared.option_text.LineCause.TheVariants as causes
use Rattle.ssh_entries.specs.declared.known_line.KnownLine.TheVariants.{Entry}
use Rattle.ssh_entries.specs.declared.known_view.FirstField.TheVariants as first
use Rattle.ssh_entries.specs.declared.known_view.Marker.TheVariants as markers
use Rattle.ssh_entries.specs.KeyPart.{key_part_of}
use Rattle.ssh_entries.specs.Markers.{first_field_of}
use Rattle.ssh_entries.specs.KnownGrammar.{known_entry_of_fields, known_line}
use Rattle.ssh_entries.proofs.AuthLemmas.{key_text-at, line-without_cr, key-begins}
use Rattle.ssh_entries.proofs.ByteLemmas.{AreBytes}
use Rattle.ssh_entries.proofs.FieldLemmas.{body-bytes, next-bytes, word-bytes, word-no_blank, word-begins, begins-front, some-front}
use Rattle.ssh_entries.proofs.FrontLemmas.{FrontFields, front-fields, front-at}
use Rattle.ssh_entries.proofs.KeyLemmas.{next_field-at, first_field-at, begins-word}
use Rattle.ssh_entries.proofs.MarkerLemmas.{first-names, first-authority, names-first, authority-first, authority-no_blank}
use Rattle.ssh_entries.proofs.ReadKey.{gap-some, key_part-facts, key_part-spells}

-- ---- names and key

-- a field that is read as names is not empty
names-some : (field : List ℕ) (names : Names) → names_of field ≡ Ok names → has_no_bytes field ≡ false
unfolding names_of
names-some [] names h = cc
names-some (c ∷ cs) names h = refl

part-by : (key : List ℕ) (part : KeyPart) (lacks : Bool) → lacks_key key ≡ lacks
    → (if lacks then Err causes.NoKey else key_after_fields key) ≡ Ok part → (lacks_key key ≡ false) × (key_after_fields key ≡ Ok part)
part-by key part true l h = cc
part-by key part false l h = (l, h)

part-after : (key : List ℕ) (part : KeyPart) → key_part_of key ≡ Ok part → (lacks_key key ≡ false) × (key_after_fields key ≡ Ok part)
unfolding key_part_of
part-after key part h = part-by key part (lacks_key key) refl h

part-from : (key : List ℕ) (part : KeyPart) → lacks_key key ≡ false → key_after_fields key ≡ Ok part → key_part_of key ≡ Ok part
unfolding key_part_of
part-from key part l h = rw l h

-- the field is read as the names of an entry, and the text after it as its key
record SaysFields (entry : KnownEntry) (field key : List ℕ) : Type 0 where
  names : names_of field ≡ Ok entry.names
  part : key_part_of key ≡ Ok (record { key = entry.key; comment = entry.comment })

fields-read : (entry : KnownEntry) (marker : Marker) (field key : List ℕ) → entry.marker ≡ marker → SaysFields entry field key
    → known_entry_of_fields marker field key ≡ Ok entry
unfolding known_entry_of_fields
fields-read entry marker field key m s =
    let part = part-after key (record { key = entry.key; comment = entry.comment }) s.part in
    rw (part.0, s.names, part.1) (ap (λ x. Ok (record { marker = x; names = entry.names; key = entry.key; comment = entry.comment })) (sym m))

-- ---- a line that spells an entry

-- a body within which the entry stands
record Body (entry : KnownEntry) (body : List ℕ) : Type 0 where
  blank : begins_with_blank body ≡ false
  some : has_no_bytes body ≡ false
  comment : begins_with 35 body ≡ false
  reads : line_of_fields body ≡ Entry entry

unmarked-body : (entry : KnownEntry) (names gap key : List ℕ) → entry.marker ≡ markers.Unmarked → begins_with 35 names ≡ false
    → begins_with 64 names ≡ false → HasNoBlank names → bytes_eq gap [] ≡ false → AreBlanks gap → begins_with_blank key ≡ false
    → SaysFields entry names key → Body entry (names ++ gap ++ key)
unmarked-body entry names gap key m hash at n g b k s =
    let some = names-some names entry.names s.names in
    let right : names ++ gap ++ key ≡ names ++ (gap ++ key) = append_assoc names gap key in
    let word : first_word (names ++ gap ++ key) ≡ names = first_field-at names gap key n g b in
    let next : next_field (names ++ gap ++ key) ≡ key = next_field-at names gap key n g b k in
    record {
      blank = ap begins_with_blank right ∙ begins-word names (gap ++ key) some n;
      some = ap has_no_bytes right ∙ some-front names (gap ++ key) some;
      comment = ap (begins_with 35) right ∙ begins-front 35 names (gap ++ key) some ∙ hash;
      reads = ap (λ f. line_by_first f (first_word (names ++ gap ++ key)) (next_field (names ++ gap ++ key))) (ap first_field_of word ∙ first-names names at)
          ∙ ap (λ w. line_of_entry (known_entry_of_fields markers.Unmarked w (next_field (names ++ gap ++ key)))) word
          ∙ ap (λ t. line_of_entry (known_entry_of_fields markers.Unmarked names t)) next
          ∙ ap line_of_entry (fields-read entry markers.Unmarked names key m s);
    }

authority-body : (entry : KnownEntry) (space names gap key : List ℕ) → entry.marker ≡ markers.CertAuthority → bytes_eq space [] ≡ false
    → AreBlanks space → HasNoBlank names → bytes_eq gap [] ≡ false → AreBlanks gap → begins_with_blank key ≡ false
    → SaysFields entry names key → Body entry (authority_marker ++ space ++ (names ++ gap ++ key))
authority-body entry space names gap key m e c n g b k s =
    let text = names ++ gap ++ key in
    let body = authority_marker ++ space ++ text in
    let some = names-some names entry.names s.names in
    let begins : begins_with_blank text ≡ false = ap begins_with_blank (append_assoc names gap key) ∙ begins-word names (gap ++ key) some n in
    let word : first_word body ≡ authority_marker = first_field-at authority_marker space text authority-no_blank e c in
    let rest : next_field body ≡ text = next_field-at authority_marker space text authority-no_blank e c begins in
    let field : first_word text ≡ names = first_field-at names gap key n g b in
    let next : next_field text ≡ key = next_field-at names gap key n g b k in
    record {
      blank = refl;
      some = refl;
      comment = refl;
      reads = ap (λ f. line_by_first f (first_word body) (next_field body)) (ap first_field_of word ∙ first-authority)
          ∙ ap (λ t. line_of_entry (known_entry_of_fields markers.CertAuthority (first_word t) (next_field t))) rest
          ∙ ap (λ w. line_of_entry (known_entry_of_fields markers.CertAuthority w (next_field text))) field
          ∙ ap (λ t. line_of_entry (known_entry_of_fields markers.CertAuthority names t)) next
          ∙ ap line_of_entry (fields-read entry markers.CertAuthority names key m s);
    }

marked-body : (entry : KnownEntry) (kind : Marker) (marker names gap key : List ℕ) → entry.marker ≡ kind → SpellsMarker kind names marker
    → HasNoBlank names → bytes_eq gap [] ≡ false → AreBlanks gap → begins_with_blank key ≡ false
    → SaysFields entry names key → Body entry (marker ++ (names ++ gap ++ key))
marked-body entry markers.Unmarked marker names gap key m (none, hash, at) n g b k s =
    subst (λ t. Body entry (t ++ (names ++ gap ++ key))) (sym none) (unmarked-body entry names gap key m hash at n g b k s)
marked-body entry markers.CertAuthority marker names gap key m (space, v, whole) n g b k s =
    subst (λ t. Body entry (t ++ (names ++ gap ++ key))) (sym whole) (authority-body entry space names gap key m (gap-test space v.some) v.blanks n g b k s)

body-line : (entry : KnownEntry) (line front body : List ℕ) → length line ≤ line_limit → AreBlanks front
    → without_cr line ≡ front ++ body → Body entry body → known_line line ≡ Entry entry
unfolding known_line
body-line entry line front body short f cut b =
    let is : body_of line ≡ body = ap skip_blanks cut ∙ skip_blanks-after front body f ∙ skip_blanks-at_word body b.blank in
    ap known_line_of_front (front-at line body short is b.some b.comment) ∙ b.reads

-- A line that spells an entry is read as it.
pub known_line-spelled : (entry : KnownEntry) (line : List ℕ) → SpellsKnown entry line → known_line line ≡ Entry entry
known_line-spelled entry line (short, (front, marker, names, gap, key, f, m, n, blank, g, (space, tail, v, b, is, c, t, key_whole), whole)) =
    let again : key_in (key_blob entry.key) ≡ Ok entry.key = key_again entry.key is in
    let plain : AuthEntry = record { options = []; key = entry.key; comment = entry.comment } in
    let text = key_name_of (kind_of entry.key) ++ space ++ (base64 (key_blob entry.key) ++ without_cr tail) in
    let read = key_text-at plain space tail (gap-test space v.some) v.blanks b again c t in
    let says : SaysFields entry names text = record { names = names-read entry.names names n; part = read.reads } in
    let begins : begins_with_blank text ≡ false = key-begins (kind_of entry.key) space (base64 (key_blob entry.key) ++ without_cr tail) in
    let body = marked-body entry entry.marker marker names gap text refl m blank (gap-test gap g.some) g.blanks begins says in
    let cut : without_cr line ≡ front ++ (marker ++ (names ++ gap ++ text)) =
    ap without_cr (whole ∙ ap (λ x. front ++ marker ++ names ++ gap ++ x) key_whole)
    ∙ line-without_cr entry.key (front ++ marker ++ names ++ gap) space tail again ∙ simp append_assoc in
    body-line entry line front (marker ++ (names ++ gap ++ text)) short f cut body

-- A line spells at most one entry.
pub only_known : (a b : KnownEntry) (line : List ℕ) → SpellsKnown a line → SpellsKnown b line → a ≡ b
only_known a b line h k =
    let e : Entry a ≡ Entry b = sym (known_line-spelled a line h) ∙ known_line-spelled b line k in cc

-- ---- a line that is read as an entry

record ReadFields (marker : Marker) (field key : List ℕ) (entry : KnownEntry) : Type 0 where
  marker_is : entry.marker ≡ marker
  says : SaysFields entry field key

key-by : (marker : Marker) (field key : List ℕ) (entry : KnownEntry) (names : Names) (part : Result KeyPart LineCause)
    → lacks_key key ≡ false → names_of field ≡ Ok names → key_after_fields key ≡ part → known_entry_of_key marker names part ≡ Ok entry
    → ReadFields marker field key entry
key-by marker field key entry names (Err cause) l n p h = cc
key-by marker field key entry names (Ok part) l n p h =
    let is : record { marker = marker; names = names; key = part.key; comment = part.comment } ≡ entry = cc in
    subst (λ x. ReadFields marker field key x) is
    (record { marker_is = refl; says = record { names = n; part = part-from key (record { key = part.key; comment = part.comment }) l p } })

names-by : (marker : Marker) (field key : List ℕ) (entry : KnownEntry) (names : Result Names NamesError)
    → lacks_key key ≡ false → names_of field ≡ names → entry_of_names marker names key ≡ Ok entry → ReadFields marker field key entry
names-by marker field key entry (Err fault) l n h = cc
names-by marker field key entry (Ok names) l n h = key-by marker field key entry names (key_after_fields key) l n refl h

fields-by : (marker : Marker) (field key : List ℕ) (entry : KnownEntry) (lacks : Bool) → lacks_key key ≡ lacks
    → (if lacks then Err causes.NoKey else entry_of_names marker (names_of field) key) ≡ Ok entry → ReadFields marker field key entry
fields-by marker field key entry true l h = cc
fields-by marker field key entry false l h = names-by marker field key entry (names_of field) l refl h

entry-by : (entry : KnownEntry) (read : Result KnownEntry LineCause) → line_of_entry read ≡ Entry entry → read ≡ Ok entry
entry-by entry (Err cause) h = cc
entry-by entry (Ok e) h = cc

read-fields : (marker : Marker) (field key : List ℕ) (entry : KnownEntry) → line_of_entry (known_entry_of_fields marker field key) ≡ Entry entry
    → ReadFields marker field key entry
unfolding known_entry_of_fields
read-fields marker field key entry h =
    fields-by marker field key entry (lacks_key key) refl (entry-by entry (known_entry_of_fields marker field key) h)

-- names, blanks and key, with a CR after them or not
record SpellsFields (entry : KnownEntry) (names text : List ℕ) : Type 0 where
  gap : List ℕ
  key : List ℕ
  spelled : SpellsNames entry.names names
  blank : HasNoBlank names
  between : IsGap gap
  spells_key : SpellsKey entry.key entry.comment key
  whole : text ≡ names ++ (gap ++ key)

spells-fields : (text cr : List ℕ) (entry : KnownEntry) → AreBytes text → IsCr cr → SaysFields entry (first_word text) (next_field text)
    → SpellsFields entry (first_word text) (text ++ cr)
spells-fields text cr entry bytes is says =
    let skip = skipped (after_word text) in
    let key = next_field text in
    let part : KeyPart = record { key = entry.key; comment = entry.comment } in
    let facts = key_part-facts key part says.part in
    let some : bytes_eq skip.gap [] ≡ false =
    gap-some skip.gap key (ap ends_word (sym skip.whole) ∙ after_word-ends text) (skip_blanks-begins (after_word text)) facts.word in
    record {
      gap = skip.gap;
      key = key ++ cr;
      spelled = names-spelled (first_word text) entry.names (word-bytes text bytes) says.names;
      blank = word-no_blank text;
      between = record { some = gap-differs skip.gap some; blanks = skip.blanks };
      spells_key = key_part-spells key cr part (next-bytes text bytes) is says.part;
      whole = ap (λ t. t ++ cr) (word-cut text ∙ ap (λ t. first_word text ++ t) skip.whole) ∙ simp append_assoc;
    }

-- a body spells an entry, with a CR after it or not
abbrev SpellsBody : KnownEntry → List ℕ → Type 0
SpellsBody entry text =
    (marker names gap key : List ℕ) × SpellsMarker entry.marker names marker × SpellsNames entry.names names × HasNoBlank names × IsGap gap
    × SpellsKey entry.key entry.comment key × (text ≡ marker ++ (names ++ (gap ++ key)))

unmarked-spells : (body cr : List ℕ) (entry : KnownEntry) → AreBytes body → IsCr cr → begins_with 35 body ≡ false
    → first_field_of (first_word body) ≡ first.Names → ReadFields markers.Unmarked (first_word body) (next_field body) entry → SpellsBody entry (body ++ cr)
unmarked-spells body cr entry bytes is comment names read =
    let s = spells-fields body cr entry bytes is read.says in
    let marker : SpellsMarker markers.Unmarked (first_word body) [] = (refl, word-begins 35 body comment, names-first (first_word body) names) in (
      [],
      first_word body,
      s.gap,
      s.key,
      subst (λ m. SpellsMarker m (first_word body) []) (sym read.marker_is) marker,
      s.spelled,
      s.blank,
      s.between,
      s.spells_key,
      s.whole,
    )

authority-spells : (body cr : List ℕ) (entry : KnownEntry) → AreBytes body → IsCr cr → first_field_of (first_word body) ≡ first.CertAuthority
    → ReadFields markers.CertAuthority (first_word (next_field body)) (next_field (next_field body)) entry → SpellsBody entry (body ++ cr)
authority-spells body cr entry bytes is authority read =
    let text = next_field body in
    let skip = skipped (after_word body) in
    let s = spells-fields text cr entry (next-bytes body bytes) is read.says in
    let word : first_word body ≡ authority_marker = authority-first (first_word body) authority in
    let some : bytes_eq skip.gap [] ≡ false =
    gap-some skip.gap text (ap ends_word (sym skip.whole) ∙ after_word-ends body) (skip_blanks-begins (after_word body)) (names-some (first_word text) entry.names read.says.names) in
    let marker : SpellsMarker markers.CertAuthority (first_word text) (authority_marker ++ skip.gap) =
    (skip.gap, record { some = gap-differs skip.gap some; blanks = skip.blanks }, refl) in
    let cut : body ++ cr ≡ authority_marker ++ skip.gap ++ (text ++ cr) =
    ap (λ t. t ++ cr) (word-cut body ∙ ap (λ w. w ++ after_word body) word ∙ ap (λ t. authority_marker ++ t) skip.whole) ∙ simp append_assoc in (
      authority_marker ++ skip.gap,
      first_word text,
      s.gap,
      s.key,
      subst (λ m. SpellsMarker m (first_word text) (authority_marker ++ skip.gap)) (sym read.marker_is) marker,
      s.spelled,
      s.blank,
      s.between,
      s.spells_key,
      cut ∙ ap (λ t. authority_marker ++ skip.gap ++ t) s.whole,
    )

revoked-no_entry : (missing : Bool) (decoded : Result (List ℕ) DecodeError) (entry : KnownEntry) → revoked_by missing decoded ≡ Entry entry → ⊥
revoked-no_entry missing (Err e) entry h = cc
revoked-no_entry true (Ok bytes) entry h = cc
revoked-no_entry false (Ok bytes) entry h = cc

first-by : (f : FirstField) (body cr : List ℕ) (entry : KnownEntry) → AreBytes body → IsCr cr → begins_with 35 body ≡ false
    → first_field_of (first_word body) ≡ f → line_by_first f (first_word body) (next_field body) ≡ Entry entry → SpellsBody entry (body ++ cr)
first-by first.Names body cr entry bytes is comment f h =
    unmarked-spells body cr entry bytes is comment f (read-fields markers.Unmarked (first_word body) (next_field body) entry h)
first-by first.CertAuthority body cr entry bytes is comment f h =
    authority-spells body cr entry bytes is f (read-fields markers.CertAuthority (first_word (next_field body)) (next_field (next_field body)) entry h)
first-by first.Revoked body cr entry bytes is comment f h =
    let field = first_word (next_field (next_field (next_field body))) in
    absurd (revoked-no_entry (has_no_bytes field) (decode_of standard field) entry h)
first-by first.Unknown body cr entry bytes is comment f h = cc

record ReadLine (line : List ℕ) (entry : KnownEntry) : Type 0 where
  front : FrontFields line (body_of line)
  reads : line_of_fields (body_of line) ≡ Entry entry

front-by : (line : List ℕ) (entry : KnownEntry) (front : LineFront) → front_of line ≡ front → known_line_of_front front ≡ Entry entry → ReadLine line entry
front-by line entry past_limit f h = cc
front-by line entry empty f h = cc
front-by line entry remark f h = cc
front-by line entry (fields body) f h =
    let front = front-fields line body f in
    record {
      front = subst (λ b. FrontFields line b) (sym front.is) front;
      reads = ap line_of_fields front.is ∙ h;
    }

read-line : (line : List ℕ) (entry : KnownEntry) → known_line line ≡ Entry entry → ReadLine line entry
unfolding known_line
read-line line entry h = front-by line entry (front_of line) refl h

spells-line : (line : List ℕ) (entry : KnownEntry) (front cr : List ℕ) → length line ≤ line_limit → AreBlanks front
    → line ≡ front ++ (body_of line ++ cr) → SpellsBody entry (body_of line ++ cr) → SpellsKnown entry line
spells-line line entry front cr short f whole (marker, names, gap, key, m, n, b, g, k, e) =
    (short, (front, marker, names, gap, key, f, m, n, b, g, k, whole ∙ ap (λ t. front ++ t) e ∙ simp append_assoc))

-- A line that is read as an entry spells it.
pub known_line-spells : (line : List ℕ) (entry : KnownEntry) → AreBytes line → known_line line ≡ Entry entry → SpellsKnown entry line
known_line-spells line entry bytes h =
    let cut = cr_cut line in
    let skip = skipped (without_cr line) in
    let body = body_of line in
    let read = read-line line entry h in
    let whole : line ≡ skip.gap ++ (body ++ cut.cr) = cut.whole ∙ ap (λ t. t ++ cut.cr) skip.whole ∙ append_assoc skip.gap body cut.cr in
    spells-line line entry skip.gap cut.cr read.front.short skip.blanks whole
    (first-by (first_field_of (first_word body)) body cut.cr entry (body-bytes line bytes) cut.is read.front.comment refl read.reads)
