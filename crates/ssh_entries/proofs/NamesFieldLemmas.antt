-- Fields and the names that they spell.
use Rattle.ssh_entries.proofs.Imports.{◌≡◌, ◌≢◌, ℕ, ◌<◌, Bool, true, false, ◌==◌, if◌then◌else◌, inl, inr, List, [], ◌++◌, length, take, drop, codes, Option, Some, None, Result, Ok, Err, refl, sym, ap, subst, ◌∙◌, arith, append_assoc, eqb-true, IfErr, Decides, Any, cases_Bool, bytes_eq-Decides, length-append, take_at, drop_at, drop_all, take-append-drop, decode_of, standard, DecodeError, decode_of-encode_of, decode_of_strict, length-encode_symbols, after_mark, items_of, after_mark-whole, and_then-some, NamesError, HashedName, Names, Patterns, Hashed, AreNames, IsNamesFault, IsTwentyBytes, SpellsNames, base64, begins_with_bar, has_empty_item, if_twenty, names_by_hash, names_text}
use Rattle.std.specs.Prelude.{IfOk, bytes_eq}
use Rattle.base64.specs.Rfc4648.{encode_symbols}
use Rattle.ssh_entries.specs.declared.names.NamesError.TheVariants as faults
use Rattle.ssh_entries.specs.Names.{hashed_of, names_of, twenty_bytes_of}
use Rattle.ssh_entries.proofs.ByteLemmas.{AreBytes, AreBytes-back, AreBytes-front, IsBytes-from_all}
use Rattle.ssh_entries.proofs.DecodedBytes.{decoded-bytes}
use Rattle.ssh_entries.proofs.ListLemmas.{empty-from_test, some-from_test, test-from_some}

-- ---- the 20 bytes of a base64 text

pub length-base64 : (bytes : List ℕ) → length bytes ≡ 20 → length (base64 bytes) ≡ 28
length-base64 bytes count =
    length-append (encode_symbols standard.encode_table bytes) _
    ∙ rw (length-encode_symbols standard.encode_table bytes, count) refl

twenty-read : (bytes : List ℕ) → IsTwentyBytes bytes → twenty_bytes_of (base64 bytes) ≡ Some bytes
unfolding twenty_bytes_of
twenty-read bytes are = rw (decode_of-encode_of standard bytes refl are.bytes, length-base64 bytes are.count, are.count) refl

if_twenty-count : (decoded : Result (List ℕ) DecodeError) (bytes : List ℕ) → if_twenty decoded ≡ Some bytes → (decoded ≡ Ok bytes) × (length bytes ≡ 20)
if_twenty-count (Err e) bytes h = cc
if_twenty-count (Ok decoded) bytes h =
    elim (cases_Bool (length decoded == 20)) [
      | inl e ↦
          let same : Some decoded ≡ Some bytes = rw e at h in
          let is : decoded ≡ bytes = cc same in
          (ap Ok is, rw is at (eqb-true (length decoded) 20 e))
      | inr e ↦ let bad : None ≡ Some bytes = rw e at h in cc
    ]

twenty-spelled : (text bytes : List ℕ) → AreBytes text → twenty_bytes_of text ≡ Some bytes → (text ≡ base64 bytes) × IsTwentyBytes bytes
unfolding twenty_bytes_of
twenty-spelled text bytes small h =
    elim (cases_Bool (length text == 28)) [
      | inl e ↦
          let parts = if_twenty-count (decode_of standard text) bytes (rw e at h) in
          let fits = IsBytes-from_all text small in (
            decode_of_strict standard text bytes (refl, refl) fits parts.0,
            record { count = parts.1; bytes = decoded-bytes text bytes parts.0 },
          )
      | inr e ↦ let bad : None ≡ Some bytes = rw e at h in cc
    ]

-- ---- hashed names

hashed-parts : (front back salt hash : List ℕ) → length front ≡ 28 → twenty_bytes_of front ≡ Some salt → twenty_bytes_of back ≡ Some hash
    → hashed_of (codes "|1|" ++ (front ++ (codes "|" ++ back))) ≡ Some (record { salt = salt; hash = hash })
unfolding hashed_of
hashed-parts front back salt hash count s h =
    rw (drop_at front (codes "|" ++ back) 28 count, take_at front (codes "|" ++ back) 28 count, s, h) refl

-- the text of a hashed name, from its end
hashed-text : (salt hash : List ℕ) → names_text (Hashed salt hash) ≡ codes "|1|" ++ (base64 salt ++ (codes "|" ++ base64 hash))
hashed-text salt hash =
    append_assoc (codes "|1|" ++ base64 salt) (codes "|") (base64 hash)
    ∙ append_assoc (codes "|1|") (base64 salt) (codes "|" ++ base64 hash)

-- a field without 28 bytes after its version is no hashed name
pub hashed-short : (field rest : List ℕ) → Some rest ≡ after_mark (codes "|1|") field → length rest < 28 → hashed_of field ≡ None
unfolding hashed_of
hashed-short field rest h short = rw (sym h, drop_past rest short) refl
  where
    drop_past : (rest : List ℕ) → length rest < 28 → drop 28 rest ≡ []
    drop_past rest short = drop_all 28 rest (omega (arith, short))

pub hashed-spelled : (field : List ℕ) (name : HashedName) → AreBytes field → hashed_of field ≡ Some name → SpellsNames (Hashed name.salt name.hash) field
unfolding hashed_of
hashed-spelled field name bytes h =
    let one = and_then-some (after_mark (codes "|1|") field) _ name h in
    let rest : List ℕ = one.0 in
    let whole : field ≡ codes "|1|" ++ rest = after_mark-whole (codes "|1|") field rest one.1 in
    let two = and_then-some (after_mark (codes "|") (drop 28 rest)) _ name one.2 in
    let last : List ℕ = two.0 in
    let back : drop 28 rest ≡ codes "|" ++ last = after_mark-whole (codes "|") (drop 28 rest) last two.1 in
    let three = and_then-some (twenty_bytes_of (take 28 rest)) _ name two.2 in
    let four = and_then-some (twenty_bytes_of last) _ name three.2 in
    let is : record { salt = three.0; hash = four.0 } ≡ name = cc four.2 in
    let rest_bytes : AreBytes rest = AreBytes-back (codes "|1|") rest (rw whole at bytes) in
    let cut_bytes : AreBytes (take 28 rest ++ drop 28 rest) = rw (take-append-drop 28 rest) rest_bytes in
    let last_bytes : AreBytes last = AreBytes-back (codes "|") last (rw back at (AreBytes-back (take 28 rest) (drop 28 rest) cut_bytes)) in
    let salt = twenty-spelled (take 28 rest) three.0 (AreBytes-front (take 28 rest) (drop 28 rest) cut_bytes) three.1 in
    let hash = twenty-spelled last four.0 last_bytes four.1 in
    let parts : rest ≡ base64 three.0 ++ (codes "|" ++ base64 four.0) =
    sym (take-append-drop 28 rest) ∙ ap (λ t. t ++ drop 28 rest) salt.0 ∙ ap (λ t. base64 three.0 ++ t) (back ∙ ap (λ t. codes "|" ++ t) hash.0) in
    subst (λ (n : HashedName). SpellsNames (Hashed n.salt n.hash) field) is
    (record {
      are = (salt.1, hash.1);
      text = whole ∙ ap (λ t. codes "|1|" ++ t) parts ∙ sym (hashed-text three.0 four.0);
    })

-- ---- names

by-hash : (o : Option HashedName) (field : List ℕ) (names : Names) → hashed_of field ≡ o → AreBytes field
    → names_by_hash o ≡ Ok names → SpellsNames names field
by-hash None field names e bytes h = cc
by-hash (Some name) field names e bytes h =
    let is : Hashed name.salt name.hash ≡ names = cc h in
    subst (λ n. SpellsNames n field) is (hashed-spelled field name bytes e)

-- a field that begins with no `|` and has no empty item is a list
pub list-spelled : (field : List ℕ) → begins_with_bar field ≡ false → has_empty_item field ≡ false → SpellsNames (Patterns field) field
list-spelled field bar e = record { are = (bar, some-from_test (items_of field) e); text = refl }

by-list : (b : Bool) (field : List ℕ) (names : Names) → begins_with_bar field ≡ false → has_empty_item field ≡ b
    → (if b then Err faults.EmptyItem else Ok (Patterns field)) ≡ Ok names → SpellsNames names field
by-list true field names bar e h = cc
by-list false field names bar e h =
    let is : Patterns field ≡ names = cc h in
    subst (λ n. SpellsNames n field) is (list-spelled field bar e)

by-bar : (b : Bool) (field : List ℕ) (names : Names) → begins_with_bar field ≡ b → AreBytes field
    → (if b then names_by_hash (hashed_of field) else if has_empty_item field then Err faults.EmptyItem else Ok (Patterns field)) ≡ Ok names
    → SpellsNames names field
by-bar true field names bar bytes h = by-hash (hashed_of field) field names refl bytes h
by-bar false field names bar bytes h = by-list (has_empty_item field) field names bar refl h

-- names that a field is read as are those that it spells
pub names-spelled : (field : List ℕ) (names : Names) → AreBytes field → names_of field ≡ Ok names → SpellsNames names field
unfolding names_of
names-spelled field names bytes h = by-bar (begins_with_bar field) field names refl bytes h

list-read : (list : List ℕ) → AreNames (Patterns list) → names_of list ≡ Ok (Patterns list)
unfolding names_of
list-read list are = rw (are.0, test-from_some (items_of list) are.1) refl

hashed-read : (salt hash field : List ℕ) → AreNames (Hashed salt hash) → hashed_of field ≡ Some (record { salt = salt; hash = hash })
    → begins_with_bar field ≡ true → names_of field ≡ Ok (Hashed salt hash)
unfolding names_of
hashed-read salt hash field are h bar = rw (bar, h) refl

text-read : (names : Names) → AreNames names → names_of (names_text names) ≡ Ok names
text-read (Patterns list) are = list-read list are
text-read (Hashed salt hash) are =
    hashed-read salt hash (names_text (Hashed salt hash)) are
    (ap hashed_of (hashed-text salt hash)
    ∙ hashed-parts (base64 salt) (base64 hash) salt hash (length-base64 salt are.0.count) (twenty-read salt are.0) (twenty-read hash are.1))
    refl

-- names that a field spells are those that it is read as
pub names-read : (names : Names) (field : List ℕ) → SpellsNames names field → names_of field ≡ Ok names
names-read names field h = ap names_of h.text ∙ text-read names h.are

pub one-names : (a b : Names) (field : List ℕ) → SpellsNames a field → SpellsNames b field → a ≡ b
one-names a b field h k =
    let both : Ok a ≡ Ok b = sym (names-read a field h) ∙ names-read b field k in
    cc both

-- texts that spell names are the same exactly where the names are
pub same-names : (a b : Names) (text other : List ℕ) → SpellsNames a text → SpellsNames b other → Decides (bytes_eq text other) (a ≡ b)
same-names a b text other h k = (
  λ e. one-names a b text h (subst (λ t. SpellsNames b t) (sym ((bytes_eq-Decides text other).0 e)) k),
  λ e. (bytes_eq-Decides text other).1 (h.text ∙ ap names_text e ∙ sym k.text),
)

none-empty : (names : Names) → names_of [] ≡ Ok names → ⊥
unfolding names_of
none-empty names h = cc

-- a field that spells names is not empty
pub some-field : (names : Names) (field : List ℕ) → SpellsNames names field → field ≢ []
some-field names field h = λ e. none-empty names (ap names_of (sym e) ∙ names-read names field h)

-- ---- what is read

pub found-names : (read : Result Names NamesError) (field : List ℕ) → AreBytes field → read ≡ names_of field → IfOk read (λ names. SpellsNames names field)
found-names (Ok names) field bytes h = names-spelled field names bytes (sym h)
found-names (Err fault) field bytes h = tt

pub only-names : (read : Result Names NamesError) (field : List ℕ) → read ≡ names_of field → (names : Names) → SpellsNames names field → read ≡ Ok names
only-names read field h names spells = h ∙ names-read names field spells

-- ---- faults

hash-fault : (o : Option HashedName) (fault : NamesError) → names_by_hash o ≡ Err fault → fault ≡ faults.HashedName
hash-fault None fault h = cc
hash-fault (Some name) fault h = cc

list-fault : (b : Bool) (field : List ℕ) (fault : NamesError) → has_empty_item field ≡ b
    → (if b then Err faults.EmptyItem else Ok (Patterns field)) ≡ Err fault → (fault ≡ faults.EmptyItem) × Any (λ item. item.text ≡ []) (items_of field)
list-fault true field fault e h = (cc, empty-from_test (items_of field) e)
list-fault false field fault e h = cc

bar-fault : (b : Bool) (field : List ℕ) (fault : NamesError) → begins_with_bar field ≡ b
    → (if b then names_by_hash (hashed_of field) else if has_empty_item field then Err faults.EmptyItem else Ok (Patterns field)) ≡ Err fault
    → names_of field ≡ Err fault → IsNamesFault fault field
bar-fault true field fault bar h e =
    rw (hash-fault (hashed_of field) fault h)
    (bar, λ names spells. let both : Ok names ≡ Err fault = sym (names-read names field spells) ∙ e in cc both)
bar-fault false field fault bar h e =
    let parts = list-fault (has_empty_item field) field fault refl h in
    rw parts.0 (bar, parts.1)

fault-of : (field : List ℕ) (fault : NamesError) → names_of field ≡ Err fault → IsNamesFault fault field
unfolding names_of
fault-of field fault h = bar-fault (begins_with_bar field) field fault refl h h

pub fault-names : (read : Result Names NamesError) (field : List ℕ) → read ≡ names_of field → IfErr read (λ fault. IsNamesFault fault field)
fault-names (Ok names) field h = tt
fault-names (Err fault) field h = fault-of field fault (sym h)
