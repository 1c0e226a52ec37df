-- A file whose names are hidden names what the file names, and nothing else but for a hash that two names share.
use Rattle.ssh_rewriting.proofs.Imports.{◌≡◌, ◌⊎◌, ℕ, ◌≤◌, true, false, nat_le, inl, inr, List, [], ◌∷◌, ◌++◌, length, map, drop, bytes_eq, refl, sym, ap, subst, ◌∙◌, arith, length-append, length-drop, Option, Some, None, zip, flat_map, str_to_ascii_lowercase, and_parts, cases_Bool, bytes_eq-Decides, line_limit, lines_of, NamesHost, hidden, lookup_name, name_hash, AreBytes, KnownEntry, KnownLine, known_line, known_facts, are_plain, hashed_facts, hashed_file, hashed_length, hidden_entry, hidden_names, lower_names, names_hidden, names_of_hidden, state_in_place, AddsNoName, IsNamed, KeepsNames, SharesHash}
use Rattle.ssh_entries.specs.declared.known_line.KnownLine.TheVariants as known
use Rattle.ssh_rewriting.proofs.HiddenLemmas.{hidden-is}
use Rattle.ssh_rewriting.proofs.HashedFactsLemmas.{AreSalts, hashed-says, said}
use Rattle.ssh_rewriting.proofs.MemberLemmas.{Mem, mem-from, mem-to, mem-left, mem-right, mem-cases, mem-drop}
use Rattle.ssh_rewriting.proofs.PlainLemmas.{have-name, name-had, lookup-lower}

plain-of : (entry : KnownEntry) (found : KnownEntry) → hidden_entry (known.Entry entry) ≡ Some found → are_plain found.names ≡ true
plain-of entry found h = (and_parts (are_plain found.names) (nat_le (hashed_length found) line_limit) (hidden-is (known.Entry entry) found h).1).0

-- ---- what is preserved

-- an entry stands as it is, or each of its names is hidden
abbrev Stays : Option KnownEntry → KnownEntry → List KnownLine → Type 0
Stays None entry new = Mem new (known.Entry entry)
Stays (Some found) entry new = (name : List ℕ) → Mem (lower_names found.names) name → (salt : List ℕ) × Mem new (said found (salt, name))

stays-more : (o : Option KnownEntry) (entry : KnownEntry) (a b : List KnownLine) → ((x : KnownLine) → Mem a x → Mem b x) → Stays o entry a → Stays o entry b
stays-more None entry a b more h = more (known.Entry entry) h
stays-more (Some found) entry a b more h = λ name m. let r = h name m in (r.0, more (said found (r.0, name)) r.1)

pairs-have : (entry : KnownEntry) (name : List ℕ) (salts names : List (List ℕ)) → length names ≤ length salts → Mem names name
    → (salt : List ℕ) × Mem (map (said entry) (zip salts names)) (said entry (salt, name))
pairs-have entry name salts [] enough h = absurd h
pairs-have entry name [] (n ∷ names) enough h = absurd (omega (arith, enough))
pairs-have entry name (salt ∷ salts) (n ∷ names) enough (inl e) = (salt, inl (ap (λ m. said entry (salt, m)) e))
pairs-have entry name (salt ∷ salts) (n ∷ names) enough (inr h) =
    let r = pairs-have entry name salts names (omega (arith, enough)) h in
    (r.0, inr r.1)

place-keeps : (o : Option KnownEntry) (entry : KnownEntry) (salts : List (List ℕ)) → length (names_of_hidden o) ≤ length salts
    → Stays o entry (state_in_place o (known.Entry entry) salts)
place-keeps None entry salts enough = inl refl
place-keeps (Some found) entry salts enough = λ name m. pairs-have found name salts (lower_names found.names) enough m

first-keeps : (entry : KnownEntry) (facts : List KnownLine) (salts : List (List ℕ)) → length (flat_map hidden_names (known.Entry entry ∷ facts)) ≤ length salts
    → Stays (hidden_entry (known.Entry entry)) entry (hashed_facts (known.Entry entry ∷ facts) salts)
first-keeps entry facts salts enough =
    let o = hidden_entry (known.Entry entry) in
    let here = state_in_place o (known.Entry entry) salts in
    let rest = hashed_facts facts (drop (length (hidden_names (known.Entry entry))) salts) in
    stays-more o entry here (here ++ rest) (λ x m. mem-left here rest x m)
    (place-keeps o entry salts (omega (arith, enough, length-append (hidden_names (known.Entry entry)) (flat_map hidden_names facts))))

keeps : (facts : List KnownLine) (salts : List (List ℕ)) (entry : KnownEntry) → length (flat_map hidden_names facts) ≤ length salts
    → Mem facts (known.Entry entry) → Stays (hidden_entry (known.Entry entry)) entry (hashed_facts facts salts)
keeps [] salts entry enough h = absurd h
keeps (line ∷ facts) salts entry enough (inl is) =
    subst (λ l. Stays (hidden_entry (known.Entry entry)) entry (hashed_facts (l ∷ facts) salts)) (sym is)
    (first-keeps entry facts salts (subst (λ l. length (flat_map hidden_names (l ∷ facts)) ≤ length salts) is enough))
keeps (line ∷ facts) salts entry enough (inr m) =
    let n = length (hidden_names line) in
    let here = state_in_place (hidden_entry line) line salts in
    let rest = hashed_facts facts (drop n salts) in
    let left : length (flat_map hidden_names facts) ≤ length (drop n salts) =
    omega (arith, enough, length-append (hidden_names line) (flat_map hidden_names facts), length-drop n salts) in
    stays-more (hidden_entry (known.Entry entry)) entry rest (here ++ rest) (λ x k. mem-right here rest x k) (keeps facts (drop n salts) entry left m)

-- ---- what is added

-- an entry that hides a name of another entry
record Made (facts : List KnownLine) (salts : List (List ℕ)) (made : KnownEntry) : Type 0 where
  entry : KnownEntry
  stands : Mem facts (known.Entry entry)
  plain : are_plain entry.names ≡ true
  salt : List ℕ
  is_salt : Mem salts salt
  name : List ℕ
  is_name : Mem (lower_names entry.names) name
  is : record entry { names = hidden salt name } ≡ made

made-more : (a b : List KnownLine) (s t : List (List ℕ)) (made : KnownEntry) → ((x : KnownLine) → Mem a x → Mem b x) → ((x : List ℕ) → Mem s x → Mem t x)
    → Made a s made → Made b t made
made-more a b s t made more others m =
    record {
      entry = m.entry;
      stands = more (known.Entry m.entry) m.stands;
      plain = m.plain;
      salt = m.salt;
      is_salt = others m.salt m.is_salt;
      name = m.name;
      is_name = m.is_name;
      is = m.is;
    }

-- a salt and a name of which a line was made
record Pair (entry : KnownEntry) (salts names : List (List ℕ)) (made : KnownEntry) : Type 0 where
  salt : List ℕ
  is_salt : Mem salts salt
  name : List ℕ
  is_name : Mem names name
  is : record entry { names = hidden salt name } ≡ made

pair-of : (entry : KnownEntry) (salts names : List (List ℕ)) (made : KnownEntry) → Mem (map (said entry) (zip salts names)) (known.Entry made) → Pair entry salts names made
pair-of entry [] names made h = absurd h
pair-of entry (salt ∷ salts) [] made h = absurd h
pair-of entry (salt ∷ salts) (name ∷ names) made (inl e) =
    record { salt = salt; is_salt = inl refl; name = name; is_name = inl refl; is = cc e }
pair-of entry (salt ∷ salts) (name ∷ names) made (inr h) =
    let p = pair-of entry salts names made h in
    record { salt = p.salt; is_salt = inr p.is_salt; name = p.name; is_name = inr p.is_name; is = p.is }

place-adds : (o : Option KnownEntry) (line : KnownLine) (salts : List (List ℕ)) (made : KnownEntry) → hidden_entry line ≡ o
    → Mem (state_in_place o line salts) (known.Entry made) → (line ≡ known.Entry made) ⊎ Made (line ∷ []) salts made
place-adds None line salts made e (inl is) = inl is
place-adds None line salts made e (inr h) = absurd h
place-adds (Some found) line salts made e h =
    let is = hidden-is line found e in
    let p = pair-of found salts (lower_names found.names) made h in
    inr (record {
      entry = found;
      stands = inl is.0;
      plain = (and_parts (are_plain found.names) (nat_le (hashed_length found) line_limit) is.1).0;
      salt = p.salt;
      is_salt = p.is_salt;
      name = p.name;
      is_name = p.is_name;
      is = p.is;
    })

adds : (facts : List KnownLine) (salts : List (List ℕ)) (made : KnownEntry) → Mem (hashed_facts facts salts) (known.Entry made)
    → Mem facts (known.Entry made) ⊎ Made facts salts made
adds [] salts made h = absurd h
adds (line ∷ facts) salts made h =
    let n = length (hidden_names line) in
    elim (mem-cases (state_in_place (hidden_entry line) line salts) (hashed_facts facts (drop n salts)) (known.Entry made) h) [
      | inl here ↦ elim (place-adds (hidden_entry line) line salts made refl here) [
        | inl is ↦ inl (inl is)
        | inr m ↦ inr (made-more (line ∷ []) (line ∷ facts) salts salts made (λ x k. mem-left (line ∷ []) facts x k) (λ x k. k) m)
      ]
      | inr later ↦ elim (adds facts (drop n salts) made later) [
        | inl stands ↦ inl (inr stands)
        | inr m ↦ inr (made-more facts (line ∷ facts) (drop n salts) salts made (λ x k. inr k) (λ x k. mem-drop n salts x k) m)
      ]
    ]

-- ---- files

names-of_facts : (lines : List (List ℕ)) → flat_map (λ line. hidden_names (known_line line)) lines ≡ flat_map hidden_names (map known_line lines)
names-of_facts [] = refl
names-of_facts (line ∷ lines) = ap (λ ns. hidden_names (known_line line) ++ ns) (names-of_facts lines)

-- an entry that names a host is copied as it is, or its name is hashed
still-named : (o : Option KnownEntry) (new name : List ℕ) (entry : KnownEntry) → hidden_entry (known.Entry entry) ≡ o → str_to_ascii_lowercase name ≡ name
    → NamesHost entry.names name → Stays o entry (known_facts new) → IsNamed new name entry.key entry.marker
still-named None new name entry e low names h =
    record { entry = entry; stands = mem-to (known_facts new) (known.Entry entry) h; same_key = refl; same_marker = refl; names = names }
still-named (Some found) new name entry e low names h =
    let is : known.Entry entry ≡ known.Entry found = (hidden-is (known.Entry entry) found e).0 in
    let same : entry ≡ found = cc is in
    let r = h name (have-name found.names name (plain-of entry found e) low (subst (λ (k : KnownEntry). NamesHost k.names name) same names)) in
    record {
      entry = record found { names = hidden r.0 name };
      stands = mem-to (known_facts new) (said found (r.0, name)) r.1;
      same_key = ap (λ (k : KnownEntry). k.key) (sym same);
      same_marker = ap (λ (k : KnownEntry). k.marker) (sym same);
      names = refl;
    }

-- Each host and port that the file names is still named.
pub hashed-keeps : (file : List ℕ) (salts : List (List ℕ)) → AreBytes file → AreSalts salts → length (names_hidden file) ≤ length salts
    → KeepsNames file (hashed_file file salts)
hashed-keeps file salts b s enough host port key marker named =
    let name = lookup_name host port in
    let new = hashed_file file salts in
    let entry = named.entry in
    let some : length (flat_map hidden_names (known_facts file)) ≤ length salts = subst (λ ns. length ns ≤ length salts) (names-of_facts (lines_of file)) enough in
    let stays = subst (λ f. Stays (hidden_entry (known.Entry entry)) entry f) (sym (hashed-says file salts b s))
    (keeps (known_facts file) salts entry some (mem-from (known_facts file) (known.Entry entry) named.stands)) in
    subst (λ k. IsNamed new name k marker) named.same_key
    (subst (λ m. IsNamed new name entry.key m) named.same_marker
    (still-named (hidden_entry (known.Entry entry)) new name entry refl (lookup-lower host port) named.names stays))

-- a made entry that names a host hides its name, or another name with the same hash
made-names : (file name : List ℕ) (salts : List (List ℕ)) (made : KnownEntry) → str_to_ascii_lowercase name ≡ name
    → (m : Made (known_facts file) salts made) → NamesHost made.names name → IsNamed file name made.key made.marker ⊎ SharesHash file salts made name
made-names file name salts made low m names =
    let E = m.entry in
    let stands = mem-to (known_facts file) (known.Entry E) m.stands in
    let key = ap (λ (k : KnownEntry). k.key) m.is in
    let marker = ap (λ (k : KnownEntry). k.marker) m.is in
    let hash : name_hash m.salt m.name ≡ name_hash m.salt name = subst (λ (k : KnownEntry). NamesHost k.names name) (sym m.is) names in
    elim (cases_Bool (bytes_eq m.name name)) [
      | inl e ↦
          let same = (bytes_eq-Decides m.name name).0 e in
          inl (record {
            entry = E;
            stands = stands;
            same_key = key;
            same_marker = marker;
            names = name-had E.names name m.plain low (subst (λ n. Mem (lower_names E.names) n) same m.is_name);
          })
      | inr e ↦
          inr (record {
            entry = E;
            stands = stands;
            same_key = key;
            same_marker = marker;
            salt = m.salt;
            is_salt = mem-to salts m.salt m.is_salt;
            other = m.name;
            is_other = mem-to (lower_names E.names) m.name m.is_name;
            unlike = λ same. let t : false ≡ true = sym e ∙ (bytes_eq-Decides m.name name).1 same in cc t;
            made_of = ap (λ (k : KnownEntry). k.names) (sym m.is);
            same_hash = sym hash;
          })
    ]

-- No other one is named, but for a shared hash.
pub hashed-adds : (file : List ℕ) (salts : List (List ℕ)) → AreBytes file → AreSalts salts → AddsNoName file salts (hashed_file file salts)
hashed-adds file salts b s host port made stands names =
    let name = lookup_name host port in
    let stood = subst (λ f. Mem f (known.Entry made)) (hashed-says file salts b s) (mem-from (known_facts (hashed_file file salts)) (known.Entry made) stands) in
    elim (adds (known_facts file) salts made stood) [
      | inl old ↦ inl (record { entry = made; stands = mem-to (known_facts file) (known.Entry made) old; same_key = refl; same_marker = refl; names = names })
      | inr m ↦ made-names file name salts made (lookup-lower host port) m names
    ]
