-- Options that are read are spelled by their text.
use Rattle.ssh_options.proofs.Imports.{◌≡◌, ◌≢◌, ℕ, Bool, true, false, not, ◌&&◌, ◌==◌, if◌then◌else◌, ◌⊎◌, inl, inr, List, [], ◌∷◌, ◌++◌, length, drop, Option, Some, None, option_map, find, Result, Ok, Err, refl, sym, ap, subst, ◌∙◌, arith, append_assoc, append-nil, AllByRecursion, AllZip, list_all, onto_first, join_with_byte, cases_Bool, and_parts, eqb-true, ne_eqb, bytes_eq-Decides, AuthOption, Switch, Setting, LineCause, is_blank, LineOption, OptionRow, options, name_in, option_named, same_name, SpellsValue, SpellsItem, OptionItem, escaped, unescaped, ends_with_backslash, SpellsOption, SpellsItems, AreAllowed, can_be_quoted, repeats, has_bad_expiry, option_text_of, option_items, is_open_quote, turned, is_name_byte, name_part, after_name, value_of, named_item, option_item, each_item, option_by_name, option_of, and_option, options_from, options_of_items, closed_by_quote, ends_word}
use Rattle.std.proofs.Common.{bytes_eq}
use Rattle.ssh_options.specs.declared.option_text.LineCause.TheVariants as causes
use Rattle.ssh_options.specs.declared.option.LineOption.TheVariants as names
use Rattle.ssh_options.specs.OptionNames.{option_row, row_named}
use Rattle.ssh_options.specs.OptionText.{options_of}
use Rattle.ssh_options.proofs.OptionLemmas.{AreNameBytes}

-- ---- values

-- one step of the search for the closing quote
abbrev Step : ℕ → ℕ → List ℕ → List ℕ → Type 0
Step last c cs raw =
    ((is_open_quote last c ≡ true) × (cs ≡ []) × (raw ≡ []))
    ⊎ ((rest : List ℕ) × (is_open_quote last c ≡ false) × (closed_by_quote c cs ≡ Some rest) × (raw ≡ c ∷ rest))

step-end : (last c : ℕ) (cs raw : List ℕ) → is_open_quote last c ≡ true → (if length cs == 0 then Some [] else None) ≡ Some raw → Step last c cs raw
step-end last c [] raw o h = let e : [] ≡ raw = cc in inl (o, refl, sym e)
step-end last c (d ∷ cs) raw o h =
    let some : (length (d ∷ cs) == 0) ≡ false = ne_eqb (length (d ∷ cs)) 0 (λ (e : length (d ∷ cs) ≡ 0). omega arith) in
    let f : None ≡ Some raw = rw some at h in cc

step-on : (last c : ℕ) (cs raw : List ℕ) (found : Option (List ℕ)) → is_open_quote last c ≡ false → closed_by_quote c cs ≡ found
    → option_map (λ text. c ∷ text) found ≡ Some raw → Step last c cs raw
step-on last c cs raw None o f h = cc
step-on last c cs raw (Some rest) o f h = let e : c ∷ rest ≡ raw = cc in inr (rest, o, f, sym e)

step-by : (last c : ℕ) (cs raw : List ℕ) (opens : Bool) → is_open_quote last c ≡ opens
    → (if opens then (if length cs == 0 then Some [] else None) else option_map (λ text. c ∷ text) (closed_by_quote c cs)) ≡ Some raw
    → Step last c cs raw
step-by last c cs raw true o h = step-end last c cs raw o h
step-by last c cs raw false o h = step-on last c cs raw (closed_by_quote c cs) o refl h

step : (last c : ℕ) (cs raw : List ℕ) → closed_by_quote last (c ∷ cs) ≡ Some raw → Step last c cs raw
step last c cs raw h = step-by last c cs raw (is_open_quote last c) refl h

-- the text up to the closing quote, and the quote
closed-whole : (last : ℕ) (text raw : List ℕ) → closed_by_quote last text ≡ Some raw → text ≡ raw ++ 34 ∷ []
closed-whole last [] raw h = cc
closed-whole last (c ∷ cs) raw h =
    elim (step last c cs raw h) [
      | inl s ↦ rw (s.1, s.2, eqb-true c 34 ((and_parts (c == 34) (not (last == 92)) s.0).0)) refl
      | inr s ↦ rw s.3 (ap (λ t. c ∷ t) (closed-whole c cs s.0 s.2))
    ]

no_open : (last : ℕ) → is_open_quote last 34 ≡ false → (last == 92) ≡ true
no_open last h = elim (cases_Bool (last == 92)) [ inl e ↦ e | inr e ↦ let f : true ≡ false = rw e at h in cc ]

unescaped-plain : (c : ℕ) (rest : List ℕ) → (c == 92) ≡ false → unescaped (c ∷ rest) ≡ c ∷ unescaped rest
unescaped-plain c rest h = rw h refl

escaped-plain : (c : ℕ) (rest : List ℕ) → (c == 34) ≡ false → escaped (c ∷ rest) ≡ c ∷ escaped rest
escaped-plain c rest h = rw h refl

backslash_quote : (rest : List ℕ) → escaped (unescaped rest) ≡ rest → escaped (unescaped (92 ∷ 34 ∷ rest)) ≡ 92 ∷ 34 ∷ rest
backslash_quote rest h = ap (λ s. 92 ∷ 34 ∷ s) h

backslash_other : (c : ℕ) (rest : List ℕ) → (c == 34) ≡ false → escaped (unescaped (c ∷ rest)) ≡ c ∷ rest
    → escaped (unescaped (92 ∷ c ∷ rest)) ≡ 92 ∷ c ∷ rest
backslash_other c rest q h =
    let e : unescaped (92 ∷ c ∷ rest) ≡ 92 ∷ unescaped (c ∷ rest) = ap (λ b. if b then unescaped (c ∷ rest) else 92 ∷ unescaped (c ∷ rest)) q in
    ap escaped e ∙ ap (λ s. 92 ∷ s) h

-- the bytes between the quotes are the escaped form of the value
abbrev Both : ℕ → List ℕ → Type 0
Both last raw =
    ((last == 34) ≡ false → escaped (unescaped (last ∷ raw)) ≡ last ∷ raw)
    × ((last == 92) ≡ false → escaped (unescaped raw) ≡ raw)

after_plain : (last : ℕ) (raw : List ℕ) → (last == 34) ≡ false → (last == 92) ≡ false → escaped (unescaped raw) ≡ raw
    → escaped (unescaped (last ∷ raw)) ≡ last ∷ raw
after_plain last raw q b h =
    ap escaped (unescaped-plain last raw b) ∙ escaped-plain last (unescaped raw) q ∙ ap (λ s. last ∷ s) h

no_quote : (last c : ℕ) → is_open_quote last c ≡ false → (last == 92) ≡ false → (c == 34) ≡ false
no_quote last c o b =
    elim (cases_Bool (c == 34)) [ inl e ↦ let f : true ≡ false = rw (e, b) at o in cc | inr e ↦ e ]

second-of : (last c : ℕ) (cs raw : List ℕ) → Step last c cs raw → ((rest : List ℕ) → closed_by_quote c cs ≡ Some rest → Both c rest)
    → (last == 92) ≡ false → escaped (unescaped raw) ≡ raw
second-of last c cs raw (inl (o, none, e)) ih b = rw e refl
second-of last c cs raw (inr (rest, o, found, e)) ih b = rw e ((ih rest found).0 (no_quote last c o b))

first-of_backslash : (last c : ℕ) (cs raw : List ℕ) → Step last c cs raw → ((rest : List ℕ) → closed_by_quote c cs ≡ Some rest → Both c rest)
    → (last == 92) ≡ true → escaped (unescaped (last ∷ raw)) ≡ last ∷ raw
first-of_backslash last c cs raw (inl (o, none, e)) ih b =
    let f : not (last == 92) ≡ true = (and_parts (c == 34) (not (last == 92)) o).1 in
    let g : false ≡ true = rw b at f in cc
first-of_backslash last c cs raw (inr (rest, o, found, e)) ih b =
    elim (cases_Bool (c == 34)) [
      | inl q ↦
          let quote : c ≡ 34 = eqb-true c 34 q in
          let other : (c == 92) ≡ false = rw quote refl in
          let P : ℕ → Type 0 = λ x. escaped (unescaped (x ∷ raw)) ≡ x ∷ raw in
          let Q : List ℕ → Type 0 = λ x. escaped (unescaped (92 ∷ x)) ≡ 92 ∷ x in
          subst P (sym (eqb-true last 92 b)) (subst Q (sym (e ∙ ap (λ x. x ∷ rest) quote)) (backslash_quote rest ((ih rest found).1 other)))
      | inr q ↦
          let P : ℕ → Type 0 = λ x. escaped (unescaped (x ∷ raw)) ≡ x ∷ raw in
          let Q : List ℕ → Type 0 = λ x. escaped (unescaped (92 ∷ x)) ≡ 92 ∷ x in
          subst P (sym (eqb-true last 92 b)) (subst Q (sym e) (backslash_other c rest q ((ih rest found).0 q)))
    ]

both : (last : ℕ) (text raw : List ℕ) → closed_by_quote last text ≡ Some raw → Both last raw
both last [] raw h = cc
both last (c ∷ cs) raw h =
    let s = step last c cs raw h in
    let ih = both c cs in (
      λ q. elim (cases_Bool (last == 92)) [
        | inl b ↦ first-of_backslash last c cs raw s ih b
        | inr b ↦ after_plain last raw q b (second-of last c cs raw s ih b)
      ],
      second-of last c cs raw s ih,
    )

closed-no_backslash : (last : ℕ) (text raw : List ℕ) → closed_by_quote last text ≡ Some raw → ends_with_backslash (last ∷ raw) ≡ false
closed-no_backslash last [] raw h = cc
closed-no_backslash last (c ∷ cs) raw h =
    elim (step last c cs raw h) [
      | inl s ↦ rw s.2 (elim (cases_Bool (last == 92)) [
        | inl b ↦ let f : not (last == 92) ≡ true = (and_parts (c == 34) (not (last == 92)) s.0).1 in let g : false ≡ true = rw b at f in cc
        | inr b ↦ b
      ])
      | inr s ↦ rw s.3 (closed-no_backslash c cs s.0 s.2)
    ]

escaped-backslash : (last : ℕ) (v : List ℕ) → ends_with_backslash (last ∷ escaped v) ≡ ends_with_backslash (last ∷ v)
escaped-backslash last [] = refl
escaped-backslash last (c ∷ cs) =
    elim (cases_Bool (c == 34)) [
      | inl q ↦ rw q (escaped-backslash 34 cs ∙ ap (λ x. ends_with_backslash (x ∷ cs)) (sym (eqb-true c 34 q)))
      | inr q ↦ rw q (escaped-backslash c cs)
    ]

after_quote : (v : List ℕ) → ends_with_backslash (34 ∷ v) ≡ false → not (ends_with_backslash v) ≡ true
after_quote [] h = refl
after_quote (c ∷ cs) h = rw h refl

-- a value and its text
pub record ReadValue (text value : List ℕ) : Type 0 where
  pub whole : text ≡ escaped value ++ 34 ∷ []
  pub quotable : not (ends_with_backslash value) ≡ true

pub read_value : (text raw : List ℕ) → closed_by_quote 34 text ≡ Some raw → ReadValue text (unescaped raw)
read_value text raw h =
    let e : escaped (unescaped raw) ≡ raw = (both 34 text raw h).1 refl in
    record {
      whole = closed-whole 34 text raw h ∙ ap (λ s. s ++ 34 ∷ []) (sym e);
      quotable = after_quote (unescaped raw)
          (sym (escaped-backslash 34 (unescaped raw)) ∙ ap (λ s. ends_with_backslash (34 ∷ s)) e ∙ closed-no_backslash 34 text raw h);
    }

-- ---- items

name-cut : (text : List ℕ) → text ≡ name_part text ++ after_name text
name-cut [] = refl
name-cut (c ∷ cs) = elim (cases_Bool (is_name_byte c)) [ inl e ↦ rw e (ap (λ s. c ∷ s) (name-cut cs)) | inr e ↦ rw e refl ]

part-of_value : (c d : ℕ) (cs : List ℕ) (value : Option (List ℕ)) (found : Option (List ℕ)) → closed_by_quote 34 cs ≡ found
    → (c == 61) ≡ true → (d == 34) ≡ true → option_map (λ text. Some (unescaped text)) found ≡ Some value → SpellsValue value (c ∷ d ∷ cs)
part-of_value c d cs value None f e q h = cc
part-of_value c d cs value (Some raw) f e q h =
    let read = read_value cs raw f in
    let v : Some (unescaped raw) ≡ value = cc in
    let P : Option (List ℕ) → Type 0 = λ x. SpellsValue x (c ∷ d ∷ cs) in
    subst P v (rw (eqb-true c 61 e, eqb-true d 34 q) (ap (λ s. 61 ∷ 34 ∷ s) read.whole), read.quotable)

part-by : (c d : ℕ) (cs : List ℕ) (value : Option (List ℕ)) (opens : Bool) → ((c == 61) && (d == 34)) ≡ opens
    → (if opens then option_map (λ text. Some (unescaped text)) (closed_by_quote 34 cs) else None) ≡ Some value → SpellsValue value (c ∷ d ∷ cs)
part-by c d cs value true o h =
    let parts = and_parts (c == 61) (d == 34) o in part-of_value c d cs value (closed_by_quote 34 cs) refl parts.0 parts.1 h
part-by c d cs value false o h = cc

read_part : (text : List ℕ) (value : Option (List ℕ)) → value_of text ≡ Some value → SpellsValue value text
read_part [] value h = let e : None ≡ value = cc in let P : Option (List ℕ) → Type 0 = λ x. SpellsValue x [] in subst P e refl
read_part (c ∷ []) value h = cc
read_part (c ∷ d ∷ cs) value h = part-by c d cs value ((c == 61) && (d == 34)) refl h

name-by : (c : ℕ) (cs : List ℕ) (is : Bool) → is_name_byte c ≡ is → AreNameBytes cs → AreNameBytes (if is then c ∷ cs else [])
name-by c cs true e h = (e, h)
name-by c cs false e h = tt

name-bytes : (text : List ℕ) → AreNameBytes (name_part text)
name-bytes [] = tt
name-bytes (c ∷ cs) = name-by c (name_part cs) (is_name_byte c) refl (name-bytes cs)

item-named : (text name part : List ℕ) (value : Option (Option (List ℕ))) (item : OptionItem) → text ≡ name ++ part → AreNameBytes name
    → value_of part ≡ value → named_item name value ≡ Some item → SpellsItem item text
item-named text [] part value item w b v h = cc
item-named text (c ∷ cs) part None item w b v h = cc
item-named text (c ∷ cs) part (Some value) item w b v h =
    let e : record { name = c ∷ cs; value = value } ≡ item = cc in
    let P : OptionItem → Type 0 = λ x. SpellsItem x text in
    let some : (c ∷ cs) ≢ [] = λ f. cc in
    subst P e (part, some, b, read_part part value v, w)

pub read_item : (text : List ℕ) (item : OptionItem) → option_item text ≡ Some item → SpellsItem item text
read_item text item h =
    item-named text (name_part text) (after_name text) (value_of (after_name text)) item (name-cut text) (name-bytes text) refl h

-- ---- options by name

-- the row's name is the name of its option
abbrev is_key_or_signer : OptionRow → Bool
is_key_or_signer row = bytes_eq (name_in (option_row row.option)) row.name

each_own : list_all is_key_or_signer options ≡ true
unfolding option_row
each_own = refl

-- the option of a row that is found has the name
found-own : (name : List ℕ) (rows : List OptionRow) (row : OptionRow) → list_all is_key_or_signer rows ≡ true
    → find (λ r. same_name name r.name) rows ≡ Some row → same_name name (name_in (option_row row.option)) ≡ true
found-own name [] row own h = cc
found-own name (r ∷ rows) row own h =
    let parts = and_parts (is_key_or_signer r) (list_all is_key_or_signer rows) own in
    elim (cases_Bool (same_name name r.name)) [
      | inl e ↦
          let g : Some r ≡ Some row = rw e at h in let k : r ≡ row = cc in
          let P : OptionRow → Type 0 = λ x. same_name name (name_in (option_row x.option)) ≡ true in
          subst P k (rw ((bytes_eq-Decides (name_in (option_row r.option)) r.name).0 parts.0) e)
      | inr e ↦ let g : find (λ r. same_name name r.name) rows ≡ Some row = rw e at h in found-own name rows row parts.1 g
    ]

named-by : (name : List ℕ) (option : LineOption) (found : Option OptionRow) → row_named name ≡ found
    → option_map (λ row. row.option) found ≡ Some option → same_name name (name_in (option_row option)) ≡ true
unfolding row_named
named-by name option None r h = cc
named-by name option (Some row) r h =
    let e : row.option ≡ option = cc in
    let P : LineOption → Type 0 = λ x. same_name name (name_in (option_row x)) ≡ true in
    subst P e (found-own name options row each_own r)

pub named-same : (name : List ℕ) (option : LineOption) → option_named name ≡ Some option → same_name name (name_in (option_row option)) ≡ true
named-same name option h = named-by name option (row_named name) refl h

pub record ReadOption (text : List ℕ) (option : AuthOption) : Type 0 where
  pub spelled : SpellsOption option text
  pub quotable : can_be_quoted option ≡ true

option-by : (text name part : List ℕ) (value : Option (List ℕ)) (option : AuthOption) (named : Option LineOption)
    → text ≡ name ++ part → SpellsValue value part → option_named name ≡ named
    → option_by_name named value ≡ Ok option → ReadOption text option
option-by text name part value option None w r n h = cc
option-by text name part None option (Some (names.Switch flag)) w r n h =
    let e : Switch flag ≡ option = cc in let P : AuthOption → Type 0 = λ x. ReadOption text x in
    subst P e (record { spelled = (name, named-same name (names.Switch flag) n, w ∙ ap (λ p. name ++ p) r); quotable = refl })
option-by text name part (Some value) option (Some (names.Switch flag)) w r n h = cc
option-by text name part None option (Some (names.Setting setting)) w r n h = cc
option-by text name part (Some value) option (Some (names.Setting setting)) w r n h =
    let e : Setting setting value ≡ option = cc in let P : AuthOption → Type 0 = λ x. ReadOption text x in
    subst P e (record { spelled = (name, named-same name (names.Setting setting) n, w ∙ ap (λ p. name ++ p) r.0); quotable = r.1 })

read_option : (text : List ℕ) (item : OptionItem) (option : AuthOption) → option_item text ≡ Some item → option_of item ≡ Ok option → ReadOption text option
read_option text item option i o = by (read_item text item i)
  where
    by : SpellsItem item text → ReadOption text option
    by (part, some, bytes, value, whole) = option-by text item.name part item.value option (option_named item.name) whole value refl o

-- ---- the items of a text

pub record SomeItems (inside : Bool) (last : ℕ) (text : List ℕ) : Type 0 where
  pub first : List ℕ
  pub others : List (List ℕ)
  pub are : option_items inside last text ≡ first ∷ others
  pub joined : join_with_byte 44 (option_items inside last text) ≡ text

join-onto : (c : ℕ) (first : List ℕ) (others : List (List ℕ)) → join_with_byte 44 (onto_first c (first ∷ others)) ≡ c ∷ join_with_byte 44 (first ∷ others)
join-onto c first [] = refl
join-onto c first (next ∷ others) = refl

items-by : (inside : Bool) (last c : ℕ) (cs : List ℕ) (stops : Bool) → (not inside && (c == 44)) ≡ stops
    → SomeItems false c cs → SomeItems (turned (is_open_quote last c) inside) c cs → SomeItems inside last (c ∷ cs)
items-by inside last c cs true s here more =
    let comma : c ≡ 44 = eqb-true c 44 ((and_parts (not inside) (c == 44) s).1) in
    let e : option_items inside last (c ∷ cs) ≡ [] ∷ option_items false c cs = rw s refl in
    record {
      first = [];
      others = option_items false c cs;
      are = e;
      joined = ap (join_with_byte 44) (e ∙ ap (λ t. [] ∷ t) here.are) ∙ ap (λ t. 44 ∷ t) (ap (join_with_byte 44) (sym here.are) ∙ here.joined)
          ∙ ap (λ x. x ∷ cs) (sym comma);
    }
items-by inside last c cs false s here more =
    let e : option_items inside last (c ∷ cs) ≡ onto_first c (option_items (turned (is_open_quote last c) inside) c cs) = rw s refl in
    record {
      first = c ∷ more.first;
      others = more.others;
      are = e ∙ ap (onto_first c) more.are;
      joined = ap (join_with_byte 44) (e ∙ ap (onto_first c) more.are) ∙ join-onto c more.first more.others
          ∙ ap (λ t. c ∷ t) (ap (join_with_byte 44) (sym more.are) ∙ more.joined);
    }

pub some_items : (inside : Bool) (last : ℕ) (text : List ℕ) → SomeItems inside last text
some_items inside last [] = record { first = []; others = []; are = refl; joined = refl }
some_items inside last (c ∷ cs) =
    items-by inside last c cs (not inside && (c == 44)) refl (some_items false c cs) (some_items (turned (is_open_quote last c) inside) c cs)

pub record EachCut (text : List ℕ) (texts : List (List ℕ)) (items : List OptionItem) : Type 0 where
  pub item : OptionItem
  pub rest : List OptionItem
  pub here : option_item text ≡ Some item
  pub later : each_item texts ≡ Some rest
  pub whole : items ≡ item ∷ rest

pub each-by : (text : List ℕ) (texts : List (List ℕ)) (items : List OptionItem) (item : Option OptionItem) (rest : Option (List OptionItem))
    → option_item text ≡ item → each_item texts ≡ rest → each_item (text ∷ texts) ≡ Some items → EachCut text texts items
each-by text texts items None rest i r h = let f : None ≡ Some items = rw i at h in cc
each-by text texts items (Some item) None i r h = let f : None ≡ Some items = rw (i, r) at h in cc
each-by text texts items (Some item) (Some rest) i r h =
    let f : Some (item ∷ rest) ≡ Some items = rw (i, r) at h in
    let e : item ∷ rest ≡ items = cc in
    record { item = item; rest = rest; here = i; later = r; whole = sym e }

abbrev Says : OptionItem → AuthOption → Type 0
Says item option = option_of item ≡ Ok option

abbrev AllQuotable : List AuthOption → Type 0
AllQuotable options = AllByRecursion (λ option. can_be_quoted option ≡ true) options

last-item : (text : List ℕ) (item : OptionItem) (rest : List OptionItem) (options : List AuthOption) → option_item text ≡ Some item
    → rest ≡ [] → AllZip Says (item ∷ rest) options → SpellsItems options text × AllQuotable options
last-item text item rest [] i r z = absurd z
last-item text item rest (option ∷ []) i r z =
    let read = read_option text item option i z.0 in (read.spelled, (read.quotable, tt))
last-item text item rest (option ∷ next ∷ options) i r z =
    let P : List OptionItem → Type 0 = λ x. AllZip Says x (next ∷ options) in absurd (subst P r z.1)

next-item : (text joined : List ℕ) (item : OptionItem) (rest : List OptionItem) (options : List AuthOption) → option_item text ≡ Some item
    → AllZip Says (item ∷ rest) options
    → ((more : List AuthOption) → AllZip Says rest more → SpellsItems more joined × AllQuotable more)
    → SpellsItems options (text ++ 44 ∷ joined) × AllQuotable options
next-item text joined item rest [] i z ih = absurd z
next-item text joined item rest (option ∷ []) i z ih = absurd ((ih [] z.1).0)
next-item text joined item rest (option ∷ next ∷ options) i z ih =
    let read = read_option text item option i z.0 in
    let more = ih (next ∷ options) z.1 in
    ((text, joined, read.spelled, more.0, refl), (read.quotable, more.1))

-- the options of items are spelled by the items' texts with commas between them
spells-items : (text : List ℕ) (texts : List (List ℕ)) (items : List OptionItem) (options : List AuthOption)
    → each_item (text ∷ texts) ≡ Some items → AllZip Says items options
    → SpellsItems options (join_with_byte 44 (text ∷ texts)) × AllQuotable options
spells-items text [] items options h z =
    let cut = each-by text [] items (option_item text) (each_item []) refl refl h in
    let P : List OptionItem → Type 0 = λ x. AllZip Says x options in
    let none : cut.rest ≡ [] = let e : Some [] ≡ Some cut.rest = cut.later in cc in
    last-item text cut.item cut.rest options cut.here none (subst P cut.whole z)
spells-items text (next ∷ texts) items options h z =
    let cut = each-by text (next ∷ texts) items (option_item text) (each_item (next ∷ texts)) refl refl h in
    let P : List OptionItem → Type 0 = λ x. AllZip Says x options in
    next-item text (join_with_byte 44 (next ∷ texts)) cut.item cut.rest options cut.here (subst P cut.whole z)
    (λ more y. spells-items next texts cut.rest more cut.later y)

-- ---- the tests of options, from the left

abbrev pub AreTested : List AuthOption → List AuthOption → Type 0
AreTested before [] = Unit {0}
AreTested before (option ∷ options) =
    (repeats before option ≡ false) × (has_bad_expiry option ≡ false) × AreTested (before ++ option ∷ []) options

pub record Taken (before : List AuthOption) (items : List OptionItem) (options : List AuthOption) : Type 0 where
  pub new : List AuthOption
  pub whole : options ≡ before ++ new
  pub says : AllZip Says items new
  pub tested : AreTested before new

from_fault : (cause : LineCause) (items : List OptionItem) (options : List AuthOption) → options_from (Err cause) items ≡ Ok options → ⊥
from_fault cause [] options h = cc
from_fault cause (item ∷ items) options h = from_fault cause items options h

taken-more : (before : List AuthOption) (item : OptionItem) (items : List OptionItem) (options : List AuthOption) (option : AuthOption) (again bad : Bool)
    → option_of item ≡ Ok option → repeats before option ≡ again → has_bad_expiry option ≡ bad
    → options_from (if again then Err causes.RepeatedOption else if bad then Err causes.ExpiryText else Ok (before ++ option ∷ [])) items ≡ Ok options
    → ((b : List AuthOption) → options_from (Ok b) items ≡ Ok options → Taken b items options)
    → Taken before (item ∷ items) options
taken-more before item items options option true bad o r x h ih = absurd (from_fault causes.RepeatedOption items options h)
taken-more before item items options option false true o r x h ih = absurd (from_fault causes.ExpiryText items options h)
taken-more before item items options option false false o r x h ih =
    let more = ih (before ++ option ∷ []) h in
    record {
      new = option ∷ more.new;
      whole = more.whole ∙ append_assoc before (option ∷ []) more.new;
      says = (o, more.says);
      tested = (r, x, more.tested);
    }

taken-by : (before : List AuthOption) (item : OptionItem) (items : List OptionItem) (options : List AuthOption) (option : Result AuthOption LineCause)
    → option_of item ≡ option → options_from (and_option before option) items ≡ Ok options
    → ((b : List AuthOption) → options_from (Ok b) items ≡ Ok options → Taken b items options)
    → Taken before (item ∷ items) options
taken-by before item items options (Err cause) o h ih = absurd (from_fault cause items options h)
taken-by before item items options (Ok option) o h ih =
    taken-more before item items options option (repeats before option) (has_bad_expiry option) o refl refl h ih

taken : (items : List OptionItem) (before options : List AuthOption) → options_from (Ok before) items ≡ Ok options → Taken before items options
taken [] before options h =
    let e : before ≡ options = cc in record { new = []; whole = sym e ∙ sym (append-nil before); says = tt; tested = tt }
taken (item ∷ items) before options h =
    taken-by before item items options (option_of item) refl h (λ b k. taken items b options k)

pub tested-allowed : (before options : List AuthOption) → AllQuotable options → AreTested before options → AreAllowed before options
tested-allowed before [] q t = tt
tested-allowed before (option ∷ options) q t = (q.0, t.0, t.1, tested-allowed (before ++ option ∷ []) options q.1 t.2)

pub record ReadOptions (text : List ℕ) (options : List AuthOption) : Type 0 where
  pub spelled : SpellsItems options text
  pub allowed : AreAllowed [] options

options-by : (text : List ℕ) (options : List AuthOption) (items : Option (List OptionItem)) → each_item (option_items false 0 text) ≡ items
    → options_of_items items ≡ Ok options → ReadOptions text options
options-by text options None i h = cc
options-by text options (Some items) i h =
    let some = some_items false 0 text in
    let all = taken items [] options h in
    let new : options ≡ all.new = all.whole in
    let each : each_item (some.first ∷ some.others) ≡ Some items = ap each_item (sym some.are) ∙ i in
    let spelled = spells-items some.first some.others items all.new each all.says in
    let P : List AuthOption → Type 0 = λ x. ReadOptions text x in
    let Q : List ℕ → Type 0 = λ t. SpellsItems all.new t in
    subst P (sym new) (record {
      spelled = subst Q (ap (join_with_byte 44) (sym some.are) ∙ some.joined) spelled.0;
      allowed = tested-allowed [] all.new spelled.1 all.tested;
    })

-- An option text that is read spells its options.
pub read_options : (text : List ℕ) (options : List AuthOption) → options_of text ≡ Ok options → ReadOptions text options
unfolding options_of
read_options text options h = options-by text options (each_item (option_items false 0 text)) refl h

-- ---- the end of the option text

pub record TextCut (inside : Bool) (last : ℕ) (text : List ℕ) : Type 0 where
  pub whole : text ≡ option_text_of inside last text ++ drop (length (option_text_of inside last text)) text
  pub ends : ends_word (drop (length (option_text_of inside last text)) text) ≡ true

text-by : (inside : Bool) (last c : ℕ) (cs : List ℕ) (stops : Bool) → (not inside && is_blank c) ≡ stops
    → TextCut (turned (is_open_quote last c) inside) c cs → TextCut inside last (c ∷ cs)
text-by inside last c cs true s more = record { whole = rw s refl; ends = rw s ((and_parts (not inside) (is_blank c) s).1) }
text-by inside last c cs false s more = record { whole = rw s (ap (λ t. c ∷ t) more.whole); ends = rw s more.ends }

pub text_cut : (inside : Bool) (last : ℕ) (text : List ℕ) → TextCut inside last text
text_cut inside last [] = record { whole = refl; ends = refl }
text_cut inside last (c ∷ cs) = text-by inside last c cs (not inside && is_blank c) refl (text_cut (turned (is_open_quote last c) inside) c cs)
