-- An option text for which an error is computed has that error.
use Rattle.ssh_options.proofs.Imports.{◌≡◌, ◌≢◌, ℕ, Bool, true, false, if◌then◌else◌, inl, inr, List, [], ◌∷◌, ◌++◌, Option, Some, None, Result, Ok, Err, refl, sym, ap, subst, ◌∙◌, append_assoc, append-nil, AllZip, join_with_byte, cases_Bool, AuthOption, Switch, Setting, Command, LineOption, LineCause, name_in, flag_name, value_name, option_named, same_name, OptionItem, AreAllowed, can_be_quoted, repeats, has_bad_expiry, option_items, after_name, value_of, named_item, option_item, each_item, option_by_name, option_of, and_option, options_from, options_of_items, SpellsValue, SpellsItem, SpellsItemList, SaysOption, IsItemFault, IsOptionsFault}
use Rattle.ssh_options.specs.declared.option.LineOption.TheVariants as names
use Rattle.ssh_options.specs.declared.option_text.LineCause.TheVariants as causes
use Rattle.ssh_options.specs.OptionNames.{option_row}
use Rattle.ssh_options.specs.OptionText.{options_of}
use Rattle.ssh_options.proofs.ValueLemmas.{unescaped-escaped, closed-escaped}
use Rattle.ssh_options.proofs.OptionLemmas.{AllQuotable, AreNameBytes, stops_name, after_name-at, backslash-after_quote, flag-found, items-after_name, items-after_value, lower-equal, name_part-at, value-found}
use Rattle.ssh_options.proofs.ReadOptions.{AreTested, each-by, named-same, read_item, some_items, tested-allowed}

-- ---- items that are spelled are read

stops-value : (value : Option (List ℕ)) (part : List ℕ) → SpellsValue value part → stops_name part ≡ true
stops-value None part v = rw v refl
stops-value (Some value) part v = rw v.0 refl

value-again : (value : Option (List ℕ)) (part : List ℕ) → SpellsValue value part → value_of part ≡ Some value
value-again None part v = rw v refl
value-again (Some value) part v =
    rw (v.0, closed-escaped 34 value (backslash-after_quote value v.1), unescaped-escaped value) refl

named-again : (name part : List ℕ) (value : Option (List ℕ)) → name ≢ [] → AreNameBytes name → SpellsValue value part
    → option_item (name ++ part) ≡ Some (record { name = name; value = value })
named-again [] part value some bytes v = absurd (some refl)
named-again (c ∷ cs) part value some bytes v =
    let stops = stops-value value part v in
    ap (λ n. named_item n (value_of (after_name ((c ∷ cs) ++ part)))) (name_part-at (c ∷ cs) part bytes stops)
    ∙ ap (λ r. named_item (c ∷ cs) (value_of r)) (after_name-at (c ∷ cs) part bytes stops)
    ∙ ap (named_item (c ∷ cs)) (value-again value part v)

item-again : (item : OptionItem) (text : List ℕ) → SpellsItem item text → option_item text ≡ Some item
item-again item text (part, some, bytes, value, whole) = ap option_item whole ∙ named-again item.name part item.value some bytes value

value-cut : (value : Option (List ℕ)) (part cont : List ℕ) (parts : List (List ℕ)) → SpellsValue value part
    → ((last : ℕ) → option_items false last cont ≡ [] ∷ parts) → (last : ℕ) → option_items false last (part ++ cont) ≡ (part ++ []) ∷ parts
value-cut None part cont parts v h last = rw v (h last)
value-cut (Some value) part cont parts v h last = rw v.0 (items-after_value (Setting Command value) cont [] parts v.1 h last)

item-cut : (item : OptionItem) (first cont : List ℕ) (parts : List (List ℕ)) → SpellsItem item first
    → ((last : ℕ) → option_items false last cont ≡ [] ∷ parts) → (last : ℕ) → option_items false last (first ++ cont) ≡ first ∷ parts
item-cut item first cont parts (part, some, bytes, value, whole) h last =
    ap (λ t. option_items false last (t ++ cont)) whole ∙ ap (option_items false last) (append_assoc item.name part cont)
    ∙ items-after_name item.name (part ++ cont) (part ++ []) parts bytes (value-cut item.value part cont parts value h) last
    ∙ ap (λ t. t ∷ parts) (ap (λ p. item.name ++ p) (append-nil part) ∙ sym whole)

-- the items of a text that spells them
items-again : (items : List OptionItem) (text : List ℕ) → SpellsItemList items text → (last : ℕ) → each_item (option_items false last text) ≡ Some items
items-again [] text h last = absurd h
items-again (item ∷ []) text h last =
    let cut : option_items false last text ≡ text ∷ [] =
    ap (option_items false last) (sym (append-nil text)) ∙ item-cut item text [] [] h (λ l. refl) last in
    rw (cut, item-again item text h) refl
items-again (item ∷ next ∷ items) text (first, rest, h, more, whole) last =
    let cut : option_items false last text ≡ first ∷ option_items false 44 rest =
    ap (option_items false last) whole ∙ item-cut item first (44 ∷ rest) (option_items false 44 rest) h (λ l. refl) last in
    rw (cut, item-again item first h, items-again (next ∷ items) rest more 44) refl

-- ---- items that are read are spelled

spelled-more : (item : OptionItem) (rest : List OptionItem) (first joined : List ℕ) → SpellsItem item first → SpellsItemList rest joined
    → SpellsItemList (item ∷ rest) (first ++ 44 ∷ joined)
spelled-more item [] first joined h more = absurd more
spelled-more item (next ∷ rest) first joined h more = (first, joined, h, more, refl)

items-spelled : (text : List ℕ) (texts : List (List ℕ)) (items : List OptionItem) → each_item (text ∷ texts) ≡ Some items
    → SpellsItemList items (join_with_byte 44 (text ∷ texts))
items-spelled text [] items h =
    let cut = each-by text [] items (option_item text) (each_item []) refl refl h in
    let none : cut.rest ≡ [] = let e : Some [] ≡ Some cut.rest = cut.later in cc in
    let P : List OptionItem → Type 0 = λ x. SpellsItemList x text in
    subst P (sym (cut.whole ∙ ap (λ r. cut.item ∷ r) none)) (read_item text cut.item cut.here)
items-spelled text (next ∷ texts) items h =
    let cut = each-by text (next ∷ texts) items (option_item text) (each_item (next ∷ texts)) refl refl h in
    let joined = join_with_byte 44 (next ∷ texts) in
    let P : List OptionItem → Type 0 = λ x. SpellsItemList x (text ++ 44 ∷ joined) in
    subst P (sym cut.whole)
    (spelled-more cut.item cut.rest text joined (read_item text cut.item cut.here) (items-spelled next texts cut.rest cut.later))

text-spelled : (text : List ℕ) (items : List OptionItem) → each_item (option_items false 0 text) ≡ Some items → SpellsItemList items text
text-spelled text items h =
    let some = some_items false 0 text in
    let P : List ℕ → Type 0 = λ t. SpellsItemList items t in
    subst P (ap (join_with_byte 44) (sym some.are) ∙ some.joined)
    (items-spelled some.first some.others items (ap each_item (sym some.are) ∙ h))

-- ---- an item

says-by : (item : OptionItem) (value : Option (List ℕ)) (named : Option LineOption) (option : AuthOption) → item.value ≡ value
    → option_named item.name ≡ named → option_by_name named value ≡ Ok option → SaysOption item option
says-by item value None option v n h = cc
says-by item None (Some (names.Switch flag)) option v n h =
    let e : Switch flag ≡ option = cc in
    subst (λ x. SaysOption item x) e (named-same item.name (names.Switch flag) n, v)
says-by item (Some value) (Some (names.Switch flag)) option v n h = cc
says-by item None (Some (names.Setting name)) option v n h = cc
says-by item (Some value) (Some (names.Setting name)) option v n h =
    let e : Setting name value ≡ option = cc in
    subst (λ x. SaysOption item x) e (named-same item.name (names.Setting name) n, v)

says : (item : OptionItem) (option : AuthOption) → option_of item ≡ Ok option → SaysOption item option
says item option h = says-by item item.value (option_named item.name) option refl refl h

option-found : (option : LineOption) (name : List ℕ) → same_name name (name_in (option_row option)) ≡ true → option_named name ≡ Some option
option-found (names.Switch flag) name h = flag-found flag name (lower-equal name (flag_name flag) h)
option-found (names.Setting value) name h = value-found value name (lower-equal name (value_name value) h)

unlisted : (name : List ℕ) → option_named name ≡ None → (option : LineOption) → same_name name (name_in (option_row option)) ≡ false
unlisted name n option =
    elim (cases_Bool (same_name name (name_in (option_row option)))) [
      | inl e ↦ let f : None ≡ Some option = sym n ∙ option-found option name e in cc
      | inr e ↦ e
    ]

item-fault : (item : OptionItem) (value : Option (List ℕ)) (named : Option LineOption) (before : List AuthOption) (cause : LineCause)
    → item.value ≡ value → option_named item.name ≡ named → option_by_name named value ≡ Err cause → IsItemFault cause before item
item-fault item value None before cause v n h =
    let e : causes.UnknownOption ≡ cause = cc in
    subst (λ x. IsItemFault x before item) e (unlisted item.name n)
item-fault item None (Some (names.Switch flag)) before cause v n h = cc
item-fault item (Some value) (Some (names.Switch flag)) before cause v n h =
    let e : causes.OptionValue ≡ cause = cc in
    subst (λ x. IsItemFault x before item) e
    (inl (flag, named-same item.name (names.Switch flag) n, λ none. let f : Some value ≡ None = sym v ∙ none in cc))
item-fault item None (Some (names.Setting name)) before cause v n h =
    let e : causes.OptionValue ≡ cause = cc in
    subst (λ x. IsItemFault x before item) e (inr (name, named-same item.name (names.Setting name) n, v))
item-fault item (Some value) (Some (names.Setting name)) before cause v n h = cc

-- ---- the first error, from the left

record FirstFault (before : List AuthOption) (items : List OptionItem) (cause : LineCause) : Type 0 where
  pub front : List OptionItem
  pub rest : List OptionItem
  pub item : OptionItem
  pub more : List AuthOption
  pub whole : items ≡ front ++ item ∷ rest
  pub say : AllZip SaysOption front more
  pub tested : AreTested before more
  pub fault : IsItemFault cause (before ++ more) item

kept-fault : (first cause : LineCause) (items : List OptionItem) → options_from (Err first) items ≡ Err cause → first ≡ cause
kept-fault first cause [] h = cc
kept-fault first cause (item ∷ items) h = kept-fault first cause items h

here : (before : List AuthOption) (item : OptionItem) (items : List OptionItem) (cause : LineCause) → IsItemFault cause before item
    → FirstFault before (item ∷ items) cause
here before item items cause f = record {
  front = [];
  rest = items;
  item = item;
  more = [];
  whole = refl;
  say = tt;
  tested = tt;
  fault = subst (λ b. IsItemFault cause b item) (sym (append-nil before)) f;
}

later : (before : List AuthOption) (item : OptionItem) (items : List OptionItem) (cause : LineCause) (option : AuthOption) → SaysOption item option
    → repeats before option ≡ false → has_bad_expiry option ≡ false → FirstFault (before ++ option ∷ []) items cause
    → FirstFault before (item ∷ items) cause
later before item items cause option s r x ih = record {
  front = item ∷ ih.front;
  rest = ih.rest;
  item = ih.item;
  more = option ∷ ih.more;
  whole = ap (λ t. item ∷ t) ih.whole;
  say = (s, ih.say);
  tested = (r, x, ih.tested);
  fault = subst (λ b. IsItemFault cause b ih.item) (append_assoc before (option ∷ []) ih.more) ih.fault;
}

by-option : (before : List AuthOption) (item : OptionItem) (items : List OptionItem) (cause : LineCause) (option : AuthOption) (again bad : Bool)
    → SaysOption item option → repeats before option ≡ again → has_bad_expiry option ≡ bad
    → options_from (if again then Err causes.RepeatedOption else if bad then Err causes.ExpiryText else Ok (before ++ option ∷ [])) items ≡ Err cause
    → ((b : List AuthOption) → options_from (Ok b) items ≡ Err cause → FirstFault b items cause)
    → FirstFault before (item ∷ items) cause
by-option before item items cause option true bad s r x h ih =
    let e = kept-fault causes.RepeatedOption cause items h in
    here before item items cause (subst (λ y. IsItemFault y before item) e (option, s, r))
by-option before item items cause option false true s r x h ih =
    let e = kept-fault causes.ExpiryText cause items h in
    here before item items cause (subst (λ y. IsItemFault y before item) e (option, s, r, x))
by-option before item items cause option false false s r x h ih =
    later before item items cause option s r x (ih (before ++ option ∷ []) h)

by-item : (before : List AuthOption) (item : OptionItem) (items : List OptionItem) (cause : LineCause) (option : Result AuthOption LineCause)
    → option_of item ≡ option → options_from (and_option before option) items ≡ Err cause
    → ((b : List AuthOption) → options_from (Ok b) items ≡ Err cause → FirstFault b items cause)
    → FirstFault before (item ∷ items) cause
by-item before item items cause (Err first) o h ih =
    let e = kept-fault first cause items h in
    here before item items cause
    (item-fault item item.value (option_named item.name) before cause refl refl (o ∙ ap (λ x. Err x) e))
by-item before item items cause (Ok option) o h ih =
    by-option before item items cause option (repeats before option) (has_bad_expiry option) (says item option o) refl refl h ih

first-fault : (items : List OptionItem) (before : List AuthOption) (cause : LineCause) → options_from (Ok before) items ≡ Err cause
    → FirstFault before items cause
first-fault [] before cause h = cc
first-fault (item ∷ items) before cause h =
    by-item before item items cause (option_of item) refl h (λ b k. first-fault items b cause k)

-- ---- the text

quotable-one : (item : OptionItem) (option : AuthOption) (text : List ℕ) → SpellsItem item text → SaysOption item option → can_be_quoted option ≡ true
quotable-one item (Switch flag) text h s = refl
quotable-one item (Setting name value) text (part, some, bytes, v, whole) s =
    let in_quotes : SpellsValue (Some value) part = subst (λ x. SpellsValue x part) s.1 v in in_quotes.1

all-quotable : (front rest : List OptionItem) (item : OptionItem) (options : List AuthOption) (text : List ℕ) → SpellsItemList (front ++ item ∷ rest) text
    → AllZip SaysOption front options → AllQuotable options
all-quotable [] rest item [] text h z = tt
all-quotable [] rest item (option ∷ options) text h z = absurd z
all-quotable (first ∷ front) rest item [] text h z = absurd z
all-quotable (first ∷ []) rest item (option ∷ options) text (here, more, h, m, whole) z =
    (quotable-one first option here h z.0, all-quotable [] rest item options more m z.1)
all-quotable (first ∷ next ∷ front) rest item (option ∷ options) text (here, more, h, m, whole) z =
    (quotable-one first option here h z.0, all-quotable (next ∷ front) rest item options more m z.1)

of-item : (cause : LineCause) (text : List ℕ) (front rest : List OptionItem) (item : OptionItem) (before : List AuthOption)
    → SpellsItemList (front ++ item ∷ rest) text → AllZip SaysOption front before → AreAllowed [] before → IsItemFault cause before item
    → IsOptionsFault cause text
of-item causes.TooLong text front rest item before h z a f = absurd f
of-item causes.OptionSyntax text front rest item before h z a f = absurd f
of-item causes.UnknownOption text front rest item before h z a f = (front, rest, item, before, h, z, a, f)
of-item causes.OptionValue text front rest item before h z a f = (front, rest, item, before, h, z, a, f)
of-item causes.RepeatedOption text front rest item before h z a f = (front, rest, item, before, h, z, a, f)
of-item causes.ExpiryText text front rest item before h z a f = (front, rest, item, before, h, z, a, f)
of-item causes.NoKey text front rest item before h z a f = absurd f
of-item causes.KeyType text front rest item before h z a f = absurd f
of-item causes.RetiredType text front rest item before h z a f = absurd f
of-item causes.Base64 text front rest item before h z a f = absurd f
of-item (causes.KeyBlob e) text front rest item before h z a f = absurd f
of-item causes.TypeMismatch text front rest item before h z a f = absurd f
of-item causes.CertificateOnLine text front rest item before h z a f = absurd f
of-item causes.Marker text front rest item before h z a f = absurd f
of-item causes.HashedName text front rest item before h z a f = absurd f
of-item causes.Names text front rest item before h z a f = absurd f

text-fault : (text : List ℕ) (items : Option (List OptionItem)) (cause : LineCause) → each_item (option_items false 0 text) ≡ items
    → options_of_items items ≡ Err cause → IsOptionsFault cause text
text-fault text None cause i h =
    let e : causes.OptionSyntax ≡ cause = cc in
    subst (λ x. IsOptionsFault x text) e (λ items spelled. let f : Some items ≡ None = sym (items-again items text spelled 0) ∙ i in cc)
text-fault text (Some items) cause i h =
    let first = first-fault items [] cause h in
    let spelled : SpellsItemList (first.front ++ first.item ∷ first.rest) text =
    subst (λ x. SpellsItemList x text) first.whole (text-spelled text items i) in
    let quotable = all-quotable first.front first.rest first.item first.more text spelled first.say in
    of-item cause text first.front first.rest first.item first.more spelled first.say (tested-allowed [] first.more quotable first.tested)
    first.fault

-- An option text for which an error is computed has that error.
pub options_of-fault : (text : List ℕ) (cause : LineCause) → options_of text ≡ Err cause → IsOptionsFault cause text
unfolding options_of
options_of-fault text cause h = text-fault text (each_item (option_items false 0 text)) cause refl h
