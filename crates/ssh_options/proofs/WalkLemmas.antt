-- The walk over the first item of a text ends where the item is cut off.
use Rattle.ssh_options.proofs.Imports.{◌≡◌, ℕ, Bool, true, false, not, ◌&&◌, ◌==◌, if◌then◌else◌, inl, inr, List, [], ◌∷◌, Option, Some, None, option_map, length, refl, sym, ap, subst, ◌∙◌, arith, option_and_then, onto_first, cases_Bool, eqb-true, ne_eqb, OptionItem, option_items, is_open_quote, turned, is_name_byte, name_part, after_name, unescaped, closed_by_quote, value_of, named_item, first_item, split_at_quote, split_value}
use Rattle.ssh_options.proofs.OptionLemmas.{plain-from_name_byte}

-- a comma before a text is as nothing before it
comma-before : (text : List ℕ) → option_items false 44 text ≡ option_items false 0 text
comma-before [] = refl
comma-before (c ∷ cs) = refl

-- ---- the walk

-- what follows an item of a text that ends with its options: nothing, or a comma and the text of more items
abbrev pub item_end : List ℕ → Option (Option (List ℕ))
item_end [] = Some None
item_end (c ∷ cs) = if c == 44 then Some (Some cs) else None

abbrev pub items_after : Option (List ℕ) → List (List ℕ)
items_after None = []
items_after (Some text) = option_items false 0 text

-- a part, and the texts of the items after it, if it ends the item
abbrev pub before_items : {X : Type 0} → X × List ℕ → Option (X × List (List ℕ))
before_items parts = option_map (λ rest. (parts.0, items_after rest)) (item_end parts.1)

abbrev pub walked_value : List ℕ → Option (Option (List ℕ) × List (List ℕ))
walked_value text = option_and_then before_items (split_value text)

abbrev pub with_name : List ℕ → Option (Option (List ℕ) × List (List ℕ)) → Option (OptionItem × List (List ℕ))
with_name [] value = None
with_name (c ∷ cs) value = option_map (λ v. (record { name = c ∷ cs; value = v.0 }, v.1)) value

abbrev pub walked : List ℕ → Option (OptionItem × List (List ℕ))
walked text = with_name (name_part text) (walked_value (after_name text))

-- ---- inside the quotes

abbrev Quoted : Type 0
Quoted = Option (List ℕ × List (List ℕ))

-- what the quote closes in the first of the items
abbrev first_closed : ℕ → List (List ℕ) → Quoted
first_closed last [] = None
first_closed last (text ∷ texts) = option_map (λ v. (v, texts)) (closed_by_quote last text)

abbrev onto_value : ℕ → List ℕ × List (List ℕ) → List ℕ × List (List ℕ)
onto_value c parts = (c ∷ parts.0, parts.1)

onto-closed : (last c : ℕ) (items : List (List ℕ)) → is_open_quote last c ≡ false
    → first_closed last (onto_first c items) ≡ option_map (onto_value c) (first_closed c items)
onto-closed last c [] o = rw o refl
onto-closed last c (text ∷ texts) o = rw o (by-value (closed_by_quote c text))
  where
    by-value : (value : Option (List ℕ)) → option_map (λ v. (v, texts)) (option_map (λ t. c ∷ t) value) ≡ option_map (onto_value c) (option_map (λ v. (v, texts)) value)
    by-value None = refl
    by-value (Some value) = refl

onto-walked : (c : ℕ) (parts : Option (List ℕ × List ℕ))
    → option_and_then before_items (option_map (λ p. (c ∷ p.0, p.1)) parts) ≡ option_map (onto_value c) (option_and_then before_items parts)
onto-walked c None = refl
onto-walked c (Some parts) = by-rest (item_end parts.1)
  where
    by-rest : (rest : Option (Option (List ℕ)))
        → option_map (λ r. (c ∷ parts.0, items_after r)) rest ≡ option_map (onto_value c) (option_map (λ r. (parts.0, items_after r)) rest)
    by-rest None = refl
    by-rest (Some rest) = refl

onto-none : (last c d : ℕ) (items : List (List ℕ)) → is_open_quote last c ≡ true → first_closed last (onto_first c (onto_first d items)) ≡ None
onto-none last c d [] o = rw o refl
onto-none last c d (text ∷ texts) o =
    let some : (length (d ∷ text) == 0) ≡ false = ne_eqb (length (d ∷ text)) 0 (λ (e : length (d ∷ text) ≡ 0). omega arith) in
    rw o (rw some refl)

-- the closing quote ends the item, or the item is not in form
closed-here : (last c : ℕ) (cs : List ℕ) → is_open_quote last c ≡ true
    → first_closed last (onto_first c (option_items false c cs)) ≡ before_items ([], cs)
closed-here last c [] o = rw o refl
closed-here last c (d ∷ cs) o =
    elim (cases_Bool (d == 44)) [
      | inl e ↦ let comma : d ≡ 44 = eqb-true d 44 e in rw comma (rw o (ap (λ items. Some ([], items)) (comma-before cs)))
      | inr e ↦ rw e (onto-none last c d (option_items (turned (is_open_quote c d) false) d cs) o)
    ]

closed-walked : (last : ℕ) (cs : List ℕ) → first_closed last (option_items true last cs) ≡ option_and_then before_items (split_at_quote last cs)
closed-walked last [] = refl
closed-walked last (c ∷ cs) =
    elim (cases_Bool (is_open_quote last c)) [
      | inl o ↦ rw o (closed-here last c cs o)
      | inr o ↦ rw o (onto-closed last c (option_items true c cs) o ∙ ap (option_map (onto_value c)) (closed-walked c cs) ∙ sym (onto-walked c (split_at_quote c cs)))
    ]

-- ---- after the name

-- the value of the first of the items, where its name is over
abbrev first_value : List (List ℕ) → Option (Option (List ℕ) × List (List ℕ))
first_value [] = Some (None, [])
first_value (text ∷ texts) = option_map (λ v. (v, texts)) (value_of (after_name text))

abbrev first_name : List (List ℕ) → List ℕ
first_name [] = []
first_name (text ∷ texts) = name_part text

abbrev unescape_first : List ℕ × List (List ℕ) → Option (List ℕ) × List (List ℕ)
unescape_first parts = (Some (unescaped parts.0), parts.1)

quoted-value : (items : List (List ℕ)) → first_value (onto_first 61 (onto_first 34 items)) ≡ option_map unescape_first (first_closed 34 items)
quoted-value [] = refl
quoted-value (text ∷ texts) = by-value (closed_by_quote 34 text)
  where
    by-value : (value : Option (List ℕ))
        → option_map (λ v. (v, texts)) (option_map (λ t. Some (unescaped t)) value) ≡ option_map unescape_first (option_map (λ v. (v, texts)) value)
    by-value None = refl
    by-value (Some value) = refl

unescape-walked : (parts : Option (List ℕ × List ℕ))
    → option_and_then before_items (option_map (λ p. (Some (unescaped p.0), p.1)) parts) ≡ option_map unescape_first (option_and_then before_items parts)
unescape-walked None = refl
unescape-walked (Some parts) = by-rest (item_end parts.1)
  where
    by-rest : (rest : Option (Option (List ℕ)))
        → option_map (λ r. (Some (unescaped parts.0), items_after r)) rest ≡ option_map unescape_first (option_map (λ r. (parts.0, items_after r)) rest)
    by-rest None = refl
    by-rest (Some rest) = refl

no-value-two : (c d : ℕ) (items : List (List ℕ)) → is_name_byte c ≡ false → ((c == 61) && (d == 34)) ≡ false → first_value (onto_first c (onto_first d items)) ≡ None
no-value-two c d [] n v = rw n (rw v refl)
no-value-two c d (text ∷ texts) n v = rw n (rw v refl)

no-value-one : (c : ℕ) (texts : List (List ℕ)) → is_name_byte c ≡ false → first_value (onto_first c ([] ∷ texts)) ≡ None
no-value-one c texts n = rw n refl

no-value : (inside : Bool) (c d : ℕ) (cs : List ℕ) → is_name_byte c ≡ false → ((c == 61) && (d == 34)) ≡ false
    → first_value (onto_first c (option_items inside c (d ∷ cs))) ≡ None
no-value inside c d cs n v =
    elim (cases_Bool (not inside && (d == 44))) [
      | inl e ↦ rw e (no-value-one c (option_items false d cs) n)
      | inr e ↦ rw e (no-value-two c d (option_items (turned (is_open_quote c d) inside) d cs) n v)
    ]

walked-comma : (cs : List ℕ) → walked_value (44 ∷ cs) ≡ Some (None, option_items false 0 cs)
walked-comma [] = refl
walked-comma (d ∷ cs) = refl

value-after : (inside : Bool) (c : ℕ) (cs : List ℕ) → is_name_byte c ≡ false → (c == 44) ≡ false → (c == 61) ≡ false
    → first_value (onto_first c (option_items inside c cs)) ≡ walked_value (c ∷ cs)
value-after inside c [] n comma equals = no-value-one c [] n ∙ rw comma refl
value-after inside c (d ∷ cs) n comma equals =
    no-value inside c d cs n (rw equals refl) ∙ rw equals (rw comma refl)

equals-after : (cs : List ℕ) → first_value (onto_first 61 (option_items false 61 cs)) ≡ walked_value (61 ∷ cs)
equals-after [] = refl
equals-after (d ∷ cs) =
    elim (cases_Bool (d == 34)) [
      | inl e ↦ let quote : d ≡ 34 = eqb-true d 34 e in
          rw quote (quoted-value (option_items true 34 cs) ∙ ap (option_map unescape_first) (closed-walked 34 cs) ∙ sym (unescape-walked (split_at_quote 34 cs)))
      | inr e ↦ no-value false 61 d cs refl e ∙ rw e refl
    ]

abbrev no_value : List (List ℕ) → Option (Option (List ℕ) × List (List ℕ))
no_value items = Some (None, items)

comma-after : (last : ℕ) (cs : List ℕ) → first_value (option_items false last (44 ∷ cs)) ≡ walked_value (44 ∷ cs)
comma-after last cs = ap no_value (comma-before cs) ∙ sym (walked-comma cs)

abbrev StopsAt : ℕ → List ℕ → ℕ → Type 0
StopsAt last cs c = first_value (option_items false last (c ∷ cs)) ≡ walked_value (c ∷ cs)

value-stops : (last c : ℕ) (cs : List ℕ) → is_name_byte c ≡ false → first_value (option_items false last (c ∷ cs)) ≡ walked_value (c ∷ cs)
value-stops last c cs n =
    elim (cases_Bool (c == 44)) [
      | inl e ↦ subst (StopsAt last cs) (sym (eqb-true c 44 e)) (comma-after last cs)
      | inr comma ↦
          elim (cases_Bool (c == 61)) [
            | inl e ↦ subst (StopsAt last cs) (sym (eqb-true c 61 e)) (equals-after cs)
            | inr equals ↦ rw comma (value-after (turned (is_open_quote last c) false) c cs n comma equals)
          ]
    ]

-- ---- the name

onto-name : (c : ℕ) (items : List (List ℕ)) → is_name_byte c ≡ true → first_name (onto_first c items) ≡ c ∷ first_name items
onto-name c [] n = rw n refl
onto-name c (text ∷ texts) n = rw n refl

onto-after_name : (c : ℕ) (items : List (List ℕ)) → is_name_byte c ≡ true → first_value (onto_first c items) ≡ first_value items
onto-after_name c [] n = rw n refl
onto-after_name c (text ∷ texts) n = rw n refl

no-name : (stops : Bool) (c : ℕ) (others items : List (List ℕ)) → is_name_byte c ≡ false
    → first_name (if stops then [] ∷ others else onto_first c items) ≡ []
no-name true c others items n = refl
no-name false c others [] n = rw n refl
no-name false c others (text ∷ texts) n = rw n refl

name-walked : (last : ℕ) (text : List ℕ) → first_name (option_items false last text) ≡ name_part text
name-walked last [] = refl
name-walked last (c ∷ cs) =
    elim (cases_Bool (is_name_byte c)) [
      | inl n ↦ let plain = plain-from_name_byte c n in
          rw (plain.comma, plain.quote) (onto-name c (option_items false c cs) n ∙ ap (λ t. c ∷ t) (name-walked c cs) ∙ rw n refl)
      | inr n ↦ no-name (c == 44) c (option_items false c cs) (option_items (turned (is_open_quote last c) false) c cs) n ∙ rw n refl
    ]

value-walked : (last : ℕ) (text : List ℕ) → first_value (option_items false last text) ≡ walked_value (after_name text)
value-walked last [] = refl
value-walked last (c ∷ cs) =
    elim (cases_Bool (is_name_byte c)) [
      | inl n ↦ let plain = plain-from_name_byte c n in
          rw (plain.comma, plain.quote) (onto-after_name c (option_items false c cs) n ∙ value-walked c cs ∙ rw n refl)
      | inr n ↦ value-stops last c cs n ∙ rw n refl
    ]

-- ---- the item

item-parts : (name : List ℕ) (value : Option (Option (List ℕ))) (texts : List (List ℕ))
    → option_map (λ item. (item, texts)) (named_item name value) ≡ with_name name (option_map (λ v. (v, texts)) value)
item-parts [] value texts = refl
item-parts (c ∷ cs) None texts = refl
item-parts (c ∷ cs) (Some value) texts = refl

first-parts : (items : List (List ℕ)) → first_item items ≡ with_name (first_name items) (first_value items)
first-parts [] = refl
first-parts (text ∷ texts) = item-parts (name_part text) (value_of (after_name text)) texts

pub first_walked : (text : List ℕ) → first_item (option_items false 0 text) ≡ walked text
first_walked text = first-parts (option_items false 0 text)
    ∙ ap (λ n. with_name n (first_value (option_items false 0 text))) (name-walked 0 text)
    ∙ ap (with_name (name_part text)) (value-walked 0 text)
