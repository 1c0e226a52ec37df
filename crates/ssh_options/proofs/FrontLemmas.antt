-- The walk over the options at the front of a line: their items are those of the text that ends at the first blank
-- outside quotes, and what follows the last of them follows that text.
use Rattle.ssh_options.proofs.Imports.{◌≡◌, ℕ, true, false, not, ◌&&◌, ◌==◌, if◌then◌else◌, inl, inr, List, [], ◌∷◌, Option, Some, None, option_map, length, drop, refl, sym, ap, ◌∙◌, option_and_then, cases_Bool, eqb-true, and_parts, is_blank, option_text_of, is_open_quote, turned, is_name_byte, name_part, after_name, unescaped, Following, front_items, after_options, first_item, split_at_quote, split_value, after_item, texts_following, rest_following}
use Rattle.ssh_options.proofs.OptionLemmas.{plain-from_name_byte, other_byte}
use Rattle.ssh_options.proofs.WalkLemmas.{item_end, items_after, before_items, walked_value, with_name, first_walked}

-- the options at the front of a text
abbrev front : List ℕ → List ℕ
front text = option_text_of false 0 text

-- what comes before a text changes nothing, except a backslash
on : (last : ℕ) (text : List ℕ) → (last == 92) ≡ false → option_text_of false last text ≡ front text
on last [] h = refl
on last (c ∷ cs) h = rw h refl

no-backslash : (c : ℕ) → is_name_byte c ≡ true → (c == 92) ≡ false
no-backslash c n = other_byte c 92 n refl

-- ---- the name

name-front : (text : List ℕ) → name_part (front text) ≡ name_part text
name-front [] = refl
name-front (c ∷ cs) =
    elim (cases_Bool (is_name_byte c)) [
      | inl n ↦ let plain = plain-from_name_byte c n in
          rw (plain.blank, plain.quote) (rw n (ap (λ t. c ∷ name_part t) (on c cs (no-backslash c n)) ∙ ap (λ t. c ∷ t) (name-front cs)))
      | inr n ↦
          elim (cases_Bool (is_blank c)) [
            | inl b ↦ rw n (rw b refl)
            | inr b ↦ rw n (rw b (rw n refl))
          ]
    ]

after-front : (text : List ℕ) → after_name (front text) ≡ front (after_name text)
after-front [] = refl
after-front (c ∷ cs) =
    elim (cases_Bool (is_name_byte c)) [
      | inl n ↦ let plain = plain-from_name_byte c n in
          rw (plain.blank, plain.quote) (rw n (ap after_name (on c cs (no-backslash c n)) ∙ after-front cs))
      | inr n ↦
          elim (cases_Bool (is_blank c)) [
            | inl b ↦ rw n (rw b refl)
            | inr b ↦ rw n (rw b (rw n refl))
          ]
    ]

-- ---- the value

abbrev end_front : {A : Type 0} → A × List ℕ → A × List ℕ
end_front parts = (parts.0, front parts.1)

abbrev onto_value : ℕ → List ℕ × List ℕ → List ℕ × List ℕ
onto_value c parts = (c ∷ parts.0, parts.1)

abbrev unescape_value : List ℕ × List ℕ → Option (List ℕ) × List ℕ
unescape_value parts = (Some (unescaped parts.0), parts.1)

onto-front : (c : ℕ) (parts : Option (List ℕ × List ℕ)) → option_map (onto_value c) (option_map end_front parts) ≡ option_map end_front (option_map (onto_value c) parts)
onto-front c None = refl
onto-front c (Some parts) = refl

unescape-front : (parts : Option (List ℕ × List ℕ)) → option_map unescape_value (option_map end_front parts) ≡ option_map end_front (option_map unescape_value parts)
unescape-front None = refl
unescape-front (Some parts) = refl

quote-front : (last : ℕ) (text : List ℕ) → split_at_quote last (option_text_of true last text) ≡ option_map end_front (split_at_quote last text)
quote-front last [] = refl
quote-front last (c ∷ cs) =
    elim (cases_Bool (is_open_quote last c)) [
      | inl o ↦ let quote : c ≡ 34 = eqb-true c 34 ((and_parts (c == 34) (not (last == 92)) o).0) in
          rw o (ap (λ t. Some ([], t)) (on c cs (rw quote refl)))
      | inr o ↦ rw o (ap (option_map (onto_value c)) (quote-front c cs) ∙ onto-front c (split_at_quote c cs))
    ]

no-value-front : (c d : ℕ) (cs : List ℕ) → ((c == 61) && (d == 34)) ≡ false → split_value (front (c ∷ d ∷ cs)) ≡ option_map end_front (split_value (c ∷ d ∷ cs))
no-value-front c d cs v =
    elim (cases_Bool (is_blank c)) [
      | inl b ↦ rw v (rw b refl)
      | inr b ↦
          elim (cases_Bool (not (turned (is_open_quote 0 c) false) && is_blank d)) [
            | inl s ↦ rw v (rw b (rw s refl))
            | inr s ↦ rw v (rw b (rw s (rw v refl)))
          ]
    ]

value-front : (text : List ℕ) → split_value (front text) ≡ option_map end_front (split_value text)
value-front [] = refl
value-front (c ∷ []) =
    elim (cases_Bool (is_blank c)) [
      | inl b ↦ rw b refl
      | inr b ↦ rw b refl
    ]
value-front (c ∷ d ∷ cs) =
    elim (cases_Bool ((c == 61) && (d == 34))) [
      | inl v ↦
          let parts = and_parts (c == 61) (d == 34) v in
          let equals : c ≡ 61 = eqb-true c 61 parts.0 in
          let quote : d ≡ 34 = eqb-true d 34 parts.1 in
          rw (equals, quote) (ap (option_map unescape_value) (quote-front 34 cs) ∙ unescape-front (split_at_quote 34 cs))
      | inr v ↦ no-value-front c d cs v
    ]

-- ---- what follows the item

abbrev next_front : Following → Option (List ℕ)
next_front following = if following.0 then Some (front following.1) else None

end-front : (text : List ℕ) → item_end (front text) ≡ option_map next_front (after_item text)
end-front [] = refl
end-front (c ∷ cs) =
    elim (cases_Bool (c == 44)) [
      | inl e ↦ let comma : c ≡ 44 = eqb-true c 44 e in
          rw comma (ap (λ t. Some (Some t)) (on 44 cs refl))
      | inr n ↦
          elim (cases_Bool (is_blank c)) [
            | inl b ↦ rw n (rw b refl)
            | inr b ↦ rw n (rw b (rw n refl))
          ]
    ]

-- ---- the item

abbrev Value : Type 0
Value = Option (Option (List ℕ) × List (List ℕ))

abbrev after_value : Option (List ℕ) → Following → Option (List ℕ) × List (List ℕ)
after_value value following = (value, texts_following following)

-- the value after a name, and the items that follow it
abbrev pub front_value : List ℕ → Option (Option (List ℕ) × List (List ℕ))
front_value text = option_and_then (λ parts. option_map (after_value parts.0) (after_item parts.1)) (split_value text)

following-front : (value : Option (List ℕ)) (following : Option Following)
    → ◌≡◌ {A = Value} (option_map (λ rest. (value, items_after rest)) (option_map next_front following)) (option_map (after_value value) following)
following-front value None = refl
following-front value (Some (true, text)) = refl
following-front value (Some (false, text)) = refl

parts-front : (parts : Option (Option (List ℕ) × List ℕ))
    → option_and_then before_items (option_map end_front parts) ≡ option_and_then (λ p. option_map (after_value p.0) (after_item p.1)) parts
parts-front None = refl
parts-front (Some parts) =
    ap (option_map (λ rest. (parts.0, items_after rest))) (end-front parts.1) ∙ following-front parts.0 (after_item parts.1)

walked-front : (text : List ℕ) → walked_value (front text) ≡ front_value text
walked-front text = ap (option_and_then before_items) (value-front text) ∙ parts-front (split_value text)

pub first_front : (text : List ℕ) → first_item (front_items text) ≡ with_name (name_part text) (front_value (after_name text))
first_front text = first_walked (front text)
    ∙ ap (λ n. with_name n (walked_value (after_name (front text)))) (name-front text)
    ∙ ap (λ a. with_name (name_part text) (walked_value a)) (after-front text)
    ∙ ap (with_name (name_part text)) (walked-front (after_name text))

-- a text without a name in front has no item in form there
pub unnamed : (text name : List ℕ) → name ≡ name_part text → length name ≡ 0 → None ≡ first_item (front_items text)
unnamed text [] named none = ap (λ n. with_name n (front_value (after_name text))) named ∙ sym (first_front text)
unnamed text (c ∷ cs) named none = cc

-- ---- what follows the options

rest-name : (text : List ℕ) → after_options text ≡ after_options (after_name text)
rest-name [] = refl
rest-name (c ∷ cs) =
    elim (cases_Bool (is_name_byte c)) [
      | inl n ↦ let plain = plain-from_name_byte c n in
          rw (plain.blank, plain.quote) (rw n (ap (λ t. drop (length t) cs) (on c cs (no-backslash c n)) ∙ rest-name cs))
      | inr n ↦ rw n refl
    ]

same-rest : {A : Type 0} (a b : A × List ℕ) → Some a ≡ Some b → a.1 ≡ b.1
same-rest a b h = cc

abbrev QuoteRest : ℕ → List ℕ → Type 0
QuoteRest last text = (parts : List ℕ × List ℕ) → Some parts ≡ split_at_quote last text
    → drop (length (option_text_of true last text)) text ≡ after_options parts.1

rest-onto : (c : ℕ) (cs : List ℕ) (parts : List ℕ × List ℕ) (found : Option (List ℕ × List ℕ)) → QuoteRest c cs
    → found ≡ split_at_quote c cs → Some parts ≡ option_map (onto_value c) found
    → drop (length (option_text_of true c cs)) cs ≡ after_options parts.1
rest-onto c cs parts None more is h = cc
rest-onto c cs parts (Some found) more is h = more found is ∙ ap after_options (sym (same-rest parts (onto_value c found) h))

rest-quote : (last : ℕ) (text : List ℕ) → QuoteRest last text
rest-quote last [] parts = λ h. cc
rest-quote last (c ∷ cs) parts =
    elim (cases_Bool (is_open_quote last c)) [
      | inl o ↦ let quote : c ≡ 34 = eqb-true c 34 ((and_parts (c == 34) (not (last == 92)) o).0) in
          rw o (λ h. ap (λ t. drop (length t) cs) (on c cs (rw quote refl)) ∙ ap after_options (sym (same-rest parts ([], cs) h)))
      | inr o ↦ rw o (λ h. rest-onto c cs parts (split_at_quote c cs) (rest-quote c cs) refl h)
    ]

rest-quoted : (cs : List ℕ) (parts : Option (List ℕ) × List ℕ) (found : Option (List ℕ × List ℕ))
    → found ≡ split_at_quote 34 cs → Some parts ≡ option_map unescape_value found
    → drop (length (option_text_of true 34 cs)) cs ≡ after_options parts.1
rest-quoted cs parts None is h = cc
rest-quoted cs parts (Some found) is h = rest-quote 34 cs found is ∙ ap after_options (sym (same-rest parts (unescape_value found) h))

rest-value : (text : List ℕ) (parts : Option (List ℕ) × List ℕ) → Some parts ≡ split_value text → after_options text ≡ after_options parts.1
rest-value [] parts = λ h. ap after_options (sym (same-rest parts (None, []) h))
rest-value (c ∷ []) parts = λ h. ap after_options (sym (same-rest parts (None, c ∷ []) h))
rest-value (c ∷ d ∷ cs) parts =
    elim (cases_Bool ((c == 61) && (d == 34))) [
      | inl v ↦
          let both = and_parts (c == 61) (d == 34) v in
          let equals : c ≡ 61 = eqb-true c 61 both.0 in
          let quote : d ≡ 34 = eqb-true d 34 both.1 in
          rw (equals, quote) (λ h. rest-quoted cs parts (split_at_quote 34 cs) refl h)
      | inr v ↦ rw v (λ h. ap after_options (sym (same-rest parts (None, c ∷ d ∷ cs) h)))
    ]

same-following : (a b : Following) → Some a ≡ Some b → rest_following b ≡ rest_following a
same-following a b h = cc

rest-after : (text : List ℕ) (following : Following) → Some following ≡ after_item text → after_options text ≡ rest_following following
rest-after [] following = λ h. same-following following (false, []) h
rest-after (c ∷ cs) following =
    elim (cases_Bool (c == 44)) [
      | inl e ↦ let comma : c ≡ 44 = eqb-true c 44 e in
          rw comma (λ h. ap (λ t. drop (length t) cs) (on 44 cs refl) ∙ same-following following (true, cs) h)
      | inr n ↦
          elim (cases_Bool (is_blank c)) [
            | inl b ↦ rw n (rw b (λ h. same-following following (false, c ∷ cs) h))
            | inr b ↦ rw n (rw b (λ h. cc))
          ]
    ]

-- what follows an item of the options leads to what follows them
pub rest_front : (text : List ℕ) (parts : Option (List ℕ) × List ℕ) (following : Following)
    → Some parts ≡ split_value (after_name text) → Some following ≡ after_item parts.1 → after_options text ≡ rest_following following
rest_front text parts following value after = rest-name text ∙ rest-value (after_name text) parts value ∙ rest-after parts.1 following after
