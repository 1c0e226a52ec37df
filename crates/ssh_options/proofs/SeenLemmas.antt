-- The first error of options, computed with only the state of those that may appear once.
use Rattle.ssh_options.proofs.Imports.{◌≡◌, ℕ, Bool, true, false, ◌||◌, cond, List, [], ◌∷◌, ◌++◌, Option, Some, None, Result, Ok, Err, refl, ap, ◌∙◌, option_and_then, ValueName, Command, Environment, ExpiryTime, From, PermitListen, PermitOpen, Principals, Tunnel, AuthOption, Switch, Setting, Seen, LineCause, same_value_name, OptionItem, option_items, option_item, each_item, has_setting, repeats, has_bad_expiry, option_of, and_option, and_item, options_from, options_of_items, first_item, seen_of, none_seen, stood, with_name, and_read_seen, and_item_seen, fault_in}
use Rattle.std.specs.Prelude.{option_map}
use Rattle.ssh_options.specs.declared.option_text.LineCause.TheVariants as causes
use Rattle.ssh_options.specs.OptionNames.{option_row}
use Rattle.ssh_options.specs.OptionText.{options_of}
use Rattle.ssh_options.proofs.ItemLemmas.{some_items}

-- ---- which options have been read

or-after : (a b : Bool) (c : Bool) → (a || (b || c)) ≡ ((a || b) || c)
or-after true b c = refl
or-after false b c = refl

or-false : (a : Bool) → (a || false) ≡ a
or-false true = refl
or-false false = refl

setting-after : (name other : ValueName) (value : List ℕ) (before : List AuthOption)
    → has_setting name (before ++ Setting other value ∷ []) ≡ has_setting name before || same_value_name other name
setting-after name other value [] = or-false (same_value_name other name)
setting-after name other value (Switch flag ∷ before) = setting-after name other value before
setting-after name other value (Setting first text ∷ before) =
    ap (λ b. same_value_name first name || b) (setting-after name other value before)
    ∙ or-after (same_value_name first name) (has_setting name before) (same_value_name other name)

flag-after : (name : ValueName) (flag : _) (before : List AuthOption) → has_setting name (before ++ Switch flag ∷ []) ≡ has_setting name before
flag-after name flag [] = refl
flag-after name flag (Switch other ∷ before) = flag-after name flag before
flag-after name flag (Setting first text ∷ before) = ap (λ b. same_value_name first name || b) (flag-after name flag before)

seen-flag : (flag : _) (before : List AuthOption) → seen_of (before ++ Switch flag ∷ []) ≡ seen_of before
seen-flag flag before = rw (flag-after Command flag before, flag-after From flag before, flag-after Principals flag before) refl

seen-setting : (name : ValueName) (value : List ℕ) (before : List AuthOption) → seen_of (before ++ Setting name value ∷ []) ≡ with_name (seen_of before) name
seen-setting name value before = rw (setting-after Command name value before, setting-after From name value before, setting-after Principals name value before) refl

stood-repeats : (name : ValueName) (value : List ℕ) (before : List AuthOption) → repeats before (Setting name value) ≡ stood (seen_of before) name
unfolding option_row
stood-repeats Command value before = refl
stood-repeats Environment value before = refl
stood-repeats ExpiryTime value before = refl
stood-repeats From value before = refl
stood-repeats PermitListen value before = refl
stood-repeats PermitOpen value before = refl
stood-repeats Principals value before = refl
stood-repeats Tunnel value before = refl

-- ---- one more option

-- the same options, by which have been read
abbrev pub seen_in : Result (List AuthOption) LineCause → Result Seen LineCause
seen_in (Err cause) = Err cause
seen_in (Ok options) = Ok (seen_of options)

by-tests : (again bad : Bool) (options : List AuthOption) (seen : Seen) → seen_of options ≡ seen
    → seen_in (cond again (Err causes.RepeatedOption) (cond bad (Err causes.ExpiryText) (Ok options))) ≡ cond again (Err causes.RepeatedOption) (cond bad (Err causes.ExpiryText) (Ok seen))
by-tests true bad options seen h = refl
by-tests false true options seen h = refl
by-tests false false options seen h = ap (λ s. Ok s) h

option-seen : (before : List AuthOption) (said : Result AuthOption LineCause) → seen_in (and_option before said) ≡ and_read_seen (seen_of before) said
option-seen before (Err cause) = refl
option-seen before (Ok (Switch flag)) = ap (λ s. Ok s) (seen-flag flag before)
option-seen before (Ok (Setting name value)) =
    rw (stood-repeats name value before)
    (by-tests (stood (seen_of before) name) (has_bad_expiry (Setting name value)) (before ++ Setting name value ∷ []) (with_name (seen_of before) name) (seen-setting name value before))

item-seen : (so_far : Result (List AuthOption) LineCause) (item : OptionItem) → seen_in (and_item so_far item) ≡ and_item_seen (seen_in so_far) item
item-seen (Err cause) item = refl
item-seen (Ok before) item = option-seen before (option_of item)

abbrev seen_from : Result Seen LineCause → List OptionItem → Result Seen LineCause
seen_from so_far [] = so_far
seen_from so_far (item ∷ items) = seen_from (and_item_seen so_far item) items

items-seen : (so_far : Result (List AuthOption) LineCause) (items : List OptionItem) → seen_in (options_from so_far items) ≡ seen_from (seen_in so_far) items
items-seen so_far [] = refl
items-seen so_far (item ∷ items) = items-seen (and_item so_far item) items ∙ ap (λ s. seen_from s items) (item-seen so_far item)

fault-seen : (so_far : Result (List AuthOption) LineCause) → fault_in so_far ≡ fault_in (seen_in so_far)
fault-seen (Err cause) = refl
fault-seen (Ok options) = refl

-- ---- the items of a text, one by one

abbrev fault_by : Result Seen LineCause → Option (List OptionItem) → Option LineCause
fault_by so_far None = Some causes.OptionSyntax
fault_by so_far (Some items) = fault_in (seen_from so_far items)

-- the first error of the options so far and of the items that are left
abbrev pub fault_from : Result Seen LineCause → List (List ℕ) → Option LineCause
fault_from so_far texts = fault_by so_far (each_item texts)

pub fault_from_all : (text : List ℕ) → fault_in (options_of text) ≡ fault_from (Ok none_seen) (option_items false 0 text)
unfolding options_of
fault_from_all text = by-items (each_item (option_items false 0 text))
  where
    by-items : (items : Option (List OptionItem)) → fault_in (options_of_items items) ≡ fault_by (Ok none_seen) items
    by-items None = refl
    by-items (Some items) = fault-seen (options_from (Ok []) items) ∙ ap fault_in (items-seen (Ok []) items)

onto-items : (so_far : Result Seen LineCause) (item : OptionItem) (items : Option (List OptionItem))
    → fault_by so_far (option_map (λ more. item ∷ more) items) ≡ fault_by (and_item_seen so_far item) items
onto-items so_far item None = refl
onto-items so_far item (Some items) = refl

refused-by : (read : Option OptionItem) (so_far : Result Seen LineCause) (texts : List (List ℕ)) (text : List ℕ)
    → option_item text ≡ read → ◌≡◌ {A = Option (OptionItem × List (List ℕ))} None (option_map (λ i. (i, texts)) read) → fault_from so_far (text ∷ texts) ≡ Some causes.OptionSyntax
refused-by None so_far texts text is none =
    ap (λ r. fault_by so_far (option_and_then (λ x. option_map (λ more. x ∷ more) (each_item texts)) r)) is
refused-by (Some read) so_far texts text is none = cc

refused-first : (so_far : Result Seen LineCause) (items : List (List ℕ)) → (items ≡ [] → ⊥) → None ≡ first_item items
    → fault_from so_far items ≡ Some causes.OptionSyntax
refused-first so_far [] some none = absurd (some refl)
refused-first so_far (text ∷ texts) some none = refused-by (option_item text) so_far texts text refl none

pub fault_from-refused : (whole : Option LineCause) (so_far : Result Seen LineCause) (text : List ℕ)
    → None ≡ first_item (option_items false 0 text) → whole ≡ fault_from so_far (option_items false 0 text) → whole ≡ Some causes.OptionSyntax
fault_from-refused whole so_far text none held = held ∙ refused-first so_far (option_items false 0 text) (some_items false 0 text) none
