-- The text of options (sshd(8), AUTHORIZED_KEYS FILE FORMAT; that `\"` always is the escape: OpenSSH's auth-options.c).
use Rattle.std.specs.Prelude.{◌≡◌, ℕ, Bool, true, false, not, ◌||◌, ◌&&◌, ◌==◌, if◌then◌else◌, List, [], ◌∷◌, ◌++◌, length, Option, Some, None, option_map, option_and_then, Result, Ok, Err}
use Rattle.std.specs.List.{onto_first}
use Rattle.std.specs.Char.{is_ascii_digit, is_ascii_lowercase, is_ascii_uppercase}
use Rattle.ssh_options.specs.declared.option.ValueName.{ValueName}
use Rattle.ssh_options.specs.declared.option.ValueName.TheVariants.{ExpiryTime}
use Rattle.ssh_options.specs.AuthOption.{AuthOption, Switch, Setting}
use Rattle.ssh_options.specs.declared.option_text.LineCause.{LineCause}
use Rattle.ssh_options.specs.declared.option_text.LineCause.TheVariants as causes
use Rattle.ssh_text.specs.Text.{is_blank}
use Rattle.ssh_options.specs.declared.option.LineOption.{LineOption}
use Rattle.ssh_options.specs.declared.option.LineOption.TheVariants as names
use Rattle.ssh_options.specs.OptionNames.{flag_name, value_name, option_named, same_name, same_value_name, is_single}
use Rattle.ssh_options.specs.Expiry.{is_expiry_text}

-- ---- spelling

-- a value between its quotes: a backslash before each quote, and every other byte unchanged
abbrev pub escaped : List ℕ → List ℕ
escaped [] = []
escaped (c ∷ cs) = (if c == 34 then 92 ∷ 34 ∷ [] else c ∷ []) ++ escaped cs

-- a value that ends with a backslash cannot be quoted, because the backslash would escape the closing quote
abbrev pub ends_with_backslash : List ℕ → Bool
ends_with_backslash [] = false
ends_with_backslash (c ∷ []) = c == 92
ends_with_backslash (c ∷ d ∷ cs) = ends_with_backslash (d ∷ cs)

-- `="`, the value, and `"`
abbrev pub quoted : List ℕ → List ℕ
quoted value = 61 ∷ 34 ∷ escaped value ++ 34 ∷ []

abbrev pub option_name : AuthOption → List ℕ
option_name (Switch flag) = flag_name flag
option_name (Setting name value) = value_name name

abbrev pub value_part : AuthOption → List ℕ
value_part (Switch flag) = []
value_part (Setting name value) = quoted value

-- the option with its name in any case
abbrev pub SpellsOption : AuthOption → List ℕ → Type 0
SpellsOption option text = (name : List ℕ) × (same_name name (option_name option) ≡ true) × (text ≡ name ++ value_part option)

-- the options with commas between them
abbrev pub SpellsItems : List AuthOption → List ℕ → Type 0
SpellsItems [] text = ⊥
SpellsItems (option ∷ []) text = SpellsOption option text
SpellsItems (option ∷ next ∷ options) text =
    (first rest : List ℕ) × SpellsOption option first × SpellsItems (next ∷ options) rest × (text ≡ first ++ 44 ∷ rest)

-- ---- what is allowed on a line

abbrev pub has_setting : ValueName → List AuthOption → Bool
has_setting name [] = false
has_setting name (Switch flag ∷ options) = has_setting name options
has_setting name (Setting other value ∷ options) = same_value_name other name || has_setting name options

-- the option may appear only once, and is among those before it
abbrev pub repeats : List AuthOption → AuthOption → Bool
repeats before (Switch flag) = false
repeats before (Setting name value) = is_single name && has_setting name before

-- an expiry-time option whose value is not an expiry time
abbrev pub has_bad_expiry : AuthOption → Bool
has_bad_expiry (Switch flag) = false
has_bad_expiry (Setting name value) = same_value_name name ExpiryTime && not (is_expiry_text value)

abbrev pub can_be_quoted : AuthOption → Bool
can_be_quoted (Switch flag) = true
can_be_quoted (Setting name value) = not (ends_with_backslash value)

-- the options may appear on a line, after those before them
abbrev pub AreAllowed : List AuthOption → List AuthOption → Type 0
AreAllowed before [] = Unit {0}
AreAllowed before (option ∷ options) =
    (can_be_quoted option ≡ true) × (repeats before option ≡ false) × (has_bad_expiry option ≡ false)
    × AreAllowed (before ++ option ∷ []) options

-- ---- reading

-- whether a byte is a quote that is not right after a backslash
abbrev pub is_open_quote : ℕ → ℕ → Bool
is_open_quote last c = (c == 34) && not (last == 92)

abbrev pub turned : Bool → Bool → Bool
turned quote inside = if quote then not inside else inside

-- The option text ends at the first blank outside quotes: the number of quotes before it is even, without those right after a backslash. `inside` is true where an odd number came before, and `last` is the byte before.
abbrev pub option_text_of : Bool → ℕ → List ℕ → List ℕ
option_text_of inside last [] = []
option_text_of inside last (c ∷ cs) =
    if not inside && is_blank c then [] else c ∷ option_text_of (turned (is_open_quote last c) inside) c cs

-- the items between the commas outside quotes
abbrev pub option_items : Bool → ℕ → List ℕ → List (List ℕ)
option_items inside last [] = [] ∷ []
option_items inside last (c ∷ cs) =
    if not inside && (c == 44) then [] ∷ option_items false c cs
    else onto_first c (option_items (turned (is_open_quote last c) inside) c cs)

-- a letter, a digit or a hyphen
abbrev pub is_name_byte : ℕ → Bool
is_name_byte c = is_ascii_lowercase c || is_ascii_uppercase c || is_ascii_digit c || (c == 45)

abbrev pub name_part : List ℕ → List ℕ
name_part [] = []
name_part (c ∷ cs) = if is_name_byte c then c ∷ name_part cs else []

abbrev pub after_name : List ℕ → List ℕ
after_name [] = []
after_name (c ∷ cs) = if is_name_byte c then after_name cs else c ∷ cs

abbrev pub begins_with_quote : List ℕ → Bool
begins_with_quote [] = false
begins_with_quote (c ∷ cs) = c == 34

-- the value without escapes: a quote for each `\"`, and every other byte unchanged
abbrev pub unescaped : List ℕ → List ℕ
unescaped [] = []
unescaped (c ∷ cs) = if (c == 92) && begins_with_quote cs then unescaped cs else c ∷ unescaped cs

-- the text up to the closing quote, if that is the last byte: the first quote that is not right after a backslash
abbrev pub closed_by_quote : ℕ → List ℕ → Option (List ℕ)
closed_by_quote last [] = None
closed_by_quote last (c ∷ cs) =
    if is_open_quote last c then (if length cs == 0 then Some [] else None)
    else option_map (λ text. c ∷ text) (closed_by_quote c cs)

-- an item: a name, and the value of one that has a value
pub record OptionItem : Type 0 where
  pub name : List ℕ
  pub value : Option (List ℕ)

-- what follows the name: nothing, or `="`, a value and a closing quote
abbrev pub value_of : List ℕ → Option (Option (List ℕ))
value_of [] = Some None
value_of (c ∷ []) = None
value_of (c ∷ d ∷ cs) =
    if (c == 61) && (d == 34) then option_map (λ text. Some (unescaped text)) (closed_by_quote 34 cs) else None

abbrev pub named_item : List ℕ → Option (Option (List ℕ)) → Option OptionItem
named_item [] value = None
named_item (c ∷ cs) value = option_map (λ v. record { name = c ∷ cs; value = v }) value

abbrev pub option_item : List ℕ → Option OptionItem
option_item text = named_item (name_part text) (value_of (after_name text))

abbrev pub each_item : List (List ℕ) → Option (List OptionItem)
each_item [] = Some []
each_item (text ∷ texts) = option_and_then (λ item. option_map (λ items. item ∷ items) (each_item texts)) (option_item text)

-- the option of an item: its name must be listed, and it must have a value exactly if it is not a flag
abbrev pub option_by_name : Option LineOption → Option (List ℕ) → Result AuthOption LineCause
option_by_name None value = Err causes.UnknownOption
option_by_name (Some (names.Switch flag)) None = Ok (Switch flag)
option_by_name (Some (names.Switch flag)) (Some value) = Err causes.OptionValue
option_by_name (Some (names.Setting name)) (Some value) = Ok (Setting name value)
option_by_name (Some (names.Setting name)) None = Err causes.OptionValue

abbrev pub option_of : OptionItem → Result AuthOption LineCause
option_of item = option_by_name (option_named item.name) item.value

-- the options with one more, or the first error
abbrev pub and_option : List AuthOption → Result AuthOption LineCause → Result (List AuthOption) LineCause
and_option before (Err cause) = Err cause
and_option before (Ok option) =
    if repeats before option then Err causes.RepeatedOption
    else if has_bad_expiry option then Err causes.ExpiryText
    else Ok (before ++ option ∷ [])

abbrev pub and_item : Result (List AuthOption) LineCause → OptionItem → Result (List AuthOption) LineCause
and_item (Err cause) item = Err cause
and_item (Ok before) item = and_option before (option_of item)

-- the options of items, tested from the left
abbrev pub options_from : Result (List AuthOption) LineCause → List OptionItem → Result (List AuthOption) LineCause
options_from so_far [] = so_far
options_from so_far (item ∷ items) = options_from (and_item so_far item) items

abbrev pub options_of_items : Option (List OptionItem) → Result (List AuthOption) LineCause
options_of_items None = Err causes.OptionSyntax
options_of_items (Some items) = options_from (Ok []) items

-- the options of an option text, or its first error
unfoldable pub options_of : List ℕ → Result (List AuthOption) LineCause
options_of text = options_of_items (each_item (option_items false 0 text))
