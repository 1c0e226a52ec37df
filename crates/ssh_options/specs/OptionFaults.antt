-- Why an option text cannot be read, by its items alone (sshd(8), AUTHORIZED_KEYS FILE FORMAT). This project's rules: the form of the whole text is tested first, then the items in their order, and some options may appear only once.
use Rattle.std.specs.Prelude.{◌≡◌, ◌≢◌, ◌⊎◌, ℕ, true, false, not, List, [], ◌∷◌, ◌++◌, Option, Some, None}
use Rattle.std.specs.List.{AllByRecursion, AllZip}
use Rattle.ssh_options.specs.declared.option_text.LineCause.{LineCause}
use Rattle.ssh_options.specs.declared.option_text.LineCause.TheVariants as causes
use Rattle.ssh_options.specs.declared.option.Flag.{Flag}
use Rattle.ssh_options.specs.declared.option.ValueName.{ValueName}
use Rattle.ssh_options.specs.AuthOption.{AuthOption, Switch, Setting}
use Rattle.ssh_options.specs.declared.option.LineOption.{LineOption}
use Rattle.ssh_options.specs.OptionNames.{option_row, name_in, flag_name, value_name, same_name}
use Rattle.ssh_options.specs.OptionText.{OptionItem, AreAllowed, ends_with_backslash, has_bad_expiry, is_name_byte, quoted, repeats}

-- ---- the form

-- what follows a name: nothing, or `="`, a value and `"`
abbrev pub SpellsValue : Option (List ℕ) → List ℕ → Type 0
SpellsValue None text = text ≡ []
SpellsValue (Some value) text = (text ≡ quoted value) × (not (ends_with_backslash value) ≡ true)

-- A name of letters, digits and hyphens, and what follows it. The name need not be listed.
abbrev pub SpellsItem : OptionItem → List ℕ → Type 0
SpellsItem item text =
    (part : List ℕ) × (item.name ≢ []) × AllByRecursion (λ c. is_name_byte c ≡ true) item.name × SpellsValue item.value part
    × (text ≡ item.name ++ part)

-- the items with commas between them
abbrev pub SpellsItemList : List OptionItem → List ℕ → Type 0
SpellsItemList [] text = ⊥
SpellsItemList (item ∷ []) text = SpellsItem item text
SpellsItemList (item ∷ next ∷ items) text =
    (first rest : List ℕ) × SpellsItem item first × SpellsItemList (next ∷ items) rest × (text ≡ first ++ 44 ∷ rest)

-- ---- the first error

-- The item is the text of the option: its name in any case, and a value exactly if the option has one.
abbrev pub SaysOption : OptionItem → AuthOption → Type 0
SaysOption item (Switch flag) = (same_name item.name (flag_name flag) ≡ true) × (item.value ≡ None)
SaysOption item (Setting name value) = (same_name item.name (value_name name) ≡ true) × (item.value ≡ Some value)

-- a flag with a value, or another option without one
abbrev pub HasWrongValue : OptionItem → Type 0
HasWrongValue item =
    ((flag : Flag) × (same_name item.name (flag_name flag) ≡ true) × (item.value ≢ None))
    ⊎ ((name : ValueName) × (same_name item.name (value_name name) ≡ true) × (item.value ≡ None))

-- The error of an item that follows these options: first a name that is not listed, then a wrong or missing value, then an option that may not appear again, then a text that is not an expiry time.
abbrev pub IsItemFault : LineCause → List AuthOption → OptionItem → Type 0
IsItemFault causes.UnknownOption before item = (option : LineOption) → same_name item.name (name_in (option_row option)) ≡ false
IsItemFault causes.OptionValue before item = HasWrongValue item
IsItemFault causes.RepeatedOption before item = (option : AuthOption) × SaysOption item option × (repeats before option ≡ true)
IsItemFault causes.ExpiryText before item =
    (option : AuthOption) × SaysOption item option × (repeats before option ≡ false) × (has_bad_expiry option ≡ true)
IsItemFault _ before item = ⊥

-- The error of an option text: it is not a list of items, or one of its items has an error and the items before it are options that may appear on a line.
abbrev pub IsOptionsFault : LineCause → List ℕ → Type 0
IsOptionsFault causes.OptionSyntax text = (items : List OptionItem) → ¬ SpellsItemList items text
IsOptionsFault cause text =
    (front rest : List OptionItem) × (item : OptionItem) × (before : List AuthOption) × SpellsItemList (front ++ item ∷ rest) text
    × AllZip SaysOption front before × AreAllowed [] before × IsItemFault cause before item
