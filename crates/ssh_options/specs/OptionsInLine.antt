-- Options that are read in place, as definitions see them.
use Rattle.std.specs.Prelude.{ℕ, List, [], ◌∷◌, Option, Some, None, option_map, option_and_then}
use Rattle.std.specs.Result.{result_ok}
use Rattle.ssh_options.specs.AuthOption.{AuthOption, Switch, Setting}
use Rattle.ssh_options.specs.declared.option_text.After.{After}
use Rattle.ssh_options.specs.declared.options_view.OptionView.{OptionView}
use Rattle.ssh_options.specs.declared.options_view.OptionView.TheVariants as views
use Rattle.ssh_options.specs.OptionText.{option_item, option_of}
use Rattle.ssh_options.specs.OptionTexts.{after_now, texts_following}

-- an option that is read in place, by its name and its value
abbrev pub option_in_line : OptionView → AuthOption
option_in_line (views.Switch flag) = Switch flag
option_in_line (views.Setting name value) = Setting name value

-- the option of one item, if it is an option
abbrev pub option_at : List ℕ → Option AuthOption
option_at text = option_and_then (λ item. result_ok (option_of item)) (option_item text)

-- the first option, and the texts of the items after it, if the first item is an option
abbrev pub first_option : List (List ℕ) → Option (AuthOption × List (List ℕ))
first_option [] = None
first_option (text ∷ texts) = option_map (λ option. (option, texts)) (option_at text)

-- the same parts, read in place
abbrev pub option_taken : OptionView × After → AuthOption × List (List ℕ)
option_taken parts = (option_in_line parts.0, texts_following (after_now parts.1))

-- the options of items, if each item is an option
abbrev pub each_option : List (List ℕ) → Option (List AuthOption)
each_option [] = Some []
each_option (text ∷ texts) = option_and_then (λ option. option_map (λ options. option ∷ options) (each_option texts)) (option_at text)

-- the options that were read, or no options; items that are not options are never stored, so the second case does not occur
abbrev pub or_none : Option (List AuthOption) → List AuthOption
or_none None = []
or_none (Some options) = options

abbrev pub options_in : List (List ℕ) → List AuthOption
options_in texts = or_none (each_option texts)
