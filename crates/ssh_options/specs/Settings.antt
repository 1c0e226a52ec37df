-- The flags and the values among a line's options (sshd(8), AUTHORIZED_KEYS FILE FORMAT).
use Rattle.std.specs.Prelude.{ℕ, Bool, false, ◌||◌, if◌then◌else◌, List, [], ◌∷◌, Option, Some, None}
use Rattle.ssh_options.specs.declared.option.Flag.{Flag}
use Rattle.ssh_options.specs.declared.option.ValueName.{ValueName}
use Rattle.ssh_options.specs.AuthOption.{AuthOption, Switch, Setting}
use Rattle.ssh_options.specs.OptionNames.{same_flag, same_value_name}

-- whether a flag is among the options
abbrev pub has_flag : Flag → List AuthOption → Bool
has_flag flag [] = false
has_flag flag (Switch other ∷ options) = same_flag other flag || has_flag flag options
has_flag flag (Setting name value ∷ options) = has_flag flag options

-- the values of the options with this name, in their order
abbrev pub settings : ValueName → List AuthOption → List (List ℕ)
settings name [] = []
settings name (Switch flag ∷ options) = settings name options
settings name (Setting other value ∷ options) =
    if same_value_name other name then value ∷ settings name options else settings name options

abbrev pub first_of : List (List ℕ) → Option (List ℕ)
first_of [] = None
first_of (value ∷ values) = Some value

-- the first value of an option that may appear only once
abbrev pub setting : ValueName → List AuthOption → Option (List ℕ)
setting name options = first_of (settings name options)
