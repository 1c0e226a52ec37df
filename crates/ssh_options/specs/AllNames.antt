-- The names of all options (sshd(8), AUTHORIZED_KEYS FILE FORMAT).
use Rattle.std.specs.Prelude.{◌≡◌, ◌++◌, map, refl}
use Rattle.ssh_options.specs.declared.option.LineOption.TheVariants.{Switch, Setting}
use Rattle.ssh_options.specs.declared.option.TheConstants.Flag as flags
use Rattle.ssh_options.specs.declared.option.TheConstants.ValueName as values
use Rattle.ssh_options.specs.OptionNames.{options}

-- the flags and the names of options with a value are those of the list, each once and in its order
abbrev pub AllNamesAreListed : Type 0
AllNamesAreListed = map Switch flags.ALL ++ map Setting values.ALL ≡ map (λ row. row.option) options

pub all_names_are_listed : AllNamesAreListed
all_names_are_listed = refl
