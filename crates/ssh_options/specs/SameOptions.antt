-- When options are the same (this project's rule).
use Rattle.std.specs.Prelude.{Bool, false, ◌&&◌, List, bytes_eq}
use Rattle.std.specs.Cmp.Lexicographic.{pointwise}
use Rattle.ssh_options.specs.AuthOption.{AuthOption, Switch, Setting}
use Rattle.ssh_options.specs.OptionNames.{same_flag, same_value_name}

-- whether two options are the same: one flag, or one name with the same value
abbrev pub is_same_option : AuthOption → AuthOption → Bool
is_same_option (Switch a) (Switch b) = same_flag a b
is_same_option (Switch a) (Setting b other) = false
is_same_option (Setting a value) (Switch b) = false
is_same_option (Setting a value) (Setting b other) = same_value_name a b && bytes_eq value other

-- whether two lists have the same options, one by one
abbrev pub are_same_options : List AuthOption → List AuthOption → Bool
are_same_options = pointwise is_same_option
