-- An option of an authorized_keys line (sshd(8), AUTHORIZED_KEYS FILE FORMAT).
use Rattle.std.specs.Prelude.{ℕ, List}
use Rattle.ssh_options.specs.declared.option.Flag.{Flag}
use Rattle.ssh_options.specs.declared.option.ValueName.{ValueName}

-- a flag, or a name with its value without escapes, in which `\"` of the line is a quote
pub data AuthOption : Type 0 where
  Switch : Flag → AuthOption
  Setting : ValueName → List ℕ → AuthOption
