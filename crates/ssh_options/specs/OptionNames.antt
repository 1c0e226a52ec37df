-- The options of an authorized_keys line by name (sshd(8), AUTHORIZED_KEYS FILE FORMAT).
use Rattle.std.specs.Prelude.{ℕ, Bool, true, false, List, [], ◌∷◌, codes, bytes_eq, find, Option, Some, None, option_map, option_and_then}
use Rattle.std.specs.Str.{str_to_ascii_lowercase}
use denote.Enum.Bare.{sameb}
use Rattle.ssh_options.specs.contracts.option.Flag as flag_type
use Rattle.ssh_options.specs.contracts.option.ValueName as value_type
use Rattle.ssh_options.specs.declared.option.Flag.{Flag}
use Rattle.ssh_options.specs.declared.option.Flag.TheVariants.{AgentForwarding, CertAuthority, NoAgentForwarding, NoPortForwarding, NoPty, NoUserRc, NoX11Forwarding, PortForwarding, Pty, NoTouchRequired, VerifyRequired, Restrict, UserRc, X11Forwarding}
use Rattle.ssh_options.specs.declared.option.ValueName.{ValueName}
use Rattle.ssh_options.specs.declared.option.ValueName.TheVariants.{Command, Environment, ExpiryTime, From, PermitListen, PermitOpen, Principals, Tunnel}
use Rattle.ssh_options.specs.declared.option.LineOption.{LineOption}
use Rattle.ssh_options.specs.declared.option.LineOption.TheVariants.{Switch, Setting}
use Rattle.ssh_options.specs.declared.option.Times.{Times}
use Rattle.ssh_options.specs.declared.option.Times.TheVariants.{Once, Any}

-- a row of the list: a name, its option, and how often that may appear on a line
pub record OptionRow : Type 0 where
  pub name : List ℕ
  pub option : LineOption
  pub times : Times

abbrev listed : List ℕ → LineOption → Times → OptionRow
listed name option times = record { name = name; option = option; times = times }

-- the list of sshd(8); which options may appear only once is from OpenSSH's auth-options.c
abbrev pub options : List OptionRow
options =
    listed (codes "agent-forwarding") (Switch AgentForwarding) Any
    ∷ listed (codes "cert-authority") (Switch CertAuthority) Any
    ∷ listed (codes "no-agent-forwarding") (Switch NoAgentForwarding) Any
    ∷ listed (codes "no-port-forwarding") (Switch NoPortForwarding) Any
    ∷ listed (codes "no-pty") (Switch NoPty) Any
    ∷ listed (codes "no-user-rc") (Switch NoUserRc) Any
    ∷ listed (codes "no-X11-forwarding") (Switch NoX11Forwarding) Any
    ∷ listed (codes "port-forwarding") (Switch PortForwarding) Any
    ∷ listed (codes "pty") (Switch Pty) Any
    ∷ listed (codes "no-touch-required") (Switch NoTouchRequired) Any
    ∷ listed (codes "verify-required") (Switch VerifyRequired) Any
    ∷ listed (codes "restrict") (Switch Restrict) Any
    ∷ listed (codes "user-rc") (Switch UserRc) Any
    ∷ listed (codes "X11-forwarding") (Switch X11Forwarding) Any
    ∷ listed (codes "command") (Setting Command) Once
    ∷ listed (codes "environment") (Setting Environment) Any
    ∷ listed (codes "expiry-time") (Setting ExpiryTime) Any
    ∷ listed (codes "from") (Setting From) Once
    ∷ listed (codes "permitlisten") (Setting PermitListen) Any
    ∷ listed (codes "permitopen") (Setting PermitOpen) Any
    ∷ listed (codes "principals") (Setting Principals) Once
    ∷ listed (codes "tunnel") (Setting Tunnel) Any
    ∷ []

-- ---- by the option

-- two values of an enum are the same if they are the same variant
abbrev pub same_flag : Flag → Flag → Bool
same_flag = sameb flag_type.the_type

abbrev pub same_value_name : ValueName → ValueName → Bool
same_value_name = sameb value_type.the_type

abbrev pub same_option : LineOption → LineOption → Bool
same_option (Switch a) (Switch b) = same_flag a b
same_option (Setting a) (Setting b) = same_value_name a b
same_option (Switch a) (Setting b) = false
same_option (Setting a) (Switch b) = false

-- the row of an option; every option has one
unfoldable pub option_row : LineOption → Option OptionRow
option_row option = find (λ row. same_option row.option option) options

abbrev pub name_in : Option OptionRow → List ℕ
name_in None = []
name_in (Some row) = row.name

abbrev pub is_once : Times → Bool
is_once Once = true
is_once Any = false

abbrev pub is_single_in : Option OptionRow → Bool
is_single_in None = false
is_single_in (Some row) = is_once row.times

-- the name of a flag, and of an option with a value, as sshd(8) writes it
abbrev pub flag_name : Flag → List ℕ
flag_name flag = name_in (option_row (Switch flag))

abbrev pub value_name : ValueName → List ℕ
value_name value = name_in (option_row (Setting value))

-- whether it may appear only once on a line
abbrev pub is_single : ValueName → Bool
is_single value = is_single_in (option_row (Setting value))

-- ---- by the name

-- names are compared without regard to ASCII case
abbrev pub same_name : List ℕ → List ℕ → Bool
same_name a b = bytes_eq (str_to_ascii_lowercase a) (str_to_ascii_lowercase b)

-- the row with a name
unfoldable pub row_named : List ℕ → Option OptionRow
row_named name = find (λ row. same_name name row.name) options

-- the option with this name
abbrev pub option_named : List ℕ → Option LineOption
option_named name = option_map (λ row. row.option) (row_named name)

-- the flag, or the name of an option with a value, that a name gives
abbrev pub flag_in : LineOption → Option Flag
flag_in (Switch flag) = Some flag
flag_in (Setting value) = None

abbrev pub value_in : LineOption → Option ValueName
value_in (Switch flag) = None
value_in (Setting value) = Some value

abbrev pub flag_named : List ℕ → Option Flag
flag_named name = option_and_then flag_in (option_named name)

abbrev pub value_named : List ℕ → Option ValueName
value_named name = option_and_then value_in (option_named name)
