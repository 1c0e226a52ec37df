-- The option values that are passed on unread, by option (sshd(8), AUTHORIZED_KEYS FILE FORMAT).
use Rattle.std.specs.Prelude.{Bool, true, false, List}
use Rattle.std.specs.List.{list_any}
use Rattle.ssh_rights.specs.declared.rights.Carried.{Carried}
use Rattle.ssh_rights.specs.declared.rights.CarriedName.{CarriedName}
use Rattle.ssh_rights.specs.declared.rights.CarriedName.TheVariants as carried

abbrev pub is_environment_name : CarriedName → Bool
is_environment_name carried.Environment = true
is_environment_name carried.PermitListen = false
is_environment_name carried.PermitOpen = false
is_environment_name carried.Tunnel = false

abbrev pub is_open_name : CarriedName → Bool
is_open_name carried.Environment = false
is_open_name carried.PermitListen = false
is_open_name carried.PermitOpen = true
is_open_name carried.Tunnel = false

abbrev pub is_listen_name : CarriedName → Bool
is_listen_name carried.Environment = false
is_listen_name carried.PermitListen = true
is_listen_name carried.PermitOpen = false
is_listen_name carried.Tunnel = false

abbrev pub is_tunnel_name : CarriedName → Bool
is_tunnel_name carried.Environment = false
is_tunnel_name carried.PermitListen = false
is_tunnel_name carried.PermitOpen = false
is_tunnel_name carried.Tunnel = true

-- the value of an `environment`, a `permitopen`, a `permitlisten` and a `tunnel` option
abbrev pub is_environment : Carried → Bool
is_environment c = is_environment_name c.name

abbrev pub is_open : Carried → Bool
is_open c = is_open_name c.name

abbrev pub is_listen : Carried → Bool
is_listen c = is_listen_name c.name

abbrev pub is_tunnel : Carried → Bool
is_tunnel c = is_tunnel_name c.name

-- the line has a `permitopen` option, and a `permitlisten` option
abbrev pub has_open : List Carried → Bool
has_open texts = list_any is_open texts

abbrev pub has_listen : List Carried → Bool
has_listen texts = list_any is_listen texts
