-- Which rights are on after a walk through some options of a line.
use Rattle.std.specs.Prelude.{List}
use Rattle.ssh_options.specs.AuthOption.{AuthOption}
use Rattle.ssh_rights.specs.Rights.{last_word}
use Rattle.ssh_rights.specs.declared.rights.Right.TheVariants.{Port, Agent, X11, Pty, UserRc}
use Rattle.ssh_rights.specs.declared.rights.RightsOn.{RightsOn}

-- after further options
abbrev pub on_after : RightsOn → List AuthOption → RightsOn
on_after before options = record {
  port = last_word Port before.port options;
  agent = last_word Agent before.agent options;
  x11 = last_word X11 before.x11 options;
  pty = last_word Pty before.pty options;
  user_rc = last_word UserRc before.user_rc options;
}
