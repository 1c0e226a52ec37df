-- The options of a line that most questions ask for, after a walk through some of them.
use Rattle.std.specs.Prelude.{◌||◌, List, is_some}
use Rattle.std.specs.Option.{option_or}
use Rattle.ssh_options.specs.AuthOption.{AuthOption}
use Rattle.ssh_options.specs.Settings.{has_flag, setting}
use Rattle.ssh_options.specs.declared.line_options.LineOptions.{LineOptions}
use Rattle.ssh_options.specs.declared.option.Flag.TheVariants.{CertAuthority, NoTouchRequired, VerifyRequired}
use Rattle.ssh_options.specs.declared.option.ValueName.TheVariants.{Command, ExpiryTime, From, Principals}

-- after further options; what was found first stays
abbrev pub noted_after : LineOptions → List AuthOption → LineOptions
noted_after before options = record {
  authority = before.authority || has_flag CertAuthority options;
  no_touch_required = before.no_touch_required || has_flag NoTouchRequired options;
  verify_required = before.verify_required || has_flag VerifyRequired options;
  from = option_or before.from (setting From options);
  principals = option_or before.principals (setting Principals options);
  command = option_or before.command (setting Command options);
  expires = before.expires || is_some (setting ExpiryTime options);
}
