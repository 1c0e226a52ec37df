-- The model of a `Client`.
use Rattle.std.specs.Prelude.{option_copied}
use Rattle.jiff.specs.Words.{plain_zone}
use Rattle.ssh_program.specs.declared.client.Client.{Client}
use Rattle.ssh_program.specs.Clients.{ClientOptions}

abbrev pub client_seen : Client → ClientOptions
client_seen c = record {
  user = c.user.now;
  host = option_copied c.host;
  address = c.address.now;
  now = c.time;
  zone = plain_zone c.zone;
  rule = c.rule.now;
  empty_principals = c.empty_principals;
  rsa_minimum = c.rsa_minimum;
  form = c.form;
}
