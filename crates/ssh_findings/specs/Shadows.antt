-- When an entry admits all that another with the same key admits (sshd(8), AUTHORIZED_KEYS FILE FORMAT).
use Rattle.std.specs.Prelude.{◌≡◌, ◌⊎◌, ℕ, true, [], Option, Some, None}
use Rattle.ssh_keys.specs.PublicKey.{key_blob}
use Rattle.ssh_options.specs.declared.option.ValueName.TheVariants.{Command, ExpiryTime, From, Principals}
use Rattle.ssh_options.specs.Settings.{setting, settings}
use Rattle.ssh_entries.specs.AuthEntry.{AuthEntry}
use Rattle.ssh_rules.specs.Admission.{is_authority}
use Rattle.ssh_findings.specs.declared.finding.Finding.{Finding}
use Rattle.ssh_findings.specs.declared.finding.Finding.TheVariants as finding

-- Both have the same key, and both are authorities, or neither is.
pub record IsSame (e d : AuthEntry) : Type 0 where
  pub key : key_blob e.key ≡ key_blob d.key
  pub authority : is_authority e ≡ is_authority d

-- The finding is F3 or F4, and names this line.
abbrev pub NamesFirst : Option Finding → ℕ → Type 0
NamesFirst found n = (found ≡ Some (finding.NeverDecides n)) ⊎ (found ≡ Some (finding.GivesMore n))

-- It has neither a `from` list nor an expiry time. An authority's line also has no forced command and no list of
-- principals.
pub record IsFree (d : AuthEntry) : Type 0 where
  pub source : setting From d.options ≡ None
  pub time : settings ExpiryTime d.options ≡ []
  pub command : is_authority d ≡ true → setting Command d.options ≡ None
  pub principals : is_authority d ≡ true → setting Principals d.options ≡ None
