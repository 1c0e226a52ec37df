-- The reasons that logins and hosts share, as rows of a table of which the first that holds counts.
use Rattle.std.specs.Prelude.{ℕ, Bool, true, false, if◌then◌else◌, List, [], ◌∷◌, Option, Some, None}
use Rattle.ssh_certs.specs.declared.view.Time.{Time}
use Rattle.ssh_certs.specs.declared.view.Time.TheVariants.{Early, Now, Late}
use Rattle.ssh_patterns.specs.declared.list.Permit.{Permit}
use Rattle.ssh_patterns.specs.declared.list.Permit.TheVariants.{Yes, No, Bad}
use Rattle.ssh_offers.specs.Offer.{Offer}
use Rattle.ssh_rules.specs.KeySizes.{has_short_key}
use Rattle.ssh_rules.specs.declared.reason.Mismatch.{Mismatch}
use Rattle.ssh_rules.specs.declared.reason.Mismatch.TheVariants.{OtherKey, Listed}
use Rattle.ssh_rules.specs.declared.reason.Reason.{Reason}
use Rattle.ssh_rules.specs.declared.reason.Reason.TheVariants as reason

-- a row: this reason, under this condition
abbrev pub when : Bool → Reason → Option Mismatch
when b why = if b then Some (Listed why) else None

-- the first row that holds
abbrev pub first_mismatch : List (Option Mismatch) → Option Mismatch
first_mismatch [] = None
first_mismatch (None ∷ rows) = first_mismatch rows
first_mismatch (Some mismatch ∷ rows) = Some mismatch

abbrev pub or_later : Option Mismatch → Option Mismatch → Option Mismatch
or_later None later = later
or_later (Some mismatch) later = Some mismatch

abbrev pub key_row : Bool → Option Mismatch
key_row b = if b then None else Some OtherKey

-- by whether the line is an authority, and whether a certificate is offered
abbrev pub role_row : Bool → Bool → Option Mismatch
role_row true false = Some (Listed reason.AuthorityOnly)
role_row false true = Some (Listed reason.NotAuthority)
role_row true true = None
role_row false false = None

-- by the answer of a list of sources
abbrev pub permit_row : Reason → Reason → Permit → Option Mismatch
permit_row bad refused Yes = None
permit_row bad refused No = Some (Listed refused)
permit_row bad refused Bad = Some (Listed bad)

abbrev pub time_row : Time → Option Mismatch
time_row Early = Some (Listed reason.NotYetValid)
time_row Now = None
time_row Late = Some (Listed reason.NoLongerValid)

-- by the name of a critical option that is not supported
abbrev pub unknown_row : Option (List ℕ) → Option Mismatch
unknown_row None = None
unknown_row (Some name) = Some (Listed (reason.CriticalUnknown name))

-- by the sizes of the RSA keys
abbrev pub size_row : ℕ → Offer → Option Mismatch
size_row bits offer = when (has_short_key bits offer) reason.RsaTooSmall
