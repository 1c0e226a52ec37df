-- Which verdicts may need memory: those that share the name of a critical option, and those that copy a value whose
-- quote the line escapes.
use Rattle.std.specs.Prelude.{ℕ, Bool, true, false, not, ◌&&◌, ◌||◌, List, Option, Some, None}
use Rattle.std.specs.List.{list_any}
use Rattle.std.specs.Str.{bytes_eq}
use Rattle.ssh_keys.specs.PublicKey.{key_blob}
use Rattle.ssh_entries.specs.AuthEntry.{AuthEntry}
use Rattle.ssh_entries.specs.declared.auth_line.AuthLine.{AuthLine}
use Rattle.ssh_entries.specs.declared.auth_line.AuthLine.TheVariants.{Blank, Comment, Entry, Unreadable}
use Rattle.ssh_offers.specs.LoginClaim.{LoginClaim}
use Rattle.ssh_offers.specs.Offer.{is_certified, subject}
use Rattle.ssh_options.specs.declared.option.ValueName.TheVariants.{ExpiryTime, From, Principals}
use Rattle.ssh_options.specs.OptionsInPlace.{has_quote}
use Rattle.ssh_options.specs.Settings.{setting, settings}
use Rattle.ssh_rules.specs.Admission.{is_authority}
use Rattle.ssh_rules.specs.declared.reason.Mismatch.{Mismatch}
use Rattle.ssh_rules.specs.declared.reason.Reason.{Reason}
use Rattle.ssh_rules.specs.declared.reason.Reason.TheVariants.{CriticalUnknown}
use Rattle.ssh_rules.specs.declared.admission.LineVerdict.{LineVerdict}
use Rattle.ssh_rules.specs.declared.admission.LineVerdict.TheVariants.{Admits, Skips}
use Rattle.ssh_rules.specs.Verdict.{listed_reason, login_verdict}

-- the reason names a critical option
abbrev pub names_option : Option Reason → Bool
names_option None = false
names_option (Some (CriticalUnknown name)) = true
names_option (Some why) = false

-- the verdict holds such a name
abbrev pub owns_name : {E : Type 0} → LineVerdict E → Bool
owns_name (Admits e) = false
owns_name (Skips why) = names_option why

-- the same for a mismatch
abbrev pub is_named : Option Mismatch → Bool
is_named None = false
is_named (Some mismatch) = names_option (listed_reason mismatch)

-- a quote is in the value, if there is one
abbrev pub is_escaped : Option (List ℕ) → Bool
is_escaped None = false
is_escaped (Some value) = has_quote value

-- a value of the line that a login reads has a quote, which the line escapes
abbrev pub has_escaped : AuthEntry → Bool
has_escaped e = list_any has_quote (settings ExpiryTime e.options) || (is_escaped (setting From e.options) || is_escaped (setting Principals e.options))

-- a line that is an authority is for certificates, and any other is not
abbrev pub is_in_role : (authority certified : Bool) → Bool
is_in_role true certified = certified
is_in_role false certified = not certified

-- the entry has the key that is looked for, and is an authority exactly where a certificate is offered
abbrev pub is_about : AuthEntry → LoginClaim → Bool
is_about e claim = bytes_eq (key_blob e.key) (key_blob (subject claim.offer)) && is_in_role (is_authority e) (is_certified claim.offer)

-- whether the verdict of the line may need memory
abbrev pub needs_memory : LoginClaim → AuthLine → Bool
needs_memory claim Blank = false
needs_memory claim Comment = false
needs_memory claim (Entry e) = is_about e claim && (has_escaped e || owns_name (login_verdict claim (Entry e)))
needs_memory claim (Unreadable why) = false
