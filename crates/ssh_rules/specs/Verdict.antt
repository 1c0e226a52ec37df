-- The verdict of a line of an authorized_keys file on a login.
use Rattle.std.specs.Prelude.{Option, Some, None}
use Rattle.ssh_entries.specs.AuthEntry.{AuthEntry}
use Rattle.ssh_entries.specs.declared.auth_line.AuthLine.{AuthLine}
use Rattle.ssh_entries.specs.declared.auth_line.AuthLine.TheVariants.{Blank, Comment, Entry, Unreadable}
use Rattle.ssh_offers.specs.LoginClaim.{LoginClaim}
use Rattle.ssh_rules.specs.declared.reason.Mismatch.{Mismatch}
use Rattle.ssh_rules.specs.declared.reason.Mismatch.TheVariants.{OtherHost, OtherKey, Listed}
use Rattle.ssh_rules.specs.declared.reason.Reason.{Reason}
use Rattle.ssh_rules.specs.declared.reason.Reason.TheVariants as reason
use Rattle.ssh_rules.specs.declared.admission.LineVerdict.{LineVerdict}
use Rattle.ssh_rules.specs.declared.admission.LineVerdict.TheVariants.{Admits, Skips}
use Rattle.ssh_rules.specs.Admission.{login_mismatch}

-- the reason that is listed for a mismatch; an entry about another key or another host has none
abbrev pub listed_reason : Mismatch → Option Reason
listed_reason OtherKey = None
listed_reason OtherHost = None
listed_reason (Listed why) = Some why

-- the verdict by the mismatch of an entry, if any
abbrev pub verdict_by : {E : Type 0} → Option Mismatch → E → LineVerdict E
verdict_by None e = Admits e
verdict_by (Some mismatch) e = Skips (listed_reason mismatch)

-- An entry admits the login, or has a reason why not; a line that cannot be read has one too.
abbrev pub login_verdict : LoginClaim → AuthLine → LineVerdict AuthEntry
login_verdict claim Blank = Skips None
login_verdict claim Comment = Skips None
login_verdict claim (Entry e) = verdict_by (login_mismatch e claim) e
login_verdict claim (Unreadable why) = Skips (Some (reason.Unreadable why))
