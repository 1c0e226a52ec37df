-- The first line of a file that admits a login, and the first of those that OpenSSH 9.2 has no known reason to refuse.
use Rattle.std.specs.Prelude.{ℕ, Bool, ◌&&◌, if◌then◌else◌, List, [], ◌∷◌, Option, Some, None}
use Rattle.ssh_entries.specs.AuthEntry.{AuthEntry}
use Rattle.ssh_offers.specs.LoginClaim.{LoginClaim}
use Rattle.ssh_rights.specs.Rights.{rights_of}
use Rattle.ssh_rules.specs.declared.admission.LineVerdict.{LineVerdict}
use Rattle.ssh_rules.specs.declared.admission.LineVerdict.TheVariants.{Admits, Skips}
use Rattle.ssh_trust.specs.LoginDecision.{line_verdict}
use Rattle.ssh_findings.specs.Facts.{facts_of}
use Rattle.ssh_findings.specs.OpenSsh.{may_refuse}
use Rattle.ssh_text.specs.Text.{lines_of, numbered}
use Rattle.ssh_print.specs.declared.asked_key.Admitting.{Admitting}
use Rattle.ssh_print.specs.PassedLines.{line_from}

-- the facts of a line that admits, and the rights that it grants
abbrev pub admitting_by : LoginClaim → LineVerdict AuthEntry → Option Admitting
admitting_by claim (Admits e) = Some (record { facts = facts_of claim.query.zone e; rights = Some (rights_of e claim.offer) })
admitting_by claim (Skips reason) = None

unfoldable pub line_admitting : LoginClaim → List ℕ → Option Admitting
line_admitting claim line = admitting_by claim (line_verdict claim line)

-- with `firm`, without a line that OpenSSH has a known reason to refuse
abbrev pub counted : Bool → Option Admitting → Option Admitting
counted firm None = None
counted firm (Some a) = if firm && may_refuse a.facts then None else Some a

abbrev pub or_later : ℕ → Option Admitting → Option (ℕ × Admitting) → Option (ℕ × Admitting)
or_later n None later = later
or_later n (Some a) later = Some (n, a)

-- the first of these lines that admits, with its number; with `firm`, the first that OpenSSH has no known reason to
-- refuse
abbrev pub first_line : LoginClaim → Bool → List (ℕ × List ℕ) → Option (ℕ × Admitting)
first_line claim firm [] = None
first_line claim firm (l ∷ lines) = or_later l.0 (counted firm (line_admitting claim l.1)) (first_line claim firm lines)

-- the line of a file with this number, if it admits
unfoldable pub admitting_at : LoginClaim → ℕ → List ℕ → Option (ℕ × Admitting)
admitting_at claim n file = or_later n (line_admitting claim (line_from n (numbered 1 (lines_of file)))) None
