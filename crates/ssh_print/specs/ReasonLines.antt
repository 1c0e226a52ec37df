-- The lines of an authorized_keys file by which OpenSSH may admit a key, told by the reasons of the decision on that file.
-- Each line that does not admit has one, unless it has no key or another key; and OpenSSH reads another key as the one
-- that is wanted only where that is a security key (this project's rule).
use Rattle.std.specs.Prelude.{ℕ, nat_lt, ◌&&◌, Bool, true, not, if◌then◌else◌, List, [], ◌∷◌, ◌++◌, length, is_some, Option, Some, None}
use Rattle.ssh_text.specs.Text.{lines_of, numbered}
use Rattle.ssh_keys.specs.PublicKey.{kind_of}
use Rattle.ssh_findings.specs.EntryFindings.{is_security_key}
use Rattle.ssh_offers.specs.LoginClaim.{LoginClaim}
use Rattle.ssh_offers.specs.Offer.{subject}
use Rattle.ssh_rules.specs.declared.reason.Reason.{Reason}
use Rattle.ssh_trust.specs.Candidate.{reason_limit}
use Rattle.ssh_trust.specs.declared.decision.Cause.{Cause}
use Rattle.ssh_trust.specs.declared.decision.Cause.TheVariants.{Revoked, RevocationUnreadable, NoLine, TouchMissing, VerifyMissing, NotVouched}
use Rattle.ssh_trust.specs.declared.decision.Decision.{Decision}
use Rattle.ssh_trust.specs.declared.decision.Decision.TheVariants.{Granted, Denied}
use Rattle.ssh_print.specs.declared.possible.WhyPossible.{WhyPossible}
use Rattle.ssh_print.specs.Admitting.{admitting_at, first_line}
use Rattle.ssh_print.specs.Details.{login_details}
use Rattle.ssh_print.specs.OtherLines.{OtherLines, lines_other, other_both, other_cause, possible_other, refused_by, reported_other}
use Rattle.ssh_print.specs.PassedLines.{line_from, lines_after}
use Rattle.ssh_print.specs.PossibleLines.{why_by_reason, with_line}

-- the key that a line must hold is a security key
abbrev pub seeks_security_key : LoginClaim → Bool
seeks_security_key claim = is_security_key (kind_of (subject claim.offer))

-- fewer reasons are listed than may be, so these are all
abbrev pub are_all_listed : List (ℕ × Reason) → Bool
are_all_listed reasons = nat_lt (length reasons) reason_limit

-- by the reasons of a decision one can tell all such lines
abbrev pub reasons_suffice : LoginClaim → List (ℕ × Reason) → Bool
reasons_suffice claim reasons = are_all_listed reasons && not (seeks_security_key claim)

-- those of these lines that have one of these reasons, which come in the order of the lines
abbrev pub possible_by : LoginClaim → List (ℕ × List ℕ) → List (ℕ × Reason) → List (ℕ × WhyPossible)
possible_by claim lines [] = []
possible_by claim lines (r ∷ reasons) =
    with_line r.0 (why_by_reason claim (line_from r.0 lines) (Some r.1)) [] ++ possible_by claim (lines_after r.0 lines) reasons

-- of the lines of a file that a decision passed over for these reasons: all lines, or those before one
unfoldable pub possible_beside : LoginClaim → Option ℕ → List ℕ → List (ℕ × Reason) → OtherLines
possible_beside claim before file reasons =
    if reasons_suffice claim reasons then lines_other (is_some before) (possible_by claim (numbered 1 (lines_of file)) reasons)
    else possible_other claim before file

-- only where no line admits, all lines were passed over
abbrev pub denied_possible : LoginClaim → List ℕ → Cause → List (ℕ × Reason) → OtherLines
denied_possible claim file NoLine reasons = possible_beside claim None file reasons
denied_possible claim file TouchMissing reasons = possible_other claim None file
denied_possible claim file VerifyMissing reasons = possible_other claim None file
denied_possible claim file (NotVouched index) reasons = possible_other claim None file
denied_possible claim file (Revoked n) reasons = possible_other claim None file
denied_possible claim file (RevocationUnreadable n) reasons = possible_other claim None file

-- what OpenSSH may do by the first line that admits, which has this number
abbrev pub refused_at : LoginClaim → ℕ → List ℕ → OtherLines
refused_at claim line file = refused_by (admitting_at claim line file) (first_line claim true (numbered 1 (lines_of file)))

-- `login_other` of the decision on this file
abbrev pub login_beside : LoginClaim → List ℕ → Decision → OtherLines
login_beside claim file (Granted line rights reasons evidence) =
    other_both (possible_beside claim (Some line) file reasons) (refused_at claim line file)
login_beside claim file (Denied why reasons evidence) =
    other_both (denied_possible claim file why reasons) (other_cause claim file why)

-- `other_login` of it
abbrev pub beside_login : LoginClaim → List ℕ → Decision → OtherLines
beside_login claim file decision = other_both (reported_other (login_details claim file decision)) (login_beside claim file decision)
