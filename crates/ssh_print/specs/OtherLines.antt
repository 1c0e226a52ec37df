-- What is printed beside the answer on an authorized_keys file: the lines by which OpenSSH may decide differently (this
-- project's rule). Each ends with an LF.
use Rattle.std.specs.Prelude.{ℕ, nat_lt, Bool, true, false, ◌||◌, if◌then◌else◌, List, [], ◌++◌, length, take, codes, is_some, Option, Some, None}
use Rattle.std.specs.List.{flat_map}
use Rattle.std.specs.Fmt.{decimal}
use Rattle.ssh_text.specs.Text.{lines_of, numbered}
use Rattle.ssh_keys.specs.PublicKey.{kind_of}
use Rattle.ssh_findings.specs.declared.facts.Facts.{Facts}
use Rattle.ssh_findings.specs.declared.openssh.Ground.{Ground}
use Rattle.ssh_findings.specs.Ground.{ground_word}
use Rattle.ssh_findings.specs.EntryFindings.{is_security_key}
use Rattle.ssh_findings.specs.OpenSsh.{all_grounds, has_ground, has_plain_principals, may_refuse}
use Rattle.ssh_offers.specs.LoginClaim.{LoginClaim}
use Rattle.ssh_offers.specs.Offer.{plain_key}
use Rattle.ssh_print.specs.DecisionText.{rights_lines}
use Rattle.ssh_rights.specs.declared.rights.Rights.{Rights}
use Rattle.ssh_trust.specs.declared.decision.Cause.{Cause}
use Rattle.ssh_trust.specs.declared.decision.Cause.TheVariants.{Revoked, RevocationUnreadable, NoLine, TouchMissing, VerifyMissing, NotVouched}
use Rattle.ssh_trust.specs.declared.decision.Decision.{Decision}
use Rattle.ssh_trust.specs.declared.decision.Decision.TheVariants.{Granted, Denied}
use Rattle.ssh_print.specs.declared.asked_key.Admitting.{Admitting}
use Rattle.ssh_print.specs.declared.otherwise.Otherwise.{Otherwise}
use Rattle.ssh_print.specs.declared.admission_text.Subject.{Subject}
use Rattle.ssh_print.specs.declared.admission_text.Subject.TheVariants.{Client, Host}
use Rattle.ssh_print.specs.declared.possible.WhyPossible.{WhyPossible}
use Rattle.ssh_print.specs.declared.possible.WhyPossible.TheVariants as why
use Rattle.ssh_print.specs.Admitting.{first_line}
use Rattle.ssh_print.specs.AnswerText.{indent}
use Rattle.ssh_print.specs.Details.{login_details}
use Rattle.ssh_print.specs.PossibleLines.{possible_lines, possible_words, unreported_lines}

-- lines, and whether OpenSSH may admit, by one of them, what is not admitted here
pub record OtherLines : Type 0 where
  pub may_admit : Bool
  pub text : List ℕ

abbrev pub otherwise_seen : Otherwise → OtherLines
otherwise_seen o = record { may_admit = o.may_admit; text = o.text.items }

abbrev pub nothing_other : OtherLines
nothing_other = record { may_admit = false; text = [] }

abbrev pub other_both : OtherLines → OtherLines → OtherLines
other_both a b = record { may_admit = a.may_admit || b.may_admit; text = a.text ++ b.text }

-- ---- lines that may admit

-- a line before the one that admits here comes first for OpenSSH
abbrev pub order_word : Bool → List ℕ
order_word true = codes " first: "
order_word false = codes ": "

abbrev pub may_words : Subject → List ℕ
may_words Client = codes "OpenSSH may let it in by line "
may_words Host = codes "ssh may trust it by line "

abbrev pub possible_line : Subject → Bool → ℕ × WhyPossible → List ℕ
possible_line who first l =
    indent ++ may_words who ++ decimal l.0 ++ order_word first ++ possible_words l.1 ++ codes "\n"

-- if there are more lines than are listed
abbrev pub more_line : Bool → List ℕ
more_line true = indent ++ codes ".. and more\n"
more_line false = []

-- the first 100 lines
abbrev pub possible_text : Subject → Bool → List (ℕ × WhyPossible) → List ℕ
possible_text who first lines = flat_map (possible_line who first) (take 100 lines) ++ more_line (nat_lt 100 (length lines))

-- these lines of an authorized_keys file
abbrev pub lines_other : Bool → List (ℕ × WhyPossible) → OtherLines
lines_other first lines = record { may_admit = nat_lt 0 (length lines); text = possible_text Client first lines }

-- of all lines of a file, or of those before one
unfoldable pub possible_other : LoginClaim → Option ℕ → List ℕ → OtherLines
possible_other claim before file = lines_other (is_some before) (take 101 (possible_lines claim before (numbered 1 (lines_of file))))

-- the lines of a file by which OpenSSH may admit any key
unfoldable pub unreported_other : List ℕ → OtherLines
unreported_other file = lines_other false (take 101 (unreported_lines (numbered 1 (lines_of file))))

-- ---- a line that OpenSSH may refuse

abbrev pub principals_word : Bool → List ℕ
principals_word true = codes " principals"
principals_word false = []

abbrev pub ground_text : Facts → Ground → List ℕ
ground_text facts g = if has_ground facts g then codes " " ++ ground_word g else []

-- the words of the reasons, each after a space
unfoldable pub grounds_text : Facts → List ℕ
grounds_text facts = principals_word (has_plain_principals facts) ++ flat_map (ground_text facts) all_grounds

-- the line that decides if OpenSSH refuses those that it may refuse, with its rights
unfoldable pub line_word : List ℕ
line_word = codes "line "

unfoldable pub decides_words : List ℕ
decides_words = codes " decides then"

abbrev pub decides_line : ℕ → List ℕ
decides_line n = indent ++ line_word ++ decimal n ++ decides_words ++ codes "\n"

unfoldable pub deeper_rights : Option Rights → List ℕ
deeper_rights rights = rights_lines (codes "        ") rights

abbrev pub decides_lines : ℕ → Option Rights → List ℕ
decides_lines n rights = decides_line n ++ deeper_rights rights

abbrev pub then_lines : Option (ℕ × Admitting) → List ℕ
then_lines None = codes "    no other line admits it\n"
then_lines (Some l) = decides_lines l.0 (l.1).rights

unfoldable pub refused_lines : ℕ → Facts → Option (ℕ × Admitting) → List ℕ
refused_lines n facts firm = indent ++ codes "OpenSSH may refuse line " ++ decimal n ++ codes ":" ++ grounds_text facts ++ codes "\n" ++ then_lines firm

-- by the first line that admits, and the first of those that OpenSSH has no known reason to refuse
abbrev pub refused_by : Option (ℕ × Admitting) → Option (ℕ × Admitting) → OtherLines
refused_by None firm = nothing_other
refused_by (Some (n, a)) firm =
    if may_refuse a.facts then (record { may_admit = is_some firm; text = refused_lines n a.facts firm }) else nothing_other

-- OpenSSH skips a line that it refuses, and the next one that admits decides (auth2-pubkeyfile.c,
-- auth_check_authkeys_file)
unfoldable pub refused_other : LoginClaim → List ℕ → OtherLines
refused_other claim file =
    refused_by (first_line claim false (numbered 1 (lines_of file))) (first_line claim true (numbered 1 (lines_of file)))

-- ---- verify-required

abbrev pub ignored_at : Option (ℕ × Admitting) → OtherLines
ignored_at None = nothing_other
ignored_at (Some (n, a)) = record { may_admit = true; text = possible_line Client false (n, why.VerifyRequired) }

abbrev pub ignored_of : Bool → Option (ℕ × Admitting) → OtherLines
ignored_of true first = nothing_other
ignored_of false first = ignored_at first

-- for a key that is not a security key OpenSSH requires no user verification (auth2-pubkey.c, userauth_pubkey)
abbrev pub ignored_other : LoginClaim → List ℕ → Cause → OtherLines
ignored_other claim file VerifyMissing =
    ignored_of (is_security_key (kind_of (plain_key claim.offer))) (first_line claim false (numbered 1 (lines_of file)))
ignored_other claim file TouchMissing = nothing_other
ignored_other claim file NoLine = nothing_other
ignored_other claim file (NotVouched index) = nothing_other
ignored_other claim file (Revoked n) = nothing_other
ignored_other claim file (RevocationUnreadable n) = nothing_other

-- for a denial although some line admits
abbrev pub other_cause : LoginClaim → List ℕ → Cause → OtherLines
other_cause claim file NoLine = nothing_other
other_cause claim file VerifyMissing = other_both (ignored_other claim file VerifyMissing) (refused_other claim file)
other_cause claim file TouchMissing = other_both (ignored_other claim file TouchMissing) (refused_other claim file)
other_cause claim file (NotVouched index) = other_both (ignored_other claim file (NotVouched index)) (refused_other claim file)
other_cause claim file (Revoked n) = other_both (ignored_other claim file (Revoked n)) (refused_other claim file)
other_cause claim file (RevocationUnreadable n) = other_both (ignored_other claim file (RevocationUnreadable n)) (refused_other claim file)

-- ---- a login

-- what is printed beside a decision on a login by this file: for a denial all lines that may admit, for a grant those
-- before its line
unfoldable pub login_other : LoginClaim → List ℕ → Decision → OtherLines
login_other claim file (Granted line rights reasons evidence) =
    other_both (possible_other claim (Some line) file) (refused_other claim file)
login_other claim file (Denied why reasons evidence) =
    other_both (possible_other claim None file) (other_cause claim file why)

-- lines by which nobody is let in
abbrev pub reported_other : List ℕ → OtherLines
reported_other text = record { may_admit = false; text = text }

-- after the details of the decision
abbrev pub other_login : LoginClaim → List ℕ → Decision → OtherLines
other_login claim file decision = other_both (reported_other (login_details claim file decision)) (login_other claim file decision)
