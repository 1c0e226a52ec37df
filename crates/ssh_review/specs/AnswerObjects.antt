-- The answer of a trust file to `admits` or `trusts`, and the total of several, as JSON objects (this project's rule).
-- Each is one line.
use Rattle.std.specs.Prelude.{ℕ, Bool, true, false, if◌then◌else◌, List, [], ◌∷◌, ◌++◌, drop, codes, Option, Some, None, Result, Ok, Err}
use Rattle.std.specs.List.{flat_map}
use Rattle.std.specs.Fmt.{decimal}
use Rattle.ssh_text.specs.Text.{lines_of, numbered}
use Rattle.ssh_offers.specs.declared.claim.AuditError.{AuditError}
use Rattle.ssh_offers.specs.declared.claim.Signed.{Signed}
use Rattle.ssh_rights.specs.declared.rights.Carried.{Carried}
use Rattle.ssh_rights.specs.declared.rights.Rights.{Rights}
use Rattle.ssh_rules.specs.declared.reason.Reason.{Reason}
use Rattle.ssh_rules.specs.declared.reason.Reason.TheVariants as reason
use Rattle.ssh_trust.specs.declared.decision.Cause.{Cause}
use Rattle.ssh_trust.specs.declared.decision.Cause.TheVariants as cause
use Rattle.ssh_trust.specs.declared.decision.Decision.{Decision}
use Rattle.ssh_trust.specs.declared.decision.Decision.TheVariants.{Granted, Denied}
use Rattle.ssh_print.specs.AnswerText.{grants}
use Rattle.ssh_print.specs.Codes.{cause_code, fault_codes, line_codes, reason_code}
use Rattle.ssh_print.specs.DecisionText.{carried_word}
use Rattle.ssh_print.specs.OtherLines.{OtherLines}
use Rattle.ssh_print.specs.Strings.{json_text}
use Rattle.ssh_print.specs.declared.admission_text.Subject.{Subject}
use Rattle.ssh_review.specs.Asked.{Asked, asked_fields, total_head}
use Rattle.ssh_review.specs.Fields.{array_field, null_field, number_field, number_or_null, text_field, text_or_null, truth_field}
use Rattle.ssh_review.specs.HostRecords.{print_of}
use Rattle.ssh_review.specs.Objects.{fingerprint_text, rights_in}
use Rattle.ssh_review.specs.declared.record_field.FieldForm.TheVariants.{Member}

-- ---- fields

-- a denial is open if OpenSSH may let the key in
abbrev pub answer_word : Bool → Result Decision AuditError → List ℕ
answer_word may (Ok (Granted line rights reasons evidence)) = codes "granted"
answer_word may (Ok (Denied why reasons evidence)) = if may then codes "open" else codes "denied"
answer_word may (Err e) = codes "fault"

unfoldable pub answer_head : Subject → List ℕ → List ℕ → List ℕ
answer_head who name word =
    codes "{\"file\":" ++ json_text name ++ text_field (codes "what") (codes "answer") ++ text_field (codes "asked") (grants who)
    ++ text_field (codes "answer") word

-- the text of an option that is passed on unread, after its name
abbrev pub carried_element : Carried → List ℕ
carried_element c = codes "," ++ json_text (carried_word c.name ++ codes " " ++ c.text)

unfoldable pub no_rights : List ℕ
no_rights = null_field (codes "rights") ++ null_field (codes "command")

unfoldable pub nothing_carried : List ℕ
nothing_carried = array_field (codes "carry") []

-- what the line lets the key do; there are no rights for a host's key
unfoldable pub answer_rights : Option Rights → List ℕ
answer_rights None = no_rights ++ nothing_carried
answer_rights (Some r) =
    rights_in Member r ++ text_or_null (codes "command") r.command ++ array_field (codes "carry") (flat_map carried_element r.carried)

-- why the key is denied, with the number of the revoking line or of the signature
abbrev pub cause_number : Cause → Option ℕ
cause_number (cause.Revoked n) = Some n
cause_number (cause.RevocationUnreadable n) = Some n
cause_number (cause.NotVouched n) = Some n
cause_number why = None

unfoldable pub answer_cause : Option Cause → List ℕ
answer_cause None = null_field (codes "cause") ++ null_field (codes "number")
answer_cause (Some why) = text_field (codes "cause") (cause_code why) ++ number_or_null (codes "number") (cause_number why)

-- the fingerprint of the key that a line must hold, and whether it is that of the certificate's signer
unfoldable pub answer_key : List Signed → List ℕ
answer_key [] = null_field (codes "key") ++ truth_field (codes "signer") false
answer_key (key ∷ []) = text_field (codes "key") (fingerprint_text (print_of key.key)) ++ truth_field (codes "signer") false
answer_key (key ∷ signer ∷ more) = text_field (codes "key") (fingerprint_text (print_of signer.key)) ++ truth_field (codes "signer") true

-- the code of the fault on the line, or the name of the option
abbrev pub reason_detail : Reason → List ℕ
reason_detail (reason.Unreadable e) = drop 1 (line_codes e)
reason_detail (reason.CriticalUnknown name) = name
reason_detail why = []

-- a line that was passed over, and why
unfoldable pub reason_element : ℕ × Reason → List ℕ
reason_element r =
    codes ",{\"line\":" ++ decimal r.0 ++ text_field (codes "code") (reason_code r.1) ++ text_field (codes "detail") (reason_detail r.1) ++ codes "}"

-- a line of the text, without its indentation
abbrev pub note_element : ℕ × List ℕ → List ℕ
note_element l = codes "," ++ json_text (drop 4 l.1)

-- the lines that the text has after the first ones
unfoldable pub answer_notes : List ℕ → List ℕ
answer_notes text = array_field (codes "notes") (flat_map note_element (numbered 1 (lines_of text)))

-- the line that lets the key in
unfoldable pub answer_line : Option ℕ → List ℕ
answer_line line = number_or_null (codes "line") line

-- the lines that were passed over
unfoldable pub answer_reasons : List (ℕ × Reason) → List ℕ
answer_reasons reasons = array_field (codes "reasons") (flat_map reason_element reasons)

-- ---- objects

abbrev pub decision_fields : Decision → List ℕ
decision_fields (Granted line rights reasons evidence) =
    answer_line (Some line) ++ answer_rights rights ++ answer_cause None ++ answer_key evidence ++ answer_reasons reasons
decision_fields (Denied why reasons evidence) =
    answer_line None ++ answer_rights None ++ answer_cause (Some why) ++ answer_key evidence ++ answer_reasons reasons

abbrev pub answer_fields : Result Decision AuditError → List ℕ
answer_fields (Ok decision) = decision_fields decision
answer_fields (Err e) = answer_line None ++ answer_rights None ++ answer_cause None ++ answer_key [] ++ answer_reasons []

abbrev pub answer_fault : Result Decision AuditError → List ℕ
answer_fault (Ok decision) = null_field (codes "fault")
answer_fault (Err e) = text_field (codes "fault") (drop 1 (fault_codes e))

unfoldable pub answer_object : Subject → List ℕ → OtherLines → Result Decision AuditError → List ℕ
answer_object who name other answer =
    answer_head who name (answer_word other.may_admit answer) ++ answer_fields answer ++ answer_notes other.text ++ answer_fault answer ++ codes "}\n"

-- when the files were asked, their number, and the status
unfoldable pub answer_total : Subject → Asked → ℕ → ℕ → List ℕ
answer_total who asked files status =
    total_head ++ text_field (codes "asked") (grants who) ++ asked_fields asked
    ++ number_field (codes "files") files ++ number_field (codes "status") status ++ codes "}\n"
