-- The first lines of the printed answer of a trust file to `admits` or `trusts` (this project's rule). Each ends with an
-- LF.
use Rattle.std.specs.Prelude.{◌++◌, [], ◌∷◌, ℕ, List, Option, Some, None, Result, Ok, Err, codes}
use Rattle.std.specs.Fmt.{decimal}
use Rattle.sha2.specs.Sha256.{sha256}
use Rattle.ssh_print.specs.Table.{CodeRow, row_of}
use Rattle.ssh_keys.specs.Fingerprint.{digest_text_of}
use Rattle.ssh_offers.specs.declared.claim.AuditError.{AuditError}
use Rattle.ssh_offers.specs.declared.claim.Signed.{Signed}
use Rattle.ssh_print.specs.Codes.{cause_code, cause_codes, fault_codes, line_code, reason_code}
use Rattle.ssh_print.specs.DecisionText.{rights_lines}
use Rattle.ssh_print.specs.Texts.{escaped_text}
use Rattle.ssh_rules.specs.declared.reason.Reason.{Reason}
use Rattle.ssh_rules.specs.declared.reason.Reason.TheVariants.{Unreadable}
use Rattle.ssh_trust.specs.declared.decision.Cause.{Cause}
use Rattle.ssh_trust.specs.declared.decision.Cause.TheVariants.{NoLine}
use Rattle.ssh_trust.specs.declared.decision.Decision.{Decision}
use Rattle.ssh_trust.specs.declared.decision.Decision.TheVariants.{Granted, Denied}
use Rattle.ssh_print.specs.declared.admission_text.Subject.{Subject}
use Rattle.ssh_print.specs.declared.admission_text.Subject.TheVariants.{Client, Host}

-- ---- words

-- what a file does that grants
abbrev pub grants : Subject → List ℕ
grants Client = codes "admits"
grants Host = codes "trusts"

-- what a file does that denies
abbrev pub denies : Subject → List ℕ
denies Client = codes "does not admit"
denies Host = codes "does not trust"

-- whose signature has to be good
abbrev pub owner_word : Subject → List ℕ
owner_word Client = codes "client"
owner_word Host = codes "host"

-- for a certificate the signature of its signer has to be good too
abbrev pub good_signatures : List Signed → List ℕ
good_signatures (key ∷ signer ∷ more) = codes "'s and the signer's signatures are good"
good_signatures evidence = codes "'s signature is good"

-- ---- sentences

abbrev pub sentence_in : Option CodeRow → List ℕ
sentence_in None = []
sentence_in (Some row) = row.sentence

-- the sentence that the table has for a code
abbrev pub sentence : List ℕ → List ℕ
sentence code = sentence_in (row_of code)

-- the sentence for a reason; for a line that cannot be read, the one of its fault
abbrev pub reason_sentence : Reason → List ℕ
reason_sentence (Unreadable cause) = sentence (line_code cause)
reason_sentence reason = sentence (reason_code reason)

-- ---- lines

-- the indentation of all lines but the first
abbrev pub indent : List ℕ
indent = codes "    "

-- the key that a line must hold: the last of the evidence, which is the signer's for a certificate
abbrev pub wanted_key : List Signed → List ℕ
wanted_key [] = []
wanted_key (key ∷ []) = key.key
wanted_key (key ∷ signer ∷ more) = signer.key

abbrev pub wanted_words : List Signed → List ℕ
wanted_words (key ∷ signer ∷ more) = codes "looked for the certificate's signer SHA256:"
wanted_words evidence = codes "looked for SHA256:"

-- the fingerprint of that key
abbrev pub fingerprint_line : List Signed → List ℕ
fingerprint_line evidence = indent ++ wanted_words evidence ++ digest_text_of (sha256 (wanted_key evidence)) ++ codes "\n"

-- if no line admits, the key that was looked for
abbrev pub wanted_line : Cause → List Signed → List ℕ
wanted_line NoLine evidence = fingerprint_line evidence
wanted_line why evidence = []

-- ---- answers

abbrev pub granted_line : Subject → ℕ → List Signed → List ℕ
granted_line who line evidence = grants who ++ codes " by line " ++ decimal line ++ codes ", if the " ++ owner_word who ++ good_signatures evidence ++ codes "\n"

abbrev pub denied_line : Subject → Cause → List ℕ
denied_line who why = denies who ++ codes ":" ++ cause_codes why ++ codes ": " ++ sentence (cause_code why) ++ codes "\n"

abbrev pub fault_line : AuditError → List ℕ
fault_line e = codes "fault" ++ fault_codes e ++ codes "\n"

abbrev pub decision_lines : Subject → Decision → List ℕ
decision_lines who (Granted line rights reasons evidence) = granted_line who line evidence ++ rights_lines indent rights
decision_lines who (Denied why reasons evidence) = denied_line who why ++ wanted_line why evidence

-- the lines of an answer, or of the fault in its place
abbrev pub answer_lines : Subject → Result Decision AuditError → List ℕ
answer_lines who (Ok decision) = decision_lines who decision
answer_lines who (Err e) = fault_line e

-- the same after the name of the file
abbrev pub answer_text : Subject → List ℕ → Result Decision AuditError → List ℕ
answer_text who name answer = escaped_text name ++ codes ": " ++ answer_lines who answer
