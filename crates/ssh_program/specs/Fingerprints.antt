-- The answers of trust files about the key of a fingerprint, which is the first key of it that each file holds (this
-- project's rule).
use Rattle.std.specs.Prelude.{◌≡◌, ◌++◌, ℕ, if◌then◌else◌, List, [], length, nat_lt, Option, Some, None, option_map, Result, Ok, Err}
use Rattle.ssh_patterns.specs.declared.address.Address.{Address as AddressValue}
use Rattle.ssh_patterns.specs.AddressReading.{address_of}
use Rattle.ssh_text.specs.Text.{file_limit}
use Rattle.ssh_offers.specs.declared.claim.AuditError.{AuditError}
use Rattle.ssh_offers.specs.declared.claim.AuditError.TheVariants.{Address, FileTooLong, Read}
use Rattle.ssh_offers.specs.declared.claim.Signed.{Signed}
use Rattle.ssh_trust.specs.declared.decision.Cause.TheVariants.{NoLine}
use Rattle.ssh_trust.specs.declared.decision.Decision.TheVariants.{Denied}
use Rattle.ssh_files.specs.SourceState.{SourceState, bytes_of}
use Rattle.ssh_files.specs.Loading.{NoReadFailed}
use Rattle.ssh_files.specs.FilesInTurn.{Telling, TellsFiles}
use Rattle.ssh_files.specs.declared.read.ReadError.{ReadError}
use Rattle.ssh_files.specs.declared.read.ReadError.TheVariants as read
use Rattle.ssh_print.specs.FingerprintKeys.{absent_text, found_key, offered_key}
use Rattle.ssh_print.specs.Offering.{Offered}
use Rattle.ssh_print.specs.OtherLines.{OtherLines, nothing_other, unreported_other}
use Rattle.ssh_print.specs.Responses.{Response, refused_response}
use Rattle.ssh_print.specs.declared.admission_text.Subject.TheVariants.{Client}
use Rattle.ssh_program.specs.declared.decision_form.DecisionForm.{DecisionForm}
use Rattle.ssh_program.specs.declared.decision_form.DecisionForm.TheVariants.{Text, Json}
use Rattle.ssh_review.specs.AnswerObjects.{answer_object}
use Rattle.ssh_program.specs.declared.admission.AnswerForm.{AnswerForm}
use Rattle.ssh_program.specs.Admissions.{KeyAsking, Otherness, ReportedLines, denied_outcome, nothing_reported, reported_both, reported_by, reported_of, reported_response}
use Rattle.ssh_program.specs.Audits.{Deciding}
use Rattle.ssh_program.specs.Clients.{ClientOptions, client_asks, client_form, client_moment}

-- ---- a file that holds the key

-- the answer of the file with these bytes, where all evidence is vouched for; or the refusal of the offer
abbrev pub reported_alone_by : AnswerForm → Deciding → Otherness → Result (List Signed) AuditError → List ℕ → List ℕ → ReportedLines
reported_alone_by who by beside (Err e) name file = reported_of who name nothing_other (Err e)
reported_alone_by who by beside (Ok evidence) name file = reported_by who by beside evidence name file

abbrev pub reported_alone : KeyAsking → List ℕ → List ℕ → ReportedLines
reported_alone a name file = reported_alone_by a.who a.by a.beside a.rests_on name file

-- ---- a file that holds none

-- no line admits the key, and no key was looked for
abbrev pub absent_in : DecisionForm → List ℕ → OtherLines → List ℕ
absent_in Text name other = absent_text name ++ other.text
absent_in Json name other = answer_object Client name other (Ok (Denied NoLine [] []))

abbrev pub reported_absent : DecisionForm → List ℕ → OtherLines → ReportedLines
reported_absent form name other = record { outcome = denied_outcome other.may_admit; text = absent_in form name other }

-- ---- files

-- by the key that was found in it
abbrev pub reported_found : ClientOptions → List ℕ → List ℕ → Option Offered → ReportedLines
reported_found client name file None = reported_absent client.form name (unreported_other file)
reported_found client name file (Some offer) = reported_alone (client_asks client offer) name file

abbrev pub reported_fault : DecisionForm → List ℕ → AuditError → ReportedLines
reported_fault form name e = reported_of (client_form form) name nothing_other (Err e)

-- of the file of this name, which may be missing or too long
abbrev pub fingerprint_reported : ClientOptions → List ℕ → List ℕ → Option (List ℕ) → ReportedLines
fingerprint_reported client digest name None = reported_fault client.form name Read
fingerprint_reported client digest name (Some file) =
    if nat_lt file_limit (length file) then reported_fault client.form name FileTooLong
    else reported_found client name file (option_map offered_key (found_key digest file))

abbrev pub fingerprint_telling : ClientOptions → List ℕ → Telling (List ℕ) ReportedLines
fingerprint_telling client digest = record {
  path = λ name. name;
  of_bytes = λ name given. fingerprint_reported client digest name (bytes_of given);
  of_fault = λ name cause. reported_fault client.form name Read;
}

-- the answer of a file whose bytes could not be had, where memory could be allocated
abbrev pub IsUnreadFile : DecisionForm → List ℕ → ReadError → ReportedLines → Type 0
IsUnreadFile form name read.Memory reported = ⊥
IsUnreadFile form name read.Missing reported = reported ≡ reported_fault form name Read
IsUnreadFile form name read.TooLong reported = reported ≡ reported_fault form name FileTooLong
IsUnreadFile form name read.Failed reported = reported ≡ reported_fault form name Read

-- a text that is no address is reported before any file is read
abbrev pub AsksFound : Option AddressValue → ClientOptions → List ℕ → List (List ℕ) → SourceState → Option SourceState → Response → Type 0
AsksFound None client digest names s t r = NoReadFailed s t × (r ≡ refused_response Address)
AsksFound (Some address) client digest names s t r =
    (reported : ReportedLines) × TellsFiles reported_both (fingerprint_telling client digest) nothing_reported names s t reported
    × (r ≡ reported_response (client_form client.form) (client_moment client) (length names) reported)

-- the response by the trust files of these names
abbrev pub AsksFingerprint : ClientOptions → List ℕ → List (List ℕ) → SourceState → Option SourceState → Response → Type 0
AsksFingerprint client digest names s t r = AsksFound (address_of client.address) client digest names s t r
