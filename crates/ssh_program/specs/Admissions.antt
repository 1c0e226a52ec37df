-- The answers of trust files about one key, and their combined status (this project's rule).
use Rattle.std.specs.Prelude.{◌≡◌, ◌⊎◌, ◌++◌, ℕ, Bool, true, false, List, [], length, Option, Some, None, Result, Ok, Err}
use Rattle.ssh_offers.specs.declared.claim.AuditError.{AuditError}
use Rattle.ssh_offers.specs.declared.claim.AuditError.TheVariants.{FileTooLong, Memory, Read}
use Rattle.ssh_offers.specs.declared.claim.Signed.{Signed}
use Rattle.ssh_trust.specs.declared.decision.Decision.{Decision}
use Rattle.ssh_trust.specs.declared.decision.Decision.TheVariants.{Granted, Denied}
use Rattle.ssh_files.specs.SourceState.{SourceState, bytes_at, bytes_of}
use Rattle.ssh_files.specs.Loading.{KeepsOthers, NoReadFailed, ReadToEnd, within_limit}
use Rattle.ssh_files.specs.declared.read.ReadError.{ReadError}
use Rattle.ssh_files.specs.declared.read.ReadError.TheVariants as read
use Rattle.ssh_files.specs.FilesInTurn.{Telling, TellsFiles}
use Rattle.ssh_print.specs.Responses.{Response, no_file_response, refused_response}
use Rattle.ssh_print.specs.Offering.{Offered, shown_offer_in}
use Rattle.ssh_print.specs.declared.showing.ShowError.{ShowError}
use Rattle.ssh_print.specs.Showing.{show_fault_response}
use Rattle.ssh_print.specs.declared.admission_text.Subject.{Subject}
use Rattle.ssh_program.specs.declared.decision_form.DecisionForm.{DecisionForm}
use Rattle.ssh_program.specs.declared.decision_form.DecisionForm.TheVariants.{Text, Json}
use Rattle.ssh_review.specs.AnswerObjects.{answer_object, answer_total}
use Rattle.ssh_review.specs.Asked.{Asked, asked_line}
use Rattle.ssh_print.specs.AnswerText.{answer_text}
use Rattle.ssh_print.specs.OtherLines.{OtherLines, nothing_other}
use Rattle.ssh_program.specs.declared.admission.AnswerForm.{AnswerForm}
use Rattle.ssh_program.specs.declared.admission.Outcome.{Outcome}
use Rattle.ssh_program.specs.declared.admission.Outcome.TheVariants.{Denies, Opens, Grants, Faulty}
use Rattle.ssh_program.specs.Audits.{Deciding, IsFileFault, answer_by, answer_over, refusal_of}

-- ---- the combined result of several files

-- a denial is open if OpenSSH may let the key in
abbrev pub denied_outcome : Bool → Outcome
denied_outcome true = Opens
denied_outcome false = Denies

abbrev pub outcome_of : OtherLines → Result Decision AuditError → Outcome
outcome_of other (Ok (Granted line rights reasons evidence)) = Grants
outcome_of other (Ok (Denied why reasons evidence)) = denied_outcome other.may_admit
outcome_of other (Err e) = Faulty

-- with one more file: a fault outranks a grant, a grant outranks an open result, and that outranks a denial
abbrev pub and_then : Outcome → Outcome → Outcome
and_then Denies b = b
and_then Faulty b = Faulty
and_then Opens Denies = Opens
and_then Opens b = b
and_then Grants Denies = Grants
and_then Grants Opens = Grants
and_then Grants b = b

-- the status as of grep(1), and 3 where no line lets the key in here but OpenSSH may let it in
abbrev pub status_of : Outcome → ℕ
status_of Grants = 0
status_of Denies = 1
status_of Faulty = 2
status_of Opens = 3

-- the output lines of some files, and their combined result
pub record ReportedLines : Type 0 where
  pub outcome : Outcome
  pub text : List ℕ

abbrev pub nothing_reported : ReportedLines
nothing_reported = record { outcome = Denies; text = [] }

-- the lines so far, followed by those of one more file
abbrev pub reported_both : ReportedLines → ReportedLines → ReportedLines
reported_both a b = record { outcome = and_then a.outcome b.outcome; text = a.text ++ b.text }

-- the first lines of a decision, followed by the others; as JSON, one object
abbrev pub text_of : DecisionForm → Subject → List ℕ → OtherLines → Result Decision AuditError → List ℕ
text_of Text who name other answer = answer_text who name answer ++ other.text
text_of Json who name other answer = answer_object who name other answer

abbrev pub reported_of : AnswerForm → List ℕ → OtherLines → Result Decision AuditError → ReportedLines
reported_of who name other answer = record { outcome = outcome_of other answer; text = text_of who.form who.subject name other answer }

-- when the files were asked comes last; in JSON in the total
abbrev pub total_of : DecisionForm → Subject → Asked → ℕ → ℕ → List ℕ
total_of Text who at files status = asked_line at
total_of Json who at files status = answer_total who at files status

abbrev pub reported_response : AnswerForm → Asked → ℕ → ReportedLines → Response
reported_response who at files reported = record {
  status = status_of reported.outcome;
  text = reported.text ++ total_of who.form who.subject at files (status_of reported.outcome);
}

-- ---- files

-- what is printed after the decision of a file with these bytes: the lines that OpenSSH may read differently
abbrev pub Otherness : Type 0
Otherness = List ℕ → Decision → OtherLines

-- of the claim of an offer that was read; there is none on a refused one
abbrev pub beside_by : {C : Type 0} → (C → Otherness) → Result C AuditError → Otherness
beside_by beside (Err e) = λ file decision. nothing_other
beside_by beside (Ok claim) = beside claim

-- the question to each file: whose key it is and how the answer is printed, when it is asked, how a file decides, what the decision rests on, and what
-- is printed after it
pub record KeyAsking : Type 0 where
  pub who : AnswerForm
  pub at : Asked
  pub by : Deciding
  pub rests_on : Result (List Signed) AuditError
  pub beside : Otherness

-- nothing is printed after a fault
abbrev pub beside_answer : Otherness → List ℕ → Result Decision AuditError → OtherLines
beside_answer beside file (Ok decision) = beside file decision
beside_answer beside file (Err e) = nothing_other

-- the answer of a trust file with these bytes, where all evidence is vouched for
abbrev pub reported_by : AnswerForm → Deciding → Otherness → List Signed → List ℕ → List ℕ → ReportedLines
reported_by who by beside evidence name file =
    reported_of who name (beside_answer beside file (answer_by by file evidence)) (answer_by by file evidence)

-- the same of the file of this name, which may be missing
abbrev pub reported_over : AnswerForm → Deciding → Otherness → List Signed → List ℕ → Option (List ℕ) → ReportedLines
reported_over who by beside evidence name None = reported_of who name nothing_other (answer_over by evidence None)
reported_over who by beside evidence name (Some file) = reported_by who by beside evidence name file

-- a failed read of a file is reported as A9
abbrev pub telling : AnswerForm → Deciding → Otherness → List Signed → Telling (List ℕ) ReportedLines
telling who by beside evidence = record {
  path = λ name. name;
  of_bytes = λ name given. reported_over who by beside evidence name (bytes_of given);
  of_fault = λ name cause. reported_of who name nothing_other (Err Read);
}

-- the fault of a file whose bytes could not be had; a refused offer comes before a file that is missing or too long
abbrev pub refusal_or : Option AuditError → AuditError → AuditError
refusal_or None e = e
refusal_or (Some refusal) e = refusal

abbrev pub unread_fault : Deciding → ReadError → AuditError
unread_fault by read.Missing = refusal_or (refusal_of by) Read
unread_fault by read.TooLong = refusal_or (refusal_of by) FileTooLong
unread_fault by read.Failed = Read
unread_fault by read.Memory = Memory

-- the answer of such a file, where memory could be allocated
abbrev pub IsReportedUnread : AnswerForm → Deciding → List ℕ → ReadError → ReportedLines → Type 0
IsReportedUnread who by name read.Memory reported = ⊥
IsReportedUnread who by name read.Missing reported = reported ≡ reported_of who name nothing_other (Err (unread_fault by read.Missing))
IsReportedUnread who by name read.TooLong reported = reported ≡ reported_of who name nothing_other (Err (unread_fault by read.TooLong))
IsReportedUnread who by name read.Failed reported = reported ≡ reported_of who name nothing_other (Err (unread_fault by read.Failed))

-- a refused offer is reported before any file is read
abbrev pub AsksBy : AnswerForm → Asked → Deciding → Otherness → Result (List Signed) AuditError → List (List ℕ) → SourceState → Option SourceState → Response → Type 0
AsksBy who at by beside (Err e) names s t r = NoReadFailed s t × (r ≡ refused_response e)
AsksBy who at by beside (Ok evidence) names s t r =
    (reported : ReportedLines) × TellsFiles reported_both (telling who by beside evidence) nothing_reported names s t reported × (r ≡ reported_response who at (length names) reported)

-- the status of one file with these bytes
abbrev pub status_by : KeyAsking → List Signed → List ℕ → List ℕ → ℕ
status_by a evidence name file = status_of (reported_by a.who a.by a.beside evidence name file).outcome

abbrev pub AsksFiles : KeyAsking → List (List ℕ) → SourceState → Option SourceState → Response → Type 0
AsksFiles a names s t r = AsksBy a.who a.at a.by a.beside a.rests_on names s t r

-- ---- the key's file

abbrev pub or_shown_fault : Result Offered ShowError → Result Offered Response
or_shown_fault (Ok offer) = Ok offer
or_shown_fault (Err e) = Err (show_fault_response e)

-- the offer in the key's file, or the fault of that file
abbrev pub offer_or_fault : List ℕ → Option (List ℕ) → Result Offered Response
offer_or_fault key None = Err (no_file_response key)
offer_or_fault key (Some file) = or_shown_fault (shown_offer_in file)

abbrev pub AsksOffer : (Offered → KeyAsking) → Result Offered Response → List (List ℕ) → SourceState → Option SourceState → Response → Type 0
AsksOffer asks (Err fault) names s t r = NoReadFailed s t × (r ≡ fault)
AsksOffer asks (Ok offer) names s t r = AsksFiles (asks offer) names s t r

-- the key's file is read first: its read failed, or the trust files are asked about its offer
abbrev pub AsksKey : (Offered → KeyAsking) → List ℕ → List (List ℕ) → SourceState → Option SourceState → Response → Type 0
AsksKey asks key names s t r = IsFileFault key s t r
    ⊎ ((m : SourceState) × KeepsOthers key s (Some m) × NoReadFailed s (Some m) × ReadToEnd key s (Some m) × AsksOffer asks (offer_or_fault key (within_limit (bytes_at s key))) names m t r)
