-- From status 1 to the keys on the unreadable lines of the file.
use Rattle.ssh_program.proofs.Imports.{◌≡◌, ℕ, Bool, true, false, List, Some, Result, Ok, Err, refl, subst, slice_get, auth_line, Unreadable, LoginClaim, login_claim, Login, AuditError, Signed, LineCause, lines_of, Decision, Granted, Denied, HoldsAnother, login_other, other_login, wanted_blob, unread_another, beside_answer, beside_by, denied_outcome, outcome_of, status_by, status_of, login_asking, answer_by, decided_by}
use Rattle.ssh_trust.specs.LoginDecision.{login_decision}
use Rattle.ssh_program.specs.declared.decision_form.DecisionForm.{DecisionForm}

closed : (may : Bool) → status_of (denied_outcome may) ≡ 1 → may ≡ false
closed true h = cc
closed false h = refl

denied-by : (claim : LoginClaim) (file line : List ℕ) (answer : Result Decision AuditError) (i : ℕ) (cause : LineCause)
    → status_of (outcome_of (beside_answer (other_login claim) file answer) answer) ≡ 1
    → slice_get (lines_of file) i ≡ Some line → auth_line line ≡ Unreadable cause → HoldsAnother line (wanted_blob claim)
denied-by claim file line (Err e) i cause one at is = cc
denied-by claim file line (Ok (Granted n rights reasons evidence)) i cause one at is = cc
denied-by claim file line (Ok (Denied why reasons evidence)) i cause one at is =
    unread_another claim file line why reasons evidence i cause (closed (login_other claim file (Denied why reasons evidence)).may_admit one) at is

pub denied_another : (form : DecisionForm) (rule : List ℕ) (q : Login) (claim : LoginClaim) (evidence : List Signed) (name file line : List ℕ) (i : ℕ) (cause : LineCause)
    → login_claim q ≡ Ok claim → status_by (login_asking form rule q) evidence name file ≡ 1
    → slice_get (lines_of file) i ≡ Some line → auth_line line ≡ Unreadable cause → HoldsAnother line (wanted_blob claim)
denied_another form rule q claim evidence name file line i cause claimed one at is =
    denied-by claim file line (answer_by (decided_by login_decision (Ok claim)) file evidence) i cause
    (subst (λ (c : Result LoginClaim AuditError). status_of (outcome_of (beside_answer (beside_by other_login c) file (answer_by (decided_by login_decision c) file evidence)) (answer_by (decided_by login_decision c) file evidence)) ≡ 1) claimed one)
    at is
