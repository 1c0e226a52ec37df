-- An answer with status 0 is a grant, and one with status 1 a denial.
use Rattle.ssh_program.proofs.Imports.{◌≡◌, ◌<◌, ◌∙◌, cond, ℕ, Bool, true, false, List, length, Option, Some, None, Result, Ok, Err, ap, subst, sym, refl, arith, nat_lt, AuditError, FileTooLong, Signed, host_claim, login_claim, HostCheck, Login, Rights, Reason, Cause, Decision, Granted, Denied, file_limit, LoginMeans, HostMeans, host_means, login_means, host_reported, login_reported, HostTells, LoginTells, Response, decision_response, decision_status, no_file_response, vouch_response, within_limit, part_at, SourceState, bytes_at, AuditFiles, after_vouching, audit_response, decided_by, decided_response, host_by, login_by, or_vouch_fault, vouched_in, vouched_or_fault, vouched_response, host-found, login-found, HostDenied, HostGranted, HostHeard, LoginDenied, LoginGranted, LoginHeard, TrustsBytes}
use Rattle.ssh_program.specs.Granting.{HostBytes, LoginBytes}
use Rattle.ssh_trust.specs.LoginDecision.{login_decision}
use Rattle.ssh_trust.specs.HostDecision.{host_decision}
use Rattle.ssh_files.specs.VouchFile.{vouched_of}

-- ---- faults have the status 2

err-same : {A B : Type 0} (a b : B) → ◌≡◌ {A = Result A B} (Err a) (Err b) → a ≡ b
err-same a b h = cc

fault-read : (v : Result (List Signed) ℕ) (r : Response) → or_vouch_fault v ≡ Err r → r.status ≡ 2
fault-read (Ok vouched) r h = cc
fault-read (Err n) r h = ap (λ (x : Response). x.status) (sym (err-same (vouch_response n) r h))

fault-over : (name : List ℕ) (o : Option (List ℕ)) (r : Response) → vouched_or_fault name o ≡ Err r → r.status ≡ 2
fault-over name None r h = ap (λ (x : Response). x.status) (sym (err-same (no_file_response name) r h))
fault-over name (Some bytes) r h = fault-read (vouched_of bytes) r h

pub fault-in : (vouch : Option (List ℕ)) (s : SourceState) (r : Response) → vouched_in vouch s ≡ Err r → r.status ≡ 2
fault-in None s r h = cc
fault-in (Some name) s r h = fault-over name (within_limit (part_at s name)) r h

-- ---- a decision with the status 0 is granted, and one with the status 1 denied

record IsGranted (d : Decision) : Type 0 where
  line : ℕ
  rights : Option Rights
  reasons : List (ℕ × Reason)
  evidence : List Signed
  is : d ≡ Granted line rights reasons evidence

granted-by : (d : Decision) → decision_status d ≡ 0 → IsGranted d
granted-by (Granted line rights reasons evidence) h = record { line = line; rights = rights; reasons = reasons; evidence = evidence; is = refl }
granted-by (Denied why reasons evidence) h = absurd (omega (arith, h))

record IsDenied (d : Decision) : Type 0 where
  why : Cause
  reasons : List (ℕ × Reason)
  evidence : List Signed
  is : d ≡ Denied why reasons evidence

denied-by : (d : Decision) → decision_status d ≡ 1 → IsDenied d
denied-by (Granted line rights reasons evidence) h = absurd (omega (arith, h))
denied-by (Denied why reasons evidence) h = record { why = why; reasons = reasons; evidence = evidence; is = refl }

short-by : (long : Bool) (d : Decision) → (decision_response (cond long (Err FileTooLong) (Ok d))).status < 2 → long ≡ false
short-by true d h = absurd (omega (arith, h))
short-by false d h = refl

short-printed : (long : Bool) (d : Decision) → long ≡ false → decision_response (cond long (Err FileTooLong) (Ok d)) ≡ decision_response (Ok d)
short-printed true d h = cc
short-printed false d h = refl

-- ---- what was asked, and what the files hold

record Answered {C : Type 0} (claimed : Result C AuditError) (decision : List ℕ → C → List Signed → Decision) (f : AuditFiles) (s : SourceState) (r : Response) : Type 0 where
  claim : C
  offered : claimed ≡ Ok claim
  vouched : List Signed
  reported : vouched_in f.vouch s ≡ Ok vouched
  file : List ℕ
  trusted : bytes_at (after_vouching f.vouch s) f.trust ≡ Some file
  printed : r ≡ decision_response (Ok (decision file claim vouched))

answered-file : {C : Type 0} (claimed : Result C AuditError) (decision : List ℕ → C → List Signed → Decision) (f : AuditFiles) (s : SourceState) (vouched : List Signed)
    → vouched_in f.vouch s ≡ Ok vouched → (o : Option (List ℕ)) → bytes_at (after_vouching f.vouch s) f.trust ≡ o
    → (decided_response (decided_by decision claimed) vouched o).status < 2
    → Answered claimed decision f s (decided_response (decided_by decision claimed) vouched o)
answered-file (Err e) decision f s vouched reported None at h = absurd (omega (arith, h))
answered-file (Ok c) decision f s vouched reported None at h = absurd (omega (arith, h))
answered-file (Err e) decision f s vouched reported (Some file) at h = absurd (omega (arith, h))
answered-file (Ok c) decision f s vouched reported (Some file) at h = record {
  claim = c;
  offered = refl;
  vouched = vouched;
  reported = reported;
  file = file;
  trusted = at;
  printed = short-printed (nat_lt file_limit (length file)) (decision file c vouched) (short-by (nat_lt file_limit (length file)) (decision file c vouched) h);
}

answered-vouched : {C : Type 0} (claimed : Result C AuditError) (decision : List ℕ → C → List Signed → Decision) (f : AuditFiles) (s : SourceState)
    → (v : Result (List Signed) Response) → vouched_in f.vouch s ≡ v
    → (vouched_response (decided_by decision claimed) f.trust (after_vouching f.vouch s) v).status < 2
    → Answered claimed decision f s (vouched_response (decided_by decision claimed) f.trust (after_vouching f.vouch s) v)
answered-vouched claimed decision f s (Err r) e h = let two = fault-in f.vouch s r e in absurd (omega (arith, two, h))
answered-vouched claimed decision f s (Ok vouched) e h =
    answered-file claimed decision f s vouched e (bytes_at (after_vouching f.vouch s) f.trust) refl h

answered : {C : Type 0} (claimed : Result C AuditError) (decision : List ℕ → C → List Signed → Decision) (f : AuditFiles) (s : SourceState)
    → (audit_response (decided_by decision claimed) f s).status < 2 → Answered claimed decision f s (audit_response (decided_by decision claimed) f s)
answered claimed decision f s h = answered-vouched claimed decision f s (vouched_in f.vouch s) refl h

-- the decision has the status of what is printed
status-in : {C : Type 0} {claimed : Result C AuditError} {decision : List ℕ → C → List Signed → Decision} {f : AuditFiles} {s : SourceState} {r : Response}
    → (a : Answered claimed decision f s r) → decision_status (decision a.file a.claim a.vouched) ≡ r.status
status-in a = ap (λ (x : Response). x.status) (sym a.printed)

-- ---- logins and hosts

granted-as : (line : ℕ) (reasons : List (ℕ × Reason)) (r t : Option Rights) (e g : List Signed) → r ≡ t → e ≡ g
    → decision_response (Ok (Granted line r reasons e)) ≡ decision_response (Ok (Granted line t reasons g))
granted-as line reasons r t e g same_rights same_evidence =
    ap (λ (x : Option Rights). decision_response (Ok (Granted line x reasons e))) same_rights
    ∙ ap (λ (x : List Signed). decision_response (Ok (Granted line t reasons x))) same_evidence

denied-as : (why : Cause) (reasons : List (ℕ × Reason)) (e g : List Signed) → e ≡ g
    → decision_response (Ok (Denied why reasons e)) ≡ decision_response (Ok (Denied why reasons g))
denied-as why reasons e g same = ap (λ (x : List Signed). decision_response (Ok (Denied why reasons x))) same

decided-as : (d e : Decision) → d ≡ e → decision_response (Ok d) ≡ decision_response (Ok e)
decided-as d e same = ap (λ (x : Decision). decision_response (Ok x)) same

abbrev login-heard : (q : Login) (f : AuditFiles) (s : SourceState) (r : Response) → LoginBytes q → Answered (login_claim q) login_decision f s r → LoginHeard q f s
login-heard q f s r fits a = record {
  claim = a.claim;
  claimed = login-found q a.claim fits.0 fits.1 a.offered;
  vouched = a.vouched;
  reported = a.reported;
  file = a.file;
  trusted = a.trusted;
}

pub login_granted : (q : Login) (f : AuditFiles) (s : SourceState) → LoginBytes q → TrustsBytes f s → (audit_response (login_by q) f s).status ≡ 0 → LoginGranted q f s (audit_response (login_by q) f s)
login_granted q f s fits bytes h =
    let a = answered (login_claim q) login_decision f s (omega (arith, h)) in
    let granted = granted-by (login_decision a.file a.claim a.vouched) (status-in a ∙ h) in
    let means = subst (λ (d : Decision). LoginMeans a.file a.claim a.vouched d) granted.is (login_means a.file a.claim a.vouched (bytes a.file a.trusted)) in
    record {
      heard = login-heard q f s _ fits a;
      line = granted.line;
      entry = means.0;
      grant = means.1;
      rights = means.2.0;
      given = means.2.2;
      reasons = granted.reasons;
      printed = a.printed ∙ decided-as _ _ granted.is ∙ granted-as granted.line granted.reasons _ _ _ _ means.2.1 means.3;
    }

pub login_denied : (q : Login) (f : AuditFiles) (s : SourceState) → LoginBytes q → TrustsBytes f s → (audit_response (login_by q) f s).status ≡ 1 → LoginDenied q f s (audit_response (login_by q) f s)
login_denied q f s fits bytes h =
    let a = answered (login_claim q) login_decision f s (omega (arith, h)) in
    let denied = denied-by (login_decision a.file a.claim a.vouched) (status-in a ∙ h) in
    let means = subst (λ (d : Decision). LoginMeans a.file a.claim a.vouched d) denied.is (login_means a.file a.claim a.vouched (bytes a.file a.trusted)) in
    let tells = subst (λ (d : Decision). LoginTells a.file a.claim a.vouched d) denied.is (login_reported a.file a.claim a.vouched (bytes a.file a.trusted)) in
    record {
      heard = login-heard q f s _ fits a;
      no_grant = means.0;
      cause = denied.why;
      holds = tells.0;
      reasons = denied.reasons;
      printed = a.printed ∙ decided-as _ _ denied.is ∙ denied-as denied.why denied.reasons _ _ means.1;
    }

abbrev host-heard : (q : HostCheck) (f : AuditFiles) (s : SourceState) (r : Response) → HostBytes q → Answered (host_claim q) host_decision f s r → HostHeard q f s
host-heard q f s r fits a = record {
  claim = a.claim;
  claimed = host-found q a.claim fits.0 fits.1 a.offered;
  vouched = a.vouched;
  reported = a.reported;
  file = a.file;
  trusted = a.trusted;
}

pub host_granted : (q : HostCheck) (f : AuditFiles) (s : SourceState) → HostBytes q → TrustsBytes f s → (audit_response (host_by q) f s).status ≡ 0 → HostGranted q f s (audit_response (host_by q) f s)
host_granted q f s fits bytes h =
    let a = answered (host_claim q) host_decision f s (omega (arith, h)) in
    let granted = granted-by (host_decision a.file a.claim a.vouched) (status-in a ∙ h) in
    let means = subst (λ (d : Decision). HostMeans a.file a.claim a.vouched d) granted.is (host_means a.file a.claim a.vouched (bytes a.file a.trusted)) in
    record {
      heard = host-heard q f s _ fits a;
      line = granted.line;
      entry = means.0;
      grant = means.1;
      reasons = granted.reasons;
      printed = a.printed ∙ decided-as _ _ granted.is ∙ granted-as granted.line granted.reasons _ _ _ _ means.2 means.3;
    }

pub host_denied : (q : HostCheck) (f : AuditFiles) (s : SourceState) → HostBytes q → TrustsBytes f s → (audit_response (host_by q) f s).status ≡ 1 → HostDenied q f s (audit_response (host_by q) f s)
host_denied q f s fits bytes h =
    let a = answered (host_claim q) host_decision f s (omega (arith, h)) in
    let denied = denied-by (host_decision a.file a.claim a.vouched) (status-in a ∙ h) in
    let means = subst (λ (d : Decision). HostMeans a.file a.claim a.vouched d) denied.is (host_means a.file a.claim a.vouched (bytes a.file a.trusted)) in
    let tells = subst (λ (d : Decision). HostTells a.file a.claim a.vouched d) denied.is (host_reported a.file a.claim a.vouched (bytes a.file a.trusted)) in
    record {
      heard = host-heard q f s _ fits a;
      no_grant = means.0;
      cause = denied.why;
      holds = tells.0;
      reasons = denied.reasons;
      printed = a.printed ∙ decided-as _ _ denied.is ∙ denied-as denied.why denied.reasons _ _ means.2;
    }
