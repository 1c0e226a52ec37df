-- What the numbers and the rows of an answer mean.
use Rattle.std.proofs.Common.{◌≡◌, ◌∙◌, ◌<◌, ◌⊎◌, ℕ, List, Option, Some, Result, Ok, Err, IfOk, refl, sym, ap, arith, inl, inr, length, map, subst}
use Rattle.std.specs.Bool.{⊤}
use Rattle.std.specs.Prelude.{IsErr}
use Rattle.jiff.specs.Types.{UTC}
use Rattle.ssh_entries.specs.AuthEntry.{AuthEntry}
use Rattle.ssh_entries.specs.KnownEntry.{KnownEntry}
use Rattle.ssh_lending.specs.Lending.{filled}
use Rattle.ssh_offers.specs.FirstRefusal.{IsHostClaim, IsLoginClaim}
use Rattle.ssh_offers.specs.HostClaim.{HostClaim, host_claim}
use Rattle.ssh_offers.specs.LoginClaim.{LoginClaim, login_claim}
use Rattle.ssh_offers.specs.declared.claim.AuditError.{AuditError}
use Rattle.ssh_offers.specs.declared.claim.AuditError.TheVariants.{Memory}
use Rattle.ssh_offers.specs.declared.claim.EmptyPrincipals.{EmptyPrincipals}
use Rattle.ssh_offers.specs.declared.claim.Signed.{Signed}
use Rattle.ssh_offers.specs.Query.{HostCheck, Login}
use Rattle.ssh_rights.specs.declared.rights.Rights.{Rights}
use Rattle.ssh_rules.specs.declared.reason.Reason.{Reason}
use Rattle.ssh_trust.specs.Answer.{GivesOrMemory, OfClaim, RefusesAs, host_answer, login_answer}
use Rattle.ssh_trust.specs.HostDecision.{HostMeans, IsHostGrant}
use Rattle.ssh_trust.specs.LoginDecision.{IsGrant, LoginMeans}
use Rattle.ssh_trust.specs.Telling.{HostCause, HostTells, LoginCause, LoginTells}
use Rattle.ssh_trust.specs.declared.decision.Cause.{Cause}
use Rattle.ssh_trust.specs.declared.decision.Decision.{Decision}
use Rattle.ssh_trust.specs.declared.decision.Decision.TheVariants.{Granted, Denied}
use Rattle.ssh_decisions_c.specs.Answered.{AnswersHost, AnswersLogin, AreHostReasons, AreLoginReasons, IsAnswer, LendsReasons, TellsDenial, TellsGrant, TellsLogin, TellsReasons}
use Rattle.ssh_decisions_c.specs.Asked.{empty_principals_by, host_asked, host_name_by, login_asked}
use Rattle.ssh_decisions_c.specs.Decided.{carried_in, carried_row, reason_row, rights_reported, texts_in, reported_of}
use Rattle.ssh_decisions_c.specs.declared.asked.HostAsked.{HostAsked}
use Rattle.ssh_decisions_c.specs.declared.asked.LoginAsked.{LoginAsked}
use Rattle.ssh_decisions_c.specs.declared.decided.CarriedText.{CarriedText}
use Rattle.ssh_decisions_c.specs.declared.decided.Decided.{Decided}
use Rattle.ssh_decisions_c.specs.declared.decided.LineReason.{LineReason}
use Rattle.ssh_decisions_c.specs.declared.decided.LoginDecided.{LoginDecided}

-- ---- the answer

anything : (C : Type 0) (claim : Result C AuditError) → OfClaim claim (λ c. ⊤)
anything C (Ok c) = tt
anything C (Err e) = tt

-- the fault of memory is an answer to whatever is asked
pub memory_answers : (C : Type 0) (claim : Result C AuditError) (IsClaim : C → Type 0) (answers : C → Result Decision AuditError) (Means Tells : C → Decision → Type 0)
    → IsAnswer C claim IsClaim answers Means Tells (Err Memory)
memory_answers C claim IsClaim answers Means Tells = record {
  given = anything C claim;
  refused = λ e is. refl;
  means = λ c is. tt;
  tells = λ c is. tt;
}

-- an answer, or the fault of memory in its place
pub answers_or_memory : (C : Type 0) (claim : Result C AuditError) (IsClaim : C → Type 0) (answers : C → Result Decision AuditError) (Means Tells : C → Decision → Type 0)
    (answer reported : Result Decision AuditError) → (reported ≡ answer) ⊎ (reported ≡ Err Memory)
    → IsAnswer C claim IsClaim answers Means Tells answer → IsAnswer C claim IsClaim answers Means Tells reported
answers_or_memory C claim IsClaim answers Means Tells answer reported (inl same) is =
    subst (λ (r : Result Decision AuditError). IsAnswer C claim IsClaim answers Means Tells r) (sym same) is
answers_or_memory C claim IsClaim answers Means Tells answer reported (inr memory) is =
    subst (λ (r : Result Decision AuditError). IsAnswer C claim IsClaim answers Means Tells r) (sym memory)
    (memory_answers C claim IsClaim answers Means Tells)

-- an answer as the calls of ssh_trust give it
is_answer : (C : Type 0) (claim : Result C AuditError) (IsClaim : C → Type 0) (answers : C → Result Decision AuditError) (Means Tells : C → Decision → Type 0)
    (r : Result Decision AuditError) → RefusesAs claim r → OfClaim claim (λ c. GivesOrMemory (answers c) r)
    → ((c : C) → IsClaim c → IfOk r (Means c)) → ((c : C) → IsClaim c → IfOk r (Tells c)) → IsAnswer C claim IsClaim answers Means Tells r
is_answer C claim IsClaim answers Means Tells r refuses given means tells = record {
  given = given;
  refused = λ e is.
      let refused : r ≡ Err e = subst (λ (c : Result C AuditError). RefusesAs c r) is refuses in
      subst (λ (r : Result Decision AuditError). IsErr r) (sym refused) refl;
  means = means;
  tells = tells;
}

-- the same of another spelling of what is asked
pub login_answers : (file : List ℕ) (q asked : Login) (v vouched : List Signed) (r : Result Decision AuditError) → q ≡ asked → v ≡ vouched
    → RefusesAs (login_claim q) r → OfClaim (login_claim q) (λ c. GivesOrMemory (login_answer file c v) r)
    → ((c : LoginClaim) → IsLoginClaim q c → IfOk r (LoginMeans file c v))
    → ((c : LoginClaim) → IsLoginClaim q c → IfOk r (LoginTells file c v)) → AnswersLogin file asked vouched r
login_answers file q asked v vouched r same copied refuses given means tells =
    subst (λ (l : Login). AnswersLogin file l vouched r) same
    (subst (λ (s : List Signed). AnswersLogin file q s r) copied
    (is_answer LoginClaim (login_claim q) (IsLoginClaim q) (λ c. login_answer file c v) (λ c. LoginMeans file c v) (λ c. LoginTells file c v) r
    refuses given means tells))

pub host_answers : (file : List ℕ) (q asked : HostCheck) (v vouched : List Signed) (r : Result Decision AuditError) → q ≡ asked → v ≡ vouched
    → RefusesAs (host_claim q) r → OfClaim (host_claim q) (λ c. GivesOrMemory (host_answer file c v) r)
    → ((c : HostClaim) → IsHostClaim q c → IfOk r (HostMeans file c v))
    → ((c : HostClaim) → IsHostClaim q c → IfOk r (HostTells file c v)) → AnswersHost file asked vouched r
host_answers file q asked v vouched r same copied refuses given means tells =
    subst (λ (l : HostCheck). AnswersHost file l vouched r) same
    (subst (λ (s : List Signed). AnswersHost file q s r) copied
    (is_answer HostClaim (host_claim q) (IsHostClaim q) (λ c. host_answer file c v) (λ c. HostMeans file c v) (λ c. HostTells file c v) r
    refuses given means tells))

-- ---- what the numbers mean

number_of : (d e : Decided) → d ≡ e → d.number ≡ e.number
number_of d e same = ap (λ (d : Decided). d.number) same

kind_of : (d e : Decided) → d ≡ e → d.kind ≡ e.kind
kind_of d e same = ap (λ (d : Decided). d.kind) same

count_of : (d e : Decided) → d ≡ e → d.reasons_length ≡ e.reasons_length
count_of d e same = ap (λ (d : Decided). d.reasons_length) same

-- a denial, by its cause
denial : (E : Type 0) (IsGranted : ℕ → E → Type 0) (IsCause : Cause → Type 0) (why : Cause) (reasons : List (ℕ × Reason)) (evidence : List Signed) (d : Decided)
    → d ≡ reported_of (Ok (Denied why reasons evidence)) → ((line : ℕ) (e : E) → IsGranted line e → ⊥) → IsCause why → TellsDenial E IsGranted IsCause d
denial E IsGranted IsCause why reasons evidence d reported none cause = record {
  none = none;
  why = why;
  cause = cause;
  code = ap (λ (d : Decided). d.code) reported;
  number = number_of d _ reported;
}

-- the reasons of a decision
passed : (AreThese : List (ℕ × Reason) → Type 0) (reasons : List (ℕ × Reason)) (d : Decided) (old new : List LineReason)
    → d.reasons_length ≡ length reasons → new ≡ filled (map reason_row reasons) old → AreThese reasons → TellsReasons AreThese d old new
passed AreThese reasons d old new count rows these = record { reasons = reasons; these = these; count = count; rows = rows }

-- ---- a login

pub login_granted : (file : List ℕ) (claim : LoginClaim) (vouched : List Signed) (r : Result Decision AuditError) (d : LoginDecided) (ro rn : List LineReason) (co cn : List CarriedText) (xo xn : List ℕ)
    → TellsLogin r d ro rn co cn xo xn → IfOk r (LoginMeans file claim vouched) → d.decision.kind ≡ 0 → TellsGrant file claim vouched d co cn xo xn
login_granted file claim vouched (Ok (Granted line rights reasons evidence)) d ro rn co cn xo xn reported means zero =
    let given : rights ≡ Some (means.2).0 = (means.2).1 in
    record {
      entry = means.0;
      grant = subst (λ (n : ℕ). IsGrant file claim vouched n means.0) (sym (number_of d.decision _ reported.decision)) means.1;
      given = (means.2).0;
      rights = (means.2).2;
      reported = reported.rights ∙ ap rights_reported given;
      carried = reported.carried ∙ ap (λ (g : Option Rights). filled (map carried_row (carried_in g)) co) given;
      texts = reported.texts ∙ ap (λ (g : Option Rights). filled (texts_in g) xo) given;
    }
login_granted file claim vouched (Ok (Denied why reasons evidence)) d ro rn co cn xo xn reported means zero =
    let one : d.decision.kind ≡ 1 = kind_of d.decision _ reported.decision in absurd (omega (arith, zero, one))
login_granted file claim vouched (Err e) d ro rn co cn xo xn reported means zero =
    let two : d.decision.kind ≡ 2 = kind_of d.decision _ reported.decision in absurd (omega (arith, zero, two))

pub login_denied : (file : List ℕ) (claim : LoginClaim) (vouched : List Signed) (r : Result Decision AuditError) (d : Decided)
    → d ≡ reported_of r → IfOk r (LoginMeans file claim vouched) → IfOk r (LoginTells file claim vouched) → d.kind ≡ 1
    → TellsDenial AuthEntry (IsGrant file claim vouched) (LoginCause file claim vouched) d
login_denied file claim vouched (Ok (Granted line rights reasons evidence)) d reported means tells one =
    let zero : d.kind ≡ 0 = kind_of d _ reported in absurd (omega (arith, zero, one))
login_denied file claim vouched (Ok (Denied why reasons evidence)) d reported means tells one =
    denial AuthEntry (IsGrant file claim vouched) (LoginCause file claim vouched) why reasons evidence d reported means.0 tells.0
login_denied file claim vouched (Err e) d reported means tells one =
    let two : d.kind ≡ 2 = kind_of d _ reported in absurd (omega (arith, one, two))

pub login_passed : (file : List ℕ) (claim : LoginClaim) (vouched : List Signed) (r : Result Decision AuditError) (d : Decided) (old new : List LineReason)
    → d ≡ reported_of r → LendsReasons r old new → IfOk r (LoginTells file claim vouched) → d.kind < 2
    → TellsReasons (AreLoginReasons file claim) d old new
login_passed file claim vouched (Ok (Granted line rights reasons evidence)) d old new reported rows tells few =
    passed (AreLoginReasons file claim) reasons d old new (count_of d _ reported) rows tells
login_passed file claim vouched (Ok (Denied why reasons evidence)) d old new reported rows tells few =
    passed (AreLoginReasons file claim) reasons d old new (count_of d _ reported) rows tells.1
login_passed file claim vouched (Err e) d old new reported rows tells few =
    let two : d.kind ≡ 2 = kind_of d _ reported in absurd (omega (arith, few, two))

-- ---- a host's key

pub host_granted : (file : List ℕ) (claim : HostClaim) (vouched : List Signed) (r : Result Decision AuditError) (d : Decided)
    → d ≡ reported_of r → IfOk r (HostMeans file claim vouched) → d.kind ≡ 0 → (e : KnownEntry) × IsHostGrant file claim vouched d.number e
host_granted file claim vouched (Ok (Granted line rights reasons evidence)) d reported means zero =
    (means.0, subst (λ (n : ℕ). IsHostGrant file claim vouched n means.0) (sym (number_of d _ reported)) means.1)
host_granted file claim vouched (Ok (Denied why reasons evidence)) d reported means zero =
    let one : d.kind ≡ 1 = kind_of d _ reported in absurd (omega (arith, zero, one))
host_granted file claim vouched (Err e) d reported means zero =
    let two : d.kind ≡ 2 = kind_of d _ reported in absurd (omega (arith, zero, two))

pub host_denied : (file : List ℕ) (claim : HostClaim) (vouched : List Signed) (r : Result Decision AuditError) (d : Decided)
    → d ≡ reported_of r → IfOk r (HostMeans file claim vouched) → IfOk r (HostTells file claim vouched) → d.kind ≡ 1
    → TellsDenial KnownEntry (IsHostGrant file claim vouched) (HostCause file claim vouched) d
host_denied file claim vouched (Ok (Granted line rights reasons evidence)) d reported means tells one =
    let zero : d.kind ≡ 0 = kind_of d _ reported in absurd (omega (arith, zero, one))
host_denied file claim vouched (Ok (Denied why reasons evidence)) d reported means tells one =
    denial KnownEntry (IsHostGrant file claim vouched) (HostCause file claim vouched) why reasons evidence d reported means.0 tells.0
host_denied file claim vouched (Err e) d reported means tells one =
    let two : d.kind ≡ 2 = kind_of d _ reported in absurd (omega (arith, one, two))

pub host_passed : (file : List ℕ) (claim : HostClaim) (vouched : List Signed) (r : Result Decision AuditError) (d : Decided) (old new : List LineReason)
    → d ≡ reported_of r → LendsReasons r old new → IfOk r (HostTells file claim vouched) → d.kind < 2
    → TellsReasons (AreHostReasons file claim) d old new
host_passed file claim vouched (Ok (Granted line rights reasons evidence)) d old new reported rows tells few =
    passed (AreHostReasons file claim) reasons d old new (count_of d _ reported) rows tells
host_passed file claim vouched (Ok (Denied why reasons evidence)) d old new reported rows tells few =
    passed (AreHostReasons file claim) reasons d old new (count_of d _ reported) rows tells.1
host_passed file claim vouched (Err e) d old new reported rows tells few =
    let two : d.kind ≡ 2 = kind_of d _ reported in absurd (omega (arith, few, two))

-- ---- what is asked

abbrev pub login_with : LoginAsked → Option (List ℕ) → EmptyPrincipals → Login
login_with q host principals = record {
  offered = q.offered.now;
  signature = q.signature.now;
  algorithm = q.algorithm.now;
  session = q.session.now;
  user = q.user.now;
  host = host;
  address = q.address.now;
  now = q.now;
  zone = UTC;
  empty_principals = principals;
  rsa_minimum = q.rsa_minimum;
}

pub login_same : (q : LoginAsked) (host : Option (List ℕ)) (principals : EmptyPrincipals)
    → host ≡ host_name_by q.has_host q.host.now → principals ≡ empty_principals_by q.empty_principals_never → login_with q host principals ≡ login_asked q
login_same q host principals named whom = rw (named, whom) refl

abbrev pub host_with : HostAsked → EmptyPrincipals → HostCheck
host_with q principals = record {
  offered = q.offered.now;
  signature = q.signature.now;
  exchange_hash = q.exchange_hash.now;
  host = q.host.now;
  port = q.port;
  now = q.now;
  empty_principals = principals;
  rsa_minimum = q.rsa_minimum;
}

pub host_same : (q : HostAsked) (principals : EmptyPrincipals) → principals ≡ empty_principals_by q.empty_principals_never → host_with q principals ≡ host_asked q
host_same q principals whom = rw whom refl
