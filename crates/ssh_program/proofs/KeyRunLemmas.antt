-- A run of `admits` or `trusts` that ends with status 0 has a line that lets the key in, and one that ends with status 1 has none.
use Rattle.ssh_program.proofs.Imports.{◌≡◌, ◌⊎◌, ◌<◌, ◌≤◌, ◌+◌, ◌∙◌, ◌^◌, cond, ℕ, Bool, true, false, List, [], ◌∷◌, length, Option, Some, None, Result, Ok, Err, ap, subst, sym, refl, inl, inr, arith, nat_lt, Row, TimeZone, Any, HostCheck, Response, IfTells, SourceState, bytes_at, most_failures, within_limit, empty_principals_of, number_below, zone_text, ReadsZone, Account, source_of, RespondsTo, given, needed, value, value_or, Signed, file_limit, AuditError, FileTooLong, Decision, Granted, Denied, LoginMeans, HostMeans, login_means, host_means, login_claim, host_claim, KeepsOthers, NoReadFailed, TellsFile, TellsFiles, KeyAsking, AsksBy, AsksFiles, AsksOffer, AsksKey, offer_or_fault, or_shown_fault, telling, reported_both, nothing_reported, ReportedLines, status_of, outcome_of, denied_outcome, login_asking, host_asking, AdmitsAt, client_login, key_place_by}
use Rattle.ssh_offers.specs.Query.{Login as LoginAsked}
use Rattle.ssh_offers.specs.LoginClaim.{LoginClaim}
use Rattle.ssh_offers.specs.HostClaim.{HostClaim}
use Rattle.ssh_offers.specs.Evidence.{host_evidence, login_evidence}
use Rattle.ssh_entries.specs.AuthEntry.{AuthEntry}
use Rattle.ssh_entries.specs.KnownEntry.{KnownEntry}
use Rattle.ssh_trust.specs.LoginDecision.{IsGrant, login_decision}
use Rattle.ssh_trust.specs.HostDecision.{IsHostGrant, host_decision}
use Rattle.ssh_print.specs.Offering.{Offered, shown_offer_in}
use Rattle.ssh_print.specs.OtherLines.{OtherLines, other_login}
use Rattle.ssh_print.specs.HostOther.{other_host}
use Rattle.ssh_print.specs.declared.admission_text.Subject.TheVariants.{Client, Host}
use Rattle.ssh_program.specs.declared.admission.AnswerForm.{AnswerForm}
use Rattle.ssh_program.specs.declared.decision_form.DecisionForm.{DecisionForm}
use Rattle.ssh_program.specs.declared.decision_form.DecisionForm.TheVariants.{Text}
use Rattle.ssh_program.specs.DecisionForms.{decision_form_of}
use Rattle.ssh_program.specs.Clients.{client_spelled}
use Rattle.ssh_print.specs.declared.showing.ShowError.{ShowError}
use Rattle.ssh_print.specs.declared.showing.ShowError.TheVariants as shown
use Rattle.ssh_files.specs.Values.{short_bytes}
use Rattle.ssh_program.specs.declared.admission.Outcome.{Outcome}
use Rattle.ssh_program.specs.declared.admission.Outcome.TheVariants.{Denies, Opens, Grants, Faulty}
use Rattle.ssh_program.specs.declared.args.ArgName.TheVariants as option
use Rattle.ssh_program.specs.declared.args.KeyPlace.TheVariants as place
use Rattle.ssh_program.specs.declared.subcommand.Subcommand.TheVariants.{Admits, Trusts}
use Rattle.ssh_files.specs.declared.files.UnreadCause.{UnreadCause}
use Rattle.ssh_files.specs.SourceState.{bytes_of, cause_at, given_at}
use Rattle.ssh_files.specs.FilesInTurn.{Telling}
use Rattle.ssh_program.specs.Admissions.{Otherness, and_then, beside_answer, beside_by}
use Rattle.ssh_program.specs.Audits.{decided_by, evidence_by}
use Rattle.ssh_review.specs.Asked.{Asked as AskedTime}
use Rattle.ssh_program.specs.KeyRuns.{AsksByKey, AsksOfFiles, ClientAdmitted, ClientAsked, ClientKeptOut, DistrustsKey, EachFile, HostAsked, HostDistrusted, HostTrusted, KeepsOut, LetsIn, SomeFile, TrustsKey}
use Rattle.ssh_program.specs.Keys.{KeyAsked, admits_spelled, trusts_spelled}
use Rattle.ssh_program.specs.Spelling.{names_needed, names_given, usual_port}
use Rattle.ssh_program.proofs.GrantedRunLemmas.{Answered, IsFaulty, ends-as, err-same, fault-faulty, needed-faulty, none-faulty, optional-faulty, or-faulty, responds-to, status-of, step-faulty, value-faulty}
use Rattle.ssh_program.proofs.SpelledBytes.{ok-same, step-any, step-gives}

-- ---- what files come to

after-grants : (a b : Outcome) → and_then a b ≡ Grants → (a ≡ Grants) ⊎ (b ≡ Grants)
after-grants Denies b h = inr h
after-grants Faulty b h = cc
after-grants Opens Denies h = cc
after-grants Opens Opens h = cc
after-grants Opens Faulty h = cc
after-grants Opens Grants h = inr refl
after-grants Grants b h = inl refl

after-denies : (a b : Outcome) → and_then a b ≡ Denies → (a ≡ Denies) × (b ≡ Denies)
after-denies Denies b h = (refl, h)
after-denies Faulty b h = cc
after-denies Opens Denies h = cc
after-denies Opens Opens h = cc
after-denies Opens Faulty h = cc
after-denies Opens Grants h = cc
after-denies Grants Denies h = cc
after-denies Grants Opens h = cc
after-denies Grants Faulty h = cc
after-denies Grants Grants h = cc

pub status-grants : (o : Outcome) → status_of o ≡ 0 → o ≡ Grants
status-grants Grants h = refl
status-grants Denies h = absurd (omega (arith, h))
status-grants Opens h = absurd (omega (arith, h))
status-grants Faulty h = absurd (omega (arith, h))

pub status-denies : (o : Outcome) → status_of o ≡ 1 → o ≡ Denies
status-denies Denies h = refl
status-denies Grants h = absurd (omega (arith, h))
status-denies Opens h = absurd (omega (arith, h))
status-denies Faulty h = absurd (omega (arith, h))

-- what a file tells is a fault, if there is none, or if its read failed; and of a file with this outcome this holds
pub record Tells (tells : Telling (List ℕ) ReportedLines) (o : Outcome) (P : List ℕ → Type 0) : Type 0 where
  -- each is read by its name
  pub read_as : (name : List ℕ) → tells.path name ≡ name
  pub fault : (name : List ℕ) (cause : UnreadCause) → (tells.of_fault name cause).outcome ≡ o → ⊥
  pub none : (name : List ℕ) (cause : UnreadCause) → (tells.of_bytes name (Err cause)).outcome ≡ o → ⊥
  pub some : (name file : List ℕ) → (tells.of_bytes name (Ok file)).outcome ≡ o → P file

abbrev HasFile : (List ℕ → Type 0) → List ℕ → SourceState → Type 0
HasFile P name s = (file : List ℕ) × (bytes_at s name ≡ Some file) × P file

has-bytes : (tells : Telling (List ℕ) ReportedLines) (o : Outcome) (P : List ℕ → Type 0) (name : List ℕ) (s : SourceState) (first : ReportedLines) → Tells tells o P
    → (given : Result (List ℕ) UnreadCause) → given_at s name ≡ given → (tells.of_bytes name given).outcome ≡ o → HasFile P name s
has-bytes tells o P name s first h (Err cause) is e = absurd (h.none name cause e)
has-bytes tells o P name s first h (Ok file) is e = (file, ap bytes_of is, h.some name file e)

has-file : (tells : Telling (List ℕ) ReportedLines) (o : Outcome) (P : List ℕ → Type 0) (name : List ℕ) (s m : SourceState) (first : ReportedLines) → Tells tells o P
    → TellsFile tells name s (Some m) first → first.outcome ≡ o → HasFile P name s
has-file tells o P name s m first h (keeps, inl (failed, is)) e = absurd (h.fault name (cause_at s (tells.path name)) (sym (ap (λ (x : ReportedLines). x.outcome) is) ∙ e))
has-file tells o P name s m first h (keeps, inr (unfailed, end, is)) e =
    has-bytes tells o P name s first h (given_at s name) refl
    (sym (ap (λ (x : ReportedLines). x.outcome) (is ∙ ap (λ (n : List ℕ). tells.of_bytes name (given_at s n)) (h.read_as name))) ∙ e)

few-failures : (tells : Telling (List ℕ) ReportedLines) (name : List ℕ) (s m : SourceState) (first : ReportedLines) → TellsFile tells name s (Some m) first → m.failures ≤ s.failures + 1
few-failures tells name s m first (keeps, inl (failed, is)) = let one : m.failures ≡ s.failures + 1 = failed.0 in omega (arith, one)
few-failures tells name s m first (keeps, inr (unfailed, end, is)) = let same : m.failures ≡ s.failures = unfailed in omega (arith, same)

pub some-file : (tells : Telling (List ℕ) ReportedLines) (P : List ℕ → Type 0) → Tells tells Grants P → (sofar : ReportedLines) (names : List (List ℕ)) (s : SourceState) (t : Option SourceState) (reported : ReportedLines)
    → s.failures + length names < most_failures → TellsFiles reported_both tells sofar names s t reported → reported.outcome ≡ Grants → (sofar.outcome ≡ Grants) ⊎ SomeFile P names s
some-file tells P h sofar [] s t reported room (unfailed, is) e = inl (sym (ap (λ (x : ReportedLines). x.outcome) is) ∙ e)
some-file tells P h sofar (name ∷ names) s t reported room (m, first, one, more) e =
    let few = few-failures tells name s m first one in
    let left : m.failures + length names < most_failures = omega (arith, room, few) in
    elim (some-file tells P h (reported_both sofar first) names m t reported left (more (omega (arith, left))) e) [
      | inl both ↦
          elim (after-grants sofar.outcome first.outcome both) [
            | inl before ↦ inl before
            | inr here ↦ inr (inl (has-file tells Grants P name s m first h one here))
          ]
      | inr later ↦ inr (inr (m, subst (λ (n : List ℕ). KeepsOthers n s (Some m)) (h.read_as name) one.0, later))
    ]

pub each-file : (tells : Telling (List ℕ) ReportedLines) (P : List ℕ → Type 0) → Tells tells Denies P → (sofar : ReportedLines) (names : List (List ℕ)) (s : SourceState) (t : Option SourceState) (reported : ReportedLines)
    → s.failures + length names < most_failures → TellsFiles reported_both tells sofar names s t reported → reported.outcome ≡ Denies → (sofar.outcome ≡ Denies) × EachFile P names s
each-file tells P h sofar [] s t reported room (unfailed, is) e = (sym (ap (λ (x : ReportedLines). x.outcome) is) ∙ e, tt)
each-file tells P h sofar (name ∷ names) s t reported room (m, first, one, more) e =
    let few = few-failures tells name s m first one in
    let left : m.failures + length names < most_failures = omega (arith, room, few) in
    let (both, rest) = each-file tells P h (reported_both sofar first) names m t reported left (more (omega (arith, left))) e in
    let (before, here) = after-denies sofar.outcome first.outcome both in
    (before, (has-file tells Denies P name s m first h one here, (m, subst (λ (n : List ℕ). KeepsOthers n s (Some m)) (h.read_as name) one.0, rest)))

-- ---- what a file decides

pub not-grants : (b : Bool) → denied_outcome b ≡ Grants → ⊥
not-grants true h = cc
not-grants false h = cc

let-in : (claim : LoginClaim) (file : List ℕ) (other : OtherLines) (long : Bool) (d : Decision) → outcome_of other (cond long (Err FileTooLong) (Ok d)) ≡ Grants
    → LoginMeans file claim (login_evidence claim) d → (line : ℕ) × (entry : AuthEntry) × IsGrant file claim (login_evidence claim) line entry
let-in claim file other true d h means = cc
let-in claim file other false (Granted line rights reasons evidence) h means = (line, means.0, means.1)
let-in claim file other false (Denied why reasons evidence) h means = absurd (not-grants other.may_admit h)

kept-out : (claim : LoginClaim) (file : List ℕ) (other : OtherLines) (long : Bool) (d : Decision) → outcome_of other (cond long (Err FileTooLong) (Ok d)) ≡ Denies
    → LoginMeans file claim (login_evidence claim) d → (line : ℕ) (entry : AuthEntry) → IsGrant file claim (login_evidence claim) line entry → ⊥
kept-out claim file other true d h means = cc
kept-out claim file other false (Granted line rights reasons evidence) h means = cc
kept-out claim file other false (Denied why reasons evidence) h means = means.0

trust-key : (claim : HostClaim) (file : List ℕ) (other : OtherLines) (long : Bool) (d : Decision) → outcome_of other (cond long (Err FileTooLong) (Ok d)) ≡ Grants
    → HostMeans file claim (host_evidence claim) d → (line : ℕ) × (entry : KnownEntry) × IsHostGrant file claim (host_evidence claim) line entry
trust-key claim file other true d h means = cc
trust-key claim file other false (Granted line rights reasons evidence) h means = (line, means.0, means.1)
trust-key claim file other false (Denied why reasons evidence) h means = absurd (not-grants other.may_admit h)

distrust-key : (claim : HostClaim) (file : List ℕ) (other : OtherLines) (long : Bool) (d : Decision) → outcome_of other (cond long (Err FileTooLong) (Ok d)) ≡ Denies
    → HostMeans file claim (host_evidence claim) d → (line : ℕ) (entry : KnownEntry) → IsHostGrant file claim (host_evidence claim) line entry → ⊥
distrust-key claim file other true d h means = cc
distrust-key claim file other false (Granted line rights reasons evidence) h means = cc
distrust-key claim file other false (Denied why reasons evidence) h means = means.0

abbrev pub login-telling : AnswerForm → Otherness → LoginClaim → Telling (List ℕ) ReportedLines
login-telling who beside claim = telling who (decided_by login_decision (Ok claim)) beside (login_evidence claim)

abbrev host-telling : AnswerForm → Otherness → HostClaim → Telling (List ℕ) ReportedLines
host-telling who beside claim = telling who (decided_by host_decision (Ok claim)) beside (host_evidence claim)

pub tells-grants : (who : AnswerForm) (beside : Otherness) (claim : LoginClaim) → Tells (login-telling who beside claim) Grants (LetsIn claim)
tells-grants who beside claim = record {
  read_as = λ name. refl;
  fault = λ name cause h. cc;
  none = λ name cause h. cc;
  some = λ name file h bytes.
      let d = login_decision file claim (login_evidence claim) in
      let long = nat_lt file_limit (length file) in
      let in_full = cond long (Err FileTooLong) (Ok d) in
      let-in claim file (beside_answer beside file in_full) long d h (login_means file claim (login_evidence claim) bytes);
}

pub tells-denies : (who : AnswerForm) (beside : Otherness) (claim : LoginClaim) → Tells (login-telling who beside claim) Denies (KeepsOut claim)
tells-denies who beside claim = record {
  read_as = λ name. refl;
  fault = λ name cause h. cc;
  none = λ name cause h. cc;
  some = λ name file h bytes.
      let d = login_decision file claim (login_evidence claim) in
      let long = nat_lt file_limit (length file) in
      let in_full = cond long (Err FileTooLong) (Ok d) in
      kept-out claim file (beside_answer beside file in_full) long d h (login_means file claim (login_evidence claim) bytes);
}

tells-trusts : (who : AnswerForm) (beside : Otherness) (claim : HostClaim) → Tells (host-telling who beside claim) Grants (TrustsKey claim)
tells-trusts who beside claim = record {
  read_as = λ name. refl;
  fault = λ name cause h. cc;
  none = λ name cause h. cc;
  some = λ name file h bytes.
      let d = host_decision file claim (host_evidence claim) in
      let long = nat_lt file_limit (length file) in
      let in_full = cond long (Err FileTooLong) (Ok d) in
      trust-key claim file (beside_answer beside file in_full) long d h (host_means file claim (host_evidence claim) bytes);
}

tells-distrusts : (who : AnswerForm) (beside : Otherness) (claim : HostClaim) → Tells (host-telling who beside claim) Denies (DistrustsKey claim)
tells-distrusts who beside claim = record {
  read_as = λ name. refl;
  fault = λ name cause h. cc;
  none = λ name cause h. cc;
  some = λ name file h bytes.
      let d = host_decision file claim (host_evidence claim) in
      let long = nat_lt file_limit (length file) in
      let in_full = cond long (Err FileTooLong) (Ok d) in
      distrust-key claim file (beside_answer beside file in_full) long d h (host_means file claim (host_evidence claim) bytes);
}

-- ---- what is asked of the files

-- the files were asked, by this claim of the offer
record Asked {C : Type 0} (claimed : Result C AuditError) (who : AnswerForm) (decision : List ℕ → C → List Signed → Decision) (evidence : C → List Signed) (beside : Otherness)
    (names : List (List ℕ)) (s : SourceState) (t : Option SourceState) (r : Response) : Type 0 where
  claim : C
  is : claimed ≡ Ok claim
  reported : ReportedLines
  chain : TellsFiles reported_both (telling who (decided_by decision (Ok claim)) beside (evidence claim)) nothing_reported names s t reported
  status : status_of reported.outcome ≡ r.status

asked-by : {C : Type 0} (claimed : Result C AuditError) (who : AnswerForm) (at : AskedTime) (decision : List ℕ → C → List Signed → Decision) (evidence : C → List Signed) (beside : Otherness)
    (names : List (List ℕ)) (s : SourceState) (t : Option SourceState) (r : Response)
    → AsksBy who at (decided_by decision claimed) beside (evidence_by evidence claimed) names s t r → r.status < 2 → Asked claimed who decision evidence beside names s t r
asked-by (Err e) who at decision evidence beside names s t r (unfailed, is) few = let two = status-of r _ is in absurd (omega (arith, two, few))
asked-by (Ok claim) who at decision evidence beside names s t r (reported, chain, is) few = record { claim = claim; is = refl; reported = reported; chain = chain; status = sym (status-of r _ is) }

offer-faulty : (key : List ℕ) (o : Option (List ℕ)) → IsFaulty (offer_or_fault key o)
offer-faulty key None f h = sym (status-of _ f (err-same _ f h))
offer-faulty key (Some file) f h = by (shown_offer_in file) h
  where
    by : (x : Result Offered ShowError) → or_shown_fault x ≡ Err f → f.status ≡ 2
    by (Ok o) h = cc
    by (Err (shown.Line cause)) h = sym (status-of _ f (err-same _ f h))
    by (Err (shown.Cert e)) h = sym (status-of _ f (err-same _ f h))
    by (Err (shown.Body e)) h = sym (status-of _ f (err-same _ f h))
    by (Err shown.Memory) h = sym (status-of _ f (err-same _ f h))

-- the key's file was read, and it offers this
record Offers (asks : Offered → KeyAsking) (key : List ℕ) (names : List (List ℕ)) (s : SourceState) (t : Option SourceState) (r : Response) : Type 0 where
  left : SourceState
  kept : KeepsOthers key s (Some left)
  unfailed : NoReadFailed s (Some left)
  offer : Offered
  offered : offer_or_fault key (within_limit (bytes_at s key)) ≡ Ok offer
  asked : AsksFiles (asks offer) names left t r

offers-in : (asks : Offered → KeyAsking) (key : List ℕ) (names : List (List ℕ)) (s m : SourceState) (t : Option SourceState) (r : Response)
    → KeepsOthers key s (Some m) → NoReadFailed s (Some m) → (x : Result Offered Response) → offer_or_fault key (within_limit (bytes_at s key)) ≡ x
    → AsksOffer asks x names m t r → r.status < 2 → Offers asks key names s t r
offers-in asks key names s m t r keeps none (Err fault) e (unfailed, is) few =
    let two = offer-faulty key (within_limit (bytes_at s key)) fault e in
    let same = status-of r fault is in
    absurd (omega (arith, two, same, few))
offers-in asks key names s m t r keeps none (Ok offer) e h few = record { left = m; kept = keeps; unfailed = none; offer = offer; offered = e; asked = h }

offers : (asks : Offered → KeyAsking) (key : List ℕ) (names : List (List ℕ)) (s : SourceState) (t : Option SourceState) (r : Response)
    → AsksKey asks key names s t r → r.status < 2 → Offers asks key names s t r
offers asks key names s t r (inl fault) few = let two = status-of r _ fault.1 in absurd (omega (arith, two, few))
offers asks key names s t r (inr (m, keeps, none, end, h)) few = offers-in asks key names s m t r keeps none (offer_or_fault key (within_limit (bytes_at s key))) refl h few

-- ---- what the options spell

pub names-faulty : (rows : List Row) → IsFaulty (names_needed rows)
names-faulty rows = or-faulty (names_given rows) _ refl

pub client-faulty : (rows : List Row) (zone : Option TimeZone) → IsFaulty (client_spelled rows zone)
unfolding client_spelled
client-faulty rows zone =
    step-faulty _ _ (value-faulty short_bytes option.User rows) (λ user.
    step-faulty _ _ (value-faulty (number_below (2 ^ 64)) option.Now rows) (λ now.
    step-faulty _ _ (fault-faulty option.Zone zone) (λ zone.
    step-faulty _ _ (optional-faulty Any empty_principals_of option.EmptyPrincipals rows) (λ empty_principals.
    step-faulty _ _ (optional-faulty 0 (number_below (2 ^ 32)) option.RsaMinimum rows) (λ rsa_minimum.
    step-faulty _ _ (optional-faulty Text decision_form_of option.Form rows) (λ form.
    step-faulty _ _ (needed-faulty option.Address rows) (λ address. none-faulty _)))))))

admits-faulty : (rows : List Row) (zone : Option TimeZone) → IsFaulty (admits_spelled rows zone)
unfolding admits_spelled
admits-faulty rows zone =
    step-faulty _ _ (needed-faulty option.Key rows) (λ key.
    step-faulty _ _ (client-faulty rows zone) (λ client.
    step-faulty _ _ (names-faulty rows) (λ names. none-faulty _)))

trusts-faulty : (rows : List Row) → IsFaulty (trusts_spelled rows)
unfolding trusts_spelled
trusts-faulty rows =
    step-faulty _ _ (needed-faulty option.Key rows) (λ key.
    step-faulty _ _ (value-faulty (number_below (2 ^ 64)) option.Now rows) (λ now.
    step-faulty _ _ (optional-faulty usual_port (number_below (2 ^ 16)) option.Port rows) (λ port.
    step-faulty _ _ (optional-faulty Any empty_principals_of option.EmptyPrincipals rows) (λ empty_principals.
    step-faulty _ _ (optional-faulty 0 (number_below (2 ^ 32)) option.RsaMinimum rows) (λ rsa_minimum.
    step-faulty _ _ (optional-faulty Text decision_form_of option.Form rows) (λ form.
    step-faulty _ _ (needed-faulty option.Host rows) (λ host.
    step-faulty _ _ (names-faulty rows) (λ names. none-faulty _))))))))

-- the names are those of the options, and of each offer a login is made
abbrev AsksLogin : List Row → KeyAsked → Type 0
AsksLogin rows a = (names_needed rows ≡ Ok a.names) × ((o : Offered) → (form : DecisionForm) × (rule : List ℕ) × (q : LoginAsked) × (q.offered ≡ o.blob) × (a.asks o ≡ login_asking form rule q))

abbrev AsksHost : List Row → KeyAsked → Type 0
AsksHost rows a = (names_needed rows ≡ Ok a.names) × ((o : Offered) → (form : DecisionForm) × (q : HostCheck) × (q.offered ≡ o.blob) × (a.asks o ≡ host_asking form q))

admits-asks : (rows : List Row) (zone : Option TimeZone) (a : KeyAsked) → admits_spelled rows zone ≡ Ok a → AsksLogin rows a
unfolding admits_spelled
admits-asks rows zone =
    step-any (AsksLogin rows) (needed option.Key rows) _ (λ key.
    step-any (AsksLogin rows) (client_spelled rows zone) _ (λ client.
    step-gives (λ names. names_needed rows ≡ Ok names) (AsksLogin rows) (names_needed rows) _ (λ names h. h) (λ names is.
    λ a h. subst (AsksLogin rows) (ok-same {A = KeyAsked} {B = Response} _ a h) (is, λ o. (client.form, client.rule, client_login client o, refl, refl)))))

trusts-asks : (rows : List Row) (a : KeyAsked) → trusts_spelled rows ≡ Ok a → AsksHost rows a
unfolding trusts_spelled
trusts-asks rows =
    step-any (AsksHost rows) (needed option.Key rows) _ (λ key.
    step-any (AsksHost rows) (value (number_below (2 ^ 64)) option.Now rows) _ (λ now.
    step-any (AsksHost rows) (value_or usual_port (number_below (2 ^ 16)) option.Port rows) _ (λ port.
    step-any (AsksHost rows) (value_or Any empty_principals_of option.EmptyPrincipals rows) _ (λ empty_principals.
    step-any (AsksHost rows) (value_or 0 (number_below (2 ^ 32)) option.RsaMinimum rows) _ (λ rsa_minimum.
    step-any (AsksHost rows) (value_or Text decision_form_of option.Form rows) _ (λ form.
    step-any (AsksHost rows) (needed option.Host rows) _ (λ host.
    step-gives (λ names. names_needed rows ≡ Ok names) (AsksHost rows) (names_needed rows) _ (λ names h. h) (λ names is.
    λ a h. subst (AsksHost rows) (ok-same {A = KeyAsked} {B = Response} _ a h) (is, λ o. (form, _, refl, refl))))))))))

-- ---- which option gives the key

-- the key's file, where no fingerprint is given
by-file : (rows : List Row) (zone : Option TimeZone) (key fingerprint : Option (List ℕ)) (s : SourceState) (t : Option SourceState) (r : Response) → fingerprint ≡ None
    → RespondsTo (AdmitsAt rows zone) (key_place_by key fingerprint) s t r → r.status < 2 → AdmitsAt rows zone place.File s t r
by-file rows zone (Some key) None s t r alone h few = h
by-file rows zone None None s t r alone h few = let two = status-of r _ h.1 in absurd (omega (arith, two, few))
by-file rows zone key (Some text) s t r alone h few = cc

-- the fingerprint, where no key's file is given
pub by-fingerprint : (rows : List Row) (zone : Option TimeZone) (key fingerprint : Option (List ℕ)) (s : SourceState) (t : Option SourceState) (r : Response) → key ≡ None
    → RespondsTo (AdmitsAt rows zone) (key_place_by key fingerprint) s t r → r.status < 2 → AdmitsAt rows zone place.Fingerprint s t r
by-fingerprint rows zone None (Some text) s t r alone h few = h
by-fingerprint rows zone None None s t r alone h few = let two = status-of r _ h.1 in absurd (omega (arith, two, few))
by-fingerprint rows zone (Some key) fingerprint s t r alone h few = cc

-- ---- a response to a client's key

-- the options spell this, and the files were asked about the login that is made of the offer
record ClientOf (rows : List Row) (names : List (List ℕ)) (s : SourceState) (t : Option SourceState) (r : Response) : Type 0 where
  client : ClientAsked rows s
  same : client.asked.names ≡ names
  unfailed : NoReadFailed s (Some client.left)
  beside : Otherness
  who : AnswerForm
  reported : ReportedLines
  chain : TellsFiles reported_both (login-telling who beside client.claim) nothing_reported client.asked.names client.left t reported
  status : status_of reported.outcome ≡ r.status

client-of : (rows : List Row) (names : List (List ℕ)) (zone : Option TimeZone) (s : SourceState) (t : Option SourceState) (r : Response) → names_needed rows ≡ Ok names
    → ReadsZone (zone_text (given option.Zone rows)) zone → (x : Result KeyAsked Response) → admits_spelled rows zone ≡ x
    → RespondsTo (λ q. AsksKey q.asks q.key q.names) x s t r → r.status < 2 → ClientOf rows names s t r
client-of rows names zone s t r named read (Err fault) spelled (unfailed, is) few =
    let two = admits-faulty rows zone fault spelled in
    let same = status-of r fault is in
    absurd (omega (arith, two, same, few))
client-of rows names zone s t r named read (Ok a) spelled h few =
    let o = offers a.asks a.key a.names s t r h few in
    let asks = admits-asks rows zone a spelled in
    let (form, rule, q, blob, is) = asks.1 o.offer in
    let files = subst (λ (k : KeyAsking). AsksFiles k a.names o.left t r) is o.asked in
    let by = asked-by (login_claim q) (record { subject = Client; form = form }) (record { now = q.now; zone = Some rule }) login_decision login_evidence (beside_by other_login (login_claim q)) a.names o.left t r files few in
    record {
      client = record {
        zone = zone;
        read = read;
        asked = a;
        spelled = spelled;
        offer = o.offer;
        offered = o.offered;
        login = q;
        blob = blob;
        form = form;
        rule = rule;
        asks = is;
        claim = by.claim;
        claimed = by.is;
        left = o.left;
        kept = o.kept;
      };
      same = ok-same {A = List (List ℕ)} {B = Response} a.names names (sym asks.0 ∙ named);
      unfailed = o.unfailed;
      beside = beside_by other_login (login_claim q);
      who = record { subject = Client; form = form };
      reported = by.reported;
      chain = by.chain;
      status = by.status;
    }

pub room-left : (s m : SourceState) (names others : List (List ℕ)) → m.failures ≡ s.failures → names ≡ others → s.failures + length others < most_failures → m.failures + length names < most_failures
room-left s m names others same is room = let len = ap length is in omega (arith, same, len, room)

client-admitted : (rows : List Row) (names : List (List ℕ)) (s : SourceState) (t : Option SourceState) (r : Response) → s.failures + length names < most_failures
    → ClientOf rows names s t r → r.status ≡ 0 → ClientAdmitted rows s
client-admitted rows names s t r room c zero =
    let grants = status-grants c.reported.outcome (c.status ∙ zero) in
    elim (some-file _ _ (tells-grants c.who c.beside c.client.claim) nothing_reported c.client.asked.names c.client.left t c.reported (room-left s c.client.left c.client.asked.names names c.unfailed c.same room) c.chain grants) [
      | inl before ↦ cc
      | inr some ↦ record { client = c.client; admitted = some }
    ]

client-kept_out : (rows : List Row) (names : List (List ℕ)) (s : SourceState) (t : Option SourceState) (r : Response) → s.failures + length names < most_failures
    → ClientOf rows names s t r → r.status ≡ 1 → ClientKeptOut rows s
client-kept_out rows names s t r room c one =
    let denies = status-denies c.reported.outcome (c.status ∙ one) in
    let each = each-file _ _ (tells-denies c.who c.beside c.client.claim) nothing_reported c.client.asked.names c.client.left t c.reported (room-left s c.client.left c.client.asked.names names c.unfailed c.same room) c.chain denies in
    record { client = c.client; kept_out = each.1 }

-- ---- a response to a host's key

record HostOf (rows : List Row) (names : List (List ℕ)) (s : SourceState) (t : Option SourceState) (r : Response) : Type 0 where
  host : HostAsked rows s
  same : host.asked.names ≡ names
  unfailed : NoReadFailed s (Some host.left)
  beside : Otherness
  who : AnswerForm
  reported : ReportedLines
  chain : TellsFiles reported_both (host-telling who beside host.claim) nothing_reported host.asked.names host.left t reported
  status : status_of reported.outcome ≡ r.status

host-of : (rows : List Row) (names : List (List ℕ)) (s : SourceState) (t : Option SourceState) (r : Response) → names_needed rows ≡ Ok names
    → (x : Result KeyAsked Response) → trusts_spelled rows ≡ x
    → RespondsTo (λ q. AsksKey q.asks q.key q.names) x s t r → r.status < 2 → HostOf rows names s t r
host-of rows names s t r named (Err fault) spelled (unfailed, is) few =
    let two = trusts-faulty rows fault spelled in
    let same = status-of r fault is in
    absurd (omega (arith, two, same, few))
host-of rows names s t r named (Ok a) spelled h few =
    let o = offers a.asks a.key a.names s t r h few in
    let asks = trusts-asks rows a spelled in
    let (form, q, blob, is) = asks.1 o.offer in
    let files = subst (λ (k : KeyAsking). AsksFiles k a.names o.left t r) is o.asked in
    let by = asked-by (host_claim q) (record { subject = Host; form = form }) (record { now = q.now; zone = None }) host_decision host_evidence (beside_by other_host (host_claim q)) a.names o.left t r files few in
    record {
      host = record {
        asked = a;
        spelled = spelled;
        offer = o.offer;
        offered = o.offered;
        check = q;
        blob = blob;
        form = form;
        asks = is;
        claim = by.claim;
        claimed = by.is;
        left = o.left;
        kept = o.kept;
      };
      same = ok-same {A = List (List ℕ)} {B = Response} a.names names (sym asks.0 ∙ named);
      unfailed = o.unfailed;
      beside = beside_by other_host (host_claim q);
      who = record { subject = Host; form = form };
      reported = by.reported;
      chain = by.chain;
      status = by.status;
    }

host-trusted : (rows : List Row) (names : List (List ℕ)) (s : SourceState) (t : Option SourceState) (r : Response) → s.failures + length names < most_failures
    → HostOf rows names s t r → r.status ≡ 0 → HostTrusted rows s
host-trusted rows names s t r room c zero =
    let grants = status-grants c.reported.outcome (c.status ∙ zero) in
    elim (some-file _ _ (tells-trusts c.who c.beside c.host.claim) nothing_reported c.host.asked.names c.host.left t c.reported (room-left s c.host.left c.host.asked.names names c.unfailed c.same room) c.chain grants) [
      | inl before ↦ cc
      | inr some ↦ record { host = c.host; trusted = some }
    ]

host-distrusted : (rows : List Row) (names : List (List ℕ)) (s : SourceState) (t : Option SourceState) (r : Response) → s.failures + length names < most_failures
    → HostOf rows names s t r → r.status ≡ 1 → HostDistrusted rows s
host-distrusted rows names s t r room c one =
    let denies = status-denies c.reported.outcome (c.status ∙ one) in
    let each = each-file _ _ (tells-distrusts c.who c.beside c.host.claim) nothing_reported c.host.asked.names c.host.left t c.reported (room-left s c.host.left c.host.asked.names names c.unfailed c.same room) c.chain denies in
    record { host = c.host; distrusted = each.1 }

-- ---- a run

pub client_admitted_run : (words : List (List ℕ)) (o t : Option SourceState) (old new : Option Account) (status : ℕ) → IfTells o (Answered words t old new status)
    → IfTells o (λ s. (rows : List Row) (names : List (List ℕ)) → AsksByKey words s rows names → status ≡ 0 → ClientAdmitted rows (source_of words s))
client_admitted_run words None t old new status h = tt
client_admitted_run words (Some s) t old new status h = λ room rows names asks is.
    let (r, answers, writes) = h room in
    let zero = ends-as 0 (omega arith) old new r status writes is in
    let (zone, read, by) = responds-to words (Some (record { subcommand = Admits; rows = rows })) s t r (asks.asks).request answers (omega (arith, zero)) in
    let file = by-file rows zone (given option.Key rows) (given option.Fingerprint rows) (source_of words s) t r asks.alone by (omega (arith, zero)) in
    client-admitted rows names (source_of words s) t r (asks.asks).room (client-of rows names zone (source_of words s) t r (asks.asks).named read (admits_spelled rows zone) refl file (omega (arith, zero))) zero

pub client_kept_out_run : (words : List (List ℕ)) (o t : Option SourceState) (old new : Option Account) (status : ℕ) → IfTells o (Answered words t old new status)
    → IfTells o (λ s. (rows : List Row) (names : List (List ℕ)) → AsksByKey words s rows names → status ≡ 1 → ClientKeptOut rows (source_of words s))
client_kept_out_run words None t old new status h = tt
client_kept_out_run words (Some s) t old new status h = λ room rows names asks is.
    let (r, answers, writes) = h room in
    let one = ends-as 1 (omega arith) old new r status writes is in
    let (zone, read, by) = responds-to words (Some (record { subcommand = Admits; rows = rows })) s t r (asks.asks).request answers (omega (arith, one)) in
    let file = by-file rows zone (given option.Key rows) (given option.Fingerprint rows) (source_of words s) t r asks.alone by (omega (arith, one)) in
    client-kept_out rows names (source_of words s) t r (asks.asks).room (client-of rows names zone (source_of words s) t r (asks.asks).named read (admits_spelled rows zone) refl file (omega (arith, one))) one

pub host_trusted_run : (words : List (List ℕ)) (o t : Option SourceState) (old new : Option Account) (status : ℕ) → IfTells o (Answered words t old new status)
    → IfTells o (λ s. (rows : List Row) (names : List (List ℕ)) → AsksOfFiles Trusts words s rows names → status ≡ 0 → HostTrusted rows (source_of words s))
host_trusted_run words None t old new status h = tt
host_trusted_run words (Some s) t old new status h = λ room rows names asks is.
    let (r, answers, writes) = h room in
    let zero = ends-as 0 (omega arith) old new r status writes is in
    let by = responds-to words (Some (record { subcommand = Trusts; rows = rows })) s t r asks.request answers (omega (arith, zero)) in
    host-trusted rows names (source_of words s) t r asks.room (host-of rows names (source_of words s) t r asks.named (trusts_spelled rows) refl by (omega (arith, zero))) zero

pub host_distrusted_run : (words : List (List ℕ)) (o t : Option SourceState) (old new : Option Account) (status : ℕ) → IfTells o (Answered words t old new status)
    → IfTells o (λ s. (rows : List Row) (names : List (List ℕ)) → AsksOfFiles Trusts words s rows names → status ≡ 1 → HostDistrusted rows (source_of words s))
host_distrusted_run words None t old new status h = tt
host_distrusted_run words (Some s) t old new status h = λ room rows names asks is.
    let (r, answers, writes) = h room in
    let one = ends-as 1 (omega arith) old new r status writes is in
    let by = responds-to words (Some (record { subcommand = Trusts; rows = rows })) s t r asks.request answers (omega (arith, one)) in
    host-distrusted rows names (source_of words s) t r asks.room (host-of rows names (source_of words s) t r asks.named (trusts_spelled rows) refl by (omega (arith, one))) one
