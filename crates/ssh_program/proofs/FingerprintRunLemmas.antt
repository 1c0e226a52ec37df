-- A run of `admits --fingerprint` that ends with status 0 has a line that lets in the key that its file holds; one that ends with status 1 has none.
use Rattle.ssh_program.proofs.Imports.{◌≡◌, ◌<◌, ◌+◌, ◌∙◌, cond, ℕ, Bool, true, false, List, length, nat_lt, Option, Some, None, option_map, Result, Ok, Err, refl, sym, subst, inl, inr, arith, IfTells, SourceState, most_failures, zone_text, ReadsZone, Row, TimeZone, Response, Account, source_of, RespondsTo, given, names_needed, value, AuditError, FileTooLong, Login, LoginClaim, login_claim, login_evidence, file_limit, beside_by, other_login, TellsFiles, ReportedLines, reported_both, nothing_reported, status_of, decided_by, evidence_by, Admits, FingerprintAsked, AsksFingerprint, AsksFound, ClientOptions, client_form, client_login, client_spelled, fingerprint_telling, fingerprint_reported, found_key, offered_key, reported_alone_by, reported_fault, reported_found}
use Rattle.ssh_keys.specs.PublicKey.{PublicKey}
use Rattle.ssh_patterns.specs.declared.address.Address.{Address as AddressValue}
use Rattle.ssh_patterns.specs.AddressReading.{address_of}
use Rattle.ssh_trust.specs.LoginDecision.{login_decision}
use Rattle.ssh_print.specs.OtherLines.{unreported_other}
use Rattle.ssh_print.proofs.FingerprintLemmas.{first_held, none_admitted, none_held}
use Rattle.ssh_program.specs.declared.admission.Outcome.TheVariants.{Denies, Grants}
use Rattle.ssh_program.specs.declared.args.ArgName.TheVariants as option
use Rattle.ssh_program.specs.FingerprintRuns.{AsksByFingerprint, FingerprintAdmitted, FingerprintClient, FingerprintKeptOut, KeepsOutHeld, LetsInHeld}
use Rattle.ssh_program.specs.FingerprintValues.{fingerprint_bytes}
use Rattle.ssh_program.specs.KeyRuns.{KeepsOut, LetsIn}
use Rattle.ssh_program.specs.Keys.{fingerprint_spelled}
use Rattle.ssh_program.proofs.GrantedRunLemmas.{Answered, IsFaulty, ends-as, none-faulty, responds-to, status-of, step-faulty, value-faulty}
use Rattle.ssh_program.proofs.KeyRunLemmas.{Tells, by-fingerprint, client-faulty, each-file, names-faulty, not-grants, room-left, some-file, status-denies, status-grants, tells-denies, tells-grants}
use Rattle.ssh_program.proofs.SpelledBytes.{ok-same, step-any, step-gives}

-- ---- what a file decides

alone-grants : (client : ClientOptions) (q : Login) (name file : List ℕ) (x : Result LoginClaim AuditError) → login_claim q ≡ x
    → (reported_alone_by (client_form client.form) (decided_by login_decision x) (beside_by other_login x) (evidence_by login_evidence x) name file).outcome ≡ Grants
    → (claim : LoginClaim) × (login_claim q ≡ Ok claim) × LetsIn claim file
alone-grants client q name file (Err e) is h = cc
alone-grants client q name file (Ok claim) is h = (claim, is, (tells-grants (client_form client.form) (other_login claim) claim).some name file h)

alone-denies : (client : ClientOptions) (q : Login) (name file : List ℕ) (x : Result LoginClaim AuditError) → login_claim q ≡ x
    → (reported_alone_by (client_form client.form) (decided_by login_decision x) (beside_by other_login x) (evidence_by login_evidence x) name file).outcome ≡ Denies
    → (claim : LoginClaim) × (login_claim q ≡ Ok claim) × KeepsOut claim file
alone-denies client q name file (Err e) is h = cc
alone-denies client q name file (Ok claim) is h = (claim, is, (tells-denies (client_form client.form) (other_login claim) claim).some name file h)

found-grants : (client : ClientOptions) (digest name file : List ℕ) (o : Option PublicKey) → found_key digest file ≡ o
    → (reported_found client name file (option_map offered_key o)).outcome ≡ Grants → LetsInHeld client digest file
found-grants client digest name file None is h = absurd (not-grants (unreported_other file).may_admit h)
found-grants client digest name file (Some key) is h =
    let q = client_login client (offered_key key) in
    let (claim, claimed, lets) = alone-grants client q name file (login_claim q) refl h in
    (record { key = key; first = first_held digest file key is; claim = claim; claimed = claimed }, lets)

found-denies : (client : ClientOptions) (digest name file : List ℕ) (o : Option PublicKey) → found_key digest file ≡ o
    → (reported_found client name file (option_map offered_key o)).outcome ≡ Denies → KeepsOutHeld client digest file
found-denies client digest name file None is h =
    inr (
    record {
      held = λ place line at. none_held digest file place line is at;
      admits = λ claim key vouched line entry offered fingerprint grant. none_admitted digest file claim key line entry is offered fingerprint grant.candidate;
    }
    )
found-denies client digest name file (Some key) is h =
    let q = client_login client (offered_key key) in
    let (claim, claimed, keeps) = alone-denies client q name file (login_claim q) refl h in
    inl (record { key = key; first = first_held digest file key is; claim = claim; claimed = claimed }, keeps)

reported-grants : (client : ClientOptions) (digest name file : List ℕ) → (fingerprint_reported client digest name (Some file)).outcome ≡ Grants → LetsInHeld client digest file
reported-grants client digest name file h = go (nat_lt file_limit (length file)) h
  where
    go : (long : Bool) → (cond long (reported_fault client.form name FileTooLong) (reported_found client name file (option_map offered_key (found_key digest file)))).outcome ≡ Grants
        → LetsInHeld client digest file
    go true h = cc
    go false h = found-grants client digest name file (found_key digest file) refl h

reported-denies : (client : ClientOptions) (digest name file : List ℕ) → (fingerprint_reported client digest name (Some file)).outcome ≡ Denies → KeepsOutHeld client digest file
reported-denies client digest name file h = go (nat_lt file_limit (length file)) h
  where
    go : (long : Bool) → (cond long (reported_fault client.form name FileTooLong) (reported_found client name file (option_map offered_key (found_key digest file)))).outcome ≡ Denies
        → KeepsOutHeld client digest file
    go true h = cc
    go false h = found-denies client digest name file (found_key digest file) refl h

held-grants : (client : ClientOptions) (digest : List ℕ) → Tells (fingerprint_telling client digest) Grants (LetsInHeld client digest)
held-grants client digest = record { read_as = λ name. refl; fault = λ name cause h. cc; none = λ name cause h. cc; some = λ name file h. reported-grants client digest name file h }

held-denies : (client : ClientOptions) (digest : List ℕ) → Tells (fingerprint_telling client digest) Denies (KeepsOutHeld client digest)
held-denies client digest = record { read_as = λ name. refl; fault = λ name cause h. cc; none = λ name cause h. cc; some = λ name file h. reported-denies client digest name file h }

-- ---- what is asked of the files

-- the files were asked
record Reported (client : ClientOptions) (digest : List ℕ) (names : List (List ℕ)) (s : SourceState) (t : Option SourceState) (r : Response) : Type 0 where
  reported : ReportedLines
  chain : TellsFiles reported_both (fingerprint_telling client digest) nothing_reported names s t reported
  status : status_of reported.outcome ≡ r.status

reported-by : (address : Option AddressValue) (client : ClientOptions) (digest : List ℕ) (names : List (List ℕ)) (s : SourceState) (t : Option SourceState) (r : Response)
    → AsksFound address client digest names s t r → r.status < 2 → Reported client digest names s t r
reported-by None client digest names s t r (unfailed, is) few = let two = status-of r _ is in absurd (omega (arith, two, few))
reported-by (Some address) client digest names s t r (reported, chain, is) few = record { reported = reported; chain = chain; status = sym (status-of r _ is) }

-- ---- what the options spell

fingerprint-faulty : (rows : List Row) (zone : Option TimeZone) → IsFaulty (fingerprint_spelled rows zone)
unfolding fingerprint_spelled
fingerprint-faulty rows zone =
    step-faulty _ _ (value-faulty fingerprint_bytes option.Fingerprint rows) (λ digest.
    step-faulty _ _ (client-faulty rows zone) (λ client.
    step-faulty _ _ (names-faulty rows) (λ names. none-faulty _)))

abbrev AsksNames : List Row → FingerprintAsked → Type 0
AsksNames rows a = names_needed rows ≡ Ok a.names

asks-names : (rows : List Row) (zone : Option TimeZone) (a : FingerprintAsked) → fingerprint_spelled rows zone ≡ Ok a → AsksNames rows a
unfolding fingerprint_spelled
asks-names rows zone =
    step-any (AsksNames rows) (value fingerprint_bytes option.Fingerprint rows) _ (λ digest.
    step-any (AsksNames rows) (client_spelled rows zone) _ (λ client.
    step-gives (λ names. names_needed rows ≡ Ok names) (AsksNames rows) (names_needed rows) _ (λ names h. h) (λ names is.
    λ a h. subst (AsksNames rows) (ok-same {A = FingerprintAsked} {B = Response} _ a h) is)))

-- ---- a response

-- the options spell this, and the files were asked
record AskedOf (rows : List Row) (names : List (List ℕ)) (s : SourceState) (t : Option SourceState) (r : Response) : Type 0 where
  client : FingerprintClient rows
  same : client.asked.names ≡ names
  reported : Reported client.asked.client client.asked.digest client.asked.names s t r

asked-of : (rows : List Row) (names : List (List ℕ)) (zone : Option TimeZone) (s : SourceState) (t : Option SourceState) (r : Response) → names_needed rows ≡ Ok names
    → ReadsZone (zone_text (given option.Zone rows)) zone → (x : Result FingerprintAsked Response) → fingerprint_spelled rows zone ≡ x
    → RespondsTo (λ q. AsksFingerprint q.client q.digest q.names) x s t r → r.status < 2 → AskedOf rows names s t r
asked-of rows names zone s t r named read (Err fault) spelled (unfailed, is) few =
    let two = fingerprint-faulty rows zone fault spelled in
    let same = status-of r fault is in
    absurd (omega (arith, two, same, few))
asked-of rows names zone s t r named read (Ok a) spelled h few = record {
  client = record { zone = zone; read = read; asked = a; spelled = spelled };
  same = ok-same {A = List (List ℕ)} {B = Response} a.names names (sym (asks-names rows zone a spelled) ∙ named);
  reported = reported-by (address_of a.client.address) a.client a.digest a.names s t r h few;
}

admitted : (rows : List Row) (names : List (List ℕ)) (s : SourceState) (t : Option SourceState) (r : Response) → s.failures + length names < most_failures
    → AskedOf rows names s t r → r.status ≡ 0 → FingerprintAdmitted rows s
admitted rows names s t r room c zero =
    let a = c.client.asked in
    let grants = status-grants c.reported.reported.outcome (c.reported.status ∙ zero) in
    elim (some-file _ _ (held-grants a.client a.digest) nothing_reported a.names s t c.reported.reported (room-left s s a.names names refl c.same room) c.reported.chain grants) [
      | inl before ↦ cc
      | inr some ↦ record { client = c.client; admitted = some }
    ]

kept-out : (rows : List Row) (names : List (List ℕ)) (s : SourceState) (t : Option SourceState) (r : Response) → s.failures + length names < most_failures
    → AskedOf rows names s t r → r.status ≡ 1 → FingerprintKeptOut rows s
kept-out rows names s t r room c one =
    let a = c.client.asked in
    let denies = status-denies c.reported.reported.outcome (c.reported.status ∙ one) in
    let each = each-file _ _ (held-denies a.client a.digest) nothing_reported a.names s t c.reported.reported (room-left s s a.names names refl c.same room) c.reported.chain denies in
    record { client = c.client; kept_out = each.1 }

-- ---- a run

pub fingerprint_admitted_run : (words : List (List ℕ)) (o t : Option SourceState) (old new : Option Account) (status : ℕ) → IfTells o (Answered words t old new status)
    → IfTells o (λ s. (rows : List Row) (names : List (List ℕ)) → AsksByFingerprint words s rows names → status ≡ 0 → FingerprintAdmitted rows (source_of words s))
fingerprint_admitted_run words None t old new status h = tt
fingerprint_admitted_run words (Some s) t old new status h = λ room rows names asks is.
    let (r, answers, writes) = h room in
    let zero = ends-as 0 (omega arith) old new r status writes is in
    let (zone, read, by) = responds-to words (Some (record { subcommand = Admits; rows = rows })) s t r (asks.asks).request answers (omega (arith, zero)) in
    let print = by-fingerprint rows zone (given option.Key rows) (given option.Fingerprint rows) (source_of words s) t r asks.alone by (omega (arith, zero)) in
    admitted rows names (source_of words s) t r (asks.asks).room (asked-of rows names zone (source_of words s) t r (asks.asks).named read (fingerprint_spelled rows zone) refl print (omega (arith, zero))) zero

pub fingerprint_kept_out_run : (words : List (List ℕ)) (o t : Option SourceState) (old new : Option Account) (status : ℕ) → IfTells o (Answered words t old new status)
    → IfTells o (λ s. (rows : List Row) (names : List (List ℕ)) → AsksByFingerprint words s rows names → status ≡ 1 → FingerprintKeptOut rows (source_of words s))
fingerprint_kept_out_run words None t old new status h = tt
fingerprint_kept_out_run words (Some s) t old new status h = λ room rows names asks is.
    let (r, answers, writes) = h room in
    let one = ends-as 1 (omega arith) old new r status writes is in
    let (zone, read, by) = responds-to words (Some (record { subcommand = Admits; rows = rows })) s t r (asks.asks).request answers (omega (arith, one)) in
    let print = by-fingerprint rows zone (given option.Key rows) (given option.Fingerprint rows) (source_of words s) t r asks.alone by (omega (arith, one)) in
    kept-out rows names (source_of words s) t r (asks.asks).room (asked-of rows names zone (source_of words s) t r (asks.asks).named read (fingerprint_spelled rows zone) refl print (omega (arith, one))) one
