-- From the key that is found in a trust file to what a list of files tells of its fingerprint, and from that to the response.
use Rattle.ssh_program.proofs.Imports.{◌≡◌, ◌∙◌, cond, ℕ, Bool, true, false, List, length, nat_lt, Option, Some, None, option_map, Result, Ok, Err, ok_or, refl, sym, ap, subst, inl, inr, IfOk, lt-ltb, IfTells, SourceState, bytes_at, after_whole, FailsLoad, IsLeft, IsTooLong, KeepsOthers, within_limit, ReadError, TellsFile, TellsFiles, Alike, files_same, left-end, left-none, no-end, none-failed, over_limit, read-all, file_limit, Address, FileTooLong, refused_response, AuditError, LoginClaim, login_claim, login_evidence, decided_by, evidence_by, login_by, login_rests, beside_by, other_login, Offered, found_key, offered_key, ReportedLines, reported_both, nothing_reported, reported_response, Row, TimeZone, RespondsTo, CommandError, IfAnswered, AsksBy, AsksFiles, AsksKey, AdmitsAt, key_place, AsksFingerprint, AsksFound, ClientOptions, IsUnreadFile, client_asks, client_form, client_login, fingerprint_telling, fingerprint_reported, reported_alone, reported_alone_by, reported_fault, reported_found}
use Rattle.ssh_files.specs.declared.read.ReadError.TheVariants as fault
use Rattle.ssh_patterns.specs.declared.address.Address.{Address as AddressValue}
use Rattle.ssh_patterns.specs.AddressReading.{address_of}
use Rattle.ssh_trust.specs.LoginDecision.{login_decision}
use Rattle.ssh_print.specs.declared.response.Response.{Response as Printed}
use Rattle.ssh_print.specs.Responses.{Response as Shown}
use Rattle.ssh_program.specs.declared.admission.AnswerForm.{AnswerForm}
use Rattle.ssh_program.specs.declared.args.KeyPlace.{KeyPlace}
use Rattle.ssh_program.specs.declared.args.KeyPlace.TheVariants as place
use Rattle.ssh_review.specs.Asked.{Asked}
use Rattle.ssh_program.specs.Clients.{client_moment}
use Rattle.ssh_program.specs.Keys.{admits_spelled, fingerprint_spelled}
use Rattle.ssh_program.proofs.AdmissionLemmas.{key-same}
use Rattle.ssh_program.proofs.AnsweredLemmas.{spelled_same}

-- ---- the question about an offer

-- the files were asked about the claim of the login that offers it
pub client_asked : {R E : Type 0} (view : R → Shown) (c : ClientOptions) (offer : Offered) (who : AnswerForm) (at : Asked) (claimed : Result LoginClaim AuditError) (names : List (List ℕ)) (o t : Option SourceState) (res : Result R E)
    → who ≡ client_form c.form → at ≡ client_moment c → claimed ≡ login_claim (client_login c offer)
    → IfTells o (λ s. IfOk res (λ r. AsksBy who at (decided_by login_decision claimed) (beside_by other_login claimed) (evidence_by login_evidence claimed) names s t (view r)))
    → IfTells o (λ s. IfOk res (λ r. AsksFiles (client_asks c offer) names s t (view r)))
client_asked view c offer who at claimed names o t res is when same h =
    let q = client_login c offer in
    let of_claim = subst (λ (x : Result LoginClaim AuditError). IfTells o (λ s. IfOk res (λ r. AsksBy who at (decided_by login_decision x) (beside_by other_login x) (evidence_by login_evidence x) names s t (view r)))) same h in
    let of_moment = subst (λ (a : Asked). IfTells o (λ s. IfOk res (λ r. AsksBy who a (login_by q) (beside_by other_login (login_claim q)) (login_rests q) names s t (view r)))) when of_claim in
    subst (λ (w : AnswerForm). IfTells o (λ s. IfOk res (λ r. AsksBy w (client_moment c) (login_by q) (beside_by other_login (login_claim q)) (login_rests q) names s t (view r)))) is of_moment

-- a file reported of it
pub offered_reported : (c : ClientOptions) (offer : Offered) (who : AnswerForm) (claimed : Result LoginClaim AuditError) (name file : List ℕ) (reported : ReportedLines)
    → who ≡ client_form c.form → claimed ≡ login_claim (client_login c offer)
    → reported ≡ reported_alone_by who (decided_by login_decision claimed) (beside_by other_login claimed) (evidence_by login_evidence claimed) name file → reported ≡ reported_alone (client_asks c offer) name file
offered_reported c offer who claimed name file reported is same h =
    h
    ∙ (ap (λ (w : AnswerForm). reported_alone_by w (decided_by login_decision claimed) (beside_by other_login claimed) (evidence_by login_evidence claimed) name file) is
    ∙ ap (λ (x : Result LoginClaim AuditError). reported_alone_by (client_form c.form) (decided_by login_decision x) (beside_by other_login x) (evidence_by login_evidence x) name file) same)

-- ---- one file

not-long : (bytes : Option (List ℕ)) (file : List ℕ) → within_limit bytes ≡ Some file → nat_lt file_limit (length file) ≡ false
not-long None file h = cc
not-long (Some b) file h = go (nat_lt file_limit (length b)) refl h
  where
    go : (long : Bool) → nat_lt file_limit (length b) ≡ long → cond long None (Some b) ≡ Some file → nat_lt file_limit (length file) ≡ false
    go true is h = cc
    go false is h =
        let same : b ≡ file = (let both : Some b ≡ Some file = h in cc) in
        subst (λ (f : List ℕ). nat_lt file_limit (length f) ≡ false) same is

reported-short : (client : ClientOptions) (digest name file : List ℕ) → nat_lt file_limit (length file) ≡ false
    → fingerprint_reported client digest name (Some file) ≡ reported_found client name file (option_map offered_key (found_key digest file))
reported-short client digest name file short = rw short refl

-- a file that was read
pub file_found : {R E : Type 0} (view : R → ReportedLines) (client : ClientOptions) (digest name file bytes : List ℕ) (o t : Option SourceState) (res : Result R E) → bytes ≡ file
    → IfTells o (λ s. (within_limit (bytes_at s name) ≡ Some file) × IsLeft s (after_whole s name) t) → IfTells o (λ s. KeepsOthers name s t)
    → IfOk res (λ r. view r ≡ reported_found client name bytes (option_map offered_key (found_key digest bytes)))
    → IfTells o (λ s. IfOk res (λ r. TellsFile (fingerprint_telling client digest) name s t (view r)))
file_found view client digest name file bytes None t res is loads keeps h = tt
file_found view client digest name file bytes (Some s) t (Err e) is loads keeps h = λ counts. tt
file_found view client digest name file bytes (Some s) t (Ok r) is loads keeps h = λ counts.
    let load = loads counts in
    let short = not-long (bytes_at s name) file load.0 in (
      keeps counts,
      inr (
        left-none s (after_whole s name) t load.1,
        left-end name s t load.1,
        h
            ∙ (ap (λ (f : List ℕ). reported_found client name f (option_map offered_key (found_key digest f))) is
            ∙ (sym (reported-short client digest name file short) ∙ ap (fingerprint_reported client digest name) (sym (read-all (bytes_at s name) file load.0)))),
      ),
    )

reported-long : (client : ClientOptions) (digest name : List ℕ) (bytes : Option (List ℕ)) → IsTooLong bytes → fingerprint_reported client digest name bytes ≡ reported_fault client.form name FileTooLong
reported-long client digest name None h = absurd h
reported-long client digest name (Some bytes) h = rw (lt-ltb file_limit (length bytes) h) refl

unread-by : (client : ClientOptions) (digest name : List ℕ) (s : SourceState) (t : Option SourceState) (e : ReadError) (reported : ReportedLines) → FailsLoad name (bytes_at s name) s t e
    → KeepsOthers name s t → IsUnreadFile client.form name e reported → TellsFile (fingerprint_telling client digest) name s t reported
unread-by client digest name s t fault.Missing reported fails keeps is =
    (keeps, inr (fails.1, no-end name s t keeps (ap within_limit fails.0), is ∙ sym (ap (fingerprint_reported client digest name) fails.0)))
unread-by client digest name s t fault.TooLong reported fails keeps is =
    (keeps, inr (fails.1, no-end name s t keeps (over_limit (bytes_at s name) fails.0), is ∙ sym (reported-long client digest name (bytes_at s name) fails.0)))
unread-by client digest name s t fault.Failed reported fails keeps is = (keeps, inl (fails, is))
unread-by client digest name s t fault.Memory reported fails keeps is = absurd is

-- one whose bytes could not be had
pub file_unfound : {R E : Type 0} (view : R → ReportedLines) (client : ClientOptions) (digest name : List ℕ) (o t : Option SourceState) (e : ReadError) (res : Result R E)
    → IfTells o (λ s. FailsLoad name (bytes_at s name) s t e) → IfTells o (λ s. KeepsOthers name s t) → IfOk res (λ r. IsUnreadFile client.form name e (view r))
    → IfTells o (λ s. IfOk res (λ r. TellsFile (fingerprint_telling client digest) name s t (view r)))
file_unfound view client digest name None t e res fails keeps is = tt
file_unfound view client digest name (Some s) t e (Err x) fails keeps is = λ counts. tt
file_unfound view client digest name (Some s) t e (Ok r) fails keeps is = λ counts. unread-by client digest name s t e (view r) (fails counts) (keeps counts) is

-- ---- the response

no-value : {A E : Type 0} (o : Option A) (e x : E) → ◌≡◌ {A = Result A E} (Err x) (ok_or o e) → o ≡ None
no-value None e x h = refl
no-value (Some a) e x h = cc

value-of : {A E : Type 0} (o : Option A) (e : E) (a : A) → ◌≡◌ {A = Result A E} (Ok a) (ok_or o e) → o ≡ Some a
value-of None e a h = cc
value-of (Some b) e a h = (let same : Ok a ≡ Ok b = h in cc)

-- a text that is no address
pub unaddressed : {R E X : Type 0} (view : R → Shown) (client : ClientOptions) (digest : List ℕ) (names : List (List ℕ)) (o : Option SourceState) (res : Result R E) (e x : X)
    → ◌≡◌ {A = Result AddressValue X} (Err x) (ok_or (address_of client.address) e) → IfOk res (λ r. view r ≡ refused_response Address)
    → IfTells o (λ s. IfOk res (λ r. AsksFingerprint client digest names s o (view r)))
unaddressed view client digest names None res e x missing is = tt
unaddressed view client digest names (Some s) (Err f) e x missing is = λ counts. tt
unaddressed view client digest names (Some s) (Ok r) e x missing is = λ counts.
    subst (λ (a : Option AddressValue). AsksFound a client digest names s (Some s) (view r)) (sym (no-value (address_of client.address) e x missing)) (refl, is)

-- what the files tell
pub addressed : {R X : Type 0} (view : R → Shown) (client : ClientOptions) (who : AnswerForm) (at : Asked) (digest : List ℕ) (names : List (List ℕ)) (o t : Option SourceState) (reported : ReportedLines) (r : R) (e : X) (a : AddressValue)
    → ◌≡◌ {A = Result AddressValue X} (Ok a) (ok_or (address_of client.address) e) → who ≡ client_form client.form → at ≡ client_moment client
    → view r ≡ reported_response who at (length names) reported
    → IfTells o (λ s. TellsFiles reported_both (fingerprint_telling client digest) nothing_reported names s t reported)
    → IfTells o (λ s. AsksFingerprint client digest names s t (view r))
addressed view client who at digest names None t reported r e a is whose when made h = tt
addressed view client who at digest names (Some s) t reported r e a is whose when made h =
    let as_asked = subst (λ (x : Asked). view r ≡ reported_response (client_form client.form) x (length names) reported) when
    (subst (λ (x : AnswerForm). view r ≡ reported_response x at (length names) reported) whose made) in
    λ counts. subst (λ (x : Option AddressValue). AsksFound x client digest names s t (view r)) (sym (value-of (address_of client.address) e a is)) (reported, h counts, as_asked)

-- the response by the option that gives the key
pub place_answers : (rows : List Row) (zone : Option TimeZone) (p : KeyPlace) (o t : Option SourceState) (res : Result Printed CommandError) → key_place rows ≡ Ok p
    → IfTells o (λ s. IfAnswered res (λ r. AdmitsAt rows zone p s t r)) → IfTells o (λ s. IfAnswered res (λ r. RespondsTo (AdmitsAt rows zone) (key_place rows) s t r))
place_answers rows zone p o t res is h =
    subst (λ (x : Result KeyPlace Shown). IfTells o (λ s. IfAnswered res (λ r. RespondsTo (AdmitsAt rows zone) x s t r))) (sym is) h

-- ---- sources that are alike have the same answers

found-same : (address : Option AddressValue) (client : ClientOptions) (digest : List ℕ) (names : List (List ℕ)) (a b : SourceState) (u : Option SourceState) (r : Shown) → Alike a b
    → AsksFound address client digest names a u r → AsksFound address client digest names b u r
found-same None client digest names a b u r e h = (none-failed b a u e.failures h.0, h.1)
found-same (Some address) client digest names a b u r e (reported, h, is) =
    (reported, files_same reported_both (fingerprint_telling client digest) nothing_reported names a b u reported e h, is)

pub admits-same : (rows : List Row) (zone : Option TimeZone) (p : KeyPlace) (a b : SourceState) (u : Option SourceState) (r : Shown) → Alike a b
    → AdmitsAt rows zone p a u r → AdmitsAt rows zone p b u r
admits-same rows zone place.File a b u r e h =
    spelled_same (λ q. AsksKey q.asks q.key q.names) (admits_spelled rows zone) a b u r e (λ q. key-same q.asks q.key q.names a b u r e) h
admits-same rows zone place.Fingerprint a b u r e h =
    spelled_same (λ q. AsksFingerprint q.client q.digest q.names) (fingerprint_spelled rows zone) a b u r e
    (λ q. found-same (address_of q.client.address) q.client q.digest q.names a b u r e) h
