-- From what a trust file decides to what a list of them tells, and from that to what is answered about a key.
use Rattle.ssh_program.proofs.Imports.{ReadToEnd, end-same, left-end, no-end, ◌≡◌, ◌∙◌, ◌<◌, ℕ, false, List, length, Option, Some, None, Result, Ok, Err, refl, sym, ap, subst, inl, inr, IfOk, lt-ltb, IfTells, SourceState, bytes_at, most_failures, after_whole, top_line, FailsLoad, IsLeft, IsTooLong, KeepsOthers, NoReadFailed, within_limit, ReadError, AuditError, Offer, Signature, WrongAlgorithm, WeakSignature, CertSignature, Address, FileTooLong, Memory, Read, Failed, Body, Salts, Signed, GivesOrMemory, OfClaim, RefusesAs, Decision, refused_response, ShowError, Offered, shown_offer_in, IsFaultOfShow, show_fault_response, Finds, line-offered, TellsFile, TellsFiles, KeyAsking, Otherness, IsReportedUnread, beside_answer, reported_by, reported_over, unread_fault, AsksBy, AsksFiles, AsksKey, AsksOffer, ReportedLines, reported_both, nothing_reported, offer_or_fault, or_shown_fault, telling, reported_of, reported_response, Deciding, answer_by, IsFaultOf, is_memory, Alike, file-alike, keeps-same, left-none, none-failed, one-failed, over_limit, read-all, file_limit, nothing_other, reported_alone_by}
use Rattle.ssh_review.specs.Asked.{Asked}
use Rattle.ssh_print.specs.Answering.{GivesBeside}
use Rattle.ssh_print.specs.OtherLines.{OtherLines}
use Rattle.ssh_print.specs.declared.otherwise.Otherwise.{Otherwise}
use Rattle.ssh_program.specs.AdmissionsView.{reported_with}
use Rattle.ssh_program.specs.declared.admission.AnswerForm.{AnswerForm}
use Rattle.ssh_files.specs.declared.read.ReadError.TheVariants as fault
use Rattle.ssh_print.specs.Responses.{Response as Shown}
use Rattle.ssh_print.specs.declared.showing.ShowError.TheVariants as show

-- ---- one file

fault-given : (A : Type 0) (given : Result Decision AuditError) (e : AuditError) → is_memory {A = A} (Err e) ≡ false → GivesOrMemory given (Err e) → given ≡ Err e
fault-given A given (Offer x) spared h = h
fault-given A given (Signature x) spared h = h
fault-given A given WrongAlgorithm spared h = h
fault-given A given WeakSignature spared h = h
fault-given A given CertSignature spared h = h
fault-given A given Address spared h = h
fault-given A given FileTooLong spared h = h
fault-given A given Memory spared h = cc
fault-given A given Read spared h = h
fault-given A given Failed spared h = h
fault-given A given (Body x) spared h = h
fault-given A given Salts spared h = h

-- what is reported by an answer that is given, with what is beside it
pub bytes_reported : (who : AnswerForm) (by : Deciding) (beside : Otherness) (evidence : List Signed) (name file : List ℕ) (answer : Result (Decision × Otherwise) AuditError) (reported : ReportedLines)
    → is_memory answer ≡ false → GivesBeside (beside file) (answer_by by file evidence) answer → reported ≡ reported_with who name answer
    → reported ≡ reported_by who by beside evidence name file
bytes_reported who by beside evidence name file (Ok (d, other)) reported spared (given, beside_is) is =
    is ∙ (ap (λ (x : OtherLines). reported_of who name x (Ok d)) beside_is
    ∙ ap (λ (a : Result Decision AuditError). reported_of who name (beside_answer beside file a) a) (sym given))
bytes_reported who by beside evidence name file (Err e) reported spared given is =
    is ∙ ap (λ (a : Result Decision AuditError). reported_of who name (beside_answer beside file a) a) (sym (fault-given (Decision × Otherwise) (answer_by by file evidence) e spared given))

-- a file that was read
pub file_reported : {R E : Type 0} (view : R → ReportedLines) (who : AnswerForm) (by : Deciding) (beside : Otherness) (evidence : List Signed) (name file bytes : List ℕ) (o t : Option SourceState) (res : Result R E) → bytes ≡ file
    → IfTells o (λ s. (within_limit (bytes_at s name) ≡ Some file) × IsLeft s (after_whole s name) t) → IfTells o (λ s. KeepsOthers name s t)
    → IfOk res (λ r. view r ≡ reported_by who by beside evidence name bytes)
    → IfTells o (λ s. IfOk res (λ r. TellsFile (telling who by beside evidence) name s t (view r)))
file_reported view who by beside evidence name file bytes None t res is loads keeps h = tt
file_reported view who by beside evidence name file bytes (Some s) t (Err e) is loads keeps h = λ counts. tt
file_reported view who by beside evidence name file bytes (Some s) t (Ok r) is loads keeps h = λ counts.
    let load = loads counts in (
      keeps counts,
      inr (
        left-none s (after_whole s name) t load.1,
        left-end name s t load.1,
        h ∙ (ap (reported_by who by beside evidence name) is ∙ ap (reported_over who by beside evidence name) (sym (read-all (bytes_at s name) file load.0))),
      ),
    )

reported-missing : (who : AnswerForm) (by : Deciding) (beside : Otherness) (evidence : List Signed) (name : List ℕ) → reported_over who by beside evidence name None ≡ reported_of who name nothing_other (Err (unread_fault by fault.Missing))
reported-missing who (Ok decision) beside evidence name = refl
reported-missing who (Err e) beside evidence name = refl

reported-long : (who : AnswerForm) (by : Deciding) (beside : Otherness) (evidence : List Signed) (name : List ℕ) (bytes : Option (List ℕ)) → IsTooLong bytes
    → reported_over who by beside evidence name bytes ≡ reported_of who name nothing_other (Err (unread_fault by fault.TooLong))
reported-long who by beside evidence name None h = absurd h
reported-long who (Ok decision) beside evidence name (Some bytes) h = rw (lt-ltb file_limit (length bytes) h) refl
reported-long who (Err e) beside evidence name (Some bytes) h = refl

unread-by : (who : AnswerForm) (by : Deciding) (beside : Otherness) (evidence : List Signed) (name : List ℕ) (s : SourceState) (t : Option SourceState) (e : ReadError) (reported : ReportedLines) → FailsLoad name (bytes_at s name) s t e
    → KeepsOthers name s t → IsReportedUnread who by name e reported → TellsFile (telling who by beside evidence) name s t reported
unread-by who by beside evidence name s t fault.Missing reported fails keeps is =
    (keeps, inr (fails.1, no-end name s t keeps (ap within_limit fails.0), is ∙ (sym (reported-missing who by beside evidence name) ∙ sym (ap (reported_over who by beside evidence name) fails.0))))
unread-by who by beside evidence name s t fault.TooLong reported fails keeps is = (keeps, inr (fails.1, no-end name s t keeps (over_limit (bytes_at s name) fails.0), is ∙ sym (reported-long who by beside evidence name (bytes_at s name) fails.0)))
unread-by who by beside evidence name s t fault.Failed reported fails keeps is = (keeps, inl (fails, is))
unread-by who by beside evidence name s t fault.Memory reported fails keeps is = absurd is

-- one whose bytes could not be had
pub file_unread : {R E : Type 0} (view : R → ReportedLines) (who : AnswerForm) (by : Deciding) (beside : Otherness) (evidence : List Signed) (name : List ℕ) (o t : Option SourceState) (e : ReadError) (res : Result R E)
    → IfTells o (λ s. FailsLoad name (bytes_at s name) s t e) → IfTells o (λ s. KeepsOthers name s t) → IfOk res (λ r. IsReportedUnread who by name e (view r))
    → IfTells o (λ s. IfOk res (λ r. TellsFile (telling who by beside evidence) name s t (view r)))
file_unread view who by beside evidence name None t e res fails keeps is = tt
file_unread view who by beside evidence name (Some s) t e (Err x) fails keeps is = λ counts. tt
file_unread view who by beside evidence name (Some s) t e (Ok r) fails keeps is = λ counts. unread-by who by beside evidence name s t e (view r) (fails counts) (keeps counts) is

-- ---- what is asked of the files

given-same : (e given : List Signed) → GivesOrMemory (Ok e) (Ok given) → given ≡ e
given-same e given h = (let same : Ok e ≡ Ok given = h in cc)

asks-reported : (who : AnswerForm) (at : Asked) (by : Deciding) (beside : Otherness) (rests : Result (List Signed) AuditError) (evidence : List Signed) (names : List (List ℕ)) (s : SourceState) (t : Option SourceState) (reported : ReportedLines) (r : Shown)
    → RefusesAs rests (Ok evidence) → OfClaim rests (λ e. GivesOrMemory (Ok e) (Ok evidence)) → r ≡ reported_response who at (length names) reported
    → TellsFiles reported_both (telling who by beside evidence) nothing_reported names s t reported → AsksBy who at by beside rests names s t r
asks-reported who at by beside (Err e) evidence names s t reported r refused given is h = cc
asks-reported who at by beside (Ok e) evidence names s t reported r refused given is h =
    (reported, subst (λ (x : List Signed). TellsFiles reported_both (telling who by beside x) nothing_reported names s t reported) (given-same e evidence given) h, is)

pub asks_reported : {R : Type 0} (view : R → Shown) (who : AnswerForm) (at : Asked) (by : Deciding) (beside : Otherness) (rests : Result (List Signed) AuditError) (evidence : List Signed) (names : List (List ℕ)) (o t : Option SourceState)
    (reported : ReportedLines) (r : R) → RefusesAs rests (Ok evidence) → OfClaim rests (λ e. GivesOrMemory (Ok e) (Ok evidence)) → view r ≡ reported_response who at (length names) reported
    → IfTells o (λ s. TellsFiles reported_both (telling who by beside evidence) nothing_reported names s t reported) → IfTells o (λ s. AsksBy who at by beside rests names s t (view r))
asks_reported view who at by beside rests evidence names None t reported r refused given is h = tt
asks_reported view who at by beside rests evidence names (Some s) t reported r refused given is h = λ counts. asks-reported who at by beside rests evidence names s t reported (view r) refused given is (h counts)

err-same : {A B : Type 0} (a b : B) → ◌≡◌ {A = Result A B} (Err a) (Err b) → a ≡ b
err-same a b h = cc

never-refused : (e : List Signed) (error : AuditError) → is_memory {A = List Signed} (Err error) ≡ false → GivesOrMemory (Ok e) (Err error) → ⊥
never-refused e (Offer x) spared h = cc
never-refused e (Signature x) spared h = cc
never-refused e WrongAlgorithm spared h = cc
never-refused e WeakSignature spared h = cc
never-refused e CertSignature spared h = cc
never-refused e Address spared h = cc
never-refused e FileTooLong spared h = cc
never-refused e Memory spared h = cc
never-refused e Read spared h = cc
never-refused e Failed spared h = cc
never-refused e (Body x) spared h = cc
never-refused e Salts spared h = cc

asks-refused : (who : AnswerForm) (at : Asked) (by : Deciding) (beside : Otherness) (rests : Result (List Signed) AuditError) (error : AuditError) (names : List (List ℕ)) (s : SourceState) (r : Shown)
    → RefusesAs {A = List Signed} rests (Err error) → OfClaim rests (λ e. GivesOrMemory (Ok e) (Err error)) → is_memory {A = List Signed} (Err error) ≡ false → r ≡ refused_response error
    → AsksBy who at by beside rests names s (Some s) r
asks-refused who at by beside (Err e) error names s r refused given spared is = (refl, is ∙ ap refused_response (err-same error e refused))
asks-refused who at by beside (Ok e) error names s r refused given spared is = absurd (never-refused e error spared given)

pub asks_refused : {R E : Type 0} (view : R → Shown) (who : AnswerForm) (at : Asked) (by : Deciding) (beside : Otherness) (rests : Result (List Signed) AuditError) (error : AuditError) (names : List (List ℕ)) (o : Option SourceState) (res : Result R E)
    → RefusesAs {A = List Signed} rests (Err error) → OfClaim rests (λ e. GivesOrMemory (Ok e) (Err error)) → is_memory {A = List Signed} (Err error) ≡ false → IfOk res (λ r. view r ≡ refused_response error)
    → IfTells o (λ s. IfOk res (λ r. AsksBy who at by beside rests names s o (view r)))
asks_refused view who at by beside rests error names None res refused given spared is = tt
asks_refused view who at by beside rests error names (Some s) (Err x) refused given spared is = λ counts. tt
asks_refused view who at by beside rests error names (Some s) (Ok r) refused given spared is = λ counts. asks-refused who at by beside rests error names s (view r) refused given spared is

-- the answer of a file about an offer by itself
pub alone_reported : (who : AnswerForm) (by : Deciding) (beside : Otherness) (rests : Result (List Signed) AuditError) (evidence : List Signed) (name file : List ℕ) (reported : ReportedLines)
    → RefusesAs rests (Ok evidence) → OfClaim rests (λ e. GivesOrMemory (Ok e) (Ok evidence)) → reported ≡ reported_by who by beside evidence name file → reported ≡ reported_alone_by who by beside rests name file
alone_reported who by beside (Err e) evidence name file reported refused given is = cc
alone_reported who by beside (Ok e) evidence name file reported refused given is = is ∙ ap (λ (x : List Signed). reported_by who by beside x name file) (given-same e evidence given)

-- or the refusal of the offer
pub alone_refused : (who : AnswerForm) (by : Deciding) (beside : Otherness) (rests : Result (List Signed) AuditError) (error : AuditError) (name file : List ℕ) (reported : ReportedLines)
    → RefusesAs {A = List Signed} rests (Err error) → OfClaim rests (λ e. GivesOrMemory (Ok e) (Err error)) → is_memory {A = List Signed} (Err error) ≡ false
    → reported ≡ reported_of who name nothing_other (Err error) → reported ≡ reported_alone_by who by beside rests name file
alone_refused who by beside (Err e) error name file reported refused given spared is = is ∙ ap (λ (x : AuditError). reported_of who name nothing_other (Err x)) (err-same error e refused)
alone_refused who by beside (Ok e) error name file reported refused given spared is = absurd (never-refused e error spared given)

-- ---- the key's file

pub offer_asked : {R E : Type 0} (view : R → Shown) (asks : Offered → KeyAsking) (file : List ℕ) (offer : Offered) (names : List (List ℕ)) (o t : Option SourceState) (res : Result R E) → shown_offer_in file ≡ Ok offer
    → IfTells o (λ s. IfOk res (λ r. AsksFiles (asks offer) names s t (view r)))
    → IfTells o (λ s. IfOk res (λ r. AsksOffer asks (or_shown_fault (shown_offer_in file)) names s t (view r)))
offer_asked view asks file offer names o t res is h =
    subst (λ (x : Result Offered ShowError). IfTells o (λ s. IfOk res (λ r. AsksOffer asks (or_shown_fault x) names s t (view r)))) (sym is) h

unoffered : {V : Type 0} (seen : V → Offered) (read : Result Offered ShowError) (error : ShowError) (r : Shown) → Finds seen read (Err error) → IsFaultOfShow error r
    → (read ≡ Err error) × (r ≡ show_fault_response error)
unoffered seen read (show.Line cause) r finds is = (finds, is)
unoffered seen read (show.Cert e) r finds is = (finds, is)
unoffered seen read (show.Body e) r finds is = (finds, is)
unoffered seen read show.Memory r finds is = absurd is

unasked : {V : Type 0} (seen : V → Offered) (asks : Offered → KeyAsking) (file : List ℕ) (error : ShowError) (names : List (List ℕ)) (s : SourceState) (r : Shown) → Finds seen (shown_offer_in file) (Err error) → IsFaultOfShow error r
    → AsksOffer asks (or_shown_fault (shown_offer_in file)) names s (Some s) r
unasked seen asks file error names s r finds is =
    let none = unoffered seen (shown_offer_in file) error r finds is in
    subst (λ (x : Result Offered ShowError). AsksOffer asks (or_shown_fault x) names s (Some s) r) (sym none.0) (refl, none.1)

pub offer_unasked : {R E V : Type 0} (view : R → Shown) (seen : V → Offered) (asks : Offered → KeyAsking) (file : List ℕ) (error : ShowError) (names : List (List ℕ)) (o : Option SourceState) (res : Result R E)
    → Finds seen (shown_offer_in file) (Err error) → IfOk res (λ r. IsFaultOfShow error (view r))
    → IfTells o (λ s. IfOk res (λ r. AsksOffer asks (or_shown_fault (shown_offer_in file)) names s o (view r)))
offer_unasked view seen asks file error names None res finds is = tt
offer_unasked view seen asks file error names (Some s) (Err x) finds is = λ counts. tt
offer_unasked view seen asks file error names (Some s) (Ok r) finds is = λ counts. unasked seen asks file error names s (view r) finds is

key-by : (asks : Offered → KeyAsking) (key : List ℕ) (names : List (List ℕ)) (s m : SourceState) (t : Option SourceState) (o : Option (List ℕ)) (r : Shown) → within_limit (bytes_at s key) ≡ o
    → KeepsOthers key s (Some m) → NoReadFailed s (Some m) → ReadToEnd key s (Some m) → AsksOffer asks (offer_or_fault key o) names m t r → AsksKey asks key names s t r
key-by asks key names s m t o r is keeps none end h =
    inr (m, keeps, none, end, subst (λ (x : Option (List ℕ)). AsksOffer asks (offer_or_fault key x) names m t r) (sym is) h)

-- a key's file of which the first line was read
pub key_asked : {R E : Type 0} (view : R → Shown) (asks : Offered → KeyAsking) (key line read : List ℕ) (names : List (List ℕ)) (o u t : Option SourceState) (res : Result R E) → read ≡ line
    → IfTells o (λ s. ((file : List ℕ) × (within_limit (bytes_at s key) ≡ Some file) × (line ≡ top_line file)) × IsLeft s (after_whole s key) u)
    → IfTells o (λ s. KeepsOthers key s u)
    → IfTells u (λ m. IfOk res (λ r. AsksOffer asks (or_shown_fault (shown_offer_in read)) names m t (view r)))
    → IfTells o (λ s. IfOk res (λ r. AsksKey asks key names s t (view r)))
key_asked view asks key line read names None u t res is loads keeps h = tt
key_asked view asks key line read names (Some s) None t res is loads keeps h = λ counts. absurd ((loads counts).1)
key_asked view asks key line read names (Some s) (Some m) t (Err x) is loads keeps h = λ counts. tt
key_asked view asks key line read names (Some s) (Some m) t (Ok r) is loads keeps h = λ counts.
    let load = loads counts in
    let file = load.0.0 in
    let none : m.failures ≡ s.failures = left-none s (after_whole s key) (Some m) load.1 in
    let tells : m.failures < most_failures = subst (λ (n : ℕ). n < most_failures) (sym none) counts in
    let same : shown_offer_in read ≡ shown_offer_in file = ap shown_offer_in (is ∙ load.0.2) ∙ line-offered file in
    key-by asks key names s m t (Some file) (view r) load.0.1 (keeps counts) none (left-end key s (Some m) load.1)
    (subst (λ (x : Result Offered ShowError). AsksOffer asks (or_shown_fault x) names m t (view r)) same (h tells))

unkeyed : (asks : Offered → KeyAsking) (key : List ℕ) (names : List (List ℕ)) (s : SourceState) (t : Option SourceState) (e : ReadError) (r : Shown) → FailsLoad key (bytes_at s key) s t e → KeepsOthers key s t
    → IsFaultOf key e r → AsksKey asks key names s t r
unkeyed asks key names s None fault.Missing r fails keeps is = absurd keeps
unkeyed asks key names s None fault.TooLong r fails keeps is = absurd keeps
unkeyed asks key names s (Some m) fault.Missing r fails keeps is = key-by asks key names s m (Some m) None r (ap within_limit fails.0) keeps fails.1 (no-end key s (Some m) keeps (ap within_limit fails.0)) (refl, is)
unkeyed asks key names s (Some m) fault.TooLong r fails keeps is = key-by asks key names s m (Some m) None r (over_limit (bytes_at s key) fails.0) keeps fails.1 (no-end key s (Some m) keeps (over_limit (bytes_at s key) fails.0)) (refl, is)
unkeyed asks key names s t fault.Failed r fails keeps is = inl (fails, is)
unkeyed asks key names s t fault.Memory r fails keeps is = absurd is

-- one whose bytes could not be had
pub key_unasked : {R E : Type 0} (view : R → Shown) (asks : Offered → KeyAsking) (key : List ℕ) (names : List (List ℕ)) (o t : Option SourceState) (e : ReadError) (res : Result R E)
    → IfTells o (λ s. FailsLoad key (bytes_at s key) s t e) → IfTells o (λ s. KeepsOthers key s t) → IfOk res (λ r. IsFaultOf key e (view r))
    → IfTells o (λ s. IfOk res (λ r. AsksKey asks key names s t (view r)))
key_unasked view asks key names None t e res fails keeps is = tt
key_unasked view asks key names (Some s) t e (Err x) fails keeps is = λ counts. tt
key_unasked view asks key names (Some s) t e (Ok r) fails keeps is = λ counts. unkeyed asks key names s t e (view r) (fails counts) (keeps counts) is

-- ---- sources that are alike have the same answers

pub key-same : (asks : Offered → KeyAsking) (key : List ℕ) (names : List (List ℕ)) (a b : SourceState) (u : Option SourceState) (r : Shown) → Alike a b
    → AsksKey asks key names a u r → AsksKey asks key names b u r
key-same asks key names a b u r e (inl h) = inl (one-failed a b u key e h.0, h.1)
key-same asks key names a b u r e (inr (m, keeps, none, end, h)) = inr (
  m,
  keeps-same key a b (Some m) e keeps,
  none-failed b a (Some m) e.failures none,
  end-same key a b (Some m) e end,
  subst (λ (o : Option (List ℕ)). AsksOffer asks (offer_or_fault key (within_limit o)) names m u r) (file-alike a b key e) h,
)
