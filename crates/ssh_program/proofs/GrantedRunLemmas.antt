-- A run that ends with status 0 is a grant, and one that ends with status 1 a denial.
use Rattle.ssh_program.proofs.Imports.{◌≡◌, ◌<◌, ◌∙◌, ℕ, List, Option, Some, None, Result, Ok, Err, ap, subst, sym, refl, inl, inr, arith, ◌^◌, ok_or, Row, Text, TimeZone, ◌>>=◌, Any, HostCheck, Response, no_file_response, usage_response, value_response, IfTells, SourceState, bytes_at, within_limit, standard, decoded_of, empty_principals_of, hex_bytes, number_below, zone_text, ReadsZone, ArgName, Host, AuditFiles, Audits, Deciding, IsAuditFault, IsVouchReadFault, audit_response, host_by, login_by, Request, request_of, Account, AsksFor, TellsHost, TellsLogin, WritesResponse, HostDenied, HostGranted, LoginDenied, LoginGranted, TrustsBytes, RespondsToHost, RespondsToHostKey, RespondsInZone, RespondsToLogin, IsTextReadFault, IsTextsReadFault, OptionTexts, RespondsByTexts, after_text, after_texts, text_at, text_in, texts_at, option_word, OptionText, TextPlace, TextPlaces, spelled_by, text_places, Answers, RespondsBy, request_words, source_of, RespondsTo, audit_files, given, needed, or_fault, read_or, value, value_or}
use Rattle.ssh_offers.specs.Query.{Login as LoginAsked}
use Rattle.ssh_program.specs.declared.args.ArgName.TheVariants as option
use Rattle.ssh_program.specs.declared.subcommand.Subcommand.TheVariants.{Login}
use Rattle.ssh_program.specs.Hosts.{host_spelled}
use Rattle.ssh_program.specs.Logins.{login_spelled}
use Rattle.ssh_program.specs.Granting.{HostBytes, LoginBytes}
use Rattle.ssh_program.proofs.SpelledBytes.{host-bytes, login-bytes}
use Rattle.ssh_program.proofs.GrantingLemmas.{host_denied, host_granted, login_denied, login_granted}

-- ---- invalid values have the status 2

pub err-same : {A B : Type 0} (a b : B) → ◌≡◌ {A = Result A B} (Err a) (Err b) → a ≡ b
err-same a b h = cc

pub status-of : (a b : Response) → a ≡ b → a.status ≡ b.status
status-of a b e = ap (λ (x : Response). x.status) e

-- if there is a response in the place of a value, it has the status 2
abbrev pub IsFaulty : {A : Type 0} → Result A Response → Type 0
IsFaulty x = (f : Response) → x ≡ Err f → f.status ≡ 2

pub step-faulty : {A B : Type 0} (x : Result A Response) (next : A → Result B Response) → IsFaulty x → ((v : A) → IsFaulty (next v)) → IsFaulty (x >>= next)
step-faulty (Ok v) next first rest f h = rest v f h
step-faulty (Err e) next first rest f h = sym (status-of e f (err-same e f h)) ∙ first e refl

pub or-faulty : {A : Type 0} (o : Option A) (e : Response) → e.status ≡ 2 → IsFaulty (ok_or o e)
or-faulty None e two f h = sym (status-of e f (err-same e f h)) ∙ two
or-faulty (Some x) e two f h = cc

pub none-faulty : {A : Type 0} (x : A) → IsFaulty (Ok x)
none-faulty x f h = cc

pub needed-faulty : (o : ArgName) (rows : List Row) → IsFaulty (needed o rows)
needed-faulty o rows = or-faulty (given o rows) usage_response refl

pub fault-faulty : {A : Type 0} (o : ArgName) (v : Option A) → IsFaulty (or_fault o v)
fault-faulty o v = or-faulty v (value_response (option_word o)) refl

pub value-faulty : {A : Type 0} (spells : Text → Option A) (o : ArgName) (rows : List Row) → IsFaulty (value spells o rows)
value-faulty spells o rows = step-faulty (needed o rows) _ (needed-faulty o rows) (λ text. fault-faulty o (spells text))

pub optional-faulty : {A : Type 0} (absent : A) (spells : Text → Option A) (o : ArgName) (rows : List Row) → IsFaulty (value_or absent spells o rows)
optional-faulty absent spells o rows = fault-faulty o (read_or absent spells (given o rows))

spelled-faulty : {A : Type 0} (spells : Text → Option A) (t : OptionText) → IsFaulty (spelled_by spells t)
spelled-faulty spells t = fault-faulty t.option (spells t.text)

login-faulty : (rows : List Row) (zone : Option TimeZone) (x : OptionTexts) → IsFaulty (login_spelled rows zone x)
unfolding login_spelled
login-faulty rows zone x =
    step-faulty _ _ (spelled-faulty (decoded_of standard) x.offer) (λ offered.
    step-faulty _ _ (spelled-faulty hex_bytes x.signature) (λ signature.
    step-faulty _ _ (value-faulty _ option.Session rows) (λ session.
    step-faulty _ _ (value-faulty _ option.User rows) (λ user.
    step-faulty _ _ (value-faulty _ option.Now rows) (λ now.
    step-faulty _ _ (fault-faulty option.Zone zone) (λ zone.
    step-faulty _ _ (optional-faulty Any empty_principals_of option.EmptyPrincipals rows) (λ empty_principals.
    step-faulty _ _ (optional-faulty 0 (number_below (2 ^ 32)) option.RsaMinimum rows) (λ rsa_minimum.
    step-faulty _ _ (needed-faulty option.Algorithm rows) (λ algorithm.
    step-faulty _ _ (needed-faulty option.Address rows) (λ address. none-faulty _))))))))))

host-faulty : (rows : List Row) (x : OptionTexts) → IsFaulty (host_spelled rows x)
unfolding host_spelled
host-faulty rows x =
    step-faulty _ _ (spelled-faulty (decoded_of standard) x.offer) (λ offered.
    step-faulty _ _ (spelled-faulty hex_bytes x.signature) (λ signature.
    step-faulty _ _ (value-faulty _ option.Hash rows) (λ exchange_hash.
    step-faulty _ _ (value-faulty _ option.Port rows) (λ port.
    step-faulty _ _ (value-faulty _ option.Now rows) (λ now.
    step-faulty _ _ (optional-faulty Any empty_principals_of option.EmptyPrincipals rows) (λ empty_principals.
    step-faulty _ _ (optional-faulty 0 (number_below (2 ^ 32)) option.RsaMinimum rows) (λ rsa_minimum.
    step-faulty _ _ (needed-faulty option.Host rows) (λ host. none-faulty _))))))))

line-faulty : (f : OptionText) (bytes : Option (List ℕ)) → IsFaulty (text_in f bytes)
line-faulty f None r h = sym (status-of (no_file_response f.text) r (err-same (no_file_response f.text) r h))
line-faulty f (Some bytes) r h = none-faulty _ r h

text-faulty : (p : TextPlace) (s : SourceState) → IsFaulty (text_at p s)
text-faulty (TextPlace.in_word t) s = none-faulty _
text-faulty (TextPlace.in_file f) s = line-faulty f (within_limit (bytes_at s f.text))

texts-faulty : (p : TextPlaces) (s : SourceState) → IsFaulty (texts_at p s)
texts-faulty p s =
    step-faulty _ _ (text-faulty p.offer s) (λ offer.
    step-faulty _ _ (text-faulty p.signature (after_text p.offer s)) (λ signature. none-faulty _))

-- ---- answers that are faults

pub vouch-fault : (vouch : Option (List ℕ)) (s : SourceState) (t : Option SourceState) (r : Response) → IsVouchReadFault vouch s t r → r.status < 2 → ⊥
vouch-fault None s t r fault few = fault
vouch-fault (Some name) s t r fault few = let two = status-of r _ fault.1 in absurd (omega (arith, two, few))

no-fault : (by : Deciding) (f : AuditFiles) (s : SourceState) (t : Option SourceState) (r : Response) → IsAuditFault by f s t r → r.status < 2 → ⊥
no-fault by f s t r (inl fault) few = vouch-fault f.vouch s t r fault few
no-fault by f s t r (inr (vouched, reported, fault)) few = let two = status-of r _ fault.2 in absurd (omega (arith, two, few))

text-fault : (p : TextPlace) (s : SourceState) (t : Option SourceState) (r : Response) → IsTextReadFault p s t r → r.status < 2 → ⊥
text-fault (TextPlace.in_word x) s t r fault few = fault
text-fault (TextPlace.in_file f) s t r fault few = let two = status-of r _ fault.1 in absurd (omega (arith, two, few))

texts-fault : (p : TextPlaces) (s : SourceState) (t : Option SourceState) (r : Response) → IsTextsReadFault p s t r → r.status < 2 → ⊥
texts-fault p s t r (inl fault) few = text-fault p.offer s t r fault few
texts-fault p s t r (inr (offer, at, fault)) few = text-fault p.signature (after_text p.offer s) t r fault few

-- where what is answered by texts has the status 0 or 1, these are texts that stand there
record ByTexts (responds : OptionTexts → SourceState → Option SourceState → Response → Type 0) (p : TextPlaces) (s : SourceState) (t : Option SourceState) (r : Response) : Type 0 where
  texts : OptionTexts
  taken : texts_at p s ≡ Ok texts
  answered : responds texts (after_texts p s) t r

texts-over : (responds : OptionTexts → SourceState → Option SourceState → Response → Type 0) (p : TextPlaces) (s : SourceState) (t : Option SourceState) (r : Response) (reported : Result OptionTexts Response)
    → texts_at p s ≡ reported → RespondsTo (λ x s. responds x (after_texts p s)) reported s t r → r.status < 2 → ByTexts responds p s t r
texts-over responds p s t r (Err e) at h few =
    let two = texts-faulty p s e at in
    let same = status-of r e h.1 in
    absurd (omega (arith, two, same, few))
texts-over responds p s t r (Ok x) at h few = record { texts = x; taken = at; answered = h }

by-texts : (responds : OptionTexts → SourceState → Option SourceState → Response → Type 0) (p : TextPlaces) (s : SourceState) (t : Option SourceState) (r : Response)
    → RespondsByTexts responds p s t r → r.status < 2 → ByTexts responds p s t r
by-texts responds p s t r (inl fault) few = absurd (texts-fault p s t r fault few)
by-texts responds p s t r (inr h) few = texts-over responds p s t r (texts_at p s) refl h few

-- the texts stand at these places
with-places : (responds : TextPlaces → SourceState → Option SourceState → Response → Type 0) (rows : List Row) (p : TextPlaces) (s : SourceState) (t : Option SourceState) (r : Response)
    → text_places rows ≡ Ok p → RespondsTo responds (text_places rows) s t r → responds p s t r
with-places responds rows p s t r e h = subst (λ (x : Result TextPlaces Response). RespondsTo responds x s t r) e h

-- ---- a response with the status 0 or 1

-- where the answer over files that are of bytes has this status, it tells this of what is of bytes
abbrev Tells : {Q : Type 0} → (Q → Type 0) → (Q → Deciding) → ℕ → (Q → AuditFiles → SourceState → Response → Type 0) → Type 0
Tells {Q = Q} OfBytes by n Reported = (q : Q) (f : AuditFiles) (s : SourceState) → OfBytes q → TrustsBytes f s → (audit_response (by q) f s).status ≡ n → Reported q f s (audit_response (by q) f s)

login-in : (n : ℕ) → n < 2 → (Reported : LoginAsked → AuditFiles → SourceState → Response → Type 0) → Tells LoginBytes login_by n Reported
    → (rows : List Row) (reported : Option TimeZone) (p : TextPlaces) (x : OptionTexts) (f : AuditFiles) (s : SourceState) (t : Option SourceState) (r : Response) → TrustsBytes f (after_texts p s)
    → ReadsZone (zone_text (given option.Zone rows)) reported → texts_at p s ≡ Ok x → (q : Result LoginAsked Response) → login_spelled rows reported x ≡ q
    → RespondsTo (λ q. Audits (login_by q) f) q (after_texts p s) t r → r.status ≡ n → TellsLogin Reported rows p f s r
login-in n few Reported tells rows reported p x f s t r bytes read at (Err e) spelled h is =
    let two = login-faulty rows reported x e spelled in
    let same = status-of r e h.1 in
    absurd (omega (arith, two, same, is, few))
login-in n few Reported tells rows reported p x f s t r bytes read at (Ok q) spelled (inr fault) is = absurd (no-fault (login_by q) f (after_texts p s) t r fault (omega (arith, is, few)))
login-in n few Reported tells rows reported p x f s t r bytes read at (Ok q) spelled (inl (none, e)) is = record {
  zone = reported;
  read = read;
  texts = x;
  taken = at;
  asked = q;
  spelled = spelled;
  answered = subst (λ (y : Response). Reported q f (after_texts p s) y) (sym e) (tells q f (after_texts p s) (login-bytes rows reported x q spelled) bytes (sym (status-of r _ e) ∙ is));
}

host-in : (n : ℕ) → n < 2 → (Reported : HostCheck → AuditFiles → SourceState → Response → Type 0) → Tells HostBytes host_by n Reported
    → (rows : List Row) (p : TextPlaces) (x : OptionTexts) (f : AuditFiles) (s : SourceState) (t : Option SourceState) (r : Response) → TrustsBytes f (after_texts p s)
    → texts_at p s ≡ Ok x → (q : Result HostCheck Response) → host_spelled rows x ≡ q
    → RespondsTo (λ q. Audits (host_by q) f) q (after_texts p s) t r → r.status ≡ n → TellsHost Reported rows p f s r
host-in n few Reported tells rows p x f s t r bytes at (Err e) spelled h is =
    let two = host-faulty rows x e spelled in
    let same = status-of r e h.1 in
    absurd (omega (arith, two, same, is, few))
host-in n few Reported tells rows p x f s t r bytes at (Ok q) spelled (inr fault) is = absurd (no-fault (host_by q) f (after_texts p s) t r fault (omega (arith, is, few)))
host-in n few Reported tells rows p x f s t r bytes at (Ok q) spelled (inl (none, e)) is = record {
  texts = x;
  taken = at;
  asked = q;
  spelled = spelled;
  answered = subst (λ (y : Response). Reported q f (after_texts p s) y) (sym e) (tells q f (after_texts p s) (host-bytes rows x q spelled) bytes (sym (status-of r _ e) ∙ is));
}

-- the files of the command are these
with-files : (responds : AuditFiles → SourceState → Option SourceState → Response → Type 0) (rows : List Row) (f : AuditFiles) (s : SourceState) (t : Option SourceState) (r : Response)
    → audit_files rows ≡ Ok f → RespondsTo responds (audit_files rows) s t r → responds f s t r
with-files responds rows f s t r e h = subst (λ (x : Result AuditFiles Response). RespondsTo responds x s t r) e h

-- what is answered to the request that the words spell, where it is no fault of the words themselves
pub responds-to : (words : List (List ℕ)) (q : Option Request) (s : SourceState) (t : Option SourceState) (r : Response) → request_of (request_words words s) ≡ q
    → Answers words s t r → r.status < 2 → RespondsBy q (source_of words s) t r
responds-to words q s t r e (inl (inl responds)) few =
    let P : Option Request → Type 0 = λ x. RespondsBy x (source_of words s) t r in
    subst P e responds
responds-to words q s t r e (inl (inr (line, none, usage))) few = let two = status-of r _ usage in absurd (omega (arith, two, few))
responds-to words q s t r e (inr memory) few = let two = status-of r _ memory in absurd (omega (arith, two, few))

login-by : (n : ℕ) → n < 2 → (Reported : LoginAsked → AuditFiles → SourceState → Response → Type 0) → Tells LoginBytes login_by n Reported
    → (rows : List Row) (p : TextPlaces) (f : AuditFiles) (s : SourceState) (t : Option SourceState) (r : Response) → text_places rows ≡ Ok p → audit_files rows ≡ Ok f
    → TrustsBytes f (after_texts p s) → RespondsToLogin rows s t r → r.status ≡ n → TellsLogin Reported rows p f s r
login-by n few Reported tells rows p f s t r places e bytes (zone, read, h) is =
    let by = by-texts (RespondsInZone rows zone) p s t r (with-places (RespondsByTexts (RespondsInZone rows zone)) rows p s t r places h) (omega (arith, is, few)) in
    login-in n few Reported tells rows zone p by.texts f s t r bytes read by.taken (login_spelled rows zone by.texts) refl
    (with-files (λ f. RespondsTo (λ q. Audits (login_by q) f) (login_spelled rows zone by.texts)) rows f (after_texts p s) t r e by.answered) is

host-by : (n : ℕ) → n < 2 → (Reported : HostCheck → AuditFiles → SourceState → Response → Type 0) → Tells HostBytes host_by n Reported
    → (rows : List Row) (p : TextPlaces) (f : AuditFiles) (s : SourceState) (t : Option SourceState) (r : Response) → text_places rows ≡ Ok p → audit_files rows ≡ Ok f
    → TrustsBytes f (after_texts p s) → RespondsToHost rows s t r → r.status ≡ n → TellsHost Reported rows p f s r
host-by n few Reported tells rows p f s t r places e bytes h is =
    let by = by-texts (RespondsToHostKey rows) p s t r (with-places (RespondsByTexts (RespondsToHostKey rows)) rows p s t r places h) (omega (arith, is, few)) in
    host-in n few Reported tells rows p by.texts f s t r bytes by.taken (host_spelled rows by.texts) refl
    (with-files (λ f. RespondsTo (λ q. Audits (host_by q) f) (host_spelled rows by.texts)) rows f (after_texts p s) t r e by.answered) is

abbrev login-request : List Row → Request
login-request rows = record { subcommand = Login; rows = rows }

abbrev host-request : List Row → Request
host-request rows = record { subcommand = Host; rows = rows }

login-run : (n : ℕ) → n < 2 → (Reported : LoginAsked → AuditFiles → SourceState → Response → Type 0) → Tells LoginBytes login_by n Reported
    → (words : List (List ℕ)) (rows : List Row) (p : TextPlaces) (f : AuditFiles) (s : SourceState) (t : Option SourceState) (r : Response)
    → AsksFor Login words s rows p f → Answers words s t r → r.status ≡ n → TellsLogin Reported rows p f (source_of words s) r
login-run n few Reported tells words rows p f s t r asks answers is =
    login-by n few Reported tells rows p f (source_of words s) t r asks.texts asks.files asks.bytes
    (responds-to words (Some (login-request rows)) s t r asks.request answers (omega (arith, is, few))) is

host-run : (n : ℕ) → n < 2 → (Reported : HostCheck → AuditFiles → SourceState → Response → Type 0) → Tells HostBytes host_by n Reported
    → (words : List (List ℕ)) (rows : List Row) (p : TextPlaces) (f : AuditFiles) (s : SourceState) (t : Option SourceState) (r : Response)
    → AsksFor Host words s rows p f → Answers words s t r → r.status ≡ n → TellsHost Reported rows p f (source_of words s) r
host-run n few Reported tells words rows p f s t r asks answers is =
    host-by n few Reported tells rows p f (source_of words s) t r asks.texts asks.files asks.bytes
    (responds-to words (Some (host-request rows)) s t r asks.request answers (omega (arith, is, few))) is

-- ---- a run

pub ends-as : (n : ℕ) → n < 2 → (old new : Option Account) (r : Response) (status : ℕ) → WritesResponse old new r status → status ≡ n → r.status ≡ n
ends-as n few old new r status (inl (taken, same)) is = sym same ∙ is
ends-as n few old new r status (inr (broken, two)) is = absurd (omega (arith, two, is, few))

abbrev pub Answered : List (List ℕ) → Option SourceState → Option Account → Option Account → ℕ → SourceState → Type 0
Answered words t old new status s = (r : Response) × Answers words s t r × WritesResponse old new r status

-- where the run was asked for a login and ends with this status, it tells this
abbrev RunTellsLogin : ℕ → (LoginAsked → AuditFiles → SourceState → Response → Type 0) → List (List ℕ) → Option SourceState → Option Account → Option Account → ℕ → Type 0
RunTellsLogin n Reported words o old new status = IfTells o (λ s. (rows : List Row) (p : TextPlaces) (f : AuditFiles) → AsksFor Login words s rows p f → status ≡ n
    → (r : Response) × TellsLogin Reported rows p f (source_of words s) r × WritesResponse old new r status)

-- the same of a host's key
abbrev RunTellsHost : ℕ → (HostCheck → AuditFiles → SourceState → Response → Type 0) → List (List ℕ) → Option SourceState → Option Account → Option Account → ℕ → Type 0
RunTellsHost n Reported words o old new status = IfTells o (λ s. (rows : List Row) (p : TextPlaces) (f : AuditFiles) → AsksFor Host words s rows p f → status ≡ n
    → (r : Response) × TellsHost Reported rows p f (source_of words s) r × WritesResponse old new r status)

run-tells-login : (n : ℕ) → n < 2 → (Reported : LoginAsked → AuditFiles → SourceState → Response → Type 0) → Tells LoginBytes login_by n Reported
    → (words : List (List ℕ)) (o t : Option SourceState) (old new : Option Account) (status : ℕ)
    → IfTells o (Answered words t old new status) → RunTellsLogin n Reported words o old new status
run-tells-login n few Reported tells words None t old new status h = tt
run-tells-login n few Reported tells words (Some s) t old new status h = λ room rows p f asks is.
    let reported = h room in
    (reported.0, login-run n few Reported tells words rows p f s t reported.0 asks reported.1 (ends-as n few old new reported.0 status reported.2 is), reported.2)

run-tells-host : (n : ℕ) → n < 2 → (Reported : HostCheck → AuditFiles → SourceState → Response → Type 0) → Tells HostBytes host_by n Reported
    → (words : List (List ℕ)) (o t : Option SourceState) (old new : Option Account) (status : ℕ)
    → IfTells o (Answered words t old new status) → RunTellsHost n Reported words o old new status
run-tells-host n few Reported tells words None t old new status h = tt
run-tells-host n few Reported tells words (Some s) t old new status h = λ room rows p f asks is.
    let reported = h room in
    (reported.0, host-run n few Reported tells words rows p f s t reported.0 asks reported.1 (ends-as n few old new reported.0 status reported.2 is), reported.2)

pub login_granted_run : (words : List (List ℕ)) (o t : Option SourceState) (old new : Option Account) (status : ℕ)
    → IfTells o (Answered words t old new status) → RunTellsLogin 0 LoginGranted words o old new status
login_granted_run = run-tells-login 0 (omega arith) LoginGranted login_granted

pub login_denied_run : (words : List (List ℕ)) (o t : Option SourceState) (old new : Option Account) (status : ℕ)
    → IfTells o (Answered words t old new status) → RunTellsLogin 1 LoginDenied words o old new status
login_denied_run = run-tells-login 1 (omega arith) LoginDenied login_denied

pub host_granted_run : (words : List (List ℕ)) (o t : Option SourceState) (old new : Option Account) (status : ℕ)
    → IfTells o (Answered words t old new status) → RunTellsHost 0 HostGranted words o old new status
host_granted_run = run-tells-host 0 (omega arith) HostGranted host_granted

pub host_denied_run : (words : List (List ℕ)) (o t : Option SourceState) (old new : Option Account) (status : ℕ)
    → IfTells o (Answered words t old new status) → RunTellsHost 1 HostDenied words o old new status
host_denied_run = run-tells-host 1 (omega arith) HostDenied host_denied
