-- From the texts on the command line and in files to the response by them.
use Rattle.ssh_program.proofs.Imports.{◌≡◌, ◌∙◌, ℕ, List, Option, Some, None, Result, Ok, Err, ap, subst, sym, refl, inl, inr, arith, TimeZone, Row, IfTells, SourceState, bytes_at, after_whole, top_line, FailsLoad, IsLeft, within_limit, ReadError, Alike, file-alike, left-alike, none-failed, one-failed, over_limit, whole-alike, response, CommandError, Usage, Value, ReadsZone, zone_text, RespondsTo, audit_files, given, OptionText, TextPlace, TextPlaces, IfAnswered, NoText, Reported, TakenText, TakenTexts, Audits, host_by, login_by, IsFaultOf, RespondsToHostKey, RespondsInZone, IsTextReadFault, IsTextsReadFault, OptionTexts, RespondsByTexts, after_text, after_texts, text_at, text_in, text_on, texts_at, TakesText, TakesTexts, taken_seen, texts_seen}
use Rattle.ssh_files.specs.declared.read.ReadError.TheVariants as fault
use Rattle.ssh_print.specs.declared.response.Response.{Response as Printed}
use Rattle.ssh_print.specs.Responses.{Response as Shown}
use Rattle.ssh_program.specs.declared.command.CommandError.TheVariants.{Memory as Refused}
use Rattle.ssh_program.specs.declared.args.ArgName.TheVariants as option
use Rattle.ssh_program.proofs.AnsweredLemmas.{spelled_same}
use Rattle.ssh_program.specs.declared.texts.NoText.TheVariants.{Memory}
use Rattle.ssh_program.specs.Hosts.{host_spelled}
use Rattle.ssh_program.specs.Logins.{login_spelled}
use Rattle.ssh_program.proofs.AuditLemmas.{audits-same}

-- ---- sources that are alike give the same texts

text-alike : (p : TextPlace) (a b : SourceState) → Alike a b → text_at p a ≡ text_at p b
text-alike (TextPlace.in_word t) a b e = refl
text-alike (TextPlace.in_file f) a b e = ap (λ o. text_in f (within_limit o)) (file-alike a b f.text e)

after-alike : (p : TextPlace) (a b : SourceState) → Alike a b → Alike (after_text p a) (after_text p b)
after-alike (TextPlace.in_word t) a b e = e
after-alike (TextPlace.in_file f) a b e = whole-alike a b f.text e

after-failures : (p : TextPlace) (s : SourceState) → (after_text p s).failures ≡ s.failures
after-failures (TextPlace.in_word t) s = refl
after-failures (TextPlace.in_file f) s = refl

fault-alike : (p : TextPlace) (a b : SourceState) (u : Option SourceState) (r : Shown) → Alike a b → IsTextReadFault p a u r → IsTextReadFault p b u r
fault-alike (TextPlace.in_word t) a b u r e h = h
fault-alike (TextPlace.in_file f) a b u r e h = (one-failed a b u f.text e h.0, h.1)

left-after : (s m a b : SourceState) (u : Option SourceState) → m.failures ≡ s.failures → Alike a b → IsLeft m a u → IsLeft s b u
left-after s m a b None same e h = h
left-after s m a b (Some u) same e h = (h.0 ∙ e.named, h.1 ∙ e.input, h.2 ∙ same, h.3 ∙ e.choices)

-- ---- one text

pub word_taken : (t : OptionText) (x : TakenText) (o : Option SourceState) → taken_seen x ≡ t → IfTells o (λ s. TakesText (TextPlace.in_word t) s o (Ok x))
word_taken t x None e = tt
word_taken t x (Some s) e = λ counts. (ap (λ y. Ok y) (sym e), (refl, refl, refl, refl))

-- the first line of a file that was read
pub line_taken : (f : OptionText) (x : TakenText) (line : List ℕ) (o u : Option SourceState) → taken_seen x ≡ record { option = f.option; text = text_on line }
    → IfTells o (λ s. ((file : List ℕ) × (within_limit (bytes_at s f.text) ≡ Some file) × (line ≡ top_line file)) × IsLeft s (after_whole s f.text) u)
    → IfTells o (λ s. TakesText (TextPlace.in_file f) s u (Ok x))
line_taken f x line None u e loads = tt
line_taken f x line (Some s) u e loads = λ counts.
    let load = loads counts in
    (ap (text_in f) load.0.1 ∙ (ap (λ l. Ok (record { option = f.option; text = text_on l })) (sym load.0.2) ∙ ap (λ y. Ok y) (sym e)), load.1)

untaken : (f : OptionText) (s : SourceState) (u : Option SourceState) (e : ReadError) (r : Printed) → FailsLoad f.text (bytes_at s f.text) s u e → IsFaultOf f.text e (response r)
    → TakesText (TextPlace.in_file f) s u (Err (Reported r))
untaken f s u fault.Missing r fails is = inr (ap (λ o. text_in f (within_limit o)) fails.0 ∙ ap (λ y. Err y) (sym is), fails.1)
untaken f s u fault.TooLong r fails is = inr (ap (text_in f) (over_limit (bytes_at s f.text) fails.0) ∙ ap (λ y. Err y) (sym is), fails.1)
untaken f s u fault.Failed r fails is = inl (fails, is)
untaken f s u fault.Memory r fails is = absurd is

-- a file whose bytes could not be had
pub file_untaken : (f : OptionText) (o u : Option SourceState) (e : ReadError) (r : Printed)
    → IfTells o (λ s. FailsLoad f.text (bytes_at s f.text) s u e) → IsFaultOf f.text e (response r)
    → IfTells o (λ s. TakesText (TextPlace.in_file f) s u (Err (Reported r)))
file_untaken f None u e r fails is = tt
file_untaken f (Some s) u e r fails is = λ counts. untaken f s u e r (fails counts) is

-- ---- both texts

both-at : (p : TextPlaces) (s : SourceState) (x y : OptionText) → text_at p.offer s ≡ Ok x → text_at p.signature (after_text p.offer s) ≡ Ok y
    → texts_at p s ≡ Ok (record { offer = x; signature = y })
both-at p s x y a b = rw (a, b) refl

second-none : (p : TextPlaces) (s : SourceState) (x : OptionText) (r : Shown) → text_at p.offer s ≡ Ok x → text_at p.signature (after_text p.offer s) ≡ Err r → texts_at p s ≡ Err r
second-none p s x r a b = rw (a, b) refl

first-none : (p : TextPlaces) (s : SourceState) (r : Shown) → text_at p.offer s ≡ Err r → texts_at p s ≡ Err r
first-none p s r a = rw a refl

-- the result of both readings, if the first gave a text
abbrev pub with-second : TakenText → Result TakenText NoText → Result TakenTexts NoText
with-second x (Ok y) = Ok (record { offer = x; signature = y })
with-second x (Err e) = Err e

second-taken : (p : TextPlaces) (s m : SourceState) (u : Option SourceState) (x : TakenText) (res : Result TakenText NoText)
    → text_at p.offer s ≡ Ok (taken_seen x) → m.failures ≡ s.failures → Alike m (after_text p.offer s) → TakesText p.signature m u res
    → TakesTexts p s u (with-second x res)
second-taken p s m u x (Ok y) first same e h = (
  both-at p s (taken_seen x) (taken_seen y) first (sym (text-alike p.signature m (after_text p.offer s) e) ∙ h.0),
  left-after s m (after_text p.signature m) (after_texts p s) u same (after-alike p.signature m (after_text p.offer s) e) h.1,
)
second-taken p s m u x (Err (Reported r)) first same e (inl failed) = inl (inr (taken_seen x, first, fault-alike p.signature m (after_text p.offer s) u (response r) e failed))
second-taken p s m u x (Err (Reported r)) first same e (inr (none, unfailed)) =
    inr (second-none p s (taken_seen x) (response r) first (sym (text-alike p.signature m (after_text p.offer s) e) ∙ none), none-failed s m u same unfailed)
second-taken p s m u x (Err Memory) first same e h = tt

-- the offer's text was taken, and then that of the signature, or it was not
pub both_taken : (p : TextPlaces) (o m u : Option SourceState) (x : TakenText) (res : Result TakenText NoText)
    → IfTells o (λ s. TakesText p.offer s m (Ok x)) → IfTells m (λ k. TakesText p.signature k u res)
    → IfTells o (λ s. TakesTexts p s u (with-second x res))
both_taken p None m u x res first second = tt
both_taken p (Some s) None u x res first second = λ counts. absurd ((first counts).1)
both_taken p (Some s) (Some m) u x res first second = λ counts.
    let taken = first counts in
    let same : m.failures ≡ s.failures = taken.1.2 in
    second-taken p s m u x res taken.0 same (left-alike s (after_text p.offer s) m (after-failures p.offer s) taken.1)
    (second (omega (arith, counts, same)))

first-untaken : (p : TextPlaces) (s : SourceState) (u : Option SourceState) (e : NoText) → TakesText p.offer s u (Err e) → TakesTexts p s u (Err e)
first-untaken p s u (Reported r) (inl failed) = inl (inl failed)
first-untaken p s u (Reported r) (inr (none, unfailed)) = inr (first-none p s (response r) none, unfailed)
first-untaken p s u Memory h = tt

-- the offer's text was not taken
pub none_taken : (p : TextPlaces) (o u : Option SourceState) (e : NoText) → IfTells o (λ s. TakesText p.offer s u (Err e)) → IfTells o (λ s. TakesTexts p s u (Err e))
none_taken p None u e h = tt
none_taken p (Some s) u e h = λ counts. first-untaken p s u e (h counts)

-- ---- answers

abbrev Responds : Type 1
Responds = SourceState → Option SourceState → Shown → Type 0

by-texts : (responds : OptionTexts → Responds) (p : TextPlaces) (s : SourceState) (t : Option SourceState) (texts : OptionTexts) (r : Shown)
    → texts_at p s ≡ Ok texts → responds texts (after_texts p s) t r → RespondsByTexts responds p s t r
by-texts responds p s t texts r at h = inr (subst (λ (x : Result OptionTexts Shown). RespondsTo (λ texts s. responds texts (after_texts p s)) x s t r) (sym at) h)

-- the response by the texts that were read is the response by the texts at these places
answered-by : (responds : OptionTexts → Responds) → ((x : OptionTexts) (a b : SourceState) (t : Option SourceState) (r : Shown) → Alike a b → responds x a t r → responds x b t r)
    → (p : TextPlaces) (s m : SourceState) (t : Option SourceState) (x : TakenTexts) (res : Result Printed CommandError) → texts_at p s ≡ Ok (texts_seen x) → Alike m (after_texts p s)
    → IfAnswered res (λ r. responds (texts_seen x) m t r) → IfAnswered res (λ r. RespondsByTexts responds p s t r)
answered-by responds same p s m t x (Ok r) at e h = by-texts responds p s t (texts_seen x) _ at (same (texts_seen x) m (after_texts p s) t _ e h)
answered-by responds same p s m t x (Err Usage) at e h = by-texts responds p s t (texts_seen x) _ at (same (texts_seen x) m (after_texts p s) t _ e h)
answered-by responds same p s m t x (Err (Value o)) at e h = by-texts responds p s t (texts_seen x) _ at (same (texts_seen x) m (after_texts p s) t _ e h)
answered-by responds same p s m t x (Err Refused) at e h = tt

texts-failures : (p : TextPlaces) (s : SourceState) → (after_texts p s).failures ≡ s.failures
texts-failures p s = after-failures p.signature (after_text p.offer s) ∙ after-failures p.offer s

placed : (responds : TextPlaces → Responds) (spelled : Result TextPlaces Shown) (p : TextPlaces) (o t : Option SourceState) (res : Result Printed CommandError)
    → spelled ≡ Ok p → IfTells o (λ s. IfAnswered res (λ r. responds p s t r)) → IfTells o (λ s. IfAnswered res (λ r. RespondsTo responds spelled s t r))
placed responds spelled p o t res is h =
    subst (λ (x : Result TextPlaces Shown). IfTells o (λ s. IfAnswered res (λ r. RespondsTo responds x s t r))) (sym is) h

texts-answered : (responds : OptionTexts → Responds) → ((x : OptionTexts) (a b : SourceState) (t : Option SourceState) (r : Shown) → Alike a b → responds x a t r → responds x b t r)
    → (p : TextPlaces) (o m t : Option SourceState) (x : TakenTexts) (res : Result Printed CommandError)
    → IfTells o (λ s. TakesTexts p s m (Ok x)) → IfTells m (λ k. IfAnswered res (λ r. responds (texts_seen x) k t r))
    → IfTells o (λ s. IfAnswered res (λ r. RespondsByTexts responds p s t r))
texts-answered responds same p None m t x res taken h = tt
texts-answered responds same p (Some s) None t x res taken h = λ counts. absurd ((taken counts).1)
texts-answered responds same p (Some s) (Some m) t x res taken h = λ counts.
    let took = taken counts in
    let unfailed : m.failures ≡ s.failures = took.1.2 in
    answered-by responds same p s m t x res took.0 (left-alike s (after_texts p s) m (texts-failures p s) took.1) (h (omega (arith, counts, unfailed)))

-- the texts were taken, and by them this is answered
pub texts_answered : (responds : OptionTexts → Responds) → ((x : OptionTexts) (a b : SourceState) (t : Option SourceState) (r : Shown) → Alike a b → responds x a t r → responds x b t r)
    → (spelled : Result TextPlaces Shown) (p : TextPlaces) (o m t : Option SourceState) (x : TakenTexts) (res : Result Printed CommandError) → spelled ≡ Ok p
    → IfTells o (λ s. TakesTexts p s m (Ok x)) → IfTells m (λ k. IfAnswered res (λ r. responds (texts_seen x) k t r))
    → IfTells o (λ s. IfAnswered res (λ r. RespondsTo (RespondsByTexts responds) spelled s t r))
texts_answered responds same spelled p o m t x res is taken h = placed (RespondsByTexts responds) spelled p o t res is (texts-answered responds same p o m t x res taken h)

reported-by : (responds : OptionTexts → Responds) (p : TextPlaces) (s : SourceState) (t : Option SourceState) (r : Printed) → TakesTexts p s t (Err (Reported r)) → RespondsByTexts responds p s t (response r)
reported-by responds p s t r (inl failed) = inl failed
reported-by responds p s t r (inr (none, unfailed)) =
    inr (subst (λ (x : Result OptionTexts Shown). RespondsTo (λ texts s. responds texts (after_texts p s)) x s t (response r)) (sym none) (unfailed, refl))

reported-in : (responds : OptionTexts → Responds) (p : TextPlaces) (o t : Option SourceState) (r : Printed) → IfTells o (λ s. TakesTexts p s t (Err (Reported r)))
    → IfTells o (λ s. RespondsByTexts responds p s t (response r))
reported-in responds p None t r h = tt
reported-in responds p (Some s) t r h = λ counts. reported-by responds p s t r (h counts)

-- a text was not taken, and that is the answer
pub text_reported : (responds : OptionTexts → Responds) (spelled : Result TextPlaces Shown) (p : TextPlaces) (o t : Option SourceState) (r : Printed) → spelled ≡ Ok p
    → IfTells o (λ s. TakesTexts p s t (Err (Reported r))) → IfTells o (λ s. RespondsTo (RespondsByTexts responds) spelled s t (response r))
text_reported responds spelled p o t r is h = placed (RespondsByTexts responds) spelled p o t (Ok r) is (reported-in responds p o t r h)

-- the same where a zone was read
pub zone_reported : (responds : Option TimeZone → SourceState → Option SourceState → Shown → Type 0) (rows : List Row) (reported : Option TimeZone) (o t : Option SourceState) (r : Printed)
    → ReadsZone (zone_text (given option.Zone rows)) reported → IfTells o (λ s. responds reported s t (response r))
    → IfTells o (λ s. (zone : Option TimeZone) × ReadsZone (zone_text (given option.Zone rows)) zone × responds zone s t (response r))
zone_reported responds rows reported None t r read h = tt
zone_reported responds rows reported (Some s) t r read h = λ counts. (reported, read, h counts)

-- ---- sources that are alike have the same answers

pub login-same : (rows : List Row) (zone : Option TimeZone) (x : OptionTexts) (a b : SourceState) (u : Option SourceState) (r : Shown) → Alike a b
    → RespondsInZone rows zone x a u r → RespondsInZone rows zone x b u r
login-same rows zone x a b u r e h =
    spelled_same (λ f. RespondsTo (λ q. Audits (login_by q) f) (login_spelled rows zone x)) (audit_files rows) a b u r e
    (λ f. spelled_same (λ q. Audits (login_by q) f) (login_spelled rows zone x) a b u r e (λ q. audits-same (login_by q) f a b u r e)) h

pub host-same : (rows : List Row) (x : OptionTexts) (a b : SourceState) (u : Option SourceState) (r : Shown) → Alike a b
    → RespondsToHostKey rows x a u r → RespondsToHostKey rows x b u r
host-same rows x a b u r e h =
    spelled_same (λ f. RespondsTo (λ q. Audits (host_by q) f) (host_spelled rows x)) (audit_files rows) a b u r e
    (λ f. spelled_same (λ q. Audits (host_by q) f) (host_spelled rows x) a b u r e (λ q. audits-same (host_by q) f a b u r e)) h

reads-alike : (p : TextPlaces) (a b : SourceState) (u : Option SourceState) (r : Shown) → Alike a b → IsTextsReadFault p a u r → IsTextsReadFault p b u r
reads-alike p a b u r e (inl h) = inl (fault-alike p.offer a b u r e h)
reads-alike p a b u r e (inr (x, at, h)) =
    inr (x, sym (text-alike p.offer a b e) ∙ at, fault-alike p.signature (after_text p.offer a) (after_text p.offer b) u r (after-alike p.offer a b e) h)

texts-alike : (p : TextPlaces) (a b : SourceState) → Alike a b → texts_at p a ≡ texts_at p b
texts-alike p a b e = rw (text-alike p.offer a b e, text-alike p.signature (after_text p.offer a) (after_text p.offer b) (after-alike p.offer a b e)) refl

by-same : (responds : OptionTexts → Responds) → ((x : OptionTexts) (a b : SourceState) (t : Option SourceState) (r : Shown) → Alike a b → responds x a t r → responds x b t r)
    → (p : TextPlaces) (a b : SourceState) (u : Option SourceState) (r : Shown) (reported : Result OptionTexts Shown) → Alike a b
    → RespondsTo (λ texts s. responds texts (after_texts p s)) reported a u r → RespondsTo (λ texts s. responds texts (after_texts p s)) reported b u r
by-same responds same p a b u r reported e h =
    spelled_same (λ texts s. responds texts (after_texts p s)) reported a b u r e
    (λ texts. same texts (after_texts p a) (after_texts p b) u r (after-alike p.signature (after_text p.offer a) (after_text p.offer b) (after-alike p.offer a b e))) h

pub texts-same : (responds : OptionTexts → Responds) → ((x : OptionTexts) (a b : SourceState) (t : Option SourceState) (r : Shown) → Alike a b → responds x a t r → responds x b t r)
    → (p : TextPlaces) (a b : SourceState) (u : Option SourceState) (r : Shown) → Alike a b → RespondsByTexts responds p a u r → RespondsByTexts responds p b u r
texts-same responds same p a b u r e (inl h) = inl (reads-alike p a b u r e h)
texts-same responds same p a b u r e (inr h) =
    inr (subst (λ (x : Result OptionTexts Shown). RespondsTo (λ texts s. responds texts (after_texts p s)) x b u r) (texts-alike p a b e) (by-same responds same p a b u r (texts_at p a) e h))
