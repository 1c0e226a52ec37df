-- By the reasons of a decision the lines are told by which OpenSSH may admit a key that is no security key.
use Rattle.ssh_print.proofs.Imports.{◌≡◌, ◌∙◌, ℕ, zero, suc, ◌+◌, ◌<◌, ◌≤◌, Bool, true, false, not, cond, List, [], ◌∷◌, ◌++◌, length, map, take, Option, Some, None, Result, Ok, Err, option_map, refl, sym, ap, subst, arith, lt-ltb, and_parts, nat_lt, bytes_eq, bytes_eq-Decides, slice_get, position_or_len, auth_line, AuthLine, LoginClaim, Signed, Reason, lines_of, numbered, AuditError, FileTooLong, Cause, Decision, PublicKey, rsa, p256, p384, p521, ed25519, sk_p256, sk_ed25519, KeyKind, Rsa, P256, P384, P521, Ed25519, SkP256, SkEd25519, WhyPossible, first_line, line_from, lines_after, possible_lines, why_by_reason, with_line}
use Rattle.std.specs.Prelude.{is_some}
use Rattle.std.proofs.lemmas.List.{append_assoc}
use Rattle.std.proofs.lemmas.Bool.{eq-eqb, le-ltb, ltb-true, ne_eqb}
use Rattle.ssh_keys.specs.Names.{key_name_of}
use Rattle.ssh_keys.specs.PublicKey.{key_blob, kind_of}
use Rattle.ssh_entries.specs.AuthEntry.{AuthEntry}
use Rattle.ssh_entries.specs.declared.auth_line.AuthLine.TheVariants as auth
use Rattle.ssh_findings.specs.EntryFindings.{is_security_key}
use Rattle.ssh_findings.specs.KeyRead.{application_read}
use Rattle.ssh_offers.specs.Evidence.{login_evidence}
use Rattle.ssh_offers.specs.Offer.{subject}
use Rattle.ssh_rules.specs.declared.admission.LineVerdict.{LineVerdict}
use Rattle.ssh_rules.specs.declared.admission.LineVerdict.TheVariants.{Admits, Skips}
use Rattle.ssh_trust.specs.Answer.{login_answer}
use Rattle.ssh_trust.specs.Candidate.{admits, before_candidate, candidate_of, first_admitted, reasons_from, reasons_of}
use Rattle.ssh_trust.specs.LoginDecision.{candidate_at, cause_by, decision_by, decision_of, line_verdict, login_decision, verdicts}
use Rattle.ssh_offers.specs.Vouching.{first_unvouched}
use Rattle.ssh_trust.specs.declared.decision.Cause.TheVariants.{NoLine}
use Rattle.ssh_text.specs.Text.{file_limit}
use Rattle.ssh_print.specs.Admitting.{admitting_at, admitting_by, line_admitting, or_later}
use Rattle.ssh_print.specs.OtherLines.{OtherLines, lines_other, login_other, other_both, other_cause, other_login, possible_other, refused_by, refused_other, reported_other}
use Rattle.ssh_print.specs.Details.{login_details}
use Rattle.ssh_print.specs.PassedLines.{ComeInOrder}
use Rattle.ssh_print.specs.PossibleLines.{passed_reason, stands_before, why_other_key, why_possible, why_possible_at, why_read_as}
use Rattle.ssh_print.specs.ReasonLines.{are_all_listed, beside_login, login_beside, possible_beside, possible_by, reasons_suffice, refused_at, seeks_security_key}
use Rattle.ssh_print.specs.declared.asked_key.Admitting.{Admitting}
use Rattle.ssh_print.specs.declared.possible.WhyPossible.TheVariants as why
use Rattle.ssh_print.proofs.ScanLemmas.{all_is}

-- ---- another key is read as the one that is wanted only where that is a security key

-- the last byte of the length of the type name, with which a blob begins
name-length : (key : PublicKey) → slice_get (key_blob key) 3 ≡ Some (length (key_name_of (kind_of key)))
unfolding key_blob
name-length (rsa e n) = refl
name-length (p256 q) = refl
name-length (p384 q) = refl
name-length (p521 q) = refl
name-length (ed25519 a) = refl
name-length (sk_p256 q application) = refl
name-length (sk_ed25519 a application) = refl

-- the type names of security keys are the longest
is-long : (kind : KeyKind) → nat_lt 20 (length (key_name_of kind)) ≡ is_security_key kind
is-long Rsa = refl
is-long P256 = refl
is-long P384 = refl
is-long P521 = refl
is-long Ed25519 = refl
is-long SkP256 = refl
is-long SkEd25519 = refl

some-same : (a b : ℕ) → Some a ≡ Some b → a ≡ b
some-same a b h = cc

same-sort : (a b : PublicKey) → key_blob a ≡ key_blob b → is_security_key (kind_of a) ≡ is_security_key (kind_of b)
same-sort a b same =
    let long : length (key_name_of (kind_of a)) ≡ length (key_name_of (kind_of b)) =
    some-same _ _ (sym (name-length a) ∙ (ap (λ (blob : List ℕ). slice_get blob 3) same ∙ name-length b)) in
    sym (is-long (kind_of a)) ∙ (ap (λ (n : ℕ). nat_lt 20 n) long ∙ is-long (kind_of b))

blob-differs : (a b : PublicKey) (same : Bool) → bytes_eq (key_blob a) (key_blob b) ≡ same → is_security_key (kind_of a) ≡ true → is_security_key (kind_of b) ≡ false → same ≡ false
blob-differs a b false is s n = refl
blob-differs a b true is s n =
    let blobs : key_blob a ≡ key_blob b = (bytes_eq-Decides (key_blob a) (key_blob b)).0 is in
    absurd (let no : true ≡ false = sym s ∙ (same-sort a b blobs ∙ n) in cc)

as-itself : (b : Bool) (w : Option WhyPossible) → cond b None (cond b w None) ≡ None
as-itself true w = refl
as-itself false w = refl

as-another : (b same : Bool) (w : Option WhyPossible) → same ≡ false → cond b None (cond same w None) ≡ None
as-another true same w e = refl
as-another false true w e = cc
as-another false false w e = refl

as-security-key : (a key : PublicKey) (b : Bool) → is_security_key (kind_of a) ≡ true → is_security_key (kind_of key) ≡ false
    → cond b None (cond (bytes_eq (key_blob a) (key_blob key)) (Some why.OtherEncoding) None) ≡ None
as-security-key a key b s n =
    as-another b (bytes_eq (key_blob a) (key_blob key)) (Some why.OtherEncoding) (blob-differs a key (bytes_eq (key_blob a) (key_blob key)) refl s n)

not-read : (held key : PublicKey) → is_security_key (kind_of key) ≡ false → why_read_as held (key_blob key) ≡ None
not-read (rsa e n) key plain = as-itself (bytes_eq (key_blob (rsa e n)) (key_blob key)) (Some why.OtherEncoding)
not-read (p256 q) key plain = as-itself (bytes_eq (key_blob (p256 q)) (key_blob key)) (Some why.OtherEncoding)
not-read (p384 q) key plain = as-itself (bytes_eq (key_blob (p384 q)) (key_blob key)) (Some why.OtherEncoding)
not-read (p521 q) key plain = as-itself (bytes_eq (key_blob (p521 q)) (key_blob key)) (Some why.OtherEncoding)
not-read (ed25519 a) key plain = as-itself (bytes_eq (key_blob (ed25519 a)) (key_blob key)) (Some why.OtherEncoding)
not-read (sk_p256 q s) key plain = as-security-key (sk_p256 q (application_read s)) key (bytes_eq (key_blob (sk_p256 q s)) (key_blob key)) refl plain
not-read (sk_ed25519 a s) key plain = as-security-key (sk_ed25519 a (application_read s)) key (bytes_eq (key_blob (sk_ed25519 a s)) (key_blob key)) refl plain

-- so a line without a reason is no such line
unreasoned : (key : PublicKey) (l : AuthLine) → is_security_key (kind_of key) ≡ false → why_other_key (key_blob key) l ≡ None
unreasoned key (auth.Entry e) plain = not-read e.key key plain
unreasoned key auth.Blank plain = refl
unreasoned key auth.Comment plain = refl
unreasoned key (auth.Unreadable cause) plain = refl

-- ---- reasons come in the order of their lines

in-order-before : (n m : ℕ) (reasons : List (ℕ × Reason)) → n ≤ m → ComeInOrder m reasons → ComeInOrder n reasons
in-order-before n m [] h o = tt
in-order-before n m (r ∷ reasons) h (o, os) = (omega (arith, h, o), os)

abbrev Verdicts : Type 0
Verdicts = List (LineVerdict AuthEntry)

in-order : (n : ℕ) (vs : Verdicts) → ComeInOrder n (reasons_from n vs)
in-order n [] = tt
in-order n (Admits e ∷ vs) = in-order-before n (n + 1) (reasons_from (n + 1) vs) (omega arith) (in-order (n + 1) vs)
in-order n (Skips None ∷ vs) = in-order-before n (n + 1) (reasons_from (n + 1) vs) (omega arith) (in-order (n + 1) vs)
in-order n (Skips (Some w) ∷ vs) = (omega arith, in-order (n + 1) vs)

-- a line with another number
past-line : (n m : ℕ) (text : List ℕ) (lines : List (ℕ × List ℕ)) → n < m → line_from m lines ≡ line_from m ((n, text) ∷ lines)
past-line n m text lines h = rw (ne_eqb n m (λ e. omega (arith, h, e))) refl

past-rest : (n m : ℕ) (text : List ℕ) (lines : List (ℕ × List ℕ)) → n < m → lines_after m lines ≡ lines_after m ((n, text) ∷ lines)
past-rest n m text lines h = rw (ne_eqb n m (λ e. omega (arith, h, e))) refl

-- the line with this number
at-line : (n : ℕ) (text : List ℕ) (lines : List (ℕ × List ℕ)) → text ≡ line_from n ((n, text) ∷ lines)
at-line n text lines = rw (eq-eqb n n refl) refl

at-rest : (n : ℕ) (text : List ℕ) (lines : List (ℕ × List ℕ)) → lines ≡ lines_after n ((n, text) ∷ lines)
at-rest n text lines = rw (eq-eqb n n refl) refl

-- what is possible by the line of one reason, and by those of more
abbrev by-reason : LoginClaim → ℕ → Reason → List ℕ → List (ℕ × List ℕ) → List (ℕ × Reason) → List (ℕ × WhyPossible)
by-reason claim n w text rest reasons = with_line n (why_by_reason claim text (Some w)) [] ++ possible_by claim rest reasons

same-reason : (claim : LoginClaim) (n : ℕ) (w : Reason) (text line : List ℕ) (rest after : List (ℕ × List ℕ)) (reasons : List (ℕ × Reason)) → text ≡ line → rest ≡ after
    → by-reason claim n w text rest reasons ≡ by-reason claim n w line after reasons
same-reason claim n w text line rest after reasons here behind =
    ap (λ (x : List ℕ). by-reason claim n w x rest reasons) here ∙ ap (λ (y : List (ℕ × List ℕ)). by-reason claim n w line y reasons) behind

-- a line before all reasons is passed over
pass-line : (claim : LoginClaim) (n : ℕ) (text : List ℕ) (lines : List (ℕ × List ℕ)) (reasons : List (ℕ × Reason)) → ComeInOrder (n + 1) reasons
    → possible_by claim lines reasons ≡ possible_by claim ((n, text) ∷ lines) reasons
pass-line claim n text lines [] o = refl
pass-line claim n text lines (r ∷ reasons) (o, os) =
    let before : n < r.0 = omega (arith, o) in
    same-reason claim r.0 r.1 (line_from r.0 lines) (line_from r.0 ((n, text) ∷ lines)) (lines_after r.0 lines) (lines_after r.0 ((n, text) ∷ lines)) reasons
    (past-line n r.0 text lines before) (past-rest n r.0 text lines before)

with-appended : (n : ℕ) (w : Option WhyPossible) (rest : List (ℕ × WhyPossible)) → with_line n w rest ≡ with_line n w [] ++ rest
with-appended n None rest = refl
with-appended n (Some w) rest = refl

-- the line of the first reason
take-line : (claim : LoginClaim) (n : ℕ) (text : List ℕ) (lines : List (ℕ × List ℕ)) (w : Reason) (reasons : List (ℕ × Reason))
    → with_line n (why_by_reason claim text (Some w)) (possible_by claim lines reasons) ≡ possible_by claim ((n, text) ∷ lines) ((n, w) ∷ reasons)
take-line claim n text lines w reasons =
    with-appended n (why_by_reason claim text (Some w)) (possible_by claim lines reasons)
    ∙ same-reason claim n w text (line_from n ((n, text) ∷ lines)) lines (lines_after n ((n, text) ∷ lines)) reasons (at-line n text lines) (at-rest n text lines)

-- ---- the lines before the first that admits

-- the number of that line
abbrev first-number : ℕ → Verdicts → Option ℕ
first-number n vs = option_map (λ (c : ℕ × AuthEntry). c.0) (first_admitted n vs)

stands-first : (n k : ℕ) (vs : Verdicts) → n < k → stands_before (first-number k vs) n ≡ true
stands-first n k [] h = refl
stands-first n k (Admits e ∷ vs) h = lt-ltb n k h
stands-first n k (Skips w ∷ vs) h = stands-first n (k + 1) vs (omega (arith, h))

not-before : (n k : ℕ) → n ≤ k → nat_lt k n ≡ false
not-before n k h = le-ltb k n h

none-behind : (claim : LoginClaim) (n k : ℕ) (texts : List (List ℕ)) → n ≤ k → possible_lines claim (Some n) (numbered k texts) ≡ []
none-behind claim n k [] h = refl
none-behind claim n k (t ∷ texts) h = rw (not-before n k h) (none-behind claim n (k + 1) texts (omega (arith, h)))

-- ---- one line after the other

abbrev reasons-before : ℕ → Verdicts → List (ℕ × Reason)
reasons-before n vs = reasons_from n (before_candidate vs)

one-more : (w : Option Reason) (vs : Verdicts) → before_candidate (Skips w ∷ vs) ≡ Skips w ∷ before_candidate vs
one-more w vs =
    let k = position_or_len admits vs in
    let next : 1 + k ≡ suc k = omega arith in
    ap (λ (j : ℕ). take j (Skips w ∷ vs)) next

-- what is possible by a line that does not admit
head-of : (claim : LoginClaim) (text : List ℕ) (stands : Bool) (w : Option Reason) → stands ≡ true → line_verdict claim text ≡ Skips w
    → cond stands (why_possible claim text) None ≡ why_by_reason claim text w
unfolding why_possible
head-of claim text true w h is = ap (λ (v : LineVerdict AuthEntry). why_by_reason claim text (passed_reason v)) is
head-of claim text false w h is = cc

abbrev at-first : LoginClaim → ℕ → Verdicts → List (List ℕ) → List (ℕ × WhyPossible)
at-first claim n vs texts = possible_lines claim (first-number n vs) (numbered n texts)

abbrev by-reasons : LoginClaim → ℕ → Verdicts → List (List ℕ) → List (ℕ × WhyPossible)
by-reasons claim n vs texts = possible_by claim (numbered n texts) (reasons-before n vs)

head-at : (claim : LoginClaim) (n : ℕ) (text : List ℕ) (vs : Verdicts) (w : Option Reason) → line_verdict claim text ≡ Skips w
    → why_possible_at claim (first-number (n + 1) vs) (n, text) ≡ why_by_reason claim text w
head-at claim n text vs w is = head-of claim text (stands_before (first-number (n + 1) vs) n) w (stands-first n (n + 1) vs (omega arith)) is

by-verdict : (claim : LoginClaim) (n : ℕ) (text : List ℕ) (texts : List (List ℕ)) (vs : Verdicts) (v : LineVerdict AuthEntry)
    → seeks_security_key claim ≡ false → line_verdict claim text ≡ v → at-first claim (n + 1) vs texts ≡ by-reasons claim (n + 1) vs texts
    → at-first claim n (v ∷ vs) (text ∷ texts) ≡ by-reasons claim n (v ∷ vs) (text ∷ texts)
by-verdict claim n text texts vs (Admits e) plain is rest = none-behind claim n n (text ∷ texts) (omega arith)
by-verdict claim n text texts vs (Skips None) plain is rest =
    ap (λ (w : Option WhyPossible). with_line n w (at-first claim (n + 1) vs texts)) (head-at claim n text vs None is ∙ unreasoned (subject claim.offer) (auth_line text) plain)
    ∙ (rest
    ∙ (pass-line claim n text (numbered (n + 1) texts) (reasons-before (n + 1) vs) (in-order (n + 1) (before_candidate vs))
    ∙ ap (λ (r : Verdicts). possible_by claim (numbered n (text ∷ texts)) (reasons_from n r)) (sym (one-more None vs))))
by-verdict claim n text texts vs (Skips (Some w)) plain is rest =
    ap (λ (h : Option WhyPossible). with_line n h (at-first claim (n + 1) vs texts)) (head-at claim n text vs (Some w) is)
    ∙ (ap (with_line n (why_by_reason claim text (Some w))) rest
    ∙ (take-line claim n text (numbered (n + 1) texts) w (reasons-before (n + 1) vs)
    ∙ ap (λ (r : Verdicts). possible_by claim (numbered n (text ∷ texts)) (reasons_from n r)) (sym (one-more (Some w) vs))))

lines-by_reasons : (claim : LoginClaim) (n : ℕ) (texts : List (List ℕ)) → seeks_security_key claim ≡ false
    → at-first claim n (map (line_verdict claim) texts) texts ≡ by-reasons claim n (map (line_verdict claim) texts) texts
lines-by_reasons claim n [] plain = refl
lines-by_reasons claim n (text ∷ texts) plain =
    by-verdict claim n text texts (map (line_verdict claim) texts) (line_verdict claim text) plain refl (lines-by_reasons claim (n + 1) texts plain)

-- ---- the reasons that are listed

few-taken : {A : Type 0} (n : ℕ) (l : List A) → length (take n l) < n → take n l ≡ l
few-taken zero l h = absurd (omega (arith, h))
few-taken (suc n) [] h = refl
few-taken (suc n) (x ∷ l) h = ap (λ (t : List _). x ∷ t) (few-taken n l (omega (arith, h)))

with-at-most : (n : ℕ) (w : Option WhyPossible) (rest : List (ℕ × WhyPossible)) → length (with_line n w [] ++ rest) ≤ suc (length rest)
with-at-most n None rest = omega arith
with-at-most n (Some w) rest = omega arith

by-at-most : (claim : LoginClaim) (lines : List (ℕ × List ℕ)) (reasons : List (ℕ × Reason)) → length (possible_by claim lines reasons) ≤ length reasons
by-at-most claim lines [] = omega arith
by-at-most claim lines (r ∷ reasons) =
    let more = with-at-most r.0 (why_by_reason claim (line_from r.0 lines) (Some r.1)) (possible_by claim (lines_after r.0 lines) reasons) in
    omega (arith, more, by-at-most claim (lines_after r.0 lines) reasons)

not-true : (b : Bool) → not b ≡ true → b ≡ false
not-true true h = cc
not-true false h = refl

other-by_reasons : (claim : LoginClaim) (before : Option ℕ) (file : List ℕ) (b : Bool) → reasons_suffice claim (reasons_of (verdicts claim file)) ≡ b
    → before ≡ first-number 1 (verdicts claim file)
    → cond b (lines_other (is_some before) (possible_by claim (numbered 1 (lines_of file)) (reasons_of (verdicts claim file)))) (possible_other claim before file) ≡ possible_other claim before file
unfolding possible_other
other-by_reasons claim before file false is first = refl
other-by_reasons claim before file true is first =
    let reasons = reasons_of (verdicts claim file) in
    let lines = numbered 1 (lines_of file) in
    let parts = and_parts (are_all_listed reasons) (not (seeks_security_key claim)) is in
    let few : length reasons < 100 = ltb-true (length reasons) 100 parts.0 in
    let all : reasons ≡ reasons-before 1 (verdicts claim file) = few-taken 100 (reasons-before 1 (verdicts claim file)) few in
    let reasoned : possible_by claim lines reasons ≡ possible_lines claim before lines =
    ap (possible_by claim lines) all
    ∙ (sym (lines-by_reasons claim 1 (lines_of file) (not-true (seeks_security_key claim) parts.1))
    ∙ ap (λ (b : Option ℕ). possible_lines claim b lines) (sym first)) in
    let short : length (possible_by claim lines reasons) ≤ 101 = omega (arith, few, by-at-most claim lines reasons) in
    ap (lines_other (is_some before)) (sym (all_is 101 (possible_by claim lines reasons) short) ∙ ap (take 101) reasoned)

beside-by_reasons : (claim : LoginClaim) (before : Option ℕ) (file : List ℕ) → before ≡ first-number 1 (verdicts claim file)
    → possible_beside claim before file (reasons_of (verdicts claim file)) ≡ possible_other claim before file
unfolding possible_beside
beside-by_reasons claim before file first = other-by_reasons claim before file (reasons_suffice claim (reasons_of (verdicts claim file))) refl first

-- ---- the first line that admits

pair-same : (p q : ℕ × AuthEntry) → Some p ≡ Some q → p ≡ q
pair-same p q h = cc

first-same : (n i : ℕ) (e f : AuthEntry) → ◌≡◌ {A = Option (ℕ × AuthEntry)} (Some (n, f)) (Some (i, e)) → n ≡ i
first-same n i e f h = ap (λ (p : ℕ × AuthEntry). p.0) (pair-same (n, f) (i, e) h)

number-from : (n : ℕ) (vs : Verdicts) (i : ℕ) (e : AuthEntry) → first_admitted n vs ≡ Some (i, e) → n ≤ i
number-from n [] i e h = cc
number-from n (Admits f ∷ vs) i e h = (let same : n ≡ i = first-same n i e f h in omega (arith, same))
number-from n (Skips w ∷ vs) i e h = (let more : n + 1 ≤ i = number-from (n + 1) vs i e h in omega (arith, more))

admits-here : (claim : LoginClaim) (text : List ℕ) (e : AuthEntry) → line_verdict claim text ≡ Admits e → line_admitting claim text ≡ admitting_by claim (Admits e)
unfolding line_admitting
admits-here claim text e is = ap (admitting_by claim) is

skips-here : (claim : LoginClaim) (text : List ℕ) (w : Option Reason) → line_verdict claim text ≡ Skips w → line_admitting claim text ≡ None
unfolding line_admitting
skips-here claim text w is = ap (admitting_by claim) is

abbrev line-at : LoginClaim → ℕ → List (ℕ × List ℕ) → Option (ℕ × Admitting)
line-at claim i lines = or_later i (line_admitting claim (line_from i lines)) None

first-by : (claim : LoginClaim) (n i : ℕ) (e : AuthEntry) (text : List ℕ) (texts : List (List ℕ)) (vs : Verdicts) (v : LineVerdict AuthEntry) → line_verdict claim text ≡ v
    → first_admitted n (v ∷ vs) ≡ Some (i, e)
    → (first_admitted (n + 1) vs ≡ Some (i, e) → line-at claim i (numbered (n + 1) texts) ≡ first_line claim false (numbered (n + 1) texts))
    → line-at claim i (numbered n (text ∷ texts)) ≡ first_line claim false (numbered n (text ∷ texts))
first-by claim n i e text texts vs (Admits f) is first rest =
    let here : i ≡ n = sym (first-same n i e f first) in
    rw (here, eq-eqb n n refl, admits-here claim text f is) refl
first-by claim n i e text texts vs (Skips w) is first rest =
    let behind : n + 1 ≤ i = number-from (n + 1) vs i e first in
    rw (ne_eqb n i (λ same. omega (arith, behind, same)), skips-here claim text w is) (rest first)

first-at : (claim : LoginClaim) (n i : ℕ) (e : AuthEntry) (texts : List (List ℕ)) → first_admitted n (map (line_verdict claim) texts) ≡ Some (i, e)
    → line-at claim i (numbered n texts) ≡ first_line claim false (numbered n texts)
first-at claim n i e [] h = cc
first-at claim n i e (text ∷ texts) h =
    first-by claim n i e text texts (map (line_verdict claim) texts) (line_verdict claim text) refl h (λ next. first-at claim (n + 1) i e texts next)

refused-by_reasons : (claim : LoginClaim) (file : List ℕ) (i : ℕ) (e : AuthEntry) → candidate_of (verdicts claim file) ≡ Some (i, e) → refused_at claim i file ≡ refused_other claim file
unfolding refused_other admitting_at
refused-by_reasons claim file i e h =
    ap (λ (first : Option (ℕ × Admitting)). refused_by first (first_line claim true (numbered 1 (lines_of file)))) (first-at claim 1 i e (lines_of file) h)

-- ---- the decision

abbrev by-cause : LoginClaim → List ℕ → ℕ → AuthEntry → Option Cause → Decision
by-cause claim file i e cause = decision_by (login_evidence claim) (candidate_at claim (i, e)) cause (reasons_of (verdicts claim file))

at-by_reasons : (claim : LoginClaim) (file : List ℕ) (i : ℕ) (e : AuthEntry) (touched verified : Bool) (unvouched : Option ℕ) → candidate_of (verdicts claim file) ≡ Some (i, e)
    → login_beside claim file (by-cause claim file i e (cause_by touched verified unvouched)) ≡ login_other claim file (by-cause claim file i e (cause_by touched verified unvouched))
unfolding login_other
at-by_reasons claim file i e false verified unvouched h = refl
at-by_reasons claim file i e true false unvouched h = refl
at-by_reasons claim file i e true true (Some index) h = refl
at-by_reasons claim file i e true true None h =
    let number : Some i ≡ first-number 1 (verdicts claim file) = ap (option_map (λ (c : ℕ × AuthEntry). c.0)) (sym h) in
    ap (λ (x : OtherLines). other_both x (refused_at claim i file)) (beside-by_reasons claim (Some i) file number)
    ∙ ap (other_both (possible_other claim (Some i) file)) (refused-by_reasons claim file i e h)

decision-by_reasons : (claim : LoginClaim) (file : List ℕ) (vouched : List Signed) (c : Option (ℕ × AuthEntry)) → candidate_of (verdicts claim file) ≡ c
    → login_beside claim file (decision_of (login_evidence claim) vouched (option_map (candidate_at claim) c) (reasons_of (verdicts claim file)))
    ≡ login_other claim file (decision_of (login_evidence claim) vouched (option_map (candidate_at claim) c) (reasons_of (verdicts claim file)))
unfolding login_other
decision-by_reasons claim file vouched None h =
    let none : None ≡ first-number 1 (verdicts claim file) = ap (option_map (λ (c : ℕ × AuthEntry). c.0)) (sym h) in
    ap (λ (x : OtherLines). other_both x (other_cause claim file NoLine)) (beside-by_reasons claim None file none)
decision-by_reasons claim file vouched (Some (i, e)) h =
    let at = candidate_at claim (i, e) in
    at-by_reasons claim file i e at.touched at.verified (first_unvouched vouched (login_evidence claim)) h

all-by_reasons : (claim : LoginClaim) (file : List ℕ) (vouched : List Signed) → login_beside claim file (login_decision file claim vouched) ≡ login_other claim file (login_decision file claim vouched)
unfolding login_decision
all-by_reasons claim file vouched = decision-by_reasons claim file vouched (candidate_of (verdicts claim file)) refl

given-by : (b : Bool) (x d : Decision) → ◌≡◌ {A = Result Decision AuditError} (cond b (Err FileTooLong) (Ok x)) (Ok d) → x ≡ d
given-by true x d h = cc
given-by false x d h = cc

-- what is told by the decision of the answer is what is printed beside it
pub beside_by_reasons : (claim : LoginClaim) (file : List ℕ) (vouched : List Signed) (d : Decision) (other : OtherLines) → login_answer file claim vouched ≡ Ok d
    → other ≡ beside_login claim file d → other ≡ other_login claim file d
beside_by_reasons claim file vouched d other answer is =
    let decided : login_decision file claim vouched ≡ d = given-by (nat_lt file_limit (length file)) (login_decision file claim vouched) d answer in
    let same : login_beside claim file d ≡ login_other claim file d =
    subst (λ (x : Decision). login_beside claim file x ≡ login_other claim file x) decided (all-by_reasons claim file vouched) in
    is ∙ ap (other_both (reported_other (login_details claim file d))) same

-- ---- the walk along the reasons

-- one reason further
pub reason_next : (claim : LoginClaim) (found new : List (ℕ × WhyPossible)) (lines after : List (ℕ × List ℕ)) (dropped more : List (ℕ × Reason)) (r : ℕ × Reason) (text : List ℕ) (w : Option WhyPossible) (all : List (ℕ × WhyPossible))
    → possible_by claim lines dropped ≡ possible_by claim lines (r ∷ more) → text ≡ line_from r.0 lines → after ≡ lines_after r.0 lines → w ≡ why_by_reason claim text (Some r.1)
    → new ≡ found ++ with_line r.0 w [] → found ++ possible_by claim lines dropped ≡ all → new ++ possible_by claim after more ≡ all
reason_next claim found new lines after dropped more r text w all left here behind is made h =
    let why : w ≡ why_by_reason claim (line_from r.0 lines) (Some r.1) = is ∙ ap (λ (x : List ℕ). why_by_reason claim x (Some r.1)) here in
    let pushed : new ≡ found ++ with_line r.0 (why_by_reason claim (line_from r.0 lines) (Some r.1)) [] = made ∙ ap (λ (x : Option WhyPossible). found ++ with_line r.0 x []) why in
    ap (λ (x : List (ℕ × WhyPossible)). x ++ possible_by claim after more) pushed
    ∙ (ap (λ (y : List (ℕ × List ℕ)). (found ++ with_line r.0 (why_by_reason claim (line_from r.0 lines) (Some r.1)) []) ++ possible_by claim y more) behind
    ∙ (append_assoc found (with_line r.0 (why_by_reason claim (line_from r.0 lines) (Some r.1)) []) (possible_by claim (lines_after r.0 lines) more)
    ∙ (ap (λ (t : List (ℕ × WhyPossible)). found ++ t) (sym left) ∙ h)))
