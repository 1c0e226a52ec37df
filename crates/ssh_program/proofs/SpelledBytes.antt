-- What hexadecimal digits and base64 spell are bytes: so are an offer and a signature that options spell.
use Rattle.ssh_program.proofs.Imports.{◌≡◌, ◌<◌, ◌+◌, ◌*◌, cond, ℕ, Bool, true, false, List, [], ◌∷◌, length, Option, Some, None, Result, Ok, Err, subst, refl, arith, ◌^◌, Row, TimeZone, ◌>>=◌, Any, HostCheck, Response, standard, empty_principals_of, hex_bytes, number_below, OptionTexts, OptionText, spelled_by, needed, or_fault, value, value_or}
use Rattle.std.proofs.Common.{◌==◌, bytes_eq, ok_or}
use Rattle.base64.specs.GeneralPurpose.{decode_of, decoded_of}
use Rattle.base64.specs.declared.decode.DecodeError.{DecodeError}
use Rattle.std.specs.Result.{result_ok}
use Rattle.ssh_files.specs.Values.{hex_value, pair_value, pair_values, prepend, short_bytes, short_hex}
use Rattle.ssh_offers.specs.Query.{Login as LoginAsked}
use Rattle.ssh_offers.specs.FirstRefusal.{AreBytes}
use Rattle.ssh_entries.proofs.ByteLemmas.{AreBytes-from}
use Rattle.ssh_entries.proofs.DecodedBytes.{decoded-bytes}
use Rattle.ssh_program.specs.declared.args.ArgName.TheVariants as option
use Rattle.ssh_program.specs.Granting.{HostBytes, LoginBytes}
use Rattle.ssh_program.specs.Hosts.{host_spelled}
use Rattle.ssh_program.specs.Logins.{login_spelled}

some-same : {A : Type 0} (a b : A) → ◌≡◌ {A = Option A} (Some a) (Some b) → a ≡ b
some-same a b h = cc

pub ok-same : {A B : Type 0} (a b : A) → ◌≡◌ {A = Result A B} (Ok a) (Ok b) → a ≡ b
ok-same a b h = cc

-- ---- hexadecimal

digit-small : (c v : ℕ) → hex_value c ≡ Some v → v < 16
digit-small c v h = grind (arith)

pair-small : (high low : Option ℕ) (x : ℕ) → ((v : ℕ) → high ≡ Some v → v < 16) → ((v : ℕ) → low ≡ Some v → v < 16) → pair_value high low ≡ Some x → x < 256
pair-small None low x h l e = cc
pair-small (Some a) None x h l e = cc
pair-small (Some a) (Some b) x h l e =
    let first : a < 16 = h a refl in
    let second : b < 16 = l b refl in
    let is : 16 * a + b ≡ x = some-same (16 * a + b) x e in
    omega (arith, first, second, is)

prepended : (v : Option ℕ) (rest : Option (List ℕ)) (out : List ℕ) → ((x : ℕ) → v ≡ Some x → x < 256) → ((xs : List ℕ) → rest ≡ Some xs → AreBytes xs) → prepend v rest ≡ Some out → AreBytes out
prepended None rest out small all h = cc
prepended (Some x) None out small all h = cc
prepended (Some x) (Some xs) out small all h = subst AreBytes (some-same (x ∷ xs) out h) (small x refl, all xs refl)

pair-bytes : (text out : List ℕ) → pair_values text ≡ Some out → AreBytes out
pair-bytes [] out h = subst AreBytes (some-same [] out h) tt
pair-bytes (a ∷ []) out h = cc
pair-bytes (a ∷ b ∷ text) out h =
    prepended (pair_value (hex_value a) (hex_value b)) (pair_values text) out
    (λ x. pair-small (hex_value a) (hex_value b) x (digit-small a) (digit-small b)) (pair-bytes text) h

empty-or : (b : Bool) (x : Option (List ℕ)) (out : List ℕ) → cond b None x ≡ Some out → x ≡ Some out
empty-or true x out h = cc
empty-or false x out h = h

dash-or : (b : Bool) (x : Option (List ℕ)) (out : List ℕ) → ((xs : List ℕ) → x ≡ Some xs → AreBytes xs) → cond b (Some []) x ≡ Some out → AreBytes out
dash-or true x out all h = subst AreBytes (some-same [] out h) tt
dash-or false x out all h = all out h

pub hex-bytes : (text out : List ℕ) → hex_bytes text ≡ Some out → AreBytes out
hex-bytes text out h =
    dash-or (bytes_eq text (45 ∷ [])) (cond (length text == 0) None (pair_values text)) out
    (λ xs e. pair-bytes text xs (empty-or (length text == 0) (pair_values text) xs e)) h

-- ---- base64

decoded-ok : (r : Result (List ℕ) DecodeError) (out : List ℕ) → result_ok r ≡ Some out → r ≡ Ok out
decoded-ok (Ok v) out h = cc
decoded-ok (Err e) out h = cc

pub base64-bytes : (text out : List ℕ) → decoded_of standard text ≡ Some out → AreBytes out
unfolding decoded_of
base64-bytes text out h = AreBytes-from out (decoded-bytes text out (decoded-ok (decode_of standard text) out h))

-- ---- values in turn

-- what is given there is so
abbrev pub Gives : {A : Type 0} → (A → Type 0) → Result A Response → Type 0
Gives {A = A} P x = (v : A) → x ≡ Ok v → P v

pub step-gives : {A B : Type 0} (P : A → Type 0) (Q : B → Type 0) (x : Result A Response) (next : A → Result B Response) → Gives P x → ((v : A) → P v → Gives Q (next v)) → Gives Q (x >>= next)
step-gives P Q (Ok v) next first rest w h = rest v (first v refl) w h
step-gives P Q (Err e) next first rest w h = cc

pub step-any : {A B : Type 0} (Q : B → Type 0) (x : Result A Response) (next : A → Result B Response) → ((v : A) → Gives Q (next v)) → Gives Q (x >>= next)
step-any Q (Ok v) next rest w h = rest v w h
step-any Q (Err e) next rest w h = cc

or-gives : {A : Type 0} (P : A → Type 0) (o : Option A) (e : Response) → ((v : A) → o ≡ Some v → P v) → Gives P (ok_or o e)
or-gives P None e all w h = cc
or-gives {A} P (Some x) e all w h = subst P (ok-same {A = A} {B = Response} x w h) (all x refl)

spelled-gives : (spells : List ℕ → Option (List ℕ)) (t : OptionText) → ((text out : List ℕ) → spells text ≡ Some out → AreBytes out) → Gives AreBytes (spelled_by spells t)
spelled-gives spells t all = or-gives AreBytes (spells t.text) _ (all t.text)

pub login-bytes : (rows : List Row) (zone : Option TimeZone) (x : OptionTexts) (q : LoginAsked) → login_spelled rows zone x ≡ Ok q → LoginBytes q
unfolding login_spelled
login-bytes rows zone x =
    step-gives AreBytes LoginBytes _ _ (spelled-gives (decoded_of standard) x.offer base64-bytes) (λ offered fits.
    step-gives AreBytes LoginBytes _ _ (spelled-gives hex_bytes x.signature hex-bytes) (λ signature signs.
    step-any LoginBytes (value short_hex option.Session rows) _ (λ session.
    step-any LoginBytes (value short_bytes option.User rows) _ (λ user.
    step-any LoginBytes (value (number_below (2 ^ 64)) option.Now rows) _ (λ now.
    step-any LoginBytes (or_fault option.Zone zone) _ (λ zone.
    step-any LoginBytes (value_or Any empty_principals_of option.EmptyPrincipals rows) _ (λ empty_principals.
    step-any LoginBytes (value_or 0 (number_below (2 ^ 32)) option.RsaMinimum rows) _ (λ rsa_minimum.
    step-any LoginBytes (needed option.Algorithm rows) _ (λ algorithm.
    step-any LoginBytes (needed option.Address rows) _ (λ address. λ q h. subst LoginBytes (ok-same {A = LoginAsked} {B = Response} _ q h) (fits, signs)))))))))))

pub host-bytes : (rows : List Row) (x : OptionTexts) (q : HostCheck) → host_spelled rows x ≡ Ok q → HostBytes q
unfolding host_spelled
host-bytes rows x =
    step-gives AreBytes HostBytes _ _ (spelled-gives (decoded_of standard) x.offer base64-bytes) (λ offered fits.
    step-gives AreBytes HostBytes _ _ (spelled-gives hex_bytes x.signature hex-bytes) (λ signature signs.
    step-any HostBytes (value hex_bytes option.Hash rows) _ (λ exchange_hash.
    step-any HostBytes (value (number_below (2 ^ 16)) option.Port rows) _ (λ port.
    step-any HostBytes (value (number_below (2 ^ 64)) option.Now rows) _ (λ now.
    step-any HostBytes (value_or Any empty_principals_of option.EmptyPrincipals rows) _ (λ empty_principals.
    step-any HostBytes (value_or 0 (number_below (2 ^ 32)) option.RsaMinimum rows) _ (λ rsa_minimum.
    step-any HostBytes (needed option.Host rows) _ (λ host. λ q h. subst HostBytes (ok-same {A = HostCheck} {B = Response} _ q h) (fits, signs)))))))))
