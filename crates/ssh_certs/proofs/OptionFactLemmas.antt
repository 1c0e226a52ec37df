-- The options of a certificate: what is computed of them, and the same without computing.
use Rattle.ssh_certs.proofs.Imports.{◌≡◌, ◌∙◌, ◌++◌, ℕ, zero, suc, ◌≤◌, ◌<◌, ◌&&◌, Bool, true, false, cond, ltb, List, [], ◌∷◌, Option, Some, Result, Ok, Err, length, take, drop, sym, ap, subst, refl, arith, ◌==◌, Any, Contains, is_some, option_and_then, w32, from_be_bytes, AllByRecursion, list_any, slice_index_or, bytes_eq, result_ok, and_parts, eqb-true, ltb-false, le-ltb, append-nil, drop_at, length-append, length-take, nil_from_length, take-append-drop, drop-length, take-length, Any-from_list_any, list_any-from_Any, bytes_eq-Decides, Short, WireError, Position, advance, start, ◌>>=◌, end_at, fault, number_at, bind_ok, guard_ok, find_some, CertificateOption, ForceCommand, SourceAddress, VerifyRequired, NoTouchRequired, PermitX11Forwarding, PermitAgentForwarding, PermitPortForwarding, PermitPty, PermitUserRc, DataForm, Empty, OneString, Certificate, CertOption, has_formed, has_named, option_in, one_string, AreOnce, HasExtension, HasForm, HasText, InsistsOn, IsKnownOption, IsOneString, OfText, certificate_options, fits, is_of_form, is_critical, certificate_option_name, certificate_option_row}
use Rattle.std.proofs.Common.{None, take_at}
use Rattle.std.specs.Prelude.{◌≢◌}
use Rattle.ssh_wire.specs.Reading.{string_at}
use Rattle.ssh_certs.specs.OptionData.{whole_string_at}
use Rattle.ssh_certs.specs.OptionTable.{critical_named}
use Rattle.ssh_certs.proofs.OptionLemmas.{critical-found}

-- ---- data that is one string

no-more : (at : Position) → end_at at ≡ Ok tt → at.rest ≡ []
no-more at h = go at.rest h
  where
    go : (rest : List ℕ) → end_at (record { place = at.place; rest = rest }) ≡ Ok tt → rest ≡ []
    go [] e = refl
    go (b ∷ rest) e = absurd cc

ok-is : {A : Type 0} {E : Type 0} (x y : A) → (let r : Result A E = Ok x in r) ≡ Ok y → x ≡ y
ok-is x y h = cc

whole-is : (field text : List ℕ) → whole_string_at (start field) ≡ Ok text → IsOneString text field
unfolding whole_string_at string_at
whole-is field text h =
    let at = start field in
    let s = bind_ok (string_at at) (λ t. end_at t.1 >>= λ _. Ok t.0) text h in
    let n = bind_ok (number_at w32 at) (λ len. cond (ltb (length (len.1).rest) len.0) (fault at Short) (Ok (take len.0 (len.1).rest, advance len.1 len.0))) s.0 s.1 in
    let long = guard_ok (ltb (length field) 4) (record { place = 0; cause = Short }) (from_be_bytes w32 (take 4 field), advance at 4) n.0 n.1 in
    let count = from_be_bytes w32 (take 4 field) in
    let rest = drop 4 field in
    let number : n.0 ≡ (count, advance at 4) = sym long.1 in
    let Of : ℕ × Position → Type 0 = λ x. cond (ltb (length (x.1).rest) x.0) (fault at Short) (Ok (take x.0 (x.1).rest, advance x.1 x.0)) ≡ Ok s.0 in
    let read : Of (count, advance at 4) = subst Of number n.2 in
    let fits = guard_ok (ltb (length rest) count) (record { place = 0; cause = Short }) (take count rest, advance (advance at 4) count) s.0 read in
    let parts : s.0 ≡ (take count rest, advance (advance at 4) count) = sym fits.1 in
    let ends = bind_ok (end_at (s.0).1) (λ _. Ok (s.0).0) text s.2 in
    let ended : drop count rest ≡ [] = ap (λ (x : List ℕ × Position). (x.1).rest) (sym parts) ∙ no-more (s.0).1 ends.1 in
    let whole : rest ≡ take count rest = sym (take-append-drop count rest) ∙ ap (λ (t : List ℕ). take count rest ++ t) ended ∙ append-nil (take count rest) in
    let is : rest ≡ text = whole ∙ ap (λ (x : List ℕ × Position). x.0) (sym parts) ∙ ok-is (s.0).0 text ends.2 in
    let four : 4 ≤ length field = ltb-false _ _ long.0 in
    let held : count ≤ length rest = ltb-false _ _ fits.0 in
    let size : length (take count rest) ≡ count = omega (arith, length-take count rest) in (
      take 4 field,
      sym (take-append-drop 4 field) ∙ ap (λ (t : List ℕ). take 4 field ++ t) is,
      omega (arith, length-take 4 field),
      sym size ∙ ap length (sym whole ∙ is),
    )

is-whole : (field text : List ℕ) → IsOneString text field → whole_string_at (start field) ≡ Ok text
unfolding whole_string_at string_at
is-whole field text (head, parts, four, count) =
    let long : ltb (length (head ++ text)) 4 ≡ false = le-ltb _ _ (omega (arith, length-append head text, four)) in
    let held : ltb (length text) (length text) ≡ false = le-ltb _ _ (omega arith) in
    rw (parts, long, take_at head text 4 four, drop_at head text 4 four, count, held, take-length text, drop-length text) refl

pub one-string-is : (field text : List ℕ) → one_string field ≡ Some text → IsOneString text field
one-string-is field text h = go (whole_string_at (start field)) refl h
  where
    go : (r : Result (List ℕ) WireError) → whole_string_at (start field) ≡ r → result_ok r ≡ Some text → IsOneString text field
    go (Ok t) e k = whole-is field text (e ∙ ap (λ (x : List ℕ). Ok x) cc)
    go (Err f) e k = absurd cc

pub is-one-string : (field text : List ℕ) → IsOneString text field → one_string field ≡ Some text
is-one-string field text h = ap result_ok (is-whole field text h)

-- ---- the options that a login knows

no-bytes : (field : List ℕ) → (length field == 0) ≡ true → field ≡ []
no-bytes field h = nil_from_length field (eqb-true (length field) 0 h)

form-is : (form : DataForm) (field : List ℕ) → is_of_form form field ≡ true → HasForm form field
form-is Empty field h = no-bytes field h
form-is OneString field h = go (one_string field) refl h
  where
    go : (o : Option (List ℕ)) → one_string field ≡ o → is_some o ≡ true → HasForm OneString field
    go (Some text) e k = (text, one-string-is field text e)
    go None e k = cc

is-form : (form : DataForm) (field : List ℕ) → HasForm form field → is_of_form form field ≡ true
is-form Empty field h = rw h refl
is-form OneString field (text, is) = rw (is-one-string field text is) refl

-- a name that is a critical option's, with data of its form
pub known-is : (o : CertOption) (option : CertificateOption) → critical_named o.name ≡ Some option → fits option o.value ≡ true → IsKnownOption o
unfolding critical_named
known-is o option named fit =
    let test : CertificateOption → Bool = λ x. is_critical x && bytes_eq (certificate_option_name x) o.name in
    let passed = and_parts (is_critical option) (bytes_eq (certificate_option_name option) o.name) (find_some test certificate_options option named) in
    (option, passed.0, sym ((bytes_eq-Decides (certificate_option_name option) o.name).0 passed.1), form-is (certificate_option_row option).form o.value fit)

pub is-known : (o : CertOption) (known : IsKnownOption o) → (critical_named o.name ≡ Some known.0) × (fits known.0 o.value ≡ true)
is-known o (option, critical, name, form) = (ap critical_named name ∙ critical-found option critical, is-form (certificate_option_row option).form o.value form)

-- ---- the text of an option

pub each : {X : Type 0} (P : X → Type 0) → ((x : X) → P x) → (xs : List X) → AllByRecursion P xs
each P h [] = tt
each P h (x ∷ xs) = (h x, each P h xs)

each-of : {X : Type 0} (P Q : X → Type 0) → ((x : X) → P x → Q x) → (xs : List X) → AllByRecursion P xs → AllByRecursion Q xs
each-of P Q h [] all = tt
each-of P Q h (x ∷ xs) all = (h x all.0, each-of P Q h xs all.1)

abbrev TextsAre : List ℕ → (List ℕ → Type 0) → CertOption → Type 0
TextsAre name P o = o.name ≡ name → (text : List ℕ) → IsOneString text o.value → P text

abbrev pub text_in : List ℕ → List CertOption → Option (List ℕ)
text_in name options = option_and_then one_string (option_in name options)

-- what holds of the text of each option with a name holds of the first one's
first-text : (name : List ℕ) (P : List ℕ → Type 0) (options : List CertOption) → AllByRecursion (TextsAre name P) options
    → (text : List ℕ) → text_in name options ≡ Some text → P text
first-text name P [] all text h = cc
first-text name P (o ∷ options) all text h = go (first-text name P options all.1 text) (bytes_eq o.name name) refl
  where
    go : (text_in name options ≡ Some text → P text) → (b : Bool) → bytes_eq o.name name ≡ b → P text
    go later true e =
        let same : one_string o.value ≡ Some text = rw e at h in
        all.0 ((bytes_eq-Decides o.name name).0 e) text (one-string-is o.value text same)
    go later false e = later (rw e at h)

-- and where no name occurs twice, what holds of the first one's holds of each
each-text : (name : List ℕ) (P : List ℕ → Type 0) (options : List CertOption) → AreOnce options
    → ((text : List ℕ) → text_in name options ≡ Some text → P text) → AllByRecursion (TextsAre name P) options
each-text name P [] once h = tt
each-text name P (o ∷ options) once h = go (each-text name P options once.1) (bytes_eq o.name name) refl
  where
    go : (((text : List ℕ) → text_in name options ≡ Some text → P text) → AllByRecursion (TextsAre name P) options)
        → (b : Bool) → bytes_eq o.name name ≡ b → AllByRecursion (TextsAre name P) (o ∷ options)
    go later true e =
        let same : o.name ≡ name = (bytes_eq-Decides o.name name).0 e in (
          λ is text one. h text (rw e (is-one-string o.value text one)),
          each-of (λ p. p.name ≢ o.name) (TextsAre name P) (λ p other is. absurd (other (is ∙ sym same))) options once.0,
        )
    go later false e = (
      λ is. let bad : true ≡ false = sym ((bytes_eq-Decides o.name name).1 is) ∙ e in cc,
      later (λ text found. h text (rw e found)),
    )

pub text-of : (option : CertificateOption) (c : Certificate) (P : List ℕ → Type 0) → OfText option c P
    → (text : List ℕ) → text_in (certificate_option_name option) c.critical ≡ Some text → P text
text-of option c P all = first-text (certificate_option_name option) P c.critical all

pub of-text : (option : CertificateOption) (c : Certificate) (P : List ℕ → Type 0) → AreOnce c.critical
    → ((text : List ℕ) → text_in (certificate_option_name option) c.critical ≡ Some text → P text) → OfText option c P
of-text option c P once h = each-text (certificate_option_name option) P c.critical once h

-- ---- an option by its name

any-of : {X : Type 0} (P Q : X → Type 0) (xs : List X) → ((x : X) → P x → Q x) → Any P xs → Any Q xs
any-of P Q xs f (k, x, inside, is, holds) = (k, x, inside, is, f x holds)

pub insists : (option : CertificateOption) (c : Certificate) → is_critical option ≡ true → has_named option c ≡ true → InsistsOn option c
insists option c critical h =
    let found : list_any (λ o. bytes_eq o.name (certificate_option_name option)) c.critical ≡ true = rw critical at h in
    any-of (λ o. bytes_eq o.name (certificate_option_name option) ≡ true) (λ o. o.name ≡ certificate_option_name option) c.critical
    (λ o e. (bytes_eq-Decides o.name (certificate_option_name option)).0 e) (Any-from_list_any (λ o. bytes_eq o.name (certificate_option_name option)) c.critical found)

pub named-of : (option : CertificateOption) (c : Certificate) → is_critical option ≡ true → InsistsOn option c → has_named option c ≡ true
named-of option c critical h =
    rw critical (list_any-from_Any (λ o. bytes_eq o.name (certificate_option_name option)) c.critical
    (any-of (λ o. o.name ≡ certificate_option_name option) (λ o. bytes_eq o.name (certificate_option_name option) ≡ true) c.critical
    (λ o e. (bytes_eq-Decides o.name (certificate_option_name option)).1 e) h))

-- ---- an extension

abbrev is_empty_named : List ℕ → CertOption → Bool
is_empty_named name o = bytes_eq o.name name && (length o.value == 0)

abbrev empty_option : List ℕ → CertOption
empty_option name = record { name = name; value = [] }

empty-named : (name : List ℕ) (o : CertOption) → is_empty_named name o ≡ true → o ≡ empty_option name
empty-named name o h =
    let parts = and_parts (bytes_eq o.name name) (length o.value == 0) h in
    let named : o.name ≡ name = (bytes_eq-Decides o.name name).0 parts.0 in
    let none : o.value ≡ [] = no-bytes o.value parts.1 in
    ap (λ (n : List ℕ). record { name = n; value = o.value }) named ∙ ap (λ (v : List ℕ). record { name = name; value = v }) none

contains-of : (name : List ℕ) (options : List CertOption) → list_any (is_empty_named name) options ≡ true → Contains options (empty_option name)
contains-of name options h = go (Any-from_list_any (is_empty_named name) options h)
  where
    go : Any (λ o. is_empty_named name o ≡ true) options → Contains options (empty_option name)
    go (k, o, inside, is, holds) =
        let At : CertOption → Type 0 = λ x. slice_index_or options k x ≡ x in
        (k, inside, subst At (empty-named name o holds) is)

of-contains : (name : List ℕ) (options : List CertOption) → Contains options (empty_option name) → list_any (is_empty_named name) options ≡ true
of-contains name options (k, inside, is) =
    let named : is_empty_named name (empty_option name) ≡ true = rw ((bytes_eq-Decides name name).1 refl) refl in
    list_any-from_Any (is_empty_named name) options (k, empty_option name, inside, is, named)

pub extension-of : (option : CertificateOption) (c : Certificate) → is_critical option ≡ false → has_formed option c ≡ true → HasExtension option c
extension-of ForceCommand c extends h = cc
extension-of SourceAddress c extends h = cc
extension-of VerifyRequired c extends h = cc
extension-of NoTouchRequired c extends h = contains-of (certificate_option_name NoTouchRequired) c.extensions h
extension-of PermitX11Forwarding c extends h = contains-of (certificate_option_name PermitX11Forwarding) c.extensions h
extension-of PermitAgentForwarding c extends h = contains-of (certificate_option_name PermitAgentForwarding) c.extensions h
extension-of PermitPortForwarding c extends h = contains-of (certificate_option_name PermitPortForwarding) c.extensions h
extension-of PermitPty c extends h = contains-of (certificate_option_name PermitPty) c.extensions h
extension-of PermitUserRc c extends h = contains-of (certificate_option_name PermitUserRc) c.extensions h

pub of-extension : (option : CertificateOption) (c : Certificate) → is_critical option ≡ false → HasExtension option c → has_formed option c ≡ true
of-extension ForceCommand c extends h = cc
of-extension SourceAddress c extends h = cc
of-extension VerifyRequired c extends h = cc
of-extension NoTouchRequired c extends h = of-contains (certificate_option_name NoTouchRequired) c.extensions h
of-extension PermitX11Forwarding c extends h = of-contains (certificate_option_name PermitX11Forwarding) c.extensions h
of-extension PermitAgentForwarding c extends h = of-contains (certificate_option_name PermitAgentForwarding) c.extensions h
of-extension PermitPortForwarding c extends h = of-contains (certificate_option_name PermitPortForwarding) c.extensions h
of-extension PermitPty c extends h = of-contains (certificate_option_name PermitPty) c.extensions h
of-extension PermitUserRc c extends h = of-contains (certificate_option_name PermitUserRc) c.extensions h

-- ---- the text that an option has

any-later : {X : Type 0} (P : X → Type 0) (y : X) (xs : List X) → Any P xs → Any P (y ∷ xs)
any-later P y xs (k, x, inside, is, holds) = (suc k, x, omega (arith, inside), is, holds)

has-first : (name text : List ℕ) (options : List CertOption) → text_in name options ≡ Some text
    → Any (λ o. (o.name ≡ name) × IsOneString text o.value) options
has-first name text [] h = cc
has-first name text (o ∷ options) h = go (has-first name text options) (bytes_eq o.name name) refl
  where
    go : (text_in name options ≡ Some text → Any (λ x. (x.name ≡ name) × IsOneString text x.value) options) → (b : Bool) → bytes_eq o.name name ≡ b
        → Any (λ x. (x.name ≡ name) × IsOneString text x.value) (o ∷ options)
    go rest true e =
        let same : one_string o.value ≡ Some text = rw e at h in
        (0, o, omega arith, refl, ((bytes_eq-Decides o.name name).0 e, one-string-is o.value text same))
    go rest false e = any-later (λ x. (x.name ≡ name) × IsOneString text x.value) o options (rest (rw e at h))

pub has-text : (option : CertificateOption) (c : Certificate) (text : List ℕ) → text_in (certificate_option_name option) c.critical ≡ Some text → HasText option c text
has-text option c text h = has-first (certificate_option_name option) text c.critical h

-- an option occurs once, so that its text is the first one's
at-each : {X : Type 0} (P : X → Type 0) (xs : List X) (k : ℕ) (x : X) → k < length xs → slice_index_or xs k x ≡ x → AllByRecursion P xs → P x
at-each P [] k x inside is all = absurd (omega (arith, inside))
at-each P (y ∷ xs) zero x inside is all = subst P is all.0
at-each P (y ∷ xs) (suc k) x inside is all = at-each P xs k x (omega (arith, inside)) is all.1

first-has : (name text : List ℕ) (options : List CertOption) → AreOnce options → Any (λ o. (o.name ≡ name) × IsOneString text o.value) options
    → text_in name options ≡ Some text
first-has name text [] once (k, o, inside, is, holds) = absurd (omega (arith, inside))
first-has name text (p ∷ options) once (zero, o, inside, is, holds) =
    let one : (p.name ≡ name) × IsOneString text p.value = subst (λ (x : CertOption). (x.name ≡ name) × IsOneString text x.value) (sym is) holds in
    rw ((bytes_eq-Decides p.name name).1 one.0) (is-one-string p.value text one.1)
first-has name text (p ∷ options) once (suc k, o, inside, is, holds) =
    go (first-has name text options once.1 (k, o, omega (arith, inside), is, holds)) (bytes_eq p.name name) refl
  where
    go : text_in name options ≡ Some text → (b : Bool) → bytes_eq p.name name ≡ b → text_in name (p ∷ options) ≡ Some text
    go rest true e =
        let other = at-each (λ x. x.name ≢ p.name) options k o (omega (arith, inside)) is once.0 in
        absurd (other (holds.0 ∙ sym ((bytes_eq-Decides p.name name).0 e)))
    go rest false e = rw e rest

pub text-had : (option : CertificateOption) (c : Certificate) (text : List ℕ) → AreOnce c.critical → HasText option c text
    → text_in (certificate_option_name option) c.critical ≡ Some text
text-had option c text once h = first-has (certificate_option_name option) text c.critical once h
