-- Bytes that are refused as a certificate have the first error that is returned, at its place.
use Rattle.ssh_certs.proofs.Imports.{◌≡◌, ◌≢◌, ℕ, zero, suc, ◌+◌, ◌^◌, ◌<◌, ◌≤◌, Bool, true, false, cond, ltb, List, [], ◌∷◌, ◌++◌, length, take, replicate, Result, Ok, Err, refl, sym, ap, subst, ◌∙◌, append_assoc, zero-add, arith, inl, inr, None, w32, w64, byte_len, from_be_bytes, concat, flat_map, ltb-false, ltb-true, append-nil, length-append, flat_map-cons, concat-append, WireCause, Short, MpintNotMinimal, MpintNegative, Trailing, Value, WireError, string, uint32, uint64, Position, start, advance, ◌>>=◌, Read, number_at, end_at, IsBytes, Took, Took-then, wide32, wide64, number_takes, number_again, string_takes, string_again, string_fits, refused_none, fine, bind_err, test_err, string_is_short, NoString, BeginsString, KeyError, KeyKind, NameClass, Plain, Retired, Other, IsFieldFault, IsFirstFault, fields_take, certificate_name_of, class_of, PublicKey, ed25519, kind_of, fields_of, is_in_range, longest, IsKey, Signature, IsSignature, fields_fault, key_fault, IsSignatureFault, signature_fault, CertError, Certificate, CertOption, packed_names, packed_options, as_fault, as_cert_error, certified_kind_from, items_in, names_at, options_at, cert_option_at, signer_fault, CertificateFieldSort, long, short, text, names, options, signer, signature, sorts, certificate_front, tail_of, IsInRange, IsCut, NameIsCut, OptionIsCut, IsWrongField, InTail, InKey, IsLonger, IsOtherName, IsCertificateFaultWithin, IsCertificateFault}
use Rattle.ssh_wire.specs.Reading.{string_at}
use Rattle.ssh_keys.specs.declared.key.KeyError.TheVariants as key_errors
use Rattle.ssh_keys.specs.declared.kind.NameClass.TheVariants.{Certificate as CertificateOf}
use Rattle.ssh_keys.specs.KeyReading.{fields_at, key_in}
use Rattle.ssh_keys.specs.PublicKey.{key_blob}
use Rattle.ssh_keys.specs.Signature.{signature_blob, signature_in}
use Rattle.ssh_certs.specs.declared.reading.CertError.TheVariants as errors
use Rattle.ssh_certs.specs.Certificate.{certificate_blob}
use Rattle.ssh_certs.specs.CertificateReading.{items_within, packed_at, signer_at, cert_signature_at, certificate_at, certificate_in}
use Rattle.ssh_certs.proofs.CertificateLaws.{kind_named, named_kind, signer_takes, signature_at_takes, laid_out_is}
use Rattle.ssh_certs.proofs.Items.{IsItem, FitsString, FitsOption, string_item, option_item, spelled_option}
use Rattle.ssh_certs.proofs.PackedLists.{as_fault_ok, packed_takes}

-- ---- steps that failed

err_is : {A : Type 0} (d e : CertError) → (let r : Result A CertError = Err d in r) ≡ Err e → d ≡ e
err_is d e h = cc

as_fault_err : {A E : Type 0} (f : E → CertError) (r : Result A E) (e : CertError) → as_fault f r ≡ Err e → (d : E) × (r ≡ Err d) × (f d ≡ e)
as_fault_err f (Ok x) e h = absurd cc
as_fault_err {A} f (Err d) e h = (d, refl, err_is {A = A} (f d) e h)

-- a step, and what follows it: where it fails, and where it does not
step : {A B E G : Type 0} (r : Result A E) (f : A → Result B E) (e : E) → (r >>= f) ≡ Err e → (r ≡ Err e → G) → ((x : A) → r ≡ Ok x → f x ≡ Err e → G) → G
step r f e h fails goes_on = elim (bind_err r f e h) [ inl refused ↦ fails refused | inr x ↦ goes_on x.0 x.1 x.2 ]

no_string : (at : Position) (w : WireError) → string_at at ≡ Err w → NoString at.rest
no_string at w h = λ b. refused_none string (λ t. length t < 2 ^ 32) string_at string_again at w h b.value b.rest b.fits b.begins

-- the error of a cut field is at its place
cut : (sort : CertificateFieldSort) (at : Position) (w : WireError) (e : CertError) → w ≡ record { place = at.place; cause = Short } → errors.Wire w ≡ e → IsCut sort at.rest → IsWrongField e sort at.rest at.place
cut sort at w e is reported none =
    let here : IsWrongField (errors.Wire (record { place = at.place; cause = Short })) sort at.rest at.place = (refl, refl, none) in
    subst (λ (x : CertError). IsWrongField x sort at.rest at.place) (ap (λ (x : WireError). errors.Wire x) (sym is) ∙ reported) here

text_wrong : (at : Position) (e : CertError) → as_cert_error (string_at at) ≡ Err e → IsWrongField e text at.rest at.place
text_wrong at e h = let w = as_fault_err errors.Wire (string_at at) e h in cut text at w.0 e (string_is_short at w.0 w.1) w.2 (no_string at w.0 w.1)

long_wrong : (at : Position) (e : CertError) → as_cert_error (number_at w64 at) ≡ Err e → IsWrongField e long at.rest at.place
long_wrong at e h =
    let w = as_fault_err errors.Wire (number_at w64 at) e h in
    let is : w.0 ≡ record { place = at.place; cause = Short } = sym (test_err (ltb (length at.rest) (byte_len w64)) (record { place = at.place; cause = Short }) w.0 (from_be_bytes w64 (take (byte_len w64) at.rest), advance at (byte_len w64)) w.1) in
    cut long at w.0 e is w.2 (λ b. refused_none uint64 (λ n. n < 2 ^ 64) (number_at w64) (number_again w64 (2 ^ 64) wide64) at w.0 w.1 b.value b.rest b.fits b.begins)

short_wrong : (at : Position) (e : CertError) → as_cert_error (number_at w32 at) ≡ Err e → IsWrongField e short at.rest at.place
short_wrong at e h =
    let w = as_fault_err errors.Wire (number_at w32 at) e h in
    let is : w.0 ≡ record { place = at.place; cause = Short } = sym (test_err (ltb (length at.rest) (byte_len w32)) (record { place = at.place; cause = Short }) w.0 (from_be_bytes w32 (take (byte_len w32) at.rest), advance at (byte_len w32)) w.1) in
    cut short at w.0 e is w.2 (λ b. refused_none uint32 (λ n. n < 2 ^ 32) (number_at w32) (number_again w32 (2 ^ 32) wide32) at w.0 w.1 b.value b.rest b.fits b.begins)

-- ---- packed lists

-- some items are complete, and the next one is refused
record Failed {A : Type 0} (spelling : A → List ℕ) (item : Position → Read A) (place : ℕ) (bytes : List ℕ) (w : WireError) : Type 0 where
  front : List A
  rest : List ℕ
  parts : bytes ≡ flat_map spelling front ++ rest
  more : rest ≢ []
  refused : item (record { place = place + length (flat_map spelling front); rest = rest }) ≡ Err w
  fits : IsBytes rest

module _ {A : Type 0} (spelling : A → List ℕ) (Fits : A → Type 0) (item : Position → Read A) (is : IsItem spelling Fits item) where
  items_fail : (turns place : ℕ) (bytes : List ℕ) (w : WireError) → IsBytes bytes → items_within item turns (record { place = place; rest = bytes }) ≡ Err w → Failed spelling item place bytes w
  unfolding items_within
  items_fail zero place bytes w fits h = absurd cc
  items_fail (suc turns) place [] w fits h = absurd cc
  items_fail (suc turns) place (b ∷ bytes) w fits h =
      step (item (record { place = place; rest = b ∷ bytes })) (λ first. items_within item turns first.1 >>= λ others. fine (first.0 ∷ others)) w h
      (λ refused. record {
        front = [];
        rest = b ∷ bytes;
        parts = refl;
        more = λ none. absurd cc;
        refused = subst (λ (k : ℕ). item (record { place = k; rest = b ∷ bytes }) ≡ Err w) (let z : place ≡ place + 0 = omega arith in z) refused;
        fits = fits;
      })
      (λ x read later.
      let t = is.takes (record { place = place; rest = b ∷ bytes }) x.0 x.1 fits read in
      step (items_within item turns x.1) (λ others. fine (x.0 ∷ others)) w later
      (λ refused.
      let deep = items_fail turns (x.1).place (x.1).rest w t.0.rest_fits refused in
      let cons = flat_map-cons spelling x.0 deep.front in
      let far : (x.1).place + length (flat_map spelling deep.front) ≡ place + length (flat_map spelling (x.0 ∷ deep.front)) = omega (arith, t.0.place, ap length cons, length-append (spelling x.0) (flat_map spelling deep.front)) in
      record {
        front = x.0 ∷ deep.front;
        rest = deep.rest;
        parts = t.0.parts ∙ ap (λ (r : List ℕ). spelling x.0 ++ r) deep.parts ∙ sym (append_assoc (spelling x.0) (flat_map spelling deep.front) deep.rest) ∙ ap (λ (f : List ℕ). f ++ deep.rest) (sym cons);
        more = deep.more;
        refused = subst (λ (k : ℕ). item (record { place = k; rest = deep.rest }) ≡ Err w) far deep.refused;
        fits = deep.fits;
      })
      (λ others read_others no. absurd (let none : fine {E = WireError} (x.0 ∷ others) ≡ Err w = no in cc)))

name_cut : (packed : List ℕ) (w : WireError) → IsBytes packed → items_in string_at packed ≡ Err w → NameIsCut w.place packed
name_cut packed w fits h =
    let f = items_fail string FitsString string_at string_item (length packed) 0 packed w fits h in
    let at : Position = record { place = 0 + length (flat_map string f.front); rest = f.rest } in
    let place : w.place ≡ length (flat_map string f.front) = ap (λ (x : WireError). x.place) (string_is_short at w f.refused) ∙ zero-add (length (flat_map string f.front)) in
    record { front = f.front; rest = f.rest; parts = f.parts; more = f.more; place = place; cut = no_string at w f.refused }

option_cut : (packed : List ℕ) (w : WireError) → IsBytes packed → items_in cert_option_at packed ≡ Err w → OptionIsCut w.place packed
option_cut packed w fits h =
    let f = items_fail spelled_option FitsOption cert_option_at option_item (length packed) 0 packed w fits h in
    let len = length (flat_map spelled_option f.front) in
    let at : Position = record { place = 0 + len; rest = f.rest } in
    step (string_at at) (λ name. string_at name.1 >>= λ value. fine (let o : CertOption = record { name = name.0; value = value.0 } in o, value.1)) w f.refused
    (λ refused.
    let place : w.place ≡ len = ap (λ (x : WireError). x.place) (string_is_short at w refused) ∙ zero-add len in
    record { front = f.front; rest = f.rest; parts = f.parts; more = f.more; cut = inl (place, no_string at w refused) })
    (λ name read later.
    let t = string_takes at name.0 name.1 f.fits read in
    step (string_at name.1) (λ value. fine (let o : CertOption = record { name = name.0; value = value.0 } in o, value.1)) w later
    (λ refused.
    let place : w.place ≡ len + length (string name.0) = omega (arith, ap (λ (x : WireError). x.place) (string_is_short name.1 w refused), t.0.place) in
    record { front = f.front; rest = f.rest; parts = f.parts; more = f.more; cut = inr (name.0, (name.1).rest, t.0.parts, place, no_string name.1 w refused) })
    (λ value read_value no. absurd (let none : fine {E = WireError} (let o : CertOption = record { name = name.0; value = value.0 } in o, value.1) ≡ Err w = no in cc)))

-- what is inside a string that is complete
inside : (Is : List ℕ → Type 0) (at after : Position) (t : List ℕ) → IsBytes at.rest → as_cert_error (string_at at) ≡ Ok (t, after) → (IsBytes t → Is t) → BeginsString Is at.rest
inside Is at after t fits read is =
    let took = string_takes at t after fits (as_fault_ok errors.Wire (string_at at) (t, after) read) in
    record { text = t; is = is (string_fits at t after fits took.0); more = after.rest; begins = took.0.parts }

names_wrong : (at : Position) (e : CertError) → IsBytes at.rest → names_at at ≡ Err e → IsWrongField e names at.rest at.place
unfolding packed_at
names_wrong at e fits h =
    step (as_cert_error (string_at at)) (λ text. as_fault (λ e. errors.Principals (at.place + 4 + e.place)) (items_in string_at text.0) >>= λ items. fine (items, text.1)) e h
    (λ refused. let w = as_fault_err errors.Wire (string_at at) e refused in cut names at w.0 e (string_is_short at w.0 w.1) w.2 (no_string at w.0 w.1))
    (λ t read later.
    step (as_fault (λ e. errors.Principals (at.place + 4 + e.place)) (items_in string_at t.0)) (λ items. fine (items, t.1)) e later
    (λ refused.
    let w = as_fault_err (λ (e : WireError). errors.Principals (at.place + 4 + e.place)) (items_in string_at t.0) e refused in
    let is = inside (NameIsCut (w.0).place) at t.1 t.0 fits read (λ inner. name_cut t.0 w.0 inner w.1) in
    subst (λ (x : CertError). IsWrongField x names at.rest at.place) w.2 ((w.0).place, refl, is))
    (λ items read_items no. absurd (let none : fine {E = CertError} (items, t.1) ≡ Err e = no in cc)))

options_wrong : (at : Position) (e : CertError) → IsBytes at.rest → options_at at ≡ Err e → IsWrongField e options at.rest at.place
unfolding packed_at
options_wrong at e fits h =
    step (as_cert_error (string_at at)) (λ text. as_fault (λ e. errors.Options (at.place + 4 + e.place)) (items_in cert_option_at text.0) >>= λ items. fine (items, text.1)) e h
    (λ refused. let w = as_fault_err errors.Wire (string_at at) e refused in cut options at w.0 e (string_is_short at w.0 w.1) w.2 (no_string at w.0 w.1))
    (λ t read later.
    step (as_fault (λ e. errors.Options (at.place + 4 + e.place)) (items_in cert_option_at t.0)) (λ items. fine (items, t.1)) e later
    (λ refused.
    let w = as_fault_err (λ (e : WireError). errors.Options (at.place + 4 + e.place)) (items_in cert_option_at t.0) e refused in
    let is = inside (OptionIsCut (w.0).place) at t.1 t.0 fits read (λ inner. option_cut t.0 w.0 inner w.1) in
    subst (λ (x : CertError). IsWrongField x options at.rest at.place) w.2 ((w.0).place, refl, is))
    (λ items read_items no. absurd (let none : fine {E = CertError} (items, t.1) ≡ Err e = no in cc)))

-- ---- the signature key and the signature

-- a key that is refused as a signature key
reported_signer : (rest : List ℕ) (place : ℕ) (d : KeyError) → BeginsString (λ blob. IsFirstFault blob d) rest → IsWrongField (signer_fault d) signer rest place
reported_signer rest place key_errors.IsCertificate is = is
reported_signer rest place (key_errors.Wire w) is = ((λ same. absurd cc), is)
reported_signer rest place key_errors.UnknownType is = ((λ same. absurd cc), is)
reported_signer rest place key_errors.RetiredType is = ((λ same. absurd cc), is)
reported_signer rest place key_errors.Curve is = ((λ same. absurd cc), is)
reported_signer rest place key_errors.Point is = ((λ same. absurd cc), is)
reported_signer rest place key_errors.Length is = ((λ same. absurd cc), is)
reported_signer rest place key_errors.TooLong is = ((λ same. absurd cc), is)

signer_wrong : (at : Position) (e : CertError) → IsBytes at.rest → signer_at at ≡ Err e → IsWrongField e signer at.rest at.place
unfolding signer_at
signer_wrong at e fits h =
    step (as_cert_error (string_at at)) (λ blob. as_fault signer_fault (key_in blob.0) >>= λ key. fine (key, blob.1)) e h
    (λ refused. let w = as_fault_err errors.Wire (string_at at) e refused in cut signer at w.0 e (string_is_short at w.0 w.1) w.2 (no_string at w.0 w.1))
    (λ t read later.
    step (as_fault signer_fault (key_in t.0)) (λ key. fine (key, t.1)) e later
    (λ refused.
    let d = as_fault_err signer_fault (key_in t.0) e refused in
    let is = inside (λ blob. IsFirstFault blob d.0) at t.1 t.0 fits read (λ inner. key_fault t.0 d.0 inner d.1) in
    subst (λ (x : CertError). IsWrongField x signer at.rest at.place) d.2 (reported_signer at.rest at.place d.0 is))
    (λ key read_key no. absurd (let none : fine {E = CertError} (key, t.1) ≡ Err e = no in cc)))

signature_wrong : (at : Position) (e : CertError) → IsBytes at.rest → cert_signature_at at ≡ Err e → IsWrongField e signature at.rest at.place
unfolding cert_signature_at
signature_wrong at e fits h =
    step (as_cert_error (string_at at)) (λ blob. as_fault errors.Signature (signature_in blob.0) >>= λ s. fine (s, blob.1)) e h
    (λ refused. let w = as_fault_err errors.Wire (string_at at) e refused in cut signature at w.0 e (string_is_short at w.0 w.1) w.2 (no_string at w.0 w.1))
    (λ t read later.
    step (as_fault errors.Signature (signature_in t.0)) (λ s. fine (s, t.1)) e later
    (λ refused.
    let d = as_fault_err errors.Signature (signature_in t.0) e refused in
    subst (λ (x : CertError). IsWrongField x signature at.rest at.place) d.2
    (inside (λ blob. IsSignatureFault blob d.0) at t.1 t.0 fits read (λ inner. signature_fault t.0 d.0 inner d.1)))
    (λ s read_s no. absurd (let none : fine {E = CertError} (s, t.1) ≡ Err e = no in cc)))

-- ---- the fields after the public key

-- a field of the tail that is wrong is the error of the blob
within : (bytes : List ℕ) (e : CertError) → InTail bytes e → IsCertificateFaultWithin bytes e
within bytes (errors.Wire w) i = by w.place w.cause i
  where
    by : (p : ℕ) (c : WireCause) → InTail bytes (errors.Wire (record { place = p; cause = c })) → IsCertificateFaultWithin bytes (errors.Wire (record { place = p; cause = c }))
    by p Short i = inr i
    by p MpintNotMinimal i = absurd (let none : MpintNotMinimal ≡ Short = i.wrong.1 in cc)
    by p MpintNegative i = absurd (let none : MpintNegative ≡ Short = i.wrong.1 in cc)
    by p Value i = absurd (let none : Value ≡ Short = i.wrong.1 in cc)
    by p Trailing i = absurd (let none : Trailing ≡ Short = i.wrong.1 in cc)
within bytes (errors.Key k) i = absurd i.wrong
within bytes (errors.Signer k) i = i
within bytes errors.ChainedSigner i = i
within bytes (errors.Principals p) i = i
within bytes (errors.Options p) i = i
within bytes (errors.Signature s) i = i
within bytes errors.UnknownType i = absurd i.wrong
within bytes errors.TooLong i = absurd i.wrong

some_signer : IsKey (ed25519 (replicate 32 0))
unfolding key_blob
some_signer = record { in_range = refl; length = omega arith }

abbrev some_signature : Signature
some_signature = record { algorithm = []; bytes = []; sk = None }

is_signature : IsSignature some_signature
unfolding signature_blob
is_signature = record { sk = refl; ranges = refl; length = omega arith }

-- a certificate of this key, with nothing in its other fields
abbrev plainest : List ℕ → PublicKey → Certificate
plainest nonce key = record {
  nonce = nonce;
  key = key;
  serial = 0;
  kind_number = 0;
  key_id = [];
  principals = [];
  after = 0;
  before = 0;
  critical = [];
  extensions = [];
  reserved = [];
  signer = ed25519 (replicate 32 0);
  signature = some_signature;
}

plainest_fits : (nonce : List ℕ) (key : PublicKey) → is_in_range key ≡ true → IsInRange (plainest nonce key)
plainest_fits nonce key in_range = record {
  key = in_range;
  serial = omega arith;
  kind_number = omega arith;
  after = omega arith;
  before = omega arith;
  signer = some_signer;
  signature = is_signature;
}

-- one field more
snoc : (xs : List (List ℕ)) (y : List ℕ) → concat xs ++ y ≡ concat (xs ++ y ∷ [])
snoc xs y = ap (λ (t : List ℕ). concat xs ++ t) (sym (append-nil y)) ∙ sym (concat-append xs (y ∷ []))

ran_then : (p at after : Position) (xs : List (List ℕ)) (y : List ℕ) → Took p (concat xs) at → Took at y after → Took p (concat (xs ++ y ∷ [])) after
ran_then p at after xs y ran t = subst (λ (s : List ℕ). Took p s after) (snoc xs y) (Took-then p at after (concat xs) y ran t)

-- where the fields after the public key begin
record Front (bytes nonce : List ℕ) (key : PublicKey) (p : Position) : Type 0 where
  parts : bytes ≡ certificate_front (plainest nonce key) ++ p.rest
  place : p.place ≡ length (certificate_front (plainest nonce key))

in_tail : (bytes : List ℕ) (p at : Position) (e : CertError) (c : Certificate) → IsInRange c → Front bytes c.nonce c.key p → (before : List CertificateFieldSort) (sort : CertificateFieldSort) (after : List CertificateFieldSort) → sorts ≡ before ++ sort ∷ after
    → Took p (concat (take (length before) (tail_of c))) at → IsWrongField e sort at.rest at.place → IsCertificateFaultWithin bytes e
in_tail bytes p at e c fits front before sort after row ran wrong =
    within bytes e (record {
      value = c;
      fits = fits;
      before = before;
      sort = sort;
      after = after;
      row = row;
      rest = at.rest;
      begins = front.parts ∙ ap (λ (t : List ℕ). certificate_front c ++ t) ran.parts;
      wrong = subst (λ (k : ℕ). IsWrongField e sort at.rest k) (ran.place ∙ ap (λ (k : ℕ). k + length (concat (take (length before) (tail_of c)))) front.place) wrong;
    })

-- bytes after the last field
longer : (bytes : List ℕ) (p : Position) (e : CertError) (c : Certificate) → IsInRange c → Front bytes c.nonce c.key p → (place : ℕ) (rest : List ℕ)
    → Took p (concat (tail_of c)) (record { place = place; rest = rest }) → as_cert_error (end_at (record { place = place; rest = rest })) ≡ Err e → IsCertificateFaultWithin bytes e
longer bytes p e c fits front place [] ran h = absurd cc
longer bytes p e c fits front place (b ∷ rest) ran h =
    let name = string (certificate_name_of (kind_of c.key)) in
    let fields = concat (fields_of c.key) in
    let blob : certificate_front c ++ concat (tail_of c) ≡ certificate_blob c =
    append_assoc name (string c.nonce ++ fields) (concat (tail_of c)) ∙ ap (λ (t : List ℕ). name ++ t) (append_assoc (string c.nonce) fields (concat (tail_of c))) ∙ sym (laid_out_is c) in
    let parts : bytes ≡ certificate_blob c ++ b ∷ rest =
    front.parts ∙ ap (λ (t : List ℕ). certificate_front c ++ t) ran.parts ∙ sym (append_assoc (certificate_front c) (concat (tail_of c)) (b ∷ rest)) ∙ ap (λ (t : List ℕ). t ++ b ∷ rest) blob in
    let at : place ≡ length (certificate_blob c) = omega (arith, ran.place, front.place, length-append (certificate_front c) (concat (tail_of c)), ap length blob) in
    let whole : IsLonger bytes place = record { value = c; fits = fits; rest = b ∷ rest; more = λ none. absurd cc; begins = parts; at = at } in
    subst (λ (x : CertError). IsCertificateFaultWithin bytes x) (err_is {A = Unit {0}} (errors.Wire (record { place = place; cause = Trailing })) e h) whole

-- reading the fields after the public key
abbrev tail_at : List ℕ → PublicKey → Position → Result Certificate CertError
tail_at nonce key at = do
  serial ← as_cert_error (number_at w64 at)
  kind_number ← as_cert_error (number_at w32 serial.1)
  key_id ← as_cert_error (string_at kind_number.1)
  principals ← names_at key_id.1
  after ← as_cert_error (number_at w64 principals.1)
  before ← as_cert_error (number_at w64 after.1)
  critical ← options_at before.1
  extensions ← options_at critical.1
  reserved ← as_cert_error (string_at extensions.1)
  signed_by ← signer_at reserved.1
  signed ← cert_signature_at signed_by.1
  _ ← as_cert_error (end_at signed.1)
  Ok (record {
    nonce = nonce;
    key = key;
    serial = serial.0;
    kind_number = kind_number.0;
    key_id = key_id.0;
    principals = principals.0;
    after = after.0;
    before = before.0;
    critical = critical.0;
    extensions = extensions.0;
    reserved = reserved.0;
    signer = signed_by.0;
    signature = signed.0;
  })

tail_fault : (bytes nonce : List ℕ) (key : PublicKey) (p : Position) (e : CertError) → is_in_range key ≡ true → Front bytes nonce key p → IsBytes p.rest → tail_at nonce key p ≡ Err e → IsCertificateFaultWithin bytes e
tail_fault bytes nonce key p e in_range front fits h =
    let c0 = plainest nonce key in
    let f0 = plainest_fits nonce key in_range in
    let r0 : Took p (concat []) p = record { parts = refl; place = omega arith; rest_fits = fits } in
    step (as_cert_error (number_at w64 p)) _ e h (λ bad. in_tail bytes p p e c0 f0 front [] long (short ∷ text ∷ names ∷ long ∷ long ∷ options ∷ options ∷ text ∷ signer ∷ signature ∷ []) refl r0 (long_wrong p e bad)) (λ serial read1 h1.
    let t1 = number_takes w64 (2 ^ 64) wide64 p serial.0 serial.1 fits (as_fault_ok errors.Wire (number_at w64 p) serial read1) in
    let r1 = ran_then p p serial.1 [] (uint64 serial.0) r0 t1.0 in
    let c1 : Certificate = record c0 { serial = serial.0 } in
    let f1 : IsInRange c1 = record { key = in_range; serial = t1.1; kind_number = omega arith; after = omega arith; before = omega arith; signer = some_signer; signature = is_signature } in
    step (as_cert_error (number_at w32 serial.1)) _ e h1 (λ bad. in_tail bytes p serial.1 e c1 f1 front (long ∷ []) short (text ∷ names ∷ long ∷ long ∷ options ∷ options ∷ text ∷ signer ∷ signature ∷ []) refl r1 (short_wrong serial.1 e bad)) (λ kind_number read2 h2.
    let t2 = number_takes w32 (2 ^ 32) wide32 serial.1 kind_number.0 kind_number.1 t1.0.rest_fits (as_fault_ok errors.Wire (number_at w32 serial.1) kind_number read2) in
    let r2 = ran_then p serial.1 kind_number.1 (uint64 serial.0 ∷ []) (uint32 kind_number.0) r1 t2.0 in
    let c2 : Certificate = record c1 { kind_number = kind_number.0 } in
    let f2 : IsInRange c2 = record { key = in_range; serial = t1.1; kind_number = t2.1; after = omega arith; before = omega arith; signer = some_signer; signature = is_signature } in
    step (as_cert_error (string_at kind_number.1)) _ e h2 (λ bad. in_tail bytes p kind_number.1 e c2 f2 front (long ∷ short ∷ []) text (names ∷ long ∷ long ∷ options ∷ options ∷ text ∷ signer ∷ signature ∷ []) refl r2 (text_wrong kind_number.1 e bad)) (λ key_id read3 h3.
    let t3 = string_takes kind_number.1 key_id.0 key_id.1 t2.0.rest_fits (as_fault_ok errors.Wire (string_at kind_number.1) key_id read3) in
    let r3 = ran_then p kind_number.1 key_id.1 (uint64 serial.0 ∷ uint32 kind_number.0 ∷ []) (string key_id.0) r2 t3.0 in
    let c3 : Certificate = record c2 { key_id = key_id.0 } in
    let f3 : IsInRange c3 = record { key = in_range; serial = t1.1; kind_number = t2.1; after = omega arith; before = omega arith; signer = some_signer; signature = is_signature } in
    step (names_at key_id.1) _ e h3 (λ bad. in_tail bytes p key_id.1 e c3 f3 front (long ∷ short ∷ text ∷ []) names (long ∷ long ∷ options ∷ options ∷ text ∷ signer ∷ signature ∷ []) refl r3 (names_wrong key_id.1 e t3.0.rest_fits bad)) (λ principals read4 h4.
    let t4 = packed_takes string FitsString string_at string_item errors.Principals key_id.1 principals.0 principals.1 t3.0.rest_fits read4 in
    let r4 = ran_then p key_id.1 principals.1 (uint64 serial.0 ∷ uint32 kind_number.0 ∷ string key_id.0 ∷ []) (string (packed_names principals.0)) r3 t4 in
    let c4 : Certificate = record c3 { principals = principals.0 } in
    let f4 : IsInRange c4 = record { key = in_range; serial = t1.1; kind_number = t2.1; after = omega arith; before = omega arith; signer = some_signer; signature = is_signature } in
    step (as_cert_error (number_at w64 principals.1)) _ e h4 (λ bad. in_tail bytes p principals.1 e c4 f4 front (long ∷ short ∷ text ∷ names ∷ []) long (long ∷ options ∷ options ∷ text ∷ signer ∷ signature ∷ []) refl r4 (long_wrong principals.1 e bad)) (λ after read5 h5.
    let t5 = number_takes w64 (2 ^ 64) wide64 principals.1 after.0 after.1 t4.rest_fits (as_fault_ok errors.Wire (number_at w64 principals.1) after read5) in
    let r5 = ran_then p principals.1 after.1 (uint64 serial.0 ∷ uint32 kind_number.0 ∷ string key_id.0 ∷ string (packed_names principals.0) ∷ []) (uint64 after.0) r4 t5.0 in
    let c5 : Certificate = record c4 { after = after.0 } in
    let f5 : IsInRange c5 = record { key = in_range; serial = t1.1; kind_number = t2.1; after = t5.1; before = omega arith; signer = some_signer; signature = is_signature } in
    step (as_cert_error (number_at w64 after.1)) _ e h5 (λ bad. in_tail bytes p after.1 e c5 f5 front (long ∷ short ∷ text ∷ names ∷ long ∷ []) long (options ∷ options ∷ text ∷ signer ∷ signature ∷ []) refl r5 (long_wrong after.1 e bad)) (λ before read6 h6.
    let t6 = number_takes w64 (2 ^ 64) wide64 after.1 before.0 before.1 t5.0.rest_fits (as_fault_ok errors.Wire (number_at w64 after.1) before read6) in
    let xs6 : List (List ℕ) = uint64 serial.0 ∷ uint32 kind_number.0 ∷ string key_id.0 ∷ string (packed_names principals.0) ∷ uint64 after.0 ∷ [] in
    let r6 = ran_then p after.1 before.1 xs6 (uint64 before.0) r5 t6.0 in
    let c6 : Certificate = record c5 { before = before.0 } in
    let f6 : IsInRange c6 = record { key = in_range; serial = t1.1; kind_number = t2.1; after = t5.1; before = t6.1; signer = some_signer; signature = is_signature } in
    step (options_at before.1) _ e h6 (λ bad. in_tail bytes p before.1 e c6 f6 front (long ∷ short ∷ text ∷ names ∷ long ∷ long ∷ []) options (options ∷ text ∷ signer ∷ signature ∷ []) refl r6 (options_wrong before.1 e t6.0.rest_fits bad)) (λ critical read7 h7.
    let t7 = packed_takes spelled_option FitsOption cert_option_at option_item errors.Options before.1 critical.0 critical.1 t6.0.rest_fits read7 in
    let xs7 : List (List ℕ) = uint64 serial.0 ∷ uint32 kind_number.0 ∷ string key_id.0 ∷ string (packed_names principals.0) ∷ uint64 after.0 ∷ uint64 before.0 ∷ [] in
    let r7 = ran_then p before.1 critical.1 xs7 (string (packed_options critical.0)) r6 t7 in
    let c7 : Certificate = record c6 { critical = critical.0 } in
    let f7 : IsInRange c7 = record { key = in_range; serial = t1.1; kind_number = t2.1; after = t5.1; before = t6.1; signer = some_signer; signature = is_signature } in
    step (options_at critical.1) _ e h7 (λ bad. in_tail bytes p critical.1 e c7 f7 front (long ∷ short ∷ text ∷ names ∷ long ∷ long ∷ options ∷ []) options (text ∷ signer ∷ signature ∷ []) refl r7 (options_wrong critical.1 e t7.rest_fits bad)) (λ extensions read8 h8.
    let t8 = packed_takes spelled_option FitsOption cert_option_at option_item errors.Options critical.1 extensions.0 extensions.1 t7.rest_fits read8 in
    let xs8 : List (List ℕ) = xs7 ++ string (packed_options critical.0) ∷ [] in
    let r8 = ran_then p critical.1 extensions.1 xs8 (string (packed_options extensions.0)) r7 t8 in
    let c8 : Certificate = record c7 { extensions = extensions.0 } in
    let f8 : IsInRange c8 = record { key = in_range; serial = t1.1; kind_number = t2.1; after = t5.1; before = t6.1; signer = some_signer; signature = is_signature } in
    step (as_cert_error (string_at extensions.1)) _ e h8 (λ bad. in_tail bytes p extensions.1 e c8 f8 front (long ∷ short ∷ text ∷ names ∷ long ∷ long ∷ options ∷ options ∷ []) text (signer ∷ signature ∷ []) refl r8 (text_wrong extensions.1 e bad)) (λ reserved read9 h9.
    let t9 = string_takes extensions.1 reserved.0 reserved.1 t8.rest_fits (as_fault_ok errors.Wire (string_at extensions.1) reserved read9) in
    let xs9 : List (List ℕ) = xs8 ++ string (packed_options extensions.0) ∷ [] in
    let r9 = ran_then p extensions.1 reserved.1 xs9 (string reserved.0) r8 t9.0 in
    let c9 : Certificate = record c8 { reserved = reserved.0 } in
    let f9 : IsInRange c9 = record { key = in_range; serial = t1.1; kind_number = t2.1; after = t5.1; before = t6.1; signer = some_signer; signature = is_signature } in
    step (signer_at reserved.1) _ e h9 (λ bad. in_tail bytes p reserved.1 e c9 f9 front (long ∷ short ∷ text ∷ names ∷ long ∷ long ∷ options ∷ options ∷ text ∷ []) signer (signature ∷ []) refl r9 (signer_wrong reserved.1 e t9.0.rest_fits bad)) (λ signed_by read10 h10.
    let t10 = signer_takes reserved.1 signed_by.0 signed_by.1 t9.0.rest_fits read10 in
    let xs10 : List (List ℕ) = xs9 ++ string reserved.0 ∷ [] in
    let r10 = ran_then p reserved.1 signed_by.1 xs10 (string (key_blob signed_by.0)) r9 t10.0 in
    let c10 : Certificate = record c9 { signer = signed_by.0 } in
    let f10 : IsInRange c10 = record { key = in_range; serial = t1.1; kind_number = t2.1; after = t5.1; before = t6.1; signer = t10.1; signature = is_signature } in
    step (cert_signature_at signed_by.1) _ e h10 (λ bad. in_tail bytes p signed_by.1 e c10 f10 front (long ∷ short ∷ text ∷ names ∷ long ∷ long ∷ options ∷ options ∷ text ∷ signer ∷ []) signature [] refl r10 (signature_wrong signed_by.1 e t10.0.rest_fits bad)) (λ signed read11 h11.
    let t11 = signature_at_takes signed_by.1 signed.0 signed.1 t10.0.rest_fits read11 in
    let xs11 : List (List ℕ) = xs10 ++ string (key_blob signed_by.0) ∷ [] in
    let r11 = ran_then p signed_by.1 signed.1 xs11 (string (signature_blob signed.0)) r10 t11.0 in
    let c11 : Certificate = record c10 { signature = signed.0 } in
    let f11 : IsInRange c11 = record { key = in_range; serial = t1.1; kind_number = t2.1; after = t5.1; before = t6.1; signer = t10.1; signature = t11.1 } in
    step (as_cert_error (end_at signed.1)) _ e h11 (λ bad. longer bytes p e c11 f11 front (signed.1).place (signed.1).rest r11 bad) (λ u read12 none. absurd (let no : fine {E = CertError} c11 ≡ Err e = none in cc)))))))))))))

-- ---- a whole blob

-- a type name that is not a certificate's
unknown : (name : List ℕ) (e : CertError) → certified_kind_from (class_of name) ≡ Err e → (errors.UnknownType ≡ e) × IsOtherName name
unknown name e h = (reported (class_of name) h, λ kind same. let found : certified_kind_from (class_of name) ≡ Ok kind = ap (λ (n : List ℕ). certified_kind_from (class_of n)) same ∙ named_kind kind in let both : fine {E = CertError} kind ≡ Err e = sym found ∙ h in cc)
  where
    reported : (class : NameClass) → certified_kind_from class ≡ Err e → errors.UnknownType ≡ e
    reported (CertificateOf kind) g = absurd cc
    reported (Plain kind) g = err_is {A = KeyKind} errors.UnknownType e g
    reported Retired g = err_is {A = KeyKind} errors.UnknownType e g
    reported Other g = err_is {A = KeyKind} errors.UnknownType e g

blob_fault : (bytes : List ℕ) (e : CertError) → IsBytes bytes → certificate_at (start bytes) ≡ Err e → IsCertificateFaultWithin bytes e
unfolding certificate_at
blob_fault bytes e fits h =
    let at = start bytes in
    step (as_cert_error (string_at at)) _ e h
    (λ bad.
    let w = as_fault_err errors.Wire (string_at at) e bad in
    let is : errors.Wire (record { place = 0; cause = Short }) ≡ e = ap (λ (x : WireError). errors.Wire x) (sym (string_is_short at w.0 w.1)) ∙ w.2 in
    subst (λ (x : CertError). IsCertificateFaultWithin bytes x) is (inl (inl (refl, no_string at w.0 w.1))))
    (λ name read1 h1.
    let t1 = string_takes at name.0 name.1 fits (as_fault_ok errors.Wire (string_at at) name read1) in
    step (certified_kind_from (class_of name.0)) _ e h1
    (λ bad.
    let u = unknown name.0 e bad in
    subst (λ (x : CertError). IsCertificateFaultWithin bytes x) u.0 (record { text = name.0; is = u.1; more = (name.1).rest; begins = t1.0.parts }))
    (λ kind read2 h2.
    let same : name.0 ≡ certificate_name_of kind = kind_named name.0 kind read2 in
    let parts1 : bytes ≡ string (certificate_name_of kind) ++ (name.1).rest = t1.0.parts ∙ ap (λ (n : List ℕ). string n ++ (name.1).rest) same in
    let place1 : (name.1).place ≡ length (string (certificate_name_of kind)) = t1.0.place ∙ ap (λ (n : List ℕ). 0 + length (string n)) same ∙ zero-add (length (string (certificate_name_of kind))) in
    step (as_cert_error (string_at name.1)) _ e h2
    (λ bad.
    let w = as_fault_err errors.Wire (string_at name.1) e bad in
    let is : errors.Wire (record { place = (name.1).place; cause = Short }) ≡ e = ap (λ (x : WireError). errors.Wire x) (sym (string_is_short name.1 w.0 w.1)) ∙ w.2 in
    subst (λ (x : CertError). IsCertificateFaultWithin bytes x) is (inl (inr (kind, (name.1).rest, parts1, place1, no_string name.1 w.0 w.1))))
    (λ nonce read3 h3.
    let t2 = string_takes name.1 nonce.0 nonce.1 t1.0.rest_fits (as_fault_ok errors.Wire (string_at name.1) nonce read3) in
    let parts2 : bytes ≡ string (certificate_name_of kind) ++ (string nonce.0 ++ (nonce.1).rest) = parts1 ∙ ap (λ (t : List ℕ). string (certificate_name_of kind) ++ t) t2.0.parts in
    let place2 : (nonce.1).place ≡ length (string (certificate_name_of kind)) + length (string nonce.0) = omega (arith, t2.0.place, place1) in
    step (as_fault errors.Key (fields_at kind nonce.1)) _ e h3
    (λ bad.
    let d = as_fault_err errors.Key (fields_at kind nonce.1) e bad in
    let fault = fields_fault kind nonce.1 d.0 t2.0.rest_fits d.1 in
    let whole : InKey bytes d.0 = record { kind = kind; nonce = nonce.0; fields = (nonce.1).rest; begins = parts2; fault = subst (λ (k : ℕ). IsFieldFault kind k (nonce.1).rest d.0) place2 fault } in
    subst (λ (x : CertError). IsCertificateFaultWithin bytes x) d.2 whole)
    (λ key read4 h4.
    let t3 = fields_take kind nonce.1 key.0 key.1 t2.0.rest_fits (as_fault_ok errors.Key (fields_at kind nonce.1) key read4) in
    let named : string (certificate_name_of kind) ≡ string (certificate_name_of (kind_of key.0)) = ap (λ (k : KeyKind). string (certificate_name_of k)) (sym t3.kind) in
    let fields = concat (fields_of key.0) in
    let all : bytes ≡ string (certificate_name_of kind) ++ (string nonce.0 ++ (fields ++ (key.1).rest)) = parts2 ∙ ap (λ (t : List ℕ). string (certificate_name_of kind) ++ (string nonce.0 ++ t)) t3.took.parts in
    let named_all = all ∙ ap (λ (n : List ℕ). n ++ (string nonce.0 ++ (fields ++ (key.1).rest))) named in
    let name_of_key = string (certificate_name_of (kind_of key.0)) in
    let front : Front bytes nonce.0 key.0 key.1 = record {
      parts = named_all ∙ ap (λ (t : List ℕ). name_of_key ++ t) (sym (append_assoc (string nonce.0) fields (key.1).rest)) ∙ sym (append_assoc name_of_key (string nonce.0 ++ fields) (key.1).rest);
      place = omega (arith, t3.took.place, place2, ap length named, length-append name_of_key (string nonce.0 ++ fields), length-append (string nonce.0) fields);
    } in
    tail_fault bytes nonce.0 key.0 key.1 e t3.in_range front t3.took.rest_fits h4))))

-- the first error of bytes that are not a certificate's blob
pub certificate_fault : (bytes : List ℕ) (e : CertError) → IsBytes bytes → certificate_in bytes ≡ Err e → IsCertificateFault bytes e
unfolding certificate_in
certificate_fault bytes e fits h = go (ltb longest (length bytes)) refl h
  where
    both : (e : CertError) → length bytes ≤ longest → IsCertificateFaultWithin bytes e → IsCertificateFault bytes e
    both (errors.Wire w) few is = (few, is)
    both (errors.Key k) few is = (few, is)
    both (errors.Signer k) few is = (few, is)
    both errors.ChainedSigner few is = (few, is)
    both (errors.Principals p) few is = (few, is)
    both (errors.Options p) few is = (few, is)
    both (errors.Signature s) few is = (few, is)
    both errors.UnknownType few is = (few, is)
    both errors.TooLong few is = absurd is

    go : (b : Bool) → ltb longest (length bytes) ≡ b → cond b (Err errors.TooLong) (certificate_at (start bytes)) ≡ Err e → IsCertificateFault bytes e
    go true over f = subst (λ (x : CertError). IsCertificateFault bytes x) (err_is {A = Certificate} errors.TooLong e f) (ltb-true longest (length bytes) over)
    go false over f =
        let few = ltb-false longest (length bytes) over in
        both e few (blob_fault bytes e fits f)
