-- Bytes that are refused as a key have the first error that is returned, at its place.
use Rattle.ssh_keys.proofs.Imports.{◌≡◌, ◌≢◌, ℕ, ◌+◌, ◌^◌, ◌<◌, ◌≤◌, Bool, true, false, not, cond, ltb, eqb, List, [], ◌∷◌, ◌++◌, length, take, replicate, Result, Ok, Err, refl, sym, ap, subst, ◌∙◌, append_assoc, zero-add, arith, inl, inr, ◌⊎◌, codes, Option, concat, bytes_eq, ltb-false, ltb-true, eqb-true, eqb-false, append-nil, length-append, bytes_eq-Decides, WireCause, Short, MpintNotMinimal, MpintNegative, Trailing, Value, WireError, string, mpint, natural, is_least, is_not_negative, Position, start, ◌>>=◌, Read, fault, end_at, IsBytes, string_takes, string_again, refused_none, fine, mpint_takes, GoesOnAt, bind_err, string_is_short, NoString, BeginsString, Curve, Nistp256, Nistp384, Nistp521, KeyError, KeyKind, Rsa, P256, P384, P521, Ed25519, SkP256, SkEd25519, curve_name_of, point_len_of, KeyFieldSort, number, curve, point, public, text, sorts_of, IsWrong, IsOfKind, IsFieldFault, AreShort, IsSpelled, IsUnknownName, IsFaultWithin, InFields, IsFirstFault, ReadKey, as_key_error, wants, kind_from, key_name_of, certificate_name_of, class_of, class_by, kinds, PublicKey, rsa, p256, p384, p521, ed25519, sk_p256, sk_ed25519, kind_of, fields_of, key_blob_row, is_point, longest}
use Rattle.std.specs.Prelude.{◌-◌, Some, None}
use Rattle.ssh_wire.specs.Spelling.{mpint_bytes}
use Rattle.ssh_wire.specs.Reading.{string_at, mpint_at}
use Rattle.ssh_keys.specs.declared.key.KeyError.TheVariants as errors
use Rattle.ssh_keys.proofs.KeyLaws.{of_wire_ok, wants_ok, kind_named, find_some, positive_takes, point_takes, public_takes, fields_take}
use Rattle.ssh_keys.specs.KeyReading.{positive_at, point_at, public_at, fields_at, blob_at, key_in}
use Rattle.ssh_keys.specs.Names.{plain_kind, certificate_kind}

-- ---- steps that failed

err_is : {A : Type 0} (d e : KeyError) → (let r : Result A KeyError = Err d in r) ≡ Err e → d ≡ e
err_is d e h = cc

of_wire_err : {A : Type 0} (r : Result A WireError) (e : KeyError) → as_key_error r ≡ Err e → (w : WireError) × (r ≡ Err w) × (errors.Wire w ≡ e)
of_wire_err (Ok x) e h = absurd cc
of_wire_err {A} (Err w) e h = (w, refl, err_is {A = A} (errors.Wire w) e h)

-- a test that failed, and its error
unmet : {A : Type 0} (b : Bool) (d e : KeyError) (x : A) → cond b (Ok x) (Err d) ≡ Err e → (b ≡ false) × (d ≡ e)
unmet true d e x h = absurd cc
unmet {A} false d e x h = (refl, err_is {A = A} d e h)

unmet_wants : (b : Bool) (d e : KeyError) → wants b d ≡ Err e → (b ≡ false) × (d ≡ e)
unmet_wants true d e h = absurd cc
unmet_wants false d e h = (refl, err_is {A = Unit {0}} d e h)

met_zero : {A : Type 0} (b : Bool) (d e : KeyError) (x : A) → cond b (Err d) (Ok x) ≡ Err e → (b ≡ true) × (d ≡ e)
met_zero {A} true d e x h = (refl, err_is {A = A} d e h)
met_zero false d e x h = absurd cc

-- a step whose value is only looked at
looked_err : {A B : Type 0} (r : ReadKey A) (f : A × Position → B × Position) (e : KeyError) → (r >>= λ x. fine (f x)) ≡ Err e → r ≡ Err e
looked_err {A} {B} r f e h = elim (bind_err r (λ x. fine (f x)) e h) [ inl refused ↦ refused | inr x ↦ absurd (let none : fine {E = KeyError} (f x.0) ≡ Err e = x.2 in cc) ]

-- ---- what is wrong with one field

-- where no string can be read, no string is spelled
no_string : (at : Position) (w : WireError) → string_at at ≡ Err w → NoString at.rest
no_string at w h = λ b. refused_none string (λ t. length t < 2 ^ 32) string_at string_again at w h b.value b.rest b.fits b.begins

string_wrong : (sort : KeyFieldSort) (at : Position) (e : KeyError) → as_key_error (string_at at) ≡ Err e → IsWrong e sort at.rest at.place
string_wrong sort at e h =
    let w = of_wire_err (string_at at) e h in
    let is = string_is_short at w.0 w.1 in
    let here : IsWrong (errors.Wire (record { place = at.place; cause = Short })) sort at.rest at.place = (refl, no_string at w.0 w.1) in
    subst (λ (x : KeyError). IsWrong x sort at.rest at.place) (ap (λ (x : WireError). errors.Wire x) (sym is) ∙ w.2) here

-- the string that was read begins the rest
begins_string : (Is : List ℕ → Type 0) (at after : Position) (t : List ℕ) → IsBytes at.rest → as_key_error (string_at at) ≡ Ok (t, after) → Is t → BeginsString Is at.rest
begins_string Is at after t fits h is = record { text = t; is = is; more = after.rest; begins = (string_takes at t after fits (of_wire_ok (string_at at) (t, after) h)).0.parts }

-- an error of a value, as a read that returns it
refusal : {A : Type 0} → ℕ → WireCause → Result A WireError
refusal place cause = Err (record { place = place; cause = cause })

wire_is : {A : Type 0} (d e : WireError) → (let x : Result A WireError = Err d in x) ≡ Err e → d ≡ e
wire_is d e h = cc

-- a string that is not a number's
no_number : (at : Position) (t : List ℕ) (after : Position) (w : WireError) → at.rest ≡ string t ++ after.rest → (b c : Bool) → is_least t ≡ b → is_not_negative t ≡ c
    → cond (not b) (fault at MpintNotMinimal) (cond (not c) (fault at MpintNegative) (let x : Read ℕ = Ok (natural t, after) in x)) ≡ Err w → IsWrong (errors.Wire w) number at.rest at.place
no_number at t after w parts false c least sign h =
    subst (λ (x : WireError). IsWrong (errors.Wire x) number at.rest at.place) (wire_is {A = ℕ × Position} (record { place = at.place; cause = MpintNotMinimal }) w h)
    (refl, record { text = t; is = least; more = after.rest; begins = parts })
no_number at t after w parts true false least sign h =
    subst (λ (x : WireError). IsWrong (errors.Wire x) number at.rest at.place) (wire_is {A = ℕ × Position} (record { place = at.place; cause = MpintNegative }) w h)
    (refl, record { text = t; is = (least, sign); more = after.rest; begins = parts })
no_number at t after w parts true true least sign h = absurd cc

mpint_wrong : (at : Position) (w : WireError) → IsBytes at.rest → mpint_at at ≡ Err w → IsWrong (errors.Wire w) number at.rest at.place
unfolding mpint_at
mpint_wrong at w fits h =
    let last = λ (t : List ℕ × Position). cond (not (is_least t.0)) (fault at MpintNotMinimal) (cond (not (is_not_negative t.0)) (fault at MpintNegative) (let x : Read ℕ = Ok (natural t.0, t.1) in x)) in
    elim (bind_err (string_at at) last w h) [
      | inl first ↦ string_wrong number at (errors.Wire w) (ap as_key_error first)
      | inr x ↦ no_number at x.0.0 x.0.1 w (string_takes at x.0.0 x.0.1 fits x.1).0.parts (is_least x.0.0) (is_not_negative x.0.0) refl refl x.2
    ]

zero_spelled : (rest : List ℕ) → mpint 0 ++ rest ≡ string [] ++ rest
unfolding mpint_bytes
zero_spelled rest = refl

number_wrong : (at : Position) (e : KeyError) → IsBytes at.rest → positive_at at ≡ Err e → IsWrong e number at.rest at.place
unfolding positive_at
number_wrong at e fits h =
    elim (bind_err (as_key_error (mpint_at at)) (λ n. cond (eqb n.0 0) (Err (errors.Wire (record { place = at.place; cause = Value }))) (Ok n)) e h) [
      | inl first ↦
          (let w = of_wire_err (mpint_at at) e first in
          subst (λ (x : KeyError). IsWrong x number at.rest at.place) w.2 (mpint_wrong at w.0 fits w.1))
      | inr x ↦
          (let t = mpint_takes at x.0.0 x.0.1 fits (of_wire_ok (mpint_at at) x.0 x.1) in
          let z = met_zero (eqb x.0.0 0) (errors.Wire (record { place = at.place; cause = Value })) e x.0 x.2 in
          let none : x.0.0 ≡ 0 = eqb-true x.0.0 0 z.0 in
          let begins : at.rest ≡ string [] ++ (x.0.1).rest = t.0.parts ∙ ap (λ (n : ℕ). mpint n ++ (x.0.1).rest) none ∙ zero_spelled (x.0.1).rest in
          subst (λ (y : KeyError). IsWrong y number at.rest at.place) z.1 (refl, record { text = []; is = refl; more = (x.0.1).rest; begins = begins }))
    ]

public_wrong : (at : Position) (e : KeyError) → IsBytes at.rest → public_at at ≡ Err e → IsWrong e public at.rest at.place
unfolding public_at
public_wrong at e fits h =
    elim (bind_err (as_key_error (string_at at)) (λ a. cond (eqb (length a.0) 32) (fine a) (Err errors.Length)) e h) [
      | inl first ↦ string_wrong public at e first
      | inr x ↦
          (let z = unmet (eqb (length x.0.0) 32) errors.Length e x.0 x.2 in
          subst (λ (y : KeyError). IsWrong y public at.rest at.place) z.1 (begins_string (λ a. length a ≢ 32) at x.0.1 x.0.0 fits x.1 (eqb-false (length x.0.0) 32 z.0)))
    ]

-- the name of a curve is wrong; or it is right, and the point after it is wrong
record AfterCurve (c : Curve) (at : Position) (e : KeyError) : Type 0 where
  next : Position
  parts : at.rest ≡ string (curve_name_of c) ++ next.rest
  far : next.place ≡ at.place + length (string (curve_name_of c))
  wrong : IsWrong e (point c) next.rest next.place

point_wrong : (c : Curve) (at : Position) (e : KeyError) → IsBytes at.rest → point_at (curve_name_of c) (point_len_of c) at ≡ Err e → IsWrong e (curve c) at.rest at.place ⊎ AfterCurve c at e
unfolding point_at
point_wrong c at e fits h =
    let last = λ (q : List ℕ × Position). cond (is_point (point_len_of c) q.0) (fine q) (Err errors.Point) in
    elim (bind_err (as_key_error (string_at at)) (λ name. wants (bytes_eq name.0 (curve_name_of c)) errors.Curve >>= λ u. as_key_error (string_at name.1) >>= last) e h) [
      | inl first ↦ inl (string_wrong (curve c) at e first)
      | inr x ↦
          (let t = string_takes at x.0.0 x.0.1 fits (of_wire_ok (string_at at) x.0 x.1) in
          elim (bind_err (wants (bytes_eq x.0.0 (curve_name_of c)) errors.Curve) (λ u. as_key_error (string_at x.0.1) >>= last) e x.2) [
            | inl w ↦
                (let z = unmet_wants (bytes_eq x.0.0 (curve_name_of c)) errors.Curve e w in
                let other : x.0.0 ≢ curve_name_of c = λ same. let equal : bytes_eq x.0.0 (curve_name_of c) ≡ true = (bytes_eq-Decides x.0.0 (curve_name_of c)).1 same in let clash : true ≡ false = sym equal ∙ z.0 in cc in
                inl (subst (λ (y : KeyError). IsWrong y (curve c) at.rest at.place) z.1 (begins_string (λ n. n ≢ curve_name_of c) at x.0.1 x.0.0 fits x.1 other)))
            | inr u ↦
                (let same : x.0.0 ≡ curve_name_of c = (bytes_eq-Decides x.0.0 (curve_name_of c)).0 (wants_ok (bytes_eq x.0.0 (curve_name_of c)) errors.Curve u.0 u.1) in
                inr (record {
                  next = x.0.1;
                  parts = t.0.parts ∙ ap (λ (n : List ℕ). string n ++ (x.0.1).rest) same;
                  far = t.0.place ∙ ap (λ (n : List ℕ). at.place + length (string n)) same;
                  wrong = end_wrong x.0.1 t.0.rest_fits u.2;
                }))
          ])
    ]
  where
    end_wrong : (next : Position) → IsBytes next.rest → (as_key_error (string_at next) >>= λ (q : List ℕ × Position). cond (is_point (point_len_of c) q.0) (fine q) (Err errors.Point)) ≡ Err e → IsWrong e (point c) next.rest next.place
    end_wrong next next_fits g =
        elim (bind_err (as_key_error (string_at next)) (λ (q : List ℕ × Position). cond (is_point (point_len_of c) q.0) (fine q) (Err errors.Point)) e g) [
          | inl first ↦ string_wrong (point c) next e first
          | inr x ↦
              (let z = unmet (is_point (point_len_of c) x.0.0) errors.Point e x.0 x.2 in
              subst (λ (y : KeyError). IsWrong y (point c) next.rest next.place) z.1 (begins_string (λ q. is_point (point_len_of c) q ≡ false) next x.0.1 x.0.0 next_fits x.1 z.0))
        ]

-- ---- the fields of a kind

-- the first field is wrong
first_wrong : (kind : KeyKind) (sort : KeyFieldSort) (after : List KeyFieldSort) → sorts_of kind ≡ sort ∷ after → (value : PublicKey) → IsOfKind kind value → (at : Position) (e : KeyError)
    → IsWrong e sort at.rest at.place → IsFieldFault kind at.place at.rest e
first_wrong kind sort after row value fits at e wrong = record {
  before = [];
  sort = sort;
  after = after;
  row = row;
  place = 0;
  rest = at.rest;
  stands = record { value = value; fits = fits; begins = refl; at = refl };
  wrong = subst (λ (k : ℕ). IsWrong e sort at.rest k) (let z : at.place ≡ at.place + 0 = omega arith in z) wrong;
}

-- the fields before one are complete, and this one is wrong
later_wrong : (kind : KeyKind) (before : List KeyFieldSort) (sort : KeyFieldSort) (after : List KeyFieldSort) → sorts_of kind ≡ before ++ sort ∷ after → (value : PublicKey) → IsOfKind kind value → (at next : Position) (e : KeyError) (front : List ℕ)
    → concat (take (length before) (fields_of value)) ≡ front → at.rest ≡ front ++ next.rest → next.place ≡ at.place + length front
    → IsWrong e sort next.rest next.place → IsFieldFault kind at.place at.rest e
later_wrong kind before sort after row value fits at next e front is parts far wrong = record {
  before = before;
  sort = sort;
  after = after;
  row = row;
  place = length front;
  rest = next.rest;
  stands = record { value = value; fits = fits; begins = parts ∙ ap (λ (t : List ℕ). t ++ next.rest) (sym is); at = ap length (sym is) };
  wrong = subst (λ (k : ℕ). IsWrong e sort next.rest k) far wrong;
}

-- some point of the curve
abbrev some_point : Curve → List ℕ
some_point c = 4 ∷ replicate (point_len_of c - 1) 0

abbrev some_public : List ℕ
some_public = replicate 32 0

point_fault : (kind : KeyKind) (c : Curve) (more : List KeyFieldSort) → sorts_of kind ≡ curve c ∷ point c ∷ more → (value : PublicKey) → IsOfKind kind value → concat (take 1 (fields_of value)) ≡ string (curve_name_of c)
    → (at : Position) (e : KeyError) → IsBytes at.rest → point_at (curve_name_of c) (point_len_of c) at ≡ Err e → IsFieldFault kind at.place at.rest e
point_fault kind c more row value is front at e fits h =
    elim (point_wrong c at e fits h) [
      | inl w ↦ first_wrong kind (curve c) (point c ∷ more) row value is at e w
      | inr a ↦ later_wrong kind (curve c ∷ []) (point c) more row value is at a.next e (string (curve_name_of c)) front a.parts a.far a.wrong
    ]

pub fields_fault : (kind : KeyKind) (at : Position) (e : KeyError) → IsBytes at.rest → fields_at kind at ≡ Err e → IsFieldFault kind at.place at.rest e
unfolding fields_at
fields_fault Rsa at e fits h =
    elim (bind_err (positive_at at) (λ x. positive_at x.1 >>= λ n. fine (rsa x.0 n.0, n.1)) e h) [
      | inl first ↦ first_wrong Rsa number (number ∷ []) refl (rsa 1 1) (record { of = refl; in_range = refl }) at e (number_wrong at e fits first)
      | inr x ↦
          (let t = positive_takes at x.0.0 x.0.1 fits x.1 in
          let second = looked_err (positive_at x.0.1) (λ n. (rsa x.0.0 n.0, n.1)) e x.2 in
          later_wrong Rsa (number ∷ []) number [] refl (rsa x.0.0 1) (record { of = refl; in_range = rw t.1 refl }) at x.0.1 e (mpint x.0.0) (append-nil (mpint x.0.0)) t.0.parts t.0.place (number_wrong x.0.1 e t.0.rest_fits second))
    ]
fields_fault P256 at e fits h =
    point_fault P256 Nistp256 [] refl (p256 (some_point Nistp256)) (record { of = refl; in_range = refl }) (append-nil (string (curve_name_of Nistp256))) at e fits
    (looked_err (point_at (curve_name_of Nistp256) (point_len_of Nistp256) at) (λ q. (p256 q.0, q.1)) e h)
fields_fault P384 at e fits h =
    point_fault P384 Nistp384 [] refl (p384 (some_point Nistp384)) (record { of = refl; in_range = refl }) (append-nil (string (curve_name_of Nistp384))) at e fits
    (looked_err (point_at (curve_name_of Nistp384) (point_len_of Nistp384) at) (λ q. (p384 q.0, q.1)) e h)
fields_fault P521 at e fits h =
    point_fault P521 Nistp521 [] refl (p521 (some_point Nistp521)) (record { of = refl; in_range = refl }) (append-nil (string (curve_name_of Nistp521))) at e fits
    (looked_err (point_at (curve_name_of Nistp521) (point_len_of Nistp521) at) (λ q. (p521 q.0, q.1)) e h)
fields_fault Ed25519 at e fits h =
    first_wrong Ed25519 public [] refl (ed25519 some_public) (record { of = refl; in_range = refl }) at e (public_wrong at e fits (looked_err (public_at at) (λ a. (ed25519 a.0, a.1)) e h))
fields_fault SkP256 at e fits h =
    let name = curve_name_of Nistp256 in
    elim (bind_err (point_at name (point_len_of Nistp256) at) (λ q. as_key_error (string_at q.1) >>= λ s. fine (sk_p256 q.0 s.0, s.1)) e h) [
      | inl first ↦ point_fault SkP256 Nistp256 (text ∷ []) refl (sk_p256 (some_point Nistp256) []) (record { of = refl; in_range = refl }) (append-nil (string (curve_name_of Nistp256))) at e fits first
      | inr x ↦
          (let t = point_takes name (point_len_of Nistp256) at x.0.0 x.0.1 fits x.1 in
          let last = looked_err (as_key_error (string_at x.0.1)) (λ s. (sk_p256 x.0.0 s.0, s.1)) e x.2 in
          later_wrong SkP256 (curve Nistp256 ∷ point Nistp256 ∷ []) text [] refl (sk_p256 x.0.0 []) (record { of = refl; in_range = t.1 }) at x.0.1 e (string name ++ string x.0.0)
          (ap (λ (r : List ℕ). string name ++ r) (append-nil (string x.0.0))) t.0.parts t.0.place (string_wrong text x.0.1 e last))
    ]
fields_fault SkEd25519 at e fits h =
    elim (bind_err (public_at at) (λ a. as_key_error (string_at a.1) >>= λ s. fine (sk_ed25519 a.0 s.0, s.1)) e h) [
      | inl first ↦ first_wrong SkEd25519 public (text ∷ []) refl (sk_ed25519 some_public []) (record { of = refl; in_range = refl }) at e (public_wrong at e fits first)
      | inr x ↦
          (let t = public_takes at x.0.0 x.0.1 fits x.1 in
          let last = looked_err (as_key_error (string_at x.0.1)) (λ s. (sk_ed25519 x.0.0 s.0, s.1)) e x.2 in
          later_wrong SkEd25519 (public ∷ []) text [] refl (sk_ed25519 x.0.0 []) (record { of = refl; in_range = t.1 }) at x.0.1 e (string x.0.0) (append-nil (string x.0.0)) t.0.parts t.0.place (string_wrong text x.0.1 e last))
    ]

-- ---- the type name

plain_found : (kind : KeyKind) → plain_kind (key_name_of kind) ≡ Some kind
unfolding plain_kind
plain_found Rsa = refl
plain_found P256 = refl
plain_found P384 = refl
plain_found P521 = refl
plain_found Ed25519 = refl
plain_found SkP256 = refl
plain_found SkEd25519 = refl

certificate_found : (kind : KeyKind) → certificate_kind (certificate_name_of kind) ≡ Some kind
unfolding certificate_kind
certificate_found Rsa = refl
certificate_found P256 = refl
certificate_found P384 = refl
certificate_found P521 = refl
certificate_found Ed25519 = refl
certificate_found SkP256 = refl
certificate_found SkEd25519 = refl

certificate_named : (name : List ℕ) (kind : KeyKind) → certificate_kind name ≡ Some kind → name ≡ certificate_name_of kind
unfolding certificate_kind
certificate_named name kind e = sym ((bytes_eq-Decides (certificate_name_of kind) name).0 (find_some (λ k. bytes_eq (certificate_name_of k) name) kinds kind e))

clash : (a : Option KeyKind) (kind : KeyKind) → a ≡ None → a ≡ Some kind → ⊥
clash None kind p q = cc
clash (Some k) kind p q = cc

differs : (a b : List ℕ) → bytes_eq a b ≡ false → a ≢ b
differs a b unequal same = let equal : bytes_eq a b ≡ true = (bytes_eq-Decides a b).1 same in let both : true ≡ false = sym equal ∙ unequal in cc

-- a type name that is not a plain key's
name_wrong : (bytes name rest : List ℕ) → bytes ≡ string name ++ rest → (a b : Option KeyKind) (r : Bool) → plain_kind name ≡ a → certificate_kind name ≡ b → bytes_eq name (codes "ssh-dss") ≡ r
    → (e : KeyError) → kind_from (class_by a b r) ≡ Err e → IsFaultWithin bytes e
name_wrong bytes name rest begins (Some kind) b r p c d e h = absurd cc
name_wrong bytes name rest begins None (Some kind) r p c d e h =
    subst (λ (x : KeyError). IsFaultWithin bytes x) (err_is {A = KeyKind} errors.IsCertificate e h) (record { text = name; is = (kind, certificate_named name kind c); more = rest; begins = begins })
name_wrong bytes name rest begins None None true p c d e h =
    subst (λ (x : KeyError). IsFaultWithin bytes x) (err_is {A = KeyKind} errors.RetiredType e h) (record { text = name; is = (bytes_eq-Decides name (codes "ssh-dss")).0 d; more = rest; begins = begins })
name_wrong bytes name rest begins None None false p c d e h =
    subst (λ (x : KeyError). IsFaultWithin bytes x) (err_is {A = KeyKind} errors.UnknownType e h) (record { text = name; is = unknown; more = rest; begins = begins })
  where
    unknown : IsUnknownName name
    unknown = record {
      plain = λ kind same. clash (plain_kind name) kind p (ap plain_kind same ∙ plain_found kind);
      certificate = λ kind same. clash (certificate_kind name) kind c (ap certificate_kind same ∙ certificate_found kind);
      retired = differs name (codes "ssh-dss") d;
    }

-- ---- a whole blob

-- a wrong field is the error of the blob
within : (bytes : List ℕ) (e : KeyError) → InFields bytes e → IsFaultWithin bytes e
within bytes (errors.Wire w) i = by w.place w.cause i
  where
    by : (p : ℕ) (c : WireCause) → InFields bytes (errors.Wire (record { place = p; cause = c })) → IsFaultWithin bytes (errors.Wire (record { place = p; cause = c }))
    by p Short i = inr i
    by p MpintNotMinimal i = i
    by p MpintNegative i = i
    by p Value i = i
    by p Trailing i = absurd i.fault.wrong.1
within bytes errors.Curve i = i
within bytes errors.Point i = i
within bytes errors.Length i = i
within bytes errors.UnknownType i = absurd i.fault.wrong
within bytes errors.RetiredType i = absurd i.fault.wrong
within bytes errors.IsCertificate i = absurd i.fault.wrong
within bytes errors.TooLong i = absurd i.fault.wrong

-- bytes after the last field
goes_on : (bytes : List ℕ) (e : KeyError) (key : PublicKey) (rest : List ℕ) (place : ℕ) → IsSpelled key → bytes ≡ string (key_name_of (kind_of key)) ++ (concat (fields_of key) ++ rest)
    → place ≡ length (string (key_name_of (kind_of key))) + length (concat (fields_of key)) → as_key_error (end_at (record { place = place; rest = rest })) ≡ Err e → IsFaultWithin bytes e
goes_on bytes e key [] place is parts far h = absurd cc
goes_on bytes e key (b ∷ rest) place is parts far h =
    let name = string (key_name_of (kind_of key)) in
    let whole : GoesOnAt key_blob_row IsSpelled bytes place = record {
      value = key;
      fits = is;
      rest = b ∷ rest;
      more = λ x. absurd cc;
      begins = parts ∙ sym (append_assoc name (concat (fields_of key)) (b ∷ rest));
      at = omega (arith, far, length-append name (concat (fields_of key)));
    } in
    subst (λ (x : KeyError). IsFaultWithin bytes x) (err_is {A = Unit {0}} (errors.Wire (record { place = place; cause = Trailing })) e h) whole

fields_short : (fields : List (List ℕ)) → length (concat fields) < 2 ^ 32 + 4 → AreShort fields
fields_short [] few = tt
fields_short (field ∷ fields) few = (omega (arith, few, length-append field (concat fields)), fields_short fields (omega (arith, few, length-append field (concat fields))))

blob_fault : (bytes : List ℕ) (e : KeyError) → IsBytes bytes → length bytes ≤ longest → blob_at (start bytes) ≡ Err e → IsFaultWithin bytes e
unfolding blob_at
blob_fault bytes e fits few h =
    elim (bind_err (as_key_error (string_at (start bytes))) (λ name. kind_from (class_of name.0) >>= λ kind. fields_at kind name.1 >>= λ key. as_key_error (end_at key.1) >>= λ u. fine key.0) e h) [
      | inl first ↦
          (let w = of_wire_err (string_at (start bytes)) e first in
          let is : errors.Wire (record { place = 0; cause = Short }) ≡ e = ap (λ (x : WireError). errors.Wire x) (sym (string_is_short (start bytes) w.0 w.1)) ∙ w.2 in
          subst (λ (x : KeyError). IsFaultWithin bytes x) is (inl (refl, no_string (start bytes) w.0 w.1)))
      | inr x ↦
          (let t = string_takes (start bytes) x.0.0 x.0.1 fits (of_wire_ok (string_at (start bytes)) x.0 x.1) in
          elim (bind_err (kind_from (class_of x.0.0)) (λ kind. fields_at kind x.0.1 >>= λ key. as_key_error (end_at key.1) >>= λ u. fine key.0) e x.2) [
            | inl k ↦ name_wrong bytes x.0.0 (x.0.1).rest t.0.parts (plain_kind x.0.0) (certificate_kind x.0.0) (bytes_eq x.0.0 (codes "ssh-dss")) refl refl refl e k
            | inr k ↦
                (let same : x.0.0 ≡ key_name_of k.0 = kind_named x.0.0 k.0 k.1 in
                let parts : bytes ≡ string (key_name_of k.0) ++ (x.0.1).rest = t.0.parts ∙ ap (λ (n : List ℕ). string n ++ (x.0.1).rest) same in
                let far : (x.0.1).place ≡ length (string (key_name_of k.0)) = t.0.place ∙ ap (λ (n : List ℕ). 0 + length (string n)) same ∙ zero-add (length (string (key_name_of k.0))) in
                let less : length (x.0.1).rest < 2 ^ 32 = omega (arith, few, ap length t.0.parts, length-append (string x.0.0) (x.0.1).rest) in
                elim (bind_err (fields_at k.0 x.0.1) (λ key. as_key_error (end_at key.1) >>= λ u. fine key.0) e k.2) [
                  | inl f ↦
                      within bytes e (record {
                        kind = k.0;
                        fields = (x.0.1).rest;
                        begins = parts;
                        fault = subst (λ (p : ℕ). IsFieldFault k.0 p (x.0.1).rest e) far (fields_fault k.0 x.0.1 e t.0.rest_fits f);
                      })
                  | inr f ↦
                      (let took = fields_take k.0 x.0.1 f.0.0 f.0.1 t.0.rest_fits f.1 in
                      let refused : as_key_error (end_at f.0.1) ≡ Err e = elim (bind_err (as_key_error (end_at f.0.1)) (λ u. fine f.0.0) e f.2) [ inl r ↦ r | inr y ↦ absurd (let none : fine {E = KeyError} f.0.0 ≡ Err e = y.2 in cc) ] in
                      let name : string (key_name_of k.0) ≡ string (key_name_of (kind_of f.0.0)) = ap (λ (kind : KeyKind). string (key_name_of kind)) (sym took.kind) in
                      let short = fields_short (fields_of f.0.0) (omega (arith, less, ap length took.took.parts, length-append (concat (fields_of f.0.0)) (f.0.1).rest)) in
                      goes_on bytes e f.0.0 (f.0.1).rest (f.0.1).place (record { in_range = took.in_range; short = short })
                      (parts ∙ ap (λ (r : List ℕ). string (key_name_of k.0) ++ r) took.took.parts ∙ ap (λ (n : List ℕ). n ++ (concat (fields_of f.0.0) ++ (f.0.1).rest)) name)
                      (omega (arith, took.took.place, far, ap length name)) refused)
                ])
          ])
    ]

-- the first error of bytes that are not a key's blob
pub key_fault : (bytes : List ℕ) (e : KeyError) → IsBytes bytes → key_in bytes ≡ Err e → IsFirstFault bytes e
unfolding key_in
key_fault bytes e fits h = go (ltb longest (length bytes)) refl h
  where
    both : (e : KeyError) → length bytes ≤ longest → IsFaultWithin bytes e → IsFirstFault bytes e
    both (errors.Wire w) few is = (few, is)
    both errors.UnknownType few is = (few, is)
    both errors.RetiredType few is = (few, is)
    both errors.IsCertificate few is = (few, is)
    both errors.Curve few is = (few, is)
    both errors.Point few is = (few, is)
    both errors.Length few is = (few, is)
    both errors.TooLong few is = absurd is

    go : (b : Bool) → ltb longest (length bytes) ≡ b → cond b (Err errors.TooLong) (blob_at (start bytes)) ≡ Err e → IsFirstFault bytes e
    go true long f = subst (λ (x : KeyError). IsFirstFault bytes x) (err_is {A = PublicKey} errors.TooLong e f) (ltb-true longest (length bytes) long)
    go false long f =
        let few = ltb-false longest (length bytes) long in
        both e few (blob_fault bytes e fits few f)
