-- Bytes that are refused inside a private section have the first error that is returned, at its place.
use Rattle.ssh_bodies.proofs.Imports.{◌≡◌, ◌≢◌, ℕ, ◌+◌, ◌^◌, ◌<◌, ◌≤◌, Bool, true, false, not, cond, eqb, List, [], ◌∷◌, ◌++◌, length, take, drop, replicate, Result, Ok, Err, refl, sym, ap, subst, ◌∙◌, append_assoc, arith, inl, inr, ◌⊎◌, ◌&&◌, w32, concat, bytes_eq, eqb-true, eqb-false, ltb-true, length-append, drop_at, bytes_eq-Decides, WireCause, Short, MpintNotMinimal, MpintNegative, Value, WireError, string, uint32, mpint, natural, is_least, is_not_negative, Position, ◌>>=◌, Read, fault, byte_at, number_at, IsBytes, Took, Took-then, ok_is, fine, string_takes, string_again, refused_none, mpint_takes, NoString, string_is_short, key_name_of, PublicKey, rsa, p256, p384, p521, ed25519, sk_p256, sk_ed25519, kind_of, is_in_range, longest, byte_takes, BodyError, ReadBody, as_body_error, body_wants, PrivateKey, private_rsa, private_p256, private_p384, private_p521, private_ed25519, private_sk_p256, private_sk_ed25519, PrivateBody, public_of, private_fields, is_private_in_range, padding, is_padding, section_row, IsBodyOf, SectionStands, NoCheck, NoSectionText, SectionFieldSort, number, text, byte, section_sorts_of, IsField, AreFields, IsMissing, StopsShort, IsSectionFault}
use Rattle.ssh_wire.specs.Spelling.{mpint_bytes}
use Rattle.ssh_wire.specs.Reading.{string_at, mpint_at}
use Rattle.ssh_bodies.specs.declared.error.BodyError.TheVariants as errors
use Rattle.ssh_bodies.specs.BodyReading.{body_positive_at}
use Rattle.ssh_bodies.specs.PrivateReading.{rsa_at, curve_at, ed25519_at, handle_at, private_at, section_at}
use Rattle.ssh_bodies.proofs.Steps.{after_step, step_err, err_is, of_wire_ok, of_wire_err, wants_ok, wants_err, joins}
use Rattle.ssh_bodies.proofs.Fields.{Run, run_took, number_fault, text_fault, number_took, text_took}
use Rattle.ssh_bodies.proofs.PrivateKeyLaws.{positive_took, private_took, private_back}
use Rattle.ssh_bodies.proofs.PrivateLaws.{is_padding-padding}
use Rattle.ssh_bodies.proofs.Rows.{onto-is, place_after, at_row, are_short}

-- ---- a field that cannot be taken

-- no field of the sort begins here
record Missing (sort : SectionFieldSort) (at : Position) (e : BodyError) : Type 0 where
  cause : WireCause
  is : errors.Wire (record { place = at.place; cause = cause }) ≡ e
  missing : IsMissing cause sort at.rest

text_missing : (at : Position) (e : BodyError) → as_body_error (string_at at) ≡ Err e → Missing text at e
text_missing at e h = let f = text_fault at e h in record { cause = Short; is = sym f.0; missing = f.1 }

byte_missing : (at : Position) (e : BodyError) → as_body_error (byte_at at) ≡ Err e → Missing byte at e
byte_missing at e h = go at.rest h
  where
    go : (rest : List ℕ) → as_body_error (byte_at (record { place = at.place; rest = rest })) ≡ Err e → Missing byte (record { place = at.place; rest = rest }) e
    go [] f = record { cause = Short; is = err_is {A = ℕ × Position} (errors.Wire (record { place = at.place; cause = Short })) e f; missing = (refl, refl) }
    go (b ∷ rest) f = absurd cc

-- the number is missing, at the place of the error
abbrev Absent : WireError → Position → Type 0
Absent w at = (w.place ≡ at.place) × IsMissing w.cause number at.rest

wire_is : {A : Type 0} (d e : WireError) → (let x : Result A WireError = Err d in x) ≡ Err e → d ≡ e
wire_is d e h = cc

no_number : (at : Position) (t : List ℕ) (after : Position) (w : WireError) → at.rest ≡ string t ++ after.rest → (b c : Bool) → is_least t ≡ b → is_not_negative t ≡ c
    → cond (not b) (fault at MpintNotMinimal) (cond (not c) (fault at MpintNegative) (let x : Read ℕ = Ok (natural t, after) in x)) ≡ Err w → Absent w at
no_number at t after w parts false c least sign h =
    subst (λ (x : WireError). Absent x at) (wire_is {A = ℕ × Position} (record { place = at.place; cause = MpintNotMinimal }) w h)
    (refl, record { text = t; is = least; more = after.rest; begins = parts })
no_number at t after w parts true false least sign h =
    subst (λ (x : WireError). Absent x at) (wire_is {A = ℕ × Position} (record { place = at.place; cause = MpintNegative }) w h)
    (refl, record { text = t; is = (least, sign); more = after.rest; begins = parts })
no_number at t after w parts true true least sign h = absurd cc

no_string : (at : Position) (w : WireError) → string_at at ≡ Err w → NoString at.rest
no_string at w h = λ b. refused_none string (λ t. length t < 2 ^ 32) string_at string_again at w h b.value b.rest b.fits b.begins

mpint_missing : (at : Position) (w : WireError) → IsBytes at.rest → mpint_at at ≡ Err w → Absent w at
unfolding mpint_at
mpint_missing at w fits h =
    step_err (string_at at) (λ (t : List ℕ × Position). cond (not (is_least t.0)) (fault at MpintNotMinimal) (cond (not (is_not_negative t.0)) (fault at MpintNegative) (let x : Read ℕ = Ok (natural t.0, t.1) in x))) w h
    (λ first. let short : Absent (record { place = at.place; cause = Short }) at = (refl, no_string at w first) in subst (λ (x : WireError). Absent x at) (sym (string_is_short at w first)) short)
    (λ t read h1. no_number at t.0 t.1 w (string_takes at t.0 t.1 fits read).0.parts (is_least t.0) (is_not_negative t.0) refl refl h1)

zero_spelled : (rest : List ℕ) → mpint 0 ++ rest ≡ string [] ++ rest
unfolding mpint_bytes
zero_spelled rest = refl

number_missing : (at : Position) (e : BodyError) → IsBytes at.rest → body_positive_at at ≡ Err e → Missing number at e
unfolding body_positive_at
number_missing at e fits h =
    step_err (as_body_error (mpint_at at)) _ e h (λ bad.
    let w = of_wire_err (mpint_at at) e bad in
    let a = mpint_missing at w.0 fits w.1 in
    record { cause = (w.0).cause; is = ap (λ (p : ℕ). errors.Wire (record { place = p; cause = (w.0).cause })) (sym a.0) ∙ w.2; missing = a.1 })
    (λ n read_n h1. zero n read_n (eqb n.0 0) refl h1)
  where
    zero : (n : ℕ × Position) → as_body_error (mpint_at at) ≡ Ok n → (b : Bool) → eqb n.0 0 ≡ b → cond b (Err (errors.Wire (record { place = at.place; cause = Value }))) (Ok n) ≡ Err e → Missing number at e
    zero n read_n true is_zero f =
        let t = mpint_takes at n.0 n.1 fits (of_wire_ok (mpint_at at) n read_n) in
        let none : n.0 ≡ 0 = eqb-true n.0 0 is_zero in
        record {
          cause = Value;
          is = err_is {A = ℕ × Position} (errors.Wire (record { place = at.place; cause = Value })) e f;
          missing = record { text = []; is = refl; more = (n.1).rest; begins = t.0.parts ∙ ap (λ (m : ℕ). mpint m ++ (n.1).rest) none ∙ zero_spelled (n.1).rest };
        }
    zero n read_n false is_zero f = absurd cc

-- ---- fields one after the other

-- some fields are complete, and one is missing
record Failed (sorts : List SectionFieldSort) (at : Position) (e : BodyError) : Type 0 where
  place : ℕ
  cause : WireCause
  is : errors.Wire (record { place = at.place + place; cause = cause }) ≡ e
  stops : StopsShort sorts at.rest place cause

-- all fields are complete, up to here
record Stood (sorts : List SectionFieldSort) (at after : Position) : Type 0 where
  fields : List (List ℕ)
  are : AreFields sorts fields
  took : Took at (concat fields) after

-- what reading gives: fields of these sorts, or the first one that is missing
record Walks {A : Type 0} (sorts : List SectionFieldSort) (at : Position) (r : ReadBody A) : Type 0 where
  fails : (e : BodyError) → r ≡ Err e → Failed sorts at e
  stood : (k : A × Position) → r ≡ Ok k → Stood sorts at k.1

failed_here : (sort : SectionFieldSort) (sorts : List SectionFieldSort) (at : Position) (e : BodyError) → Missing sort at e → Failed (sort ∷ sorts) at e
failed_here sort sorts at e m =
    let here : at.place + 0 ≡ at.place = omega arith in
    record {
      place = 0;
      cause = m.cause;
      is = ap (λ (p : ℕ). errors.Wire (record { place = p; cause = m.cause })) here ∙ m.is;
      stops = record { before = []; sort = sort; after = sorts; row = refl; fields = []; are = tt; rest = at.rest; begins = refl; at = refl; missing = m.missing };
    }

failed_later : (sort : SectionFieldSort) (sorts : List SectionFieldSort) (at middle : Position) (field : List ℕ) (e : BodyError) → IsField sort field → Took at field middle → Failed sorts middle e → Failed (sort ∷ sorts) at e
failed_later sort sorts at middle field e is_field t f =
    let s = f.stops in
    let far : at.place + (length field + f.place) ≡ middle.place + f.place = omega (arith, t.place) in
    record {
      place = length field + f.place;
      cause = f.cause;
      is = ap (λ (p : ℕ). errors.Wire (record { place = p; cause = f.cause })) far ∙ f.is;
      stops = record {
        before = sort ∷ s.before;
        sort = s.sort;
        after = s.after;
        row = ap (λ (r : List SectionFieldSort). sort ∷ r) s.row;
        fields = field ∷ s.fields;
        are = (is_field, s.are);
        rest = s.rest;
        begins = joins field t.parts s.begins ∙ sym (append_assoc field (concat s.fields) s.rest);
        at = omega (arith, s.at, length-append field (concat s.fields));
        missing = s.missing;
      };
    }

stood_later : (sort : SectionFieldSort) (sorts : List SectionFieldSort) (at middle after : Position) (field : List ℕ) → IsField sort field → Took at field middle → Stood sorts middle after → Stood (sort ∷ sorts) at after
stood_later sort sorts at middle after field is_field t s = record { fields = field ∷ s.fields; are = (is_field, s.are); took = Took-then at middle after field (concat s.fields) t s.took }

walk_text : {B : Type 0} (sorts : List SectionFieldSort) (at : Position) (f : List ℕ × Position → ReadBody B) → IsBytes at.rest
    → ((x : List ℕ × Position) → IsBytes (x.1).rest → Walks sorts x.1 (f x)) → Walks (text ∷ sorts) at (as_body_error (string_at at) >>= f)
walk_text sorts at f fits next = record {
  fails = λ e h. step_err (as_body_error (string_at at)) f e h (λ bad. failed_here text sorts at e (text_missing at e bad))
      (λ x read g. let t = (text_took at x fits read).0 in failed_later text sorts at x.1 (string x.0) e (x.0, refl) t ((next x t.rest_fits).fails e g));
  stood = λ k h. after_step (as_body_error (string_at at)) f k h
      (λ x read g. let t = (text_took at x fits read).0 in stood_later text sorts at x.1 k.1 (string x.0) (x.0, refl) t ((next x t.rest_fits).stood k g));
}

walk_number : {B : Type 0} (sorts : List SectionFieldSort) (at : Position) (f : ℕ × Position → ReadBody B) → IsBytes at.rest
    → ((x : ℕ × Position) → IsBytes (x.1).rest → Walks sorts x.1 (f x)) → Walks (number ∷ sorts) at (body_positive_at at >>= f)
walk_number sorts at f fits next = record {
  fails = λ e h. step_err (body_positive_at at) f e h (λ bad. failed_here number sorts at e (number_missing at e fits bad))
      (λ x read g. let t = positive_took at x fits read in failed_later number sorts at x.1 (mpint x.0) e (x.0, ltb-true 0 x.0 t.1, refl) t.0 ((next x t.0.rest_fits).fails e g));
  stood = λ k h. after_step (body_positive_at at) f k h
      (λ x read g. let t = positive_took at x fits read in stood_later number sorts at x.1 k.1 (mpint x.0) (x.0, ltb-true 0 x.0 t.1, refl) t.0 ((next x t.0.rest_fits).stood k g));
}

walk_byte : {B : Type 0} (sorts : List SectionFieldSort) (at : Position) (f : ℕ × Position → ReadBody B) → IsBytes at.rest
    → ((x : ℕ × Position) → IsBytes (x.1).rest → Walks sorts x.1 (f x)) → Walks (byte ∷ sorts) at (as_body_error (byte_at at) >>= f)
walk_byte sorts at f fits next = record {
  fails = λ e h. step_err (as_body_error (byte_at at)) f e h (λ bad. failed_here byte sorts at e (byte_missing at e bad))
      (λ x read g. let t = (byte_takes at.place at.rest x.0 x.1 fits (of_wire_ok (byte_at at) x read)).0 in failed_later byte sorts at x.1 (x.0 ∷ []) e (x.0, refl) t ((next x t.rest_fits).fails e g));
  stood = λ k h. after_step (as_body_error (byte_at at)) f k h
      (λ x read g. let t = (byte_takes at.place at.rest x.0 x.1 fits (of_wire_ok (byte_at at) x read)).0 in stood_later byte sorts at x.1 k.1 (x.0 ∷ []) (x.0, refl) t ((next x t.rest_fits).stood k g));
}

walk_end : {A : Type 0} (x : A) (at : Position) → IsBytes at.rest → Walks [] at (fine (x, at))
walk_end {A} x at fits = record {
  fails = λ e h. absurd (let none : fine {E = BodyError} (x, at) ≡ Err e = h in cc);
  stood = λ k h. subst (λ (y : A × Position). Stood [] at y.1) (ok_is {E = BodyError} (x, at) k h) (record { fields = []; are = tt; took = record { parts = refl; place = omega arith; rest_fits = fits } });
}

-- the same fields, with another value of them
walk_map : {A B : Type 0} (sorts : List SectionFieldSort) (at : Position) (r : ReadBody A) (f : A × Position → ReadBody B) → ((x : A × Position) → (y : B) × (f x ≡ Ok (y, x.1))) → Walks sorts at r → Walks sorts at (r >>= f)
walk_map {A} {B} sorts at r f same w = record {
  fails = λ e h. step_err r f e h (λ bad. w.fails e bad) (λ x read g. absurd (let y = same x in let none : fine {E = BodyError} (y.0, x.1) ≡ Err e = sym y.1 ∙ g in cc));
  stood = λ k h. after_step r f k h (λ x read g. let y = same x in subst (λ (z : B × Position). Stood sorts at z.1) (ok_is {E = BodyError} (y.0, x.1) k (sym y.1 ∙ g)) (w.stood x read));
}

rsa_walk : (at : Position) → IsBytes at.rest → Walks (number ∷ number ∷ number ∷ number ∷ number ∷ number ∷ []) at (rsa_at at)
unfolding rsa_at
rsa_walk at fits =
    walk_number _ at _ fits (λ n n_fits.
    walk_number _ n.1 _ n_fits (λ e e_fits.
    walk_number _ e.1 _ e_fits (λ d d_fits.
    walk_number _ d.1 _ d_fits (λ c c_fits.
    walk_number _ c.1 _ c_fits (λ p p_fits.
    walk_number _ p.1 _ p_fits (λ q q_fits. walk_end _ q.1 q_fits))))))

curve_walk : (at : Position) → IsBytes at.rest → Walks (text ∷ text ∷ number ∷ []) at (curve_at at)
unfolding curve_at
curve_walk at fits =
    walk_text _ at _ fits (λ curve curve_fits.
    walk_text _ curve.1 _ curve_fits (λ point point_fits.
    walk_number _ point.1 _ point_fits (λ scalar scalar_fits. walk_end _ scalar.1 scalar_fits)))

ed25519_walk : (at : Position) → IsBytes at.rest → Walks (text ∷ text ∷ []) at (ed25519_at at)
unfolding ed25519_at
ed25519_walk at fits =
    walk_text _ at _ fits (λ public public_fits.
    walk_text _ public.1 _ public_fits (λ secret secret_fits. walk_end _ secret.1 secret_fits))

handle_walk : (at : Position) → IsBytes at.rest → Walks (text ∷ byte ∷ text ∷ text ∷ []) at (handle_at at)
unfolding handle_at
handle_walk at fits =
    walk_text _ at _ fits (λ application application_fits.
    walk_byte _ application.1 _ application_fits (λ flags flags_fits.
    walk_text _ flags.1 _ flags_fits (λ handle handle_fits.
    walk_text _ handle.1 _ handle_fits (λ reserved reserved_fits. walk_end _ reserved.1 reserved_fits))))

private_walk : (public : PublicKey) (at : Position) → IsBytes at.rest → Walks (section_sorts_of (kind_of public)) at (private_at public at)
unfolding private_at
private_walk (rsa e n) at fits = walk_map _ at (rsa_at at) _ (λ k. (_, refl)) (rsa_walk at fits)
private_walk (p256 q) at fits = walk_map _ at (curve_at at) _ (λ k. (_, refl)) (curve_walk at fits)
private_walk (p384 q) at fits = walk_map _ at (curve_at at) _ (λ k. (_, refl)) (curve_walk at fits)
private_walk (p521 q) at fits = walk_map _ at (curve_at at) _ (λ k. (_, refl)) (curve_walk at fits)
private_walk (ed25519 a) at fits = walk_map _ at (ed25519_at at) _ (λ k. (_, refl)) (ed25519_walk at fits)
private_walk (sk_p256 q s) at fits =
    walk_text _ at _ fits (λ curve curve_fits.
    walk_text _ curve.1 _ curve_fits (λ point point_fits. walk_map _ point.1 (handle_at point.1) _ (λ k. (_, refl)) (handle_walk point.1 point_fits)))
private_walk (sk_ed25519 a s) at fits =
    walk_text _ at _ fits (λ public public_fits. walk_map _ public.1 (handle_at public.1) _ (λ k. (_, refl)) (handle_walk public.1 public_fits))

-- ---- private keys of a public key

-- each public key is some private key's half
some_private : (public : PublicKey) → is_in_range public ≡ true → (key : PrivateKey) × (public_of key ≡ public) × (is_private_in_range key ≡ true)
some_private (rsa e n) h = (private_rsa n e 1 1 1 1, refl, refl)
some_private (p256 q) h = (private_p256 q 1, refl, refl)
some_private (p384 q) h = (private_p384 q 1, refl, refl)
some_private (p521 q) h = (private_p521 q 1, refl, refl)
some_private (ed25519 a) h =
    let secret = replicate 32 0 ++ a in
    let zeros : length {A = ℕ} (replicate 32 0) ≡ 32 = refl in
    let all : length secret ≡ 64 = omega (arith, length-append (replicate 32 0) a, zeros, eqb-true (length a) 32 h) in
    let long : eqb (length secret) 64 ≡ true = ap (λ (n : ℕ). eqb n 64) all in
    let same : bytes_eq (drop 32 secret) a ≡ true = (bytes_eq-Decides (drop 32 secret) a).1 (drop_at (replicate 32 0) a 32 refl) in
    (private_ed25519 a secret, refl, both (eqb (length secret) 64) (bytes_eq (drop 32 secret) a) long same)
  where
    both : (b c : Bool) → b ≡ true → c ≡ true → (b && c) ≡ true
    both b c e f = rw (e, f) refl
some_private (sk_p256 q s) h = (private_sk_p256 q s 0 [] [], refl, refl)
some_private (sk_ed25519 a s) h = (private_sk_ed25519 a s 0 [] [], refl, refl)

-- the fields of a private key of this public one are taken as its
no_half : (public : PublicKey) (at : Position) (found : (PrivateKey × Bool) × Position) (key : PrivateKey) (rest : List ℕ) → private_at public at ≡ Ok found → found.0.1 ≡ false
    → public_of key ≡ public → is_in_range public ≡ true → is_private_in_range key ≡ true → length at.rest ≤ longest → at.rest ≡ concat (private_fields key) ++ rest → ⊥
no_half public at found key rest read unlike half public_range range short parts =
    let fields_short = are_short (private_fields key) (omega (arith, short, ap length parts, length-append (concat (private_fields key)) rest)) in
    let given = private_back key at.place rest (subst (λ (p : PublicKey). is_in_range p ≡ true) (sym half) public_range) range fields_short in
    let here : at ≡ at_row at.place (private_fields key) rest = ap (λ (r : List ℕ). record { place = at.place; rest = r }) (parts ∙ onto-is (private_fields key) rest) in
    let again : (PrivateKey × Bool) × Position = ((key, true), record { place = place_after at.place (private_fields key); rest = rest }) in
    let both : fine {E = BodyError} found ≡ fine again = sym read ∙ ap (λ (p : Position). private_at public p) here ∙ ap (λ (k : PublicKey). private_at k (at_row at.place (private_fields key) rest)) (sym half) ∙ given in
    let yes : found.0.1 ≡ true = ap (λ (y : (PrivateKey × Bool) × Position). y.0.1) (ok_is {E = BodyError} found again both) in
    let clash : true ≡ false = sym yes ∙ unlike in
    absurd cc

-- ---- the section

-- the first fields of the section are complete, up to here
record Up (public : PublicKey) (fields : ℕ) (at here : Position) : Type 0 where
  place : ℕ
  stands : SectionStands public fields at.rest place here.rest
  far : here.place ≡ at.place + place

up : (public : PublicKey) (fields : ℕ) (v : PrivateBody) → IsBodyOf public v → (at here : Position) → IsBytes at.rest → Run (take fields (section_row v)) at here → Up public fields at here
up public fields v is at here fits r =
    let t = run_took (take fields (section_row v)) at here fits r in
    record { place = length (concat (take fields (section_row v))); stands = record { value = v; fits = is; begins = t.parts; at = refl }; far = t.place }

short_fault : (public : PublicKey) (at : Position) (e : BodyError) (place here : ℕ) → e ≡ errors.Wire (record { place = here; cause = Short }) → here ≡ at.place + place
    → NoCheck public at.rest place ⊎ NoSectionText public at.rest place → IsSectionFault public at.place at.rest e
short_fault public at e place here is far none = subst (λ (x : BodyError). IsSectionFault public at.place at.rest x) (sym is) (place, far, inl (refl, none))

other_name : (a b : List ℕ) → bytes_eq a b ≡ false → a ≢ b
other_name a b unlike same = let yes : bytes_eq a b ≡ true = (bytes_eq-Decides a b).1 same in let clash : true ≡ false = sym yes ∙ unlike in cc

no_padding : (rest : List ℕ) → is_padding rest ≡ false → (count : ℕ) → count ≤ 254 → rest ≢ padding count
no_padding rest unlike count few same =
    let yes : is_padding rest ≡ true = subst (λ (r : List ℕ). is_padding r ≡ true) (sym same) (is_padding-padding count few) in
    let clash : true ≡ false = sym yes ∙ unlike in
    cc

pub section_fault : (public : PublicKey) (at : Position) (e : BodyError) → IsBytes at.rest → is_in_range public ≡ true → length at.rest ≤ longest → section_at public at ≡ Err e → IsSectionFault public at.place at.rest e
unfolding section_at
section_fault public at e fits public_range short h =
    let reported = λ (x : BodyError). IsSectionFault public at.place at.rest x in
    let some = some_private public public_range in
    let v : ℕ → PrivateBody = λ n. record { check = n; key = some.0; comment = [] } in
    let of : (n : ℕ) → n < 2 ^ 32 → IsBodyOf public (v n) = λ n lt. record { check = lt; half = some.1; in_range = some.2 } in
    let s0 : SectionStands public 0 at.rest 0 at.rest = record { value = v 0; fits = of 0 (omega arith); begins = refl; at = refl } in
    let start_at : at.place ≡ at.place + 0 = omega arith in
    step_err (as_body_error (number_at w32 at)) _ e h (λ bad. let f = number_fault at e bad in short_fault public at e 0 at.place f.0 start_at (inl (at.rest, inl s0, f.1))) (λ check read_check h1.
    let t_check = number_took at check fits read_check in
    let u1 = up public 1 (v check.0) (of check.0 t_check.1) at check.1 fits (check.1, t_check.0, refl) in
    step_err (as_body_error (number_at w32 check.1)) _ e h1 (λ bad. let f = number_fault check.1 e bad in short_fault public at e u1.place (check.1).place f.0 u1.far (inl ((check.1).rest, inr u1.stands, f.1))) (λ again read_again h2.
    let t_again = number_took check.1 again t_check.0.rest_fits read_again in
    step_err (body_wants (eqb check.0 again.0) errors.CheckMismatch) _ e h2 (λ bad.
    let f = wants_err (eqb check.0 again.0) errors.CheckMismatch e bad in
    let row = take 1 (section_row (v check.0)) in
    let t = run_took row at check.1 fits (check.1, t_check.0, refl) in
    let s1 : SectionStands public 1 at.rest (length (concat row)) (uint32 again.0 ++ (again.1).rest) = record { value = v check.0; fits = of check.0 t_check.1; begins = joins (concat row) t.parts t_again.0.parts; at = refl } in
    let other : check.0 ≢ again.0 = eqb-false check.0 again.0 f.0 in
    subst reported f.1 (length (concat row), again.0, (again.1).rest, s1, t_again.1, λ same. other (sym same))) (λ ok1 is_same h3.
    let same : again.0 ≡ check.0 = sym (eqb-true check.0 again.0 (wants_ok (eqb check.0 again.0) errors.CheckMismatch ok1 is_same)) in
    let t_same : Took check.1 (uint32 check.0) again.1 = subst (λ (n : ℕ). Took check.1 (uint32 n) again.1) same t_again.0 in
    let u2 = up public 2 (v check.0) (of check.0 t_check.1) at again.1 fits (check.1, t_check.0, (again.1, t_same, refl)) in
    step_err (as_body_error (string_at again.1)) _ e h3 (λ bad. let f = text_fault again.1 e bad in short_fault public at e u2.place (again.1).place f.0 u2.far (inr ((again.1).rest, inl u2.stands, f.1))) (λ name read_name h4.
    let t_name = text_took again.1 name t_same.rest_fits read_name in
    step_err (body_wants (bytes_eq name.0 (key_name_of (kind_of public))) errors.PublicMismatch) _ e h4 (λ bad.
    let f = wants_err (bytes_eq name.0 (key_name_of (kind_of public))) errors.PublicMismatch e bad in
    subst reported f.1 (inl (u2.place, name.0, (name.1).rest, subst (λ (r : List ℕ). SectionStands public 2 at.rest u2.place r) t_name.0.parts u2.stands, other_name name.0 (key_name_of (kind_of public)) f.0))) (λ ok2 is_named h5.
    let named : name.0 ≡ key_name_of (kind_of public) = (bytes_eq-Decides name.0 (key_name_of (kind_of public))).0 (wants_ok (bytes_eq name.0 (key_name_of (kind_of public))) errors.PublicMismatch ok2 is_named) in
    let name_for : (key : PrivateKey) → public_of key ≡ public → Took again.1 (string (key_name_of (kind_of (public_of key)))) name.1 =
    λ key half. subst (λ (n : List ℕ). Took again.1 (string n) name.1) (named ∙ ap (λ (k : PublicKey). key_name_of (kind_of k)) (sym half)) t_name.0 in
    let u3 = up public 3 (v check.0) (of check.0 t_check.1) at name.1 fits (check.1, t_check.0, (again.1, t_same, (name.1, name_for some.0 some.1, refl))) in
    let walk = private_walk public name.1 t_name.0.rest_fits in
    step_err (private_at public name.1) _ e h5 (λ bad.
    let f = walk.fails e bad in
    let far : (name.1).place + f.place ≡ at.place + (u3.place + f.place) = omega (arith, u3.far) in
    subst reported f.is (u3.place + f.place, far, inr (record { first = u3.place; fields = (name.1).rest; stands = u3.stands; inner = f.place; at = refl; stops = f.stops }))) (λ key read_key h6.
    step_err (body_wants key.0.1 errors.PublicMismatch) _ e h6 (λ bad.
    let f = wants_err key.0.1 errors.PublicMismatch e bad in
    let s = walk.stood key read_key in
    let inner_short : length (name.1).rest ≤ longest = omega (arith, short, ap length (u3.stands).begins, length-append (concat (take 3 (section_row (u3.stands).value))) (name.1).rest) in
    subst reported f.1 (inr (record {
      place = u3.place;
      fields = s.fields;
      rest = (key.1).rest;
      stands = subst (λ (r : List ℕ). SectionStands public 3 at.rest u3.place r) (s.took).parts u3.stands;
      are = s.are;
      none = λ other half range is. no_half public name.1 key other (key.1).rest read_key f.0 half public_range range inner_short ((s.took).parts ∙ ap (λ (x : List (List ℕ)). concat x ++ (key.1).rest) is);
    }))) (λ ok3 is_half h7.
    let t_key = private_took public name.1 key t_name.0.rest_fits read_key (wants_ok key.0.1 errors.PublicMismatch ok3 is_half) in
    let w : List ℕ → PrivateBody = λ comment. record { check = check.0; key = key.0.0; comment = comment } in
    let of_key : (comment : List ℕ) → IsBodyOf public (w comment) = λ comment. record { check = t_check.1; half = t_key.half; in_range = t_key.in_range } in
    let u4 = up public 4 (w []) (of_key []) at key.1 fits (check.1, t_check.0, (again.1, t_same, (name.1, name_for key.0.0 t_key.half, (key.1, t_key.took, refl)))) in
    step_err (as_body_error (string_at key.1)) _ e h7 (λ bad. let f = text_fault key.1 e bad in short_fault public at e u4.place (key.1).place f.0 u4.far (inr ((key.1).rest, inr u4.stands, f.1))) (λ comment read_comment h8.
    let t_comment = text_took key.1 comment t_key.took.rest_fits read_comment in
    let u5 = up public 5 (w comment.0) (of_key comment.0) at comment.1 fits (check.1, t_check.0, (again.1, t_same, (name.1, name_for key.0.0 t_key.half, (key.1, t_key.took, (comment.1, t_comment.0, refl))))) in
    step_err (body_wants (is_padding (comment.1).rest) errors.Padding) _ e h8 (λ bad.
    let f = wants_err (is_padding (comment.1).rest) errors.Padding e bad in
    subst reported f.1 (u5.place, (comment.1).rest, u5.stands, no_padding (comment.1).rest f.0))
    (λ ok4 padded h9. absurd (let none : fine {A = PrivateBody} {E = BodyError} (record { check = check.0; key = key.0.0; comment = comment.0 }) ≡ Err e = h9 in cc))))))))))
