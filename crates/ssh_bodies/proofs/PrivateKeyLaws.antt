-- The fields of a private key: what is read is spelled so, and what is spelled so is read.
use Rattle.ssh_bodies.proofs.Imports.{◌≡◌, ℕ, ◌+◌, ◌^◌, ◌<◌, Bool, true, false, ltb, eqb, List, [], ◌∷◌, ◌++◌, length, drop, Ok, refl, sym, ap, subst, ◌∙◌, arith, codes, ◌&&◌, concat, bytes_eq, ltb-true, lt-ltb, eqb-true, eqb-false, ne_eqb, bytes_eq-Decides, Value, string, mpint, Position, byte_at, IsBytes, Took, guard_ok, ok_is, mpint_takes, mpint_again, and_ok, PublicKey, rsa, p256, p384, p521, ed25519, sk_p256, sk_ed25519, is_in_range, byte_takes, BodyError, ReadBody, as_body_error, PrivateKey, private_rsa, private_p256, private_p384, private_p521, private_ed25519, private_sk_p256, private_sk_ed25519, public_of, private_fields, is_private_in_range, RsaNumbers, OnCurve, KeyHandle, on_curve_at}
use Rattle.ssh_wire.specs.Spelling.{mpint_bytes}
use Rattle.ssh_wire.specs.Reading.{string_at, mpint_at}
use Rattle.ssh_bodies.specs.declared.error.BodyError.TheVariants as errors
use Rattle.ssh_bodies.specs.BodyReading.{body_positive_at}
use Rattle.ssh_bodies.specs.PrivateReading.{rsa_at, curve_at, ed25519_at, handle_at, private_at}
use Rattle.ssh_bodies.proofs.Steps.{after_step, then_step, of_wire_ok}
use Rattle.ssh_bodies.proofs.Fields.{Run, run_took, text_took, text_back}
use Rattle.ssh_bodies.proofs.Rows.{onto, place_after, at_row, Short}

-- ---- numbers above zero

pub positive_took : (at : Position) (n : ℕ × Position) → IsBytes at.rest → body_positive_at at ≡ Ok n → Took at (mpint n.0) n.1 × (ltb 0 n.0 ≡ true)
unfolding body_positive_at
positive_took at n fits e =
    after_step (as_body_error (mpint_at at)) _ n e (λ found read_number e1.
    let g = guard_ok (eqb found.0 0) (errors.Wire (record { place = at.place; cause = Value })) found n e1 in
    let t = mpint_takes at found.0 found.1 fits (of_wire_ok (mpint_at at) found read_number) in
    let some : ltb 0 found.0 ≡ true = lt-ltb 0 found.0 (let ne : found.0 ≡ 0 → ⊥ = eqb-false found.0 0 g.0 in omega arith) in
    subst (λ (y : ℕ × Position). Took at (mpint y.0) y.1 × (ltb 0 y.0 ≡ true)) g.1 (t.0, some))

pub positive_back : (n place : ℕ) (rest : List ℕ) → ltb 0 n ≡ true → length (mpint n) < 2 ^ 32 + 4
    → body_positive_at (record { place = place; rest = mpint n ++ rest }) ≡ Ok (n, record { place = place + length (mpint n); rest = rest })
unfolding body_positive_at
positive_back n place rest some short =
    let above : 0 < n = ltb-true 0 n some in
    let not_zero : eqb n 0 ≡ false = ne_eqb n 0 (λ e. omega arith) in
    let lt : length (mpint_bytes n) < 2 ^ 32 = omega (arith, short) in
    rw (mpint_again n place rest lt, not_zero) refl

field_back : (text : List ℕ) (place : ℕ) (rest : List ℕ) → length (string text) < 2 ^ 32 + 4
    → as_body_error (string_at (record { place = place; rest = string text ++ rest })) ≡ Ok (text, record { place = place + length (string text); rest = rest })
field_back text place rest short = text_back text place rest (omega (arith, short))

-- ---- an RSA key

record TookRsa (at : Position) (k : RsaNumbers) (after : Position) : Type 0 where
  run : Run (mpint k.modulus ∷ mpint k.exponent ∷ mpint k.private_exponent ∷ mpint k.coefficient ∷ mpint k.prime1 ∷ mpint k.prime2 ∷ []) at after
  private_exponent : ltb 0 k.private_exponent ≡ true
  coefficient : ltb 0 k.coefficient ≡ true
  prime1 : ltb 0 k.prime1 ≡ true
  prime2 : ltb 0 k.prime2 ≡ true

rsa_took : (at : Position) (k : RsaNumbers × Position) → IsBytes at.rest → rsa_at at ≡ Ok k → TookRsa at k.0 k.1
unfolding rsa_at
rsa_took at k fits e0 =
    after_step (body_positive_at at) _ k e0 (λ n read_n e1.
    after_step (body_positive_at n.1) _ k e1 (λ e read_e e2.
    after_step (body_positive_at e.1) _ k e2 (λ d read_d e3.
    after_step (body_positive_at d.1) _ k e3 (λ c read_c e4.
    after_step (body_positive_at c.1) _ k e4 (λ p read_p e5.
    after_step (body_positive_at p.1) _ k e5 (λ q read_q e6.
    let t_n = positive_took at n fits read_n in
    let t_e = positive_took n.1 e t_n.0.rest_fits read_e in
    let t_d = positive_took e.1 d t_e.0.rest_fits read_d in
    let t_c = positive_took d.1 c t_d.0.rest_fits read_c in
    let t_p = positive_took c.1 p t_c.0.rest_fits read_p in
    let t_q = positive_took p.1 q t_p.0.rest_fits read_q in
    let made : RsaNumbers = record { modulus = n.0; exponent = e.0; private_exponent = d.0; coefficient = c.0; prime1 = p.0; prime2 = q.0 } in
    subst (λ (y : RsaNumbers × Position). TookRsa at y.0 y.1) (ok_is {E = BodyError} (made, q.1) k e6) (record {
      run = (n.1, t_n.0, (e.1, t_e.0, (d.1, t_d.0, (c.1, t_c.0, (p.1, t_p.0, (q.1, t_q.0, refl))))));
      private_exponent = t_d.1;
      coefficient = t_c.1;
      prime1 = t_p.1;
      prime2 = t_q.1;
    })))))))

rsa_back : (n e d c p q place : ℕ) (rest : List ℕ) → ltb 0 n ≡ true → ltb 0 e ≡ true → is_private_in_range (private_rsa n e d c p q) ≡ true → Short (private_fields (private_rsa n e d c p q))
    → rsa_at (at_row place (private_fields (private_rsa n e d c p q)) rest) ≡ Ok (record { modulus = n; exponent = e; private_exponent = d; coefficient = c; prime1 = p; prime2 = q }, record { place = place_after place (private_fields (private_rsa n e d c p q)); rest = rest })
unfolding rsa_at
rsa_back n e d c p q place rest n_some e_some in_range short =
    let r1 = and_ok (ltb 0 d) (ltb 0 c && (ltb 0 p && ltb 0 q)) in_range in
    let r2 = and_ok (ltb 0 c) (ltb 0 p && ltb 0 q) r1.1 in
    let r3 = and_ok (ltb 0 p) (ltb 0 q) r2.1 in
    let p1 = place + length (mpint n) in
    let p2 = p1 + length (mpint e) in
    let p3 = p2 + length (mpint d) in
    let p4 = p3 + length (mpint c) in
    let p5 = p4 + length (mpint p) in
    then_step _ _ _ _ (positive_back n place (mpint e ++ (mpint d ++ (mpint c ++ (mpint p ++ (mpint q ++ rest))))) n_some short.0)
    (then_step _ _ _ _ (positive_back e p1 (mpint d ++ (mpint c ++ (mpint p ++ (mpint q ++ rest)))) e_some short.1.0)
    (then_step _ _ _ _ (positive_back d p2 (mpint c ++ (mpint p ++ (mpint q ++ rest))) r1.0 short.1.1.0)
    (then_step _ _ _ _ (positive_back c p3 (mpint p ++ (mpint q ++ rest)) r2.0 short.1.1.1.0)
    (then_step _ _ _ _ (positive_back p p4 (mpint q ++ rest) r3.0 short.1.1.1.1.0)
    (then_step _ _ _ _ (positive_back q p5 rest r3.1 short.1.1.1.1.1.0)
    refl)))))

-- ---- a key on a curve

record TookCurve (at : Position) (k : OnCurve) (after : Position) : Type 0 where
  run : Run (string k.curve ∷ string k.point ∷ mpint k.scalar ∷ []) at after
  scalar : ltb 0 k.scalar ≡ true

curve_took : (at : Position) (k : OnCurve × Position) → IsBytes at.rest → curve_at at ≡ Ok k → TookCurve at k.0 k.1
unfolding curve_at
curve_took at k fits e0 =
    after_step (as_body_error (string_at at)) _ k e0 (λ curve read_curve e1.
    after_step (as_body_error (string_at curve.1)) _ k e1 (λ point read_point e2.
    after_step (body_positive_at point.1) _ k e2 (λ scalar read_scalar e3.
    let t_curve = text_took at curve fits read_curve in
    let t_point = text_took curve.1 point t_curve.0.rest_fits read_point in
    let t_scalar = positive_took point.1 scalar t_point.0.rest_fits read_scalar in
    let made : OnCurve = record { curve = curve.0; point = point.0; scalar = scalar.0 } in
    subst (λ (y : OnCurve × Position). TookCurve at y.0 y.1) (ok_is {E = BodyError} (made, scalar.1) k e3) (record {
      run = (curve.1, t_curve.0, (point.1, t_point.0, (scalar.1, t_scalar.0, refl)));
      scalar = t_scalar.1;
    }))))

curve_back : (curve point : List ℕ) (scalar place : ℕ) (rest : List ℕ) → ltb 0 scalar ≡ true → Short (string curve ∷ string point ∷ mpint scalar ∷ [])
    → curve_at (at_row place (string curve ∷ string point ∷ mpint scalar ∷ []) rest)
    ≡ Ok (record { curve = curve; point = point; scalar = scalar }, record { place = place_after place (string curve ∷ string point ∷ mpint scalar ∷ []); rest = rest })
unfolding curve_at
curve_back curve point scalar place rest some short =
    let p1 = place + length (string curve) in
    let p2 = p1 + length (string point) in
    then_step _ _ _ _ (field_back curve place (string point ++ (mpint scalar ++ rest)) short.0)
    (then_step _ _ _ _ (field_back point p1 (mpint scalar ++ rest) short.1.0)
    (then_step _ _ _ _ (positive_back scalar p2 rest some short.1.1.0)
    refl))

-- ---- the fields of a security key in a body

abbrev handle_fields : KeyHandle → List (List ℕ)
handle_fields k = string k.application ∷ (k.flags ∷ []) ∷ string k.key_handle ∷ string k.reserved ∷ []

record TookHandle (at : Position) (k : KeyHandle) (after : Position) : Type 0 where
  run : Run (handle_fields k) at after
  flags : k.flags < 256

byte_took : (at : Position) (b : ℕ × Position) → IsBytes at.rest → as_body_error (byte_at at) ≡ Ok b → Took at (b.0 ∷ []) b.1 × (b.0 < 256)
byte_took at b fits e = byte_takes at.place at.rest b.0 b.1 fits (of_wire_ok (byte_at at) b e)

handle_took : (at : Position) (k : KeyHandle × Position) → IsBytes at.rest → handle_at at ≡ Ok k → TookHandle at k.0 k.1
unfolding handle_at
handle_took at k fits e0 =
    after_step (as_body_error (string_at at)) _ k e0 (λ application read_application e1.
    after_step (as_body_error (byte_at application.1)) _ k e1 (λ flags read_flags e2.
    after_step (as_body_error (string_at flags.1)) _ k e2 (λ handle read_handle e3.
    after_step (as_body_error (string_at handle.1)) _ k e3 (λ reserved read_reserved e4.
    let t_application = text_took at application fits read_application in
    let t_flags = byte_took application.1 flags t_application.0.rest_fits read_flags in
    let t_handle = text_took flags.1 handle t_flags.0.rest_fits read_handle in
    let t_reserved = text_took handle.1 reserved t_handle.0.rest_fits read_reserved in
    let made : KeyHandle = record { application = application.0; flags = flags.0; key_handle = handle.0; reserved = reserved.0 } in
    subst (λ (y : KeyHandle × Position). TookHandle at y.0 y.1) (ok_is {E = BodyError} (made, reserved.1) k e4) (record {
      run = (application.1, t_application.0, (flags.1, t_flags.0, (handle.1, t_handle.0, (reserved.1, t_reserved.0, refl))));
      flags = t_flags.1;
    })))))

handle_back : (k : KeyHandle) (place : ℕ) (rest : List ℕ) → Short (handle_fields k)
    → handle_at (at_row place (handle_fields k) rest) ≡ Ok (k, record { place = place_after place (handle_fields k); rest = rest })
unfolding handle_at
handle_back k place rest short =
    let p1 = place + length (string k.application) in
    let p2 = p1 + 1 in
    let p3 = p2 + length (string k.key_handle) in
    then_step _ _ _ _ (field_back k.application place ((k.flags ∷ []) ++ (string k.key_handle ++ (string k.reserved ++ rest))) short.0)
    (then_step _ _ _ _ (field_back k.key_handle p2 (string k.reserved ++ rest) short.1.1.0)
    (then_step _ _ _ _ (field_back k.reserved p3 rest short.1.1.1.0)
    refl))

-- ---- any kind

-- the fields of a private key whose public half is this one
pub record TookPrivate (public : PublicKey) (at : Position) (key : PrivateKey) (after : Position) : Type 0 where
  pub took : Took at (concat (private_fields key)) after
  pub half : public_of key ≡ public
  pub in_range : is_private_in_range key ≡ true

same_bytes : (a b : List ℕ) → bytes_eq a b ≡ true → a ≡ b
same_bytes a b e = (bytes_eq-Decides a b).0 e

equal_bytes : (a : List ℕ) → bytes_eq a a ≡ true
equal_bytes a = (bytes_eq-Decides a a).1 refl

equal_numbers : (n : ℕ) → eqb n n ≡ true
equal_numbers n = go (eqb n n) refl
  where
    go : (b : Bool) → eqb n n ≡ b → b ≡ true
    go true e = refl
    go false e = absurd (eqb-false n n e refl)

-- a key on a curve, whatever it is then called
on_curve_took : (name wanted : List ℕ) (make : List ℕ → ℕ → PrivateKey) (public : PublicKey) (at : Position) (k : (PrivateKey × Bool) × Position) → IsBytes at.rest
    → ((d : ℕ) → private_fields (make wanted d) ≡ string name ∷ string wanted ∷ mpint d ∷ []) → ((d : ℕ) → public_of (make wanted d) ≡ public) → ((d : ℕ) → is_private_in_range (make wanted d) ≡ ltb 0 d)
    → on_curve_at name wanted make at ≡ Ok k → k.0.1 ≡ true → TookPrivate public at k.0.0 k.1
on_curve_took name wanted make public at k fits fields half range e same =
    after_step (curve_at at) _ k e (λ c read_c e1.
    let t = curve_took at c fits read_c in
    let made : (PrivateKey × Bool) × Position = ((make (c.0).point (c.0).scalar, bytes_eq (c.0).curve name && bytes_eq (c.0).point wanted), c.1) in
    let is : made ≡ k = ok_is {E = BodyError} made k e1 in
    let both = and_ok (bytes_eq (c.0).curve name) (bytes_eq (c.0).point wanted) (ap (λ (y : (PrivateKey × Bool) × Position). y.0.1) is ∙ same) in
    let curve = same_bytes (c.0).curve name both.0 in
    let point = same_bytes (c.0).point wanted both.1 in
    let here : TookPrivate public at (make wanted (c.0).scalar) c.1 = record {
      took = subst (λ (f : List (List ℕ)). Took at (concat f) c.1) (sym (fields (c.0).scalar)) (subst (λ (n : List ℕ). Took at (concat (string n ∷ string wanted ∷ mpint (c.0).scalar ∷ [])) c.1) curve
          (subst (λ (q : List ℕ). Took at (concat (string (c.0).curve ∷ string q ∷ mpint (c.0).scalar ∷ [])) c.1) point (run_took (string (c.0).curve ∷ string (c.0).point ∷ mpint (c.0).scalar ∷ []) at c.1 fits t.run)));
      half = half (c.0).scalar;
      in_range = range (c.0).scalar ∙ t.scalar;
    } in
    subst (λ (y : (PrivateKey × Bool) × Position). TookPrivate public at y.0.0 y.1) is (subst (λ (q : List ℕ). TookPrivate public at (make q (c.0).scalar) c.1) (sym point) here))

-- an Ed25519 key
ed25519_private_took : (a : List ℕ) (at : Position) (k : (PrivateKey × Bool) × Position) → IsBytes at.rest → private_at (ed25519 a) at ≡ Ok k → k.0.1 ≡ true → TookPrivate (ed25519 a) at k.0.0 k.1
unfolding private_at ed25519_at
ed25519_private_took a at k fits h same =
    after_step (ed25519_at at) _ k h (λ r read_r h1.
    after_step (as_body_error (string_at at)) _ r read_r (λ public read_public g1.
    after_step (as_body_error (string_at public.1)) _ r g1 (λ secret read_secret g2.
    let t_public = text_took at public fits read_public in
    let t_secret = text_took public.1 secret t_public.0.rest_fits read_secret in
    let pair : (List ℕ × List ℕ) × Position = ((public.0, secret.0), secret.1) in
    let inner : pair ≡ r = ok_is {E = BodyError} pair r g2 in
    let make : (List ℕ × List ℕ) × Position → (PrivateKey × Bool) × Position = λ r. ((private_ed25519 r.0.0 r.0.1, bytes_eq r.0.0 a && (eqb (length r.0.1) 64 && bytes_eq (drop 32 r.0.1) a)), r.1) in
    let is : make pair ≡ k = ap make inner ∙ ok_is {E = BodyError} (make r) k h1 in
    let both = and_ok (bytes_eq public.0 a) (eqb (length secret.0) 64 && bytes_eq (drop 32 secret.0) a) (ap (λ (y : (PrivateKey × Bool) × Position). y.0.1) is ∙ same) in
    let point = same_bytes public.0 a both.0 in
    let here : TookPrivate (ed25519 a) at (private_ed25519 a secret.0) secret.1 = record {
      took = subst (λ (p : List ℕ). Took at (concat (string p ∷ string secret.0 ∷ [])) secret.1) point (run_took (string public.0 ∷ string secret.0 ∷ []) at secret.1 fits (public.1, t_public.0, (secret.1, t_secret.0, refl)));
      half = refl;
      in_range = both.1;
    } in
    subst (λ (y : (PrivateKey × Bool) × Position). TookPrivate (ed25519 a) at y.0.0 y.1) is (subst (λ (p : List ℕ). TookPrivate (ed25519 a) at (private_ed25519 p secret.0) secret.1) (sym point) here))))

pub private_took : (public : PublicKey) (at : Position) (k : (PrivateKey × Bool) × Position) → IsBytes at.rest → private_at public at ≡ Ok k → k.0.1 ≡ true → TookPrivate public at k.0.0 k.1
unfolding private_at
private_took (rsa e n) at k fits h same =
    after_step (rsa_at at) _ k h (λ r read_r h1.
    let t = rsa_took at r fits read_r in
    let made : (PrivateKey × Bool) × Position = ((private_rsa (r.0).modulus (r.0).exponent (r.0).private_exponent (r.0).coefficient (r.0).prime1 (r.0).prime2, eqb (r.0).modulus n && eqb (r.0).exponent e), r.1) in
    let is : made ≡ k = ok_is {E = BodyError} made k h1 in
    let both = and_ok (eqb (r.0).modulus n) (eqb (r.0).exponent e) (ap (λ (y : (PrivateKey × Bool) × Position). y.0.1) is ∙ same) in
    subst (λ (y : (PrivateKey × Bool) × Position). TookPrivate (rsa e n) at y.0.0 y.1) is (record {
      took = run_took (private_fields made.0.0) at r.1 fits t.run;
      half = ap (λ (x : ℕ). rsa x (r.0).modulus) (eqb-true (r.0).exponent e both.1) ∙ ap (λ (x : ℕ). rsa e x) (eqb-true (r.0).modulus n both.0);
      in_range = rw (t.private_exponent, t.coefficient, t.prime1, t.prime2) refl;
    }))
private_took (p256 q) at k fits h same = on_curve_took (codes "nistp256") q private_p256 (p256 q) at k fits (λ d. refl) (λ d. refl) (λ d. refl) h same
private_took (p384 q) at k fits h same = on_curve_took (codes "nistp384") q private_p384 (p384 q) at k fits (λ d. refl) (λ d. refl) (λ d. refl) h same
private_took (p521 q) at k fits h same = on_curve_took (codes "nistp521") q private_p521 (p521 q) at k fits (λ d. refl) (λ d. refl) (λ d. refl) h same
private_took (ed25519 a) at k fits h same = ed25519_private_took a at k fits h same
private_took (sk_p256 q s) at k fits h same =
    after_step (as_body_error (string_at at)) _ k h (λ curve read_curve h1.
    after_step (as_body_error (string_at curve.1)) _ k h1 (λ point read_point h2.
    after_step (handle_at point.1) _ k h2 (λ r read_r h3.
    let t_curve = text_took at curve fits read_curve in
    let t_point = text_took curve.1 point t_curve.0.rest_fits read_point in
    let t = handle_took point.1 r t_point.0.rest_fits read_r in
    let made : (PrivateKey × Bool) × Position = ((private_sk_p256 point.0 (r.0).application (r.0).flags (r.0).key_handle (r.0).reserved, bytes_eq curve.0 (codes "nistp256") && (bytes_eq point.0 q && bytes_eq (r.0).application s)), r.1) in
    let is : made ≡ k = ok_is {E = BodyError} made k h3 in
    let first = and_ok (bytes_eq curve.0 (codes "nistp256")) (bytes_eq point.0 q && bytes_eq (r.0).application s) (ap (λ (y : (PrivateKey × Bool) × Position). y.0.1) is ∙ same) in
    let second = and_ok (bytes_eq point.0 q) (bytes_eq (r.0).application s) first.1 in
    let named = same_bytes curve.0 (codes "nistp256") first.0 in
    subst (λ (y : (PrivateKey × Bool) × Position). TookPrivate (sk_p256 q s) at y.0.0 y.1) is (record {
      took = run_took (private_fields made.0.0) at r.1 fits (curve.1, subst (λ (n : List ℕ). Took at (string n) curve.1) named t_curve.0, (point.1, t_point.0, t.run));
      half = ap (λ (x : List ℕ). sk_p256 x (r.0).application) (same_bytes point.0 q second.0) ∙ ap (λ (x : List ℕ). sk_p256 q x) (same_bytes (r.0).application s second.1);
      in_range = lt-ltb (r.0).flags 256 t.flags;
    }))))
private_took (sk_ed25519 a s) at k fits h same =
    after_step (as_body_error (string_at at)) _ k h (λ public read_public h1.
    after_step (handle_at public.1) _ k h1 (λ r read_r h2.
    let t_public = text_took at public fits read_public in
    let t = handle_took public.1 r t_public.0.rest_fits read_r in
    let made : (PrivateKey × Bool) × Position = ((private_sk_ed25519 public.0 (r.0).application (r.0).flags (r.0).key_handle (r.0).reserved, bytes_eq public.0 a && bytes_eq (r.0).application s), r.1) in
    let is : made ≡ k = ok_is {E = BodyError} made k h2 in
    let both = and_ok (bytes_eq public.0 a) (bytes_eq (r.0).application s) (ap (λ (y : (PrivateKey × Bool) × Position). y.0.1) is ∙ same) in
    subst (λ (y : (PrivateKey × Bool) × Position). TookPrivate (sk_ed25519 a s) at y.0.0 y.1) is (record {
      took = run_took (private_fields made.0.0) at r.1 fits (public.1, t_public.0, t.run);
      half = ap (λ (x : List ℕ). sk_ed25519 x (r.0).application) (same_bytes public.0 a both.0) ∙ ap (λ (x : List ℕ). sk_ed25519 a x) (same_bytes (r.0).application s both.1);
      in_range = lt-ltb (r.0).flags 256 t.flags;
    })))

-- ---- the public half, whatever the bytes are

on_curve_half : (name wanted : List ℕ) (make : List ℕ → ℕ → PrivateKey) (public : PublicKey) (at : Position) (k : (PrivateKey × Bool) × Position) → ((d : ℕ) → public_of (make wanted d) ≡ public)
    → on_curve_at name wanted make at ≡ Ok k → k.0.1 ≡ true → public_of k.0.0 ≡ public
on_curve_half name wanted make public at k half h same =
    after_step (curve_at at) _ k h (λ c read_c h1.
    let made : (PrivateKey × Bool) × Position = ((make (c.0).point (c.0).scalar, bytes_eq (c.0).curve name && bytes_eq (c.0).point wanted), c.1) in
    let is : made ≡ k = ok_is {E = BodyError} made k h1 in
    let both = and_ok (bytes_eq (c.0).curve name) (bytes_eq (c.0).point wanted) (ap (λ (y : (PrivateKey × Bool) × Position). y.0.1) is ∙ same) in
    ap (λ (y : (PrivateKey × Bool) × Position). public_of y.0.0) (sym is) ∙ ap (λ (q : List ℕ). public_of (make q (c.0).scalar)) (same_bytes (c.0).point wanted both.1) ∙ half (c.0).scalar)

pub private_half : (public : PublicKey) (at : Position) (k : (PrivateKey × Bool) × Position) → private_at public at ≡ Ok k → k.0.1 ≡ true → public_of k.0.0 ≡ public
unfolding private_at
private_half (rsa e n) at k h same =
    after_step (rsa_at at) _ k h (λ r read_r h1.
    let made : (PrivateKey × Bool) × Position = ((private_rsa (r.0).modulus (r.0).exponent (r.0).private_exponent (r.0).coefficient (r.0).prime1 (r.0).prime2, eqb (r.0).modulus n && eqb (r.0).exponent e), r.1) in
    let is : made ≡ k = ok_is {E = BodyError} made k h1 in
    let both = and_ok (eqb (r.0).modulus n) (eqb (r.0).exponent e) (ap (λ (y : (PrivateKey × Bool) × Position). y.0.1) is ∙ same) in
    ap (λ (y : (PrivateKey × Bool) × Position). public_of y.0.0) (sym is) ∙ ap (λ (x : ℕ). rsa x (r.0).modulus) (eqb-true (r.0).exponent e both.1) ∙ ap (λ (x : ℕ). rsa e x) (eqb-true (r.0).modulus n both.0))
private_half (p256 q) at k h same = on_curve_half (codes "nistp256") q private_p256 (p256 q) at k (λ d. refl) h same
private_half (p384 q) at k h same = on_curve_half (codes "nistp384") q private_p384 (p384 q) at k (λ d. refl) h same
private_half (p521 q) at k h same = on_curve_half (codes "nistp521") q private_p521 (p521 q) at k (λ d. refl) h same
private_half (ed25519 a) at k h same =
    after_step (ed25519_at at) _ k h (λ r read_r h1.
    let made : (PrivateKey × Bool) × Position = ((private_ed25519 r.0.0 r.0.1, bytes_eq r.0.0 a && (eqb (length r.0.1) 64 && bytes_eq (drop 32 r.0.1) a)), r.1) in
    let is : made ≡ k = ok_is {E = BodyError} made k h1 in
    let both = and_ok (bytes_eq r.0.0 a) (eqb (length r.0.1) 64 && bytes_eq (drop 32 r.0.1) a) (ap (λ (y : (PrivateKey × Bool) × Position). y.0.1) is ∙ same) in
    ap (λ (y : (PrivateKey × Bool) × Position). public_of y.0.0) (sym is) ∙ ap (λ (x : List ℕ). ed25519 x) (same_bytes r.0.0 a both.0))
private_half (sk_p256 q s) at k h same =
    after_step (as_body_error (string_at at)) _ k h (λ curve read_curve h1.
    after_step (as_body_error (string_at curve.1)) _ k h1 (λ point read_point h2.
    after_step (handle_at point.1) _ k h2 (λ r read_r h3.
    let made : (PrivateKey × Bool) × Position = ((private_sk_p256 point.0 (r.0).application (r.0).flags (r.0).key_handle (r.0).reserved, bytes_eq curve.0 (codes "nistp256") && (bytes_eq point.0 q && bytes_eq (r.0).application s)), r.1) in
    let is : made ≡ k = ok_is {E = BodyError} made k h3 in
    let first = and_ok (bytes_eq curve.0 (codes "nistp256")) (bytes_eq point.0 q && bytes_eq (r.0).application s) (ap (λ (y : (PrivateKey × Bool) × Position). y.0.1) is ∙ same) in
    let second = and_ok (bytes_eq point.0 q) (bytes_eq (r.0).application s) first.1 in
    ap (λ (y : (PrivateKey × Bool) × Position). public_of y.0.0) (sym is) ∙ ap (λ (x : List ℕ). sk_p256 x (r.0).application) (same_bytes point.0 q second.0) ∙ ap (λ (x : List ℕ). sk_p256 q x) (same_bytes (r.0).application s second.1))))
private_half (sk_ed25519 a s) at k h same =
    after_step (as_body_error (string_at at)) _ k h (λ public read_public h1.
    after_step (handle_at public.1) _ k h1 (λ r read_r h2.
    let made : (PrivateKey × Bool) × Position = ((private_sk_ed25519 public.0 (r.0).application (r.0).flags (r.0).key_handle (r.0).reserved, bytes_eq public.0 a && bytes_eq (r.0).application s), r.1) in
    let is : made ≡ k = ok_is {E = BodyError} made k h2 in
    let both = and_ok (bytes_eq public.0 a) (bytes_eq (r.0).application s) (ap (λ (y : (PrivateKey × Bool) × Position). y.0.1) is ∙ same) in
    ap (λ (y : (PrivateKey × Bool) × Position). public_of y.0.0) (sym is) ∙ ap (λ (x : List ℕ). sk_ed25519 x (r.0).application) (same_bytes public.0 a both.0) ∙ ap (λ (x : List ℕ). sk_ed25519 a x) (same_bytes (r.0).application s both.1)))

-- ---- what is spelled is read

abbrev read_to : PrivateKey → ℕ → List ℕ → ReadBody (PrivateKey × Bool)
read_to key place rest = Ok ((key, true), record { place = place; rest = rest })

on_curve_back : (name q : List ℕ) (make : List ℕ → ℕ → PrivateKey) (d place : ℕ) (rest : List ℕ) → ltb 0 d ≡ true → Short (string name ∷ string q ∷ mpint d ∷ [])
    → on_curve_at name q make (at_row place (string name ∷ string q ∷ mpint d ∷ []) rest) ≡ read_to (make q d) (place_after place (string name ∷ string q ∷ mpint d ∷ [])) rest
on_curve_back name q make d place rest some short =
    then_step _ _ _ _ (curve_back name q d place rest some short) (rw (equal_bytes name, equal_bytes q) refl)

ed25519_back : (a secret : List ℕ) (place : ℕ) (rest : List ℕ) → Short (string a ∷ string secret ∷ [])
    → ed25519_at (at_row place (string a ∷ string secret ∷ []) rest) ≡ Ok ((a, secret), record { place = place_after place (string a ∷ string secret ∷ []); rest = rest })
unfolding ed25519_at
ed25519_back a secret place rest short =
    then_step _ _ _ _ (field_back a place (string secret ++ rest) short.0)
    (then_step _ _ _ _ (field_back secret (place + length (string a)) rest short.1.0) refl)

pub private_back : (key : PrivateKey) (place : ℕ) (rest : List ℕ) → is_in_range (public_of key) ≡ true → is_private_in_range key ≡ true → Short (private_fields key)
    → private_at (public_of key) (at_row place (private_fields key) rest) ≡ read_to key (place_after place (private_fields key)) rest
unfolding private_at
private_back (private_rsa n e d c p q) place rest public_range in_range short =
    let some = and_ok (ltb 0 e) (ltb 0 n) public_range in
    then_step _ _ _ _ (rsa_back n e d c p q place rest some.1 some.0 in_range short) (rw (equal_numbers n, equal_numbers e) refl)
private_back (private_p256 q d) place rest public_range in_range short = on_curve_back (codes "nistp256") q private_p256 d place rest in_range short
private_back (private_p384 q d) place rest public_range in_range short = on_curve_back (codes "nistp384") q private_p384 d place rest in_range short
private_back (private_p521 q d) place rest public_range in_range short = on_curve_back (codes "nistp521") q private_p521 d place rest in_range short
private_back (private_ed25519 a secret) place rest public_range in_range short =
    then_step _ _ _ _ (ed25519_back a secret place rest short) (rw (equal_bytes a, in_range) refl)
private_back (private_sk_p256 q s flags handle reserved) place rest public_range in_range short =
    let k : KeyHandle = record { application = s; flags = flags; key_handle = handle; reserved = reserved } in
    let p1 = place + length (string (codes "nistp256")) in
    then_step _ _ _ _ (field_back (codes "nistp256") place (string q ++ onto (handle_fields k) rest) short.0)
    (then_step _ _ _ _ (field_back q p1 (onto (handle_fields k) rest) short.1.0)
    (then_step _ _ _ _ (handle_back k (p1 + length (string q)) rest short.1.1)
    (rw (equal_bytes q, equal_bytes s) refl)))
private_back (private_sk_ed25519 a s flags handle reserved) place rest public_range in_range short =
    let k : KeyHandle = record { application = s; flags = flags; key_handle = handle; reserved = reserved } in
    then_step _ _ _ _ (field_back a place (onto (handle_fields k) rest) short.0)
    (then_step _ _ _ _ (handle_back k (place + length (string a)) rest short.1)
    (rw (equal_bytes a, equal_bytes s) refl))
