-- Steps of a reading that failed, and steps that did not.
use Rattle.ssh_bodies.proofs.Imports.{◌≡◌, ℕ, Bool, true, false, List, ◌++◌, Result, Ok, Err, refl, ap, ◌∙◌, WireError, ◌>>=◌, ok_is, KeyError, BodyError, as_body_error, of_key, body_wants}
use Rattle.ssh_bodies.specs.declared.error.BodyError.TheVariants as errors

-- a step that did not fail, and what follows it
pub after_step : {A B E P : Type 0} (r : Result A E) (f : A → Result B E) (y : B) → (r >>= f) ≡ Ok y → ((x : A) → r ≡ Ok x → f x ≡ Ok y → P) → P
after_step (Ok x) f y e go = go x refl e
after_step (Err d) f y e go = absurd cc

-- a step that failed, or one after it
pub step_err : {A B E P : Type 0} (r : Result A E) (f : A → Result B E) (e : E) → (r >>= f) ≡ Err e → (r ≡ Err e → P) → ((x : A) → r ≡ Ok x → f x ≡ Err e → P) → P
step_err (Ok x) f e h here later = later x refl h
step_err {A} {B} {E} (Err d) f e h here later = let same : d ≡ e = cc in here (ap (λ (z : E). let r : Result A E = Err z in r) same)

-- a step that does not fail, and what follows it
pub then_step : {A B E : Type 0} (r : Result A E) (x : A) (f : A → Result B E) (y : Result B E) → r ≡ Ok x → f x ≡ y → (r >>= f) ≡ y
then_step r x f y e g = ap (λ (q : Result _ _). q >>= f) e ∙ g

pub err_is : {A : Type 0} (d e : BodyError) → (let r : Result A BodyError = Err d in r) ≡ Err e → d ≡ e
err_is d e h = cc

pub of_wire_ok : {A : Type 0} (r : Result A WireError) (y : A) → as_body_error r ≡ Ok y → r ≡ Ok y
of_wire_ok (Ok x) y e = ap (λ (z : _). Ok z) (ok_is {E = BodyError} x y e)
of_wire_ok (Err d) y e = absurd cc

pub of_key_ok : {A : Type 0} (r : Result A KeyError) (y : A) → of_key r ≡ Ok y → r ≡ Ok y
of_key_ok (Ok x) y e = ap (λ (z : _). Ok z) (ok_is {E = BodyError} x y e)
of_key_ok (Err d) y e = absurd cc

pub of_wire_err : {A : Type 0} (r : Result A WireError) (e : BodyError) → as_body_error r ≡ Err e → (w : WireError) × (r ≡ Err w) × (errors.Wire w ≡ e)
of_wire_err (Ok x) e h = absurd cc
of_wire_err {A} (Err w) e h = (w, refl, err_is {A = A} (errors.Wire w) e h)

pub of_key_err : {A : Type 0} (r : Result A KeyError) (e : BodyError) → of_key r ≡ Err e → (k : KeyError) × (r ≡ Err k) × (errors.Key k ≡ e)
of_key_err (Ok x) e h = absurd cc
of_key_err {A} (Err k) e h = (k, refl, err_is {A = A} (errors.Key k) e h)

pub wants_ok : (b : Bool) (d : BodyError) (u : Unit {0}) → body_wants b d ≡ Ok u → b ≡ true
wants_ok true d u e = refl
wants_ok false d u e = absurd cc

pub wants_err : (b : Bool) (d e : BodyError) → body_wants b d ≡ Err e → (b ≡ false) × (d ≡ e)
wants_err true d e h = absurd cc
wants_err false d e h = (refl, err_is {A = Unit {0}} d e h)

-- the bytes after a text, spelled further
pub joins : (x : List ℕ) {a b c : List ℕ} → a ≡ x ++ b → b ≡ c → a ≡ x ++ c
joins x e g = e ∙ ap (λ (t : List ℕ). x ++ t) g
