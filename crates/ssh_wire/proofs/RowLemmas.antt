-- Where the row of fields stops, when a field, or what follows it, does.
use Rattle.ssh_wire.proofs.Imports.{◌≡◌, ◌≢◌, ℕ, suc, ◌+◌, ◌<◌, ◌^◌, Bool, true, false, not, cond, ltb, List, [], ◌++◌, length, take, Result, Ok, Err, refl, sym, ap, subst, ◌∙◌, append_assoc, arith, inl, inr, ◌⊎◌, concat, Width, w32, byte_len, from_be_bytes, append-nil, length-append, Short, MpintNotMinimal, MpintNegative, Trailing, WireError, uint32, string, natural, is_least, is_not_negative, Position, start, advance, ◌>>=◌, Read, fault, number_at, pair_at, IsBytes, wide32, number_takes, number_again, string_again, refused_none, no_prefix_of, StopsAt, GoesOnAt, row_by, FitsBy, number_and_string, FitBoth}
use Rattle.ssh_wire.specs.Reading.{string_at, mpint_at}

-- the first field is refused
pub stops_first : {A B : Type 0} (spelling : A → List ℕ) (Fits : A → Type 0) (read : Position → Read A) (row : A → B → List (List ℕ)) (FitsRow : A → B → Type 0)
    → ((x : A) (place : ℕ) (rest : List ℕ) → Fits x → read (record { place = place; rest = spelling x ++ rest }) ≡ Ok (x, record { place = place + length (spelling x); rest = rest }))
    → (some : A × B) → FitsBy Fits FitsRow some → (at : Position) (e : WireError) → read at ≡ Err e → StopsAt (row_by spelling row) (FitsBy Fits FitsRow) at.rest 0
stops_first {A} {B} spelling Fits read row FitsRow back some fits at e refused = record {
  fields = 0;
  value = some;
  fits = fits;
  fewer = omega arith;
  rest = at.rest;
  begins = refl;
  at = refl;
  longest = λ other more other_fits begins. refused_none spelling Fits read back at e refused other.0 more other_fits.0 (begins ∙ ap (λ (t : List ℕ). t ++ more) (append-nil (spelling other.0)));
}

-- the first field is complete, and what follows it stops
pub stops_after : {A B : Type 0} (spelling : A → List ℕ) (Fits : A → Type 0) (row : A → B → List (List ℕ)) (FitsRow : A → B → Type 0)
    → ((x y : A) (s t : List ℕ) → Fits x → Fits y → spelling x ++ s ≡ spelling y ++ t → (x ≡ y) × (s ≡ t))
    → (a : A) (bytes rest : List ℕ) (place : ℕ) → Fits a → bytes ≡ spelling a ++ rest → StopsAt (row a) (FitsRow a) rest place
    → StopsAt (row_by spelling row) (FitsBy Fits FitsRow) bytes (length (spelling a) + place)
stops_after {A} {B} spelling Fits row FitsRow no_prefix a bytes rest place fits e s = record {
  fields = suc s.fields;
  value = (a, s.value);
  fits = (fits, s.fits);
  fewer = omega (arith, s.fewer);
  rest = s.rest;
  begins = e ∙ ap (λ (t : List ℕ). spelling a ++ t) s.begins ∙ sym (append_assoc (spelling a) (concat (take s.fields (row a s.value))) s.rest);
  at = omega (arith, s.at, length-append (spelling a) (concat (take s.fields (row a s.value))));
  longest = λ other more other_fits begins.
      let whole : spelling a ++ rest ≡ spelling other.0 ++ (concat (take (suc s.fields) (row other.0 other.1)) ++ more) =
      sym e ∙ begins ∙ append_assoc (spelling other.0) (concat (take (suc s.fields) (row other.0 other.1))) more in
      let same = no_prefix a other.0 rest (concat (take (suc s.fields) (row other.0 other.1)) ++ more) fits other_fits.0 whole in
      subst (λ (x : A). FitsRow x other.1 → rest ≡ concat (take (suc s.fields) (row x other.1)) ++ more → ⊥) same.0 (λ f g. s.longest other.1 more f g) other_fits.1 same.1;
}

-- the first field is complete, and there are bytes after what follows it
pub goes_on_after : {A B : Type 0} (spelling : A → List ℕ) (Fits : A → Type 0) (row : A → B → List (List ℕ)) (FitsRow : A → B → Type 0)
    → (a : A) (bytes rest : List ℕ) (place : ℕ) → Fits a → bytes ≡ spelling a ++ rest → GoesOnAt (row a) (FitsRow a) rest place
    → GoesOnAt (row_by spelling row) (FitsBy Fits FitsRow) bytes (length (spelling a) + place)
goes_on_after {A} {B} spelling Fits row FitsRow a bytes rest place fits e s = record {
  value = (a, s.value);
  fits = (fits, s.fits);
  rest = s.rest;
  more = s.more;
  begins = e ∙ ap (λ (t : List ℕ). spelling a ++ t) s.begins ∙ sym (append_assoc (spelling a) (concat (row a s.value)) s.rest);
  at = omega (arith, s.at, length-append (spelling a) (concat (row a s.value)));
}

-- ---- the same rows by other values

-- a value in range of one kind for each of the other
pub record IsRenamed {A B : Type 0} (row : A → List (List ℕ)) (Fits : A → Type 0) (row' : B → List (List ℕ)) (Fits' : B → Type 0) (name : A → B) : Type 0 where
  pub rows : (a : A) → Fits a → row' (name a) ≡ row a
  pub fits : (a : A) → Fits a → Fits' (name a)
  pub each : (b : B) → Fits' b → (a : A) × Fits a × (name a ≡ b)

pub stops_renamed : {A B : Type 0} (row : A → List (List ℕ)) (Fits : A → Type 0) (row' : B → List (List ℕ)) (Fits' : B → Type 0) (name : A → B)
    → IsRenamed row Fits row' Fits' name → (bytes : List ℕ) (place : ℕ) → StopsAt row Fits bytes place → StopsAt row' Fits' bytes place
stops_renamed {A} {B} row Fits row' Fits' name is bytes place s =
    let same : row s.value ≡ row' (name s.value) = sym (is.rows s.value s.fits) in
    record {
      fields = s.fields;
      value = name s.value;
      fits = is.fits s.value s.fits;
      fewer = subst (λ (r : List (List ℕ)). s.fields < length r) same s.fewer;
      rest = s.rest;
      begins = s.begins ∙ ap (λ (r : List (List ℕ)). concat (take s.fields r) ++ s.rest) same;
      at = s.at ∙ ap (λ (r : List (List ℕ)). length (concat (take s.fields r))) same;
      longest = λ other more fits begins.
          let a = is.each other fits in
          s.longest a.0 more a.1 (begins ∙ ap (λ (r : List (List ℕ)). concat (take (suc s.fields) r) ++ more) (ap row' (sym a.2) ∙ is.rows a.0 a.1));
    }

pub goes_on_renamed : {A B : Type 0} (row : A → List (List ℕ)) (Fits : A → Type 0) (row' : B → List (List ℕ)) (Fits' : B → Type 0) (name : A → B)
    → IsRenamed row Fits row' Fits' name → (bytes : List ℕ) (place : ℕ) → GoesOnAt row Fits bytes place → GoesOnAt row' Fits' bytes place
goes_on_renamed {A} {B} row Fits row' Fits' name is bytes place s =
    let same : row s.value ≡ row' (name s.value) = sym (is.rows s.value s.fits) in
    record {
      value = name s.value;
      fits = is.fits s.value s.fits;
      rest = s.rest;
      more = s.more;
      begins = s.begins ∙ ap (λ (r : List (List ℕ)). concat r ++ s.rest) same;
      at = s.at ∙ ap (λ (r : List (List ℕ)). length (concat r)) same;
    }

-- ---- a step that failed, and where

pub bind_err : {A B E : Type 0} (r : Result A E) (f : A → Result B E) (e : E) → (r >>= f) ≡ Err e → (r ≡ Err e) ⊎ ((x : A) × (r ≡ Ok x) × (f x ≡ Err e))
bind_err (Ok x) f e h = inr (x, refl, h)
bind_err {A} {B} {E} (Err d) f e h = let same : d ≡ e = cc in inl (ap (λ (z : E). let r : Result A E = Err z in r) same)

pub test_err : {A : Type 0} (b : Bool) (d e : WireError) (x : A) → cond b (Err d) (Ok x) ≡ Err e → d ≡ e
test_err true d e x h = cc
test_err false d e x h = absurd cc

-- a refused field reports its own place
pub number_place : (w : Width) (at : Position) (e : WireError) → number_at w at ≡ Err e → e.place ≡ at.place
number_place w at e h = ap (λ (x : WireError). x.place) (sym (test_err (ltb (length at.rest) (byte_len w)) (record { place = at.place; cause = Short }) e (from_be_bytes w (take (byte_len w) at.rest), advance at (byte_len w)) h))

pub string_place : (at : Position) (e : WireError) → string_at at ≡ Err e → e.place ≡ at.place
unfolding string_at
string_place at e h =
    elim (bind_err (number_at w32 at) (λ len. cond (ltb (length (len.1).rest) len.0) (fault at Short) (Ok (take len.0 (len.1).rest, advance len.1 len.0))) e h) [
      | inl first ↦ number_place w32 at e first
      | inr x ↦ ap (λ (x : WireError). x.place) (sym (test_err (ltb (length ((x.0).1).rest) (x.0).0) (record { place = at.place; cause = Short }) e (take (x.0).0 ((x.0).1).rest, advance (x.0).1 (x.0).0) x.2))
    ]

-- the error of a string
pub string_is_short : (at : Position) (e : WireError) → string_at at ≡ Err e → e ≡ record { place = at.place; cause = Short }
unfolding string_at
string_is_short at e h =
    elim (bind_err (number_at w32 at) (λ len. cond (ltb (length (len.1).rest) len.0) (fault at Short) (Ok (take len.0 (len.1).rest, advance len.1 len.0))) e h) [
      | inl first ↦ sym (test_err (ltb (length at.rest) (byte_len w32)) (record { place = at.place; cause = Short }) e (from_be_bytes w32 (take (byte_len w32) at.rest), advance at (byte_len w32)) first)
      | inr x ↦ sym (test_err (ltb (length ((x.0).1).rest) (x.0).0) (record { place = at.place; cause = Short }) e (take (x.0).0 ((x.0).1).rest, advance (x.0).1 (x.0).0) x.2)
    ]

-- the error of a number of any size is at its first byte
pub record IsNumberFault (at : Position) (e : WireError) : Type 0 where
  pub place : e.place ≡ at.place
  pub not_trailing : e.cause ≢ Trailing

go_wrong : {A : Type 0} (b : Bool) (d e : WireError) (r : Read A) → cond (not b) (Err d) r ≡ Err e → (d ≡ e) ⊎ (r ≡ Err e)
go_wrong true d e r h = inr h
go_wrong false d e r h = inl (err_is d e h)
  where
    err_is : {A : Type 0} (d e : WireError) → (let x : Read A = Err d in x) ≡ Err e → d ≡ e
    err_is d e h = cc

pub mpint_fault : (at : Position) (e : WireError) → mpint_at at ≡ Err e → IsNumberFault at e
unfolding mpint_at
mpint_fault at e h =
    let last = λ (text : List ℕ × Position). cond (not (is_not_negative text.0)) (fault at MpintNegative) (let x : Read ℕ = Ok (natural text.0, text.1) in x) in
    elim (bind_err (string_at at) (λ text. cond (not (is_least text.0)) (fault at MpintNotMinimal) (last text)) e h) [
      | inl first ↦ of (record { place = at.place; cause = Short }) (string_is_short at e first) refl (λ c. absurd cc)
      | inr x ↦ elim (go_wrong (is_least x.0.0) (record { place = at.place; cause = MpintNotMinimal }) e (last x.0) x.2) [
        | inl d ↦ of (record { place = at.place; cause = MpintNotMinimal }) (sym d) refl (λ c. absurd cc)
        | inr y ↦ elim (go_wrong (is_not_negative x.0.0) (record { place = at.place; cause = MpintNegative }) e (Ok (natural x.0.0, x.0.1)) y) [
          | inl d ↦ of (record { place = at.place; cause = MpintNegative }) (sym d) refl (λ c. absurd cc)
          | inr z ↦ absurd cc
        ]
      ]
    ]
  where
    of : (d : WireError) → e ≡ d → d.place ≡ at.place → d.cause ≢ Trailing → IsNumberFault at e
    of d same p c = record { place = ap (λ (x : WireError). x.place) same ∙ p; not_trailing = λ t. c (sym (ap (λ (x : WireError). x.cause) same) ∙ t) }

-- ---- a number and a string

abbrev beside : ℕ → List ℕ × Position → Read (ℕ × List ℕ)
beside n text = Ok ((n, text.0), text.1)

pub number_and_string_stops : (bytes : List ℕ) (e : WireError) → IsBytes bytes → pair_at (number_at w32) string_at (start bytes) ≡ Err e → StopsAt number_and_string FitBoth bytes e.place
number_and_string_stops bytes e fits h =
    elim (bind_err (number_at w32 (start bytes)) (λ a. string_at a.1 >>= beside a.0) e h) [
      | inl first ↦
          subst (λ (k : ℕ). StopsAt number_and_string FitBoth bytes k) (sym (number_place w32 (start bytes) e first))
          (stops_first uint32 (λ n. n < 2 ^ 32) (number_at w32) (λ _. row_by string (λ _ _. [])) (λ _. FitsBy (λ text. length text < 2 ^ 32) (λ _ _. Unit {0}))
          (number_again w32 (2 ^ 32) wide32) (0, ([], tt)) (omega arith, (omega arith, tt)) (start bytes) e first)
      | inr x ↦ following x.0.0 x.0.1 x.1 (refused (x.0).0 (x.0).1 x.2)
    ]
  where
    refused : (x : ℕ) (at : Position) → (string_at at >>= beside x) ≡ Err e → string_at at ≡ Err e
    refused x at g = elim (bind_err (string_at at) (beside x) e g) [ inl r ↦ r | inr y ↦ absurd (let no : beside x y.0 ≡ Err e = y.2 in cc) ]

    following : (n : ℕ) (at : Position) → number_at w32 (start bytes) ≡ Ok (n, at) → string_at at ≡ Err e → StopsAt number_and_string FitBoth bytes e.place
    following n at read g =
        let t = number_takes w32 (2 ^ 32) wide32 (start bytes) n at fits read in
        let inner : StopsAt (row_by string (λ _ _. [])) (FitsBy (λ text. length text < 2 ^ 32) (λ _ _. Unit {0})) at.rest 0 =
        stops_first string (λ text. length text < 2 ^ 32) string_at (λ _ _. []) (λ _ _. Unit {0}) string_again ([], tt) (omega arith, tt) at e g in
        let whole = stops_after uint32 (λ k. k < 2 ^ 32) (λ _. row_by string (λ _ _. [])) (λ _. FitsBy (λ text. length text < 2 ^ 32) (λ _ _. Unit {0}))
        (no_prefix_of uint32 (λ k. k < 2 ^ 32) (number_at w32) (number_again w32 (2 ^ 32) wide32)) n bytes at.rest 0 t.1 t.0.parts inner in
        let here : length (uint32 n) + 0 ≡ e.place = omega (arith, string_place at e g, t.0.place) in
        subst (λ (k : ℕ). StopsAt number_and_string FitBoth bytes k) here whole
