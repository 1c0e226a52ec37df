-- Bytes that are refused as a signature have the first error that is returned, at its place.
use Rattle.ssh_keys.proofs.Imports.{◌≡◌, ℕ, ◌+◌, ◌^◌, ◌<◌, Bool, true, false, cond, ltb, List, [], ◌∷◌, ◌++◌, length, take, Some, None, Result, Ok, Err, refl, sym, ap, subst, ◌∙◌, zero-add, arith, inl, inr, is_some, nat_lt, w32, byte_len, from_be_bytes, concat, ltb-true, lt-ltb, Short, Trailing, Value, WireError, string, uint32, Position, start, advance, ◌>>=◌, Read, byte_at, number_at, end_at, IsBytes, wide32, number_again, string_takes, string_again, no_prefix_of, fine, StopsAt, GoesOnAt, row_by, FitsBy, stops_first, stops_after, goes_on_after, IsRenamed, stops_renamed, goes_on_renamed, bind_err, test_err, string_is_short, longest, Signature, is_sk_algorithm, sk_row, signature_row, is_sk_in_range, IsSpelledSignature, IsFaultOfFields, IsSignatureFault}
use Rattle.std.proofs.Common.{ltb-false}
use Rattle.std.proofs.Common.{Option}
use Rattle.ssh_wire.specs.Reading.{string_at}
use Rattle.ssh_keys.proofs.KeyLaws.{and_ok}
use Rattle.ssh_keys.specs.Signature.{sk_at, signature_at, signature_in}
use Rattle.ssh_keys.proofs.SignatureLaws.{byte_takes, sk_takes}

-- ---- the fields of a signature, by its algorithm

abbrev Text : List ℕ → Type 0
Text text = length text < 2 ^ 32

abbrev SkFits : Bool → Option (ℕ × ℕ) → Type 0
SkFits wanted sk = (is_some sk ≡ wanted) × (is_sk_in_range sk ≡ true)

abbrev parts_row : List ℕ × (List ℕ × Option (ℕ × ℕ)) → List (List ℕ)
parts_row = row_by string (λ _. row_by string (λ _. sk_row))

abbrev PartsFit : List ℕ × (List ℕ × Option (ℕ × ℕ)) → Type 0
PartsFit = FitsBy Text (λ algorithm. FitsBy Text (λ _. SkFits (is_sk_algorithm algorithm)))

abbrev made : List ℕ × (List ℕ × Option (ℕ × ℕ)) → Signature
made x = record { algorithm = x.0; bytes = x.1.0; sk = x.1.1 }

sk_short : (s : Signature) → Text s.algorithm → Text s.bytes → SkFits (is_sk_algorithm s.algorithm) s.sk → IsSpelledSignature s
sk_short s a b f = go s.sk f
  where
    go : (sk : Option (ℕ × ℕ)) → SkFits (is_sk_algorithm s.algorithm) sk → IsSpelledSignature (record s { sk = sk })
    go None f = record { sk = f.0; ranges = f.1; short = (omega arith, (omega arith, tt)) }
    go (Some x) f = record { sk = f.0; ranges = f.1; short = (omega arith, (omega arith, (omega arith, (omega arith, tt)))) }

signatures : IsRenamed parts_row PartsFit signature_row IsSpelledSignature made
signatures = record {
  rows = λ x fits. refl;
  fits = λ x fits. sk_short (made x) fits.0 fits.1.0 fits.1.1;
  each = λ s is. ((s.algorithm, (s.bytes, s.sk)), (omega (arith, is.short.0), (omega (arith, is.short.1.0), (is.sk, is.ranges))), refl);
}

-- an example of the flags and counter that an algorithm must have: none, or both
some_sk : (wanted : Bool) → (sk : Option (ℕ × ℕ)) × SkFits wanted sk
some_sk false = (None, (refl, refl))
some_sk true = (Some (0, 0), (refl, refl))

no_sk : SkFits (is_sk_algorithm []) None
no_sk = (refl, refl)

-- ---- flags and counter

abbrev one_byte : ℕ → List ℕ
one_byte b = b ∷ []

abbrev Byte : ℕ → Type 0
Byte b = b < 2 ^ 8

abbrev Counter : ℕ → Type 0
Counter n = n < 2 ^ 32

abbrev pair_row : ℕ × (ℕ × Unit {0}) → List (List ℕ)
pair_row = row_by one_byte (λ _. row_by uint32 (λ _ _. []))

abbrev PairFits : ℕ × (ℕ × Unit {0}) → Type 0
PairFits = FitsBy Byte (λ _. FitsBy Counter (λ _ _. Unit {0}))

flags_of : IsRenamed pair_row PairFits sk_row (SkFits true) (λ x. Some (x.0, x.1.0))
flags_of = record {
  rows = λ x fits. refl;
  fits = λ x fits. (refl, let low : nat_lt x.0 (2 ^ 8) ≡ true = lt-ltb x.0 (2 ^ 8) fits.0 in let high : nat_lt x.1.0 (2 ^ 32) ≡ true = lt-ltb x.1.0 (2 ^ 32) fits.1.0 in rw (low, high) refl);
  each = each_sk;
}
  where
    each_sk : (sk : Option (ℕ × ℕ)) → SkFits true sk → (x : ℕ × (ℕ × Unit {0})) × PairFits x × (let y : Option (ℕ × ℕ) = Some (x.0, x.1.0) in y ≡ sk)
    each_sk None fits = absurd (let none : false ≡ true = fits.0 in cc)
    each_sk (Some sk) fits =
        let both = and_ok (nat_lt sk.0 (2 ^ 8)) (nat_lt sk.1 (2 ^ 32)) fits.1 in
        ((sk.0, (sk.1, tt)), (ltb-true sk.0 (2 ^ 8) both.0, (ltb-true sk.1 (2 ^ 32) both.1, tt)), refl)

byte_again : (b place : ℕ) (rest : List ℕ) → Byte b → byte_at (record { place = place; rest = one_byte b ++ rest }) ≡ Ok (b, record { place = place + length (one_byte b); rest = rest })
byte_again b place rest fits = refl

byte_is_short : (place : ℕ) (rest : List ℕ) (e : WireError) → byte_at (record { place = place; rest = rest }) ≡ Err e → e ≡ record { place = place; cause = Short }
byte_is_short place [] e h = sym (same (record { place = place; cause = Short }) e h)
  where
    same : (d e : WireError) → (let r : Read ℕ = Err d in r) ≡ Err e → d ≡ e
    same d e h = cc
byte_is_short place (b ∷ rest) e h = absurd cc

-- where reading fields by a row stopped because there were too few bytes
abbrev Stops : {A : Type 0} → (A → List (List ℕ)) → (A → Type 0) → Position → WireError → Type 0
Stops row Fits at e = (place : ℕ) × StopsAt row Fits at.rest place × (e ≡ record { place = at.place + place; cause = Short })

pair_stops : (at : Position) (e : WireError) → IsBytes at.rest → sk_at true at ≡ Err e → Stops pair_row PairFits at e
unfolding sk_at
pair_stops at e fits h =
    elim (bind_err (byte_at at) (λ flags. number_at w32 flags.1 >>= λ counter. fine (Some (flags.0, counter.0), counter.1)) e h) [
      | inl first ↦ (
        0,
        stops_first one_byte Byte byte_at (λ _. row_by uint32 (λ _ _. [])) (λ _. FitsBy Counter (λ _ _. Unit {0})) byte_again (0, (0, tt)) (omega arith, (omega arith, tt)) at e first,
        byte_is_short at.place at.rest e first ∙ ap (λ (k : ℕ). record { place = k; cause = Short }) (let z : at.place ≡ at.place + 0 = omega arith in z),
      )
      | inr x ↦
          (let t = byte_takes at.place at.rest x.0.0 x.0.1 fits x.1 in
          let second : number_at w32 x.0.1 ≡ Err e = elim (bind_err (number_at w32 x.0.1) (λ counter. fine (Some (x.0.0, counter.0), counter.1)) e x.2) [ inl r ↦ r | inr y ↦ absurd (let none : fine {E = WireError} (Some (x.0.0, y.0.0), y.0.1) ≡ Err e = y.2 in cc) ] in
          let inner : StopsAt (row_by uint32 (λ _ _. [])) (FitsBy Counter (λ _ _. Unit {0})) (x.0.1).rest 0 =
          stops_first uint32 Counter (number_at w32) (λ _ _. []) (λ _ _. Unit {0}) (number_again w32 (2 ^ 32) wide32) (0, tt) (omega arith, tt) x.0.1 e second in
          let far : (x.0.1).place ≡ at.place + (length (one_byte x.0.0) + 0) = omega (arith, t.0.place) in (
            length (one_byte x.0.0) + 0,
            stops_after one_byte Byte (λ _. row_by uint32 (λ _ _. [])) (λ _. FitsBy Counter (λ _ _. Unit {0})) (no_prefix_of one_byte Byte byte_at byte_again) x.0.0 at.rest (x.0.1).rest 0 t.1 t.0.parts inner,
            sym (test_err (ltb (length (x.0.1).rest) (byte_len w32)) (record { place = (x.0.1).place; cause = Short }) e (from_be_bytes w32 (take (byte_len w32) (x.0.1).rest), advance x.0.1 (byte_len w32)) second)
                ∙ ap (λ (k : ℕ). record { place = k; cause = Short }) far,
          ))
    ]

sk_stops : (wanted : Bool) (at : Position) (e : WireError) → IsBytes at.rest → sk_at wanted at ≡ Err e → Stops sk_row (SkFits wanted) at e
unfolding sk_at
sk_stops false at e fits h = absurd (let none : fine {E = WireError} (let n : Option (ℕ × ℕ) = None in n, at) ≡ Err e = h in cc)
sk_stops true at e fits h =
    let s = pair_stops at e fits h in
    (s.0, stops_renamed pair_row PairFits sk_row (SkFits true) (λ x. Some (x.0, x.1.0)) flags_of at.rest s.0 s.1, s.2)

-- ---- a whole blob

-- the bytes stop because there are too few
stopped : (bytes : List ℕ) (e : WireError) (place : ℕ) → e ≡ record { place = place; cause = Short } → StopsAt parts_row PartsFit bytes place → IsFaultOfFields bytes e
stopped bytes e place is s =
    subst (λ (x : WireError). IsFaultOfFields bytes x) (sym is) (stops_renamed parts_row PartsFit signature_row IsSpelledSignature made signatures bytes place s)

-- bytes after the last field
goes_on : (bytes : List ℕ) (e : WireError) (algorithm text : List ℕ) (sk : Option (ℕ × ℕ)) (middle rest : List ℕ) (place : ℕ) → Text algorithm → Text text → SkFits (is_sk_algorithm algorithm) sk
    → bytes ≡ string algorithm ++ middle → middle ≡ string text ++ (concat (sk_row sk) ++ rest)
    → place ≡ length (string algorithm) + (length (string text) + length (concat (sk_row sk))) → end_at (record { place = place; rest = rest }) ≡ Err e → IsFaultOfFields bytes e
goes_on bytes e algorithm text sk middle [] place a b f first second far h = absurd cc
goes_on bytes e algorithm text sk middle (x ∷ rest) place a b f first second far h =
    let last : GoesOnAt sk_row (SkFits (is_sk_algorithm algorithm)) (concat (sk_row sk) ++ x ∷ rest) (length (concat (sk_row sk))) = record { value = sk; fits = f; rest = x ∷ rest; more = λ y. absurd cc; begins = refl; at = refl } in
    let inner = goes_on_after string Text (λ _. sk_row) (λ _. SkFits (is_sk_algorithm algorithm)) text middle (concat (sk_row sk) ++ x ∷ rest) (length (concat (sk_row sk))) b second last in
    let whole = goes_on_renamed parts_row PartsFit signature_row IsSpelledSignature made signatures bytes (length (string algorithm) + (length (string text) + length (concat (sk_row sk))))
    (goes_on_after string Text (λ _. row_by string (λ _. sk_row)) (λ c. FitsBy Text (λ _. SkFits (is_sk_algorithm c))) algorithm bytes middle (length (string text) + length (concat (sk_row sk))) a first inner) in
    subst (λ (y : WireError). IsFaultOfFields bytes y) (same (record { place = place; cause = Trailing }) e h) (subst (λ (k : ℕ). GoesOnAt signature_row IsSpelledSignature bytes k) (sym far) whole)
  where
    same : (d e : WireError) → (let r : Result (Unit {0}) WireError = Err d in r) ≡ Err e → d ≡ e
    same d e h = cc

blob_fault : (bytes : List ℕ) (e : WireError) → IsBytes bytes → signature_at (start bytes) ≡ Err e → IsFaultOfFields bytes e
unfolding signature_at
blob_fault bytes e fits h =
    elim (bind_err (string_at (start bytes)) (λ algorithm. string_at algorithm.1 >>= λ text. sk_at (is_sk_algorithm algorithm.0) text.1 >>= λ sk. end_at sk.1 >>= λ u. fine (record { algorithm = algorithm.0; bytes = text.0; sk = sk.0 })) e h) [
      | inl first ↦
          stopped bytes e 0 (string_is_short (start bytes) e first)
          (stops_first string Text string_at (λ _. row_by string (λ _. sk_row)) (λ c. FitsBy Text (λ _. SkFits (is_sk_algorithm c))) string_again ([], ([], None)) (omega arith, (omega arith, no_sk)) (start bytes) e first)
      | inr a ↦
          (let t = string_takes (start bytes) a.0.0 a.0.1 fits a.1 in
          let far : (a.0.1).place ≡ length (string a.0.0) = t.0.place ∙ zero-add (length (string a.0.0)) in
          let inside : (place : ℕ) → e ≡ record { place = (a.0.1).place + place; cause = Short } → StopsAt (row_by string (λ _. sk_row)) (FitsBy Text (λ _. SkFits (is_sk_algorithm a.0.0))) (a.0.1).rest place → IsFaultOfFields bytes e =
          λ place is s. stopped bytes e (length (string a.0.0) + place) (is ∙ ap (λ (k : ℕ). record { place = k + place; cause = Short }) far)
          (stops_after string Text (λ _. row_by string (λ _. sk_row)) (λ c. FitsBy Text (λ _. SkFits (is_sk_algorithm c))) (no_prefix_of string Text string_at string_again) a.0.0 bytes (a.0.1).rest place t.1 t.0.parts s) in
          elim (bind_err (string_at a.0.1) (λ text. sk_at (is_sk_algorithm a.0.0) text.1 >>= λ sk. end_at sk.1 >>= λ u. fine (record { algorithm = a.0.0; bytes = text.0; sk = sk.0 })) e a.2) [
            | inl second ↦
                (let sk = some_sk (is_sk_algorithm a.0.0) in
                inside 0 (string_is_short a.0.1 e second ∙ ap (λ (k : ℕ). record { place = k; cause = Short }) (let z : (a.0.1).place ≡ (a.0.1).place + 0 = omega arith in z))
                (stops_first string Text string_at (λ _. sk_row) (λ _. SkFits (is_sk_algorithm a.0.0)) string_again ([], sk.0) (omega arith, sk.1) a.0.1 e second))
            | inr b ↦
                (let u = string_takes a.0.1 b.0.0 b.0.1 t.0.rest_fits b.1 in
                elim (bind_err (sk_at (is_sk_algorithm a.0.0) b.0.1) (λ sk. end_at sk.1 >>= λ u. fine (record { algorithm = a.0.0; bytes = b.0.0; sk = sk.0 })) e b.2) [
                  | inl third ↦
                      (let s = sk_stops (is_sk_algorithm a.0.0) b.0.1 e u.0.rest_fits third in
                      inside (length (string b.0.0) + s.0) (s.2 ∙ ap (λ (k : ℕ). record { place = k; cause = Short }) (let z : (b.0.1).place + s.0 ≡ (a.0.1).place + (length (string b.0.0) + s.0) = omega (arith, u.0.place) in z))
                      (stops_after string Text (λ _. sk_row) (λ _. SkFits (is_sk_algorithm a.0.0)) (no_prefix_of string Text string_at string_again) b.0.0 (a.0.1).rest (b.0.1).rest s.0 u.1 u.0.parts s.1))
                  | inr c ↦
                      (let v = sk_takes (is_sk_algorithm a.0.0) b.0.1 c.0.0 c.0.1 u.0.rest_fits c.1 in
                      let refused : end_at c.0.1 ≡ Err e = elim (bind_err (end_at c.0.1) (λ u. fine (record { algorithm = a.0.0; bytes = b.0.0; sk = c.0.0 })) e c.2) [ inl r ↦ r | inr y ↦ absurd (let none : fine {A = Signature} {E = WireError} (record { algorithm = a.0.0; bytes = b.0.0; sk = c.0.0 }) ≡ Err e = y.2 in cc) ] in
                      goes_on bytes e a.0.0 b.0.0 c.0.0 (a.0.1).rest (c.0.1).rest (c.0.1).place t.1 u.1 (v.1, v.2) t.0.parts (u.0.parts ∙ ap (λ (r : List ℕ). string b.0.0 ++ r) v.0.parts)
                      (omega (arith, far, u.0.place, v.0.place)) refused)
                ])
          ])
    ]

-- the first error of bytes that are not a signature's blob
pub signature_fault : (bytes : List ℕ) (e : WireError) → IsBytes bytes → signature_in bytes ≡ Err e → IsSignatureFault bytes e
unfolding signature_in
signature_fault bytes e fits h = go (ltb longest (length bytes)) refl h
  where
    same : (d e : WireError) → (let r : Result Signature WireError = Err d in r) ≡ Err e → d ≡ e
    same d e h = cc

    go : (b : Bool) → ltb longest (length bytes) ≡ b → cond b (Err (record { place = 0; cause = Value })) (signature_at (start bytes)) ≡ Err e → IsSignatureFault bytes e
    go true long f = subst (λ (x : WireError). IsSignatureFault bytes x) (same (record { place = 0; cause = Value }) e f) (inl (ltb-true longest (length bytes) long, refl, refl))
    go false long f = inr (ltb-false longest (length bytes) long, blob_fault bytes e fits f)
