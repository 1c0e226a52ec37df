-- Packed lists: what is read is spelled so, what is spelled so is read, and a loop reads them.
use Rattle.ssh_certs.proofs.Imports.{◌≡◌, ◌≢◌, ℕ, zero, suc, ◌+◌, ◌^◌, ◌<◌, ◌≤◌, List, [], ◌∷◌, ◌++◌, length, Result, Ok, Err, refl, sym, ap, subst, ◌∙◌, append_assoc, arith, inl, inr, IsOk, flat_map, AllByRecursion, result_unwrap_or, length-append, nil_from_length, flat_map-cons, WireError, string, Position, start, ◌>>=◌, Read, IsBytes, Took, Took-then, bind_ok, ok_is, fine, string_takes, string_again, bind_err, string_place, CertOption, items_in, cert_option_at, without_items}
use Rattle.ssh_wire.specs.Reading.{string_at}
use Rattle.ssh_certs.specs.CertificateReading.{items_within}

-- an item that is read as it is spelled, takes bytes, and is refused within its text
pub record IsItem {A : Type 0} (spelling : A → List ℕ) (Fits : A → Type 0) (item : Position → Read A) : Type 0 where
  pub takes : (at : Position) (x : A) (after : Position) → IsBytes at.rest → item at ≡ Ok (x, after) → Took at (spelling x) after × Fits x
  pub again : (x : A) (place : ℕ) (rest : List ℕ) → Fits x → item (record { place = place; rest = spelling x ++ rest }) ≡ Ok (x, record { place = place + length (spelling x); rest = rest })
  pub some : (x : A) → 0 < length (spelling x)
  pub within : (at : Position) (e : WireError) → IsBytes at.rest → item at ≡ Err e → e.place ≤ at.place + length at.rest

-- a string is short enough for its length
abbrev pub FitsString : List ℕ → Type 0
FitsString text = length text < 2 ^ 32

pub string_item : IsItem string FitsString string_at
string_item = record {
  takes = string_takes;
  again = string_again;
  some = λ text. omega arith;
  within = λ at e fits h. omega (arith, string_place at e h);
}

-- an option's name and data
abbrev pub spelled_option : CertOption → List ℕ
spelled_option o = string o.name ++ string o.value

abbrev pub FitsOption : CertOption → Type 0
FitsOption o = FitsString o.name × FitsString o.value

option_takes : (at : Position) (o : CertOption) (after : Position) → IsBytes at.rest → cert_option_at at ≡ Ok (o, after) → Took at (spelled_option o) after × FitsOption o
option_takes at o after fits e =
    let a = bind_ok (string_at at) (λ name. string_at name.1 >>= λ value. fine (record { name = name.0; value = value.0 }, value.1)) (o, after) e in
    let b = bind_ok (string_at a.0.1) (λ value. fine (record { name = a.0.0; value = value.0 }, value.1)) (o, after) a.2 in
    let first = string_takes at a.0.0 a.0.1 fits a.1 in
    let second = string_takes a.0.1 b.0.0 b.0.1 first.0.rest_fits b.1 in
    let both = Took-then at a.0.1 b.0.1 (string a.0.0) (string b.0.0) first.0 second.0 in
    subst (λ (y : CertOption × Position). Took at (spelled_option y.0) y.1 × FitsOption y.0) (ok_is {E = WireError} (record { name = a.0.0; value = b.0.0 }, b.0.1) (o, after) b.2) (both, (first.1, second.1))

abbrev option_read : CertOption → ℕ → List ℕ → Read CertOption
option_read o place rest = Ok (o, record { place = place; rest = rest })

option_again : (o : CertOption) (place : ℕ) (rest : List ℕ) → FitsOption o
    → cert_option_at (record { place = place; rest = spelled_option o ++ rest }) ≡ Ok (o, record { place = place + length (spelled_option o); rest = rest })
option_again o place rest fits =
    let far : place + length (string o.name) + length (string o.value) ≡ place + length (spelled_option o) = omega (arith, length-append (string o.name) (string o.value)) in
    ap (λ (b : List ℕ). cert_option_at (record { place = place; rest = b })) (append_assoc (string o.name) (string o.value) rest)
    ∙ rw (string_again o.name place (string o.value ++ rest) fits.0, string_again o.value (place + length (string o.name)) rest fits.1) (ap (λ (k : ℕ). option_read o k rest) far)

abbrev with_name : List ℕ → List ℕ × Position → Read CertOption
with_name name value = Ok (record { name = name; value = value.0 }, value.1)

option_within : (at : Position) (e : WireError) → IsBytes at.rest → cert_option_at at ≡ Err e → e.place ≤ at.place + length at.rest
option_within at e fits h =
    elim (bind_err (string_at at) (λ name. string_at name.1 >>= with_name name.0) e h) [
      | inl first ↦ omega (arith, string_place at e first)
      | inr x ↦ following x.0.0 x.0.1 x.1 x.2
    ]
  where
    following : (name : List ℕ) (after : Position) → string_at at ≡ Ok (name, after) → (string_at after >>= with_name name) ≡ Err e → e.place ≤ at.place + length at.rest
    following name after read g =
        let t = string_takes at name after fits read in
        let long : length at.rest ≡ length (string name) + length after.rest = ap length t.0.parts ∙ length-append (string name) after.rest in
        elim (bind_err (string_at after) (with_name name) e g) [
          | inl second ↦ omega (arith, string_place after e second, t.0.place, long)
          | inr y ↦ absurd (let no : with_name name y.0 ≡ Err e = y.2 in cc)
        ]

pub option_item : IsItem spelled_option FitsOption cert_option_at
option_item = record {
  takes = option_takes;
  again = option_again;
  some = λ o. omega (arith, length-append (string o.name) (string o.value));
  within = option_within;
}

-- ---- the two laws

module _ {A : Type 0} (spelling : A → List ℕ) (Fits : A → Type 0) (item : Position → Read A) (is : IsItem spelling Fits item) where
  -- what is read is spelled so
  pub items_take : (turns place : ℕ) (rest : List ℕ) (xs : List A) → IsBytes rest → length rest ≤ turns → items_within item turns (record { place = place; rest = rest }) ≡ Ok xs
      → (rest ≡ flat_map spelling xs) × AllByRecursion Fits xs
  unfolding items_within
  items_take zero place rest xs fits enough e =
      let none : rest ≡ [] = nil_from_length rest (omega arith) in
      subst (λ (ys : List A). (rest ≡ flat_map spelling ys) × AllByRecursion Fits ys) (ok_is {E = WireError} [] xs e) (none, tt)
  items_take (suc turns) place [] xs fits enough e = subst (λ (ys : List A). ([] ≡ flat_map spelling ys) × AllByRecursion Fits ys) (ok_is {E = WireError} [] xs e) (refl, tt)
  items_take (suc turns) place (b ∷ rest) xs fits enough e =
      let at : Position = record { place = place; rest = b ∷ rest } in
      let a = bind_ok (item at) (λ first. items_within item turns first.1 >>= λ others. fine (first.0 ∷ others)) xs e in
      let c = bind_ok (items_within item turns a.0.1) (λ others. fine (a.0.0 ∷ others)) xs a.2 in
      let t = is.takes at a.0.0 a.0.1 fits a.1 in
      let long : length (b ∷ rest) ≡ length (spelling a.0.0) + length (a.0.1).rest = ap length t.0.parts ∙ length-append (spelling a.0.0) (a.0.1).rest in
      let deep = items_take turns (a.0.1).place (a.0.1).rest c.0 t.0.rest_fits (omega (arith, long, is.some a.0.0, enough)) c.1 in
      let whole : b ∷ rest ≡ flat_map spelling (a.0.0 ∷ c.0) = t.0.parts ∙ ap (λ (r : List ℕ). spelling a.0.0 ++ r) deep.0 ∙ sym (flat_map-cons spelling a.0.0 c.0) in
      subst (λ (ys : List A). (b ∷ rest ≡ flat_map spelling ys) × AllByRecursion Fits ys) (ok_is {E = WireError} (a.0.0 ∷ c.0) xs c.2) (whole, (t.1, deep.1))

  -- a step for an item
  one_turn : (turns place : ℕ) (rest : List ℕ) → rest ≢ [] → items_within item (suc turns) (record { place = place; rest = rest })
      ≡ (item (record { place = place; rest = rest }) >>= λ first. items_within item turns first.1 >>= λ others. fine (first.0 ∷ others))
  unfolding items_within
  one_turn turns place [] some = absurd (some refl)
  one_turn turns place (b ∷ rest) some = refl

  no_turn : (turns place : ℕ) → items_within item turns (record { place = place; rest = [] }) ≡ Ok []
  unfolding items_within
  no_turn zero place = refl
  no_turn (suc turns) place = refl

  -- what is spelled so is read
  pub items_again : (xs : List A) (turns place : ℕ) → AllByRecursion Fits xs → length (flat_map spelling xs) ≤ turns
      → items_within item turns (record { place = place; rest = flat_map spelling xs }) ≡ Ok xs
  items_again [] turns place fits enough = no_turn turns place
  items_again (x ∷ xs) zero place fits enough = absurd (omega (arith, is.some x, ap length (flat_map-cons spelling x xs), length-append (spelling x) (flat_map spelling xs)))
  items_again (x ∷ xs) (suc turns) place fits enough =
      let parts = flat_map-cons spelling x xs in
      let long = length-append (spelling x) (flat_map spelling xs) in
      let some : flat_map spelling (x ∷ xs) ≢ [] = λ e. absurd (omega (arith, is.some x, ap length parts, ap length e, long)) in
      let read : item (record { place = place; rest = flat_map spelling (x ∷ xs) }) ≡ Ok (x, record { place = place + length (spelling x); rest = flat_map spelling xs }) =
      ap (λ (r : List ℕ). item (record { place = place; rest = r })) parts ∙ is.again x place (flat_map spelling xs) fits.0 in
      let deep = items_again xs turns (place + length (spelling x)) fits.1 (omega (arith, is.some x, ap length parts, long, enough)) in
      one_turn turns place (flat_map spelling (x ∷ xs)) some ∙ rw (read, deep) refl

-- a number of steps above zero
record Turn (turns : ℕ) : Type 0 where
  before : ℕ
  counts : turns ≡ suc before

not_empty : (rest : List ℕ) → 0 < length rest → rest ≢ []
not_empty rest some e = absurd (omega (arith, ap length e))

turn_of : (turns : ℕ) (rest : List ℕ) → rest ≢ [] → length rest ≤ turns → Turn turns
turn_of zero rest some enough = absurd (some (nil_from_length rest (omega arith)))
turn_of (suc n) rest some enough = record { before = n; counts = refl }

-- the items that a text spells, if it does
abbrev pub items_of : {A : Type 0} → (Position → Read A) → List ℕ → List A
items_of item text = result_unwrap_or (items_in item text) []

-- ---- one item after the other

-- a step that did not fail
bound : {A B E : Type 0} (r : Result A E) (x : A) (f : A → Result B E) → r ≡ Ok x → (r >>= f) ≡ f x
bound r x f e = ap (λ (q : Result _ _). q >>= f) e

value_of : {A : Type 0} (r : Result A WireError) → IsOk r → (x : A) × (r ≡ Ok x)
value_of (Ok x) h = (x, refl)
value_of (Err e) h = absurd cc

module _ {A : Type 0} (spelling : A → List ℕ) (Fits : A → Type 0) (item : Position → Read A) (is : IsItem spelling Fits item) where
  -- a text that is read to its end has no wrong first item
  pub none_left : (text : List ℕ) (at : Position) (e : WireError) → at ≡ start text → IsOk (items_in item text) → item at ≡ Err e → items_of item text ≡ []
  none_left [] at e begin read refused = ap (λ (r : Result (List A) WireError). result_unwrap_or r []) (no_turn spelling Fits item is 0 0)
  none_left (b ∷ rest) at e begin read refused =
      let some : b ∷ rest ≢ [] = λ no. absurd cc in
      let one : items_in item (b ∷ rest) ≡ Err e = one_turn spelling Fits item is (length rest) 0 (b ∷ rest) some ∙ rw (sym (ap item begin) ∙ refused) refl in
      absurd (let no : IsOk {T = List A} (Err e) = subst (λ (r : Result (List A) WireError). IsOk r) one read in cc)

  pub record Next (text : List ℕ) (x : A) (following : List ℕ) : Type 0 where
    pub first : items_of item text ≡ x ∷ items_of item following
    pub read : IsOk (items_in item following)

  -- the first item, and the text after it
  pub next_left : (text : List ℕ) (at : Position) (x : A) (after : Position) → at ≡ start text → IsBytes text → IsOk (items_in item text) → item at ≡ Ok (x, after) → Next text x after.rest
  next_left text at x after begin fits read found =
      let first : item (start text) ≡ Ok (x, after) = sym (ap item begin) ∙ found in
      let t = is.takes (start text) x after fits first in
      let all = value_of (items_in item text) read in
      let spelled = items_take spelling Fits item is (length text) 0 text all.0 fits (omega arith) all.1 in
      let long : length text ≡ length (spelling x) + length after.rest = ap length t.0.parts ∙ length-append (spelling x) after.rest in
      let some : text ≢ [] = λ e. absurd (omega (arith, ap length e, long, is.some x)) in
      let turn = turn_of (length text) text some (omega arith) in
      let one : items_in item text ≡ (items_within item turn.before after >>= λ others. fine (x ∷ others)) =
      ap (λ (n : ℕ). items_within item n (start text)) turn.counts ∙ one_turn spelling Fits item is turn.before 0 text some ∙ bound (item (start text)) (x, after) (λ next. items_within item turn.before next.1 >>= λ others. fine (next.0 ∷ others)) first in
      let others = bind_ok (items_within item turn.before after) (λ others. fine (x ∷ others)) all.0 (sym one ∙ all.1) in
      let following = items_take spelling Fits item is turn.before after.place after.rest others.0 t.0.rest_fits (omega (arith, long, is.some x, turn.counts)) others.1 in
      let again : items_in item after.rest ≡ Ok others.0 =
      ap (λ (r : List ℕ). items_in item r) following.0 ∙ items_again spelling Fits item is others.0 (length (flat_map spelling others.0)) 0 following.1 (omega arith) ∙ refl in
      let all_are : items_in item text ≡ Ok (x ∷ others.0) = one ∙ ap (λ (r : Result (List A) WireError). r >>= λ ys. fine (x ∷ ys)) others.1 in
      record {
        first = ap (λ (r : Result (List A) WireError). result_unwrap_or r []) all_are ∙ ap (λ (ys : List A). x ∷ ys) (sym (ap (λ (r : Result (List A) WireError). result_unwrap_or r []) again));
        read = subst (λ (r : Result (List A) WireError). IsOk r) (sym again) refl;
      }

-- ---- a loop over the items

-- what is still to be read decides as all of the text does
pub record GoesOn {A : Type 0} (item : Position → Read A) (text : List ℕ) (at : Position) : Type 0 where
  pub turns : ℕ
  pub enough : length at.rest ≤ turns
  pub same : without_items (items_within item turns at) ≡ without_items (items_in item text)
  pub inside : at.place + length at.rest ≡ length text
  pub fits : IsBytes at.rest

pub begins : {A : Type 0} (item : Position → Read A) (text : List ℕ) → IsBytes text → GoesOn item text (start text)
begins item text fits = record { turns = length text; enough = omega arith; same = refl; inside = omega arith; fits = fits }

without_more : {A B : Type 0} (r : Result A WireError) (f : A → B) → without_items (r >>= λ x. fine (f x)) ≡ without_items r
without_more (Ok x) f = refl
without_more (Err e) f = refl

module _ {A : Type 0} (spelling : A → List ℕ) (Fits : A → Type 0) (item : Position → Read A) (is : IsItem spelling Fits item) where
  pub goes_on : (text : List ℕ) (at : Position) (x : A) (after : Position) → 0 < length at.rest → item at ≡ Ok (x, after) → GoesOn item text at → GoesOn item text after
  goes_on text at x after some read on =
      let t = is.takes at x after on.fits read in
      let long : length at.rest ≡ length (spelling x) + length after.rest = ap length t.0.parts ∙ length-append (spelling x) after.rest in
      let turn = turn_of on.turns at.rest (not_empty at.rest some) on.enough in
      let one : items_within item on.turns at ≡ (items_within item turn.before after >>= λ others. fine (x ∷ others)) =
      ap (λ (n : ℕ). items_within item n at) turn.counts ∙ one_turn spelling Fits item is turn.before at.place at.rest (not_empty at.rest some) ∙ rw read refl in
      record {
        turns = turn.before;
        enough = omega (arith, long, is.some x, on.enough, turn.counts);
        same = sym (without_more (items_within item turn.before after) (λ others. x ∷ others)) ∙ sym (ap (λ (r : Result (List A) WireError). without_items r) one) ∙ on.same;
        inside = omega (arith, t.0.place, long, on.inside);
        fits = t.0.rest_fits;
      }

  -- fewer bytes are left after an item
  pub shorter : (text : List ℕ) (at : Position) (x : A) (after : Position) → item at ≡ Ok (x, after) → GoesOn item text at → length after.rest < length at.rest
  shorter text at x after read on =
      let t = is.takes at x after on.fits read in
      omega (arith, ap length t.0.parts, length-append (spelling x) after.rest, is.some x)

  pub ends : (text : List ℕ) (at : Position) (e : WireError) → 0 < length at.rest → item at ≡ Err e → GoesOn item text at → (Err e ≡ without_items (items_in item text)) × (e.place ≤ length text)
  ends text at e some read on =
      let turn = turn_of on.turns at.rest (not_empty at.rest some) on.enough in
      let one : items_within item on.turns at ≡ Err e = ap (λ (n : ℕ). items_within item n at) turn.counts ∙ one_turn spelling Fits item is turn.before at.place at.rest (not_empty at.rest some) ∙ rw read refl in
      (sym (ap (λ (r : Result (List A) WireError). without_items r) one) ∙ on.same, omega (arith, is.within at e on.fits read, on.inside))

  pub is_done : (text : List ℕ) (at : Position) → length at.rest ≡ 0 → GoesOn item text at → Ok tt ≡ without_items (items_in item text)
  is_done text at none on =
      let one : items_within item on.turns at ≡ Ok [] = ap (λ (r : List ℕ). items_within item on.turns (record { place = at.place; rest = r })) (nil_from_length at.rest none) ∙ no_turn spelling Fits item is on.turns at.place in
      sym (ap (λ (r : Result (List A) WireError). without_items r) one) ∙ on.same

-- ---- what a string holds that is read to its end

module _ {A : Type 0} (spelling : A → List ℕ) (Fits : A → Type 0) (item : Position → Read A) (is : IsItem spelling Fits item) where
  unpacked_by : (packed : List ℕ) (r : Result (List A) WireError) → items_in item packed ≡ r → IsBytes packed → IsOk r → packed ≡ flat_map spelling (result_unwrap_or r [])
  unpacked_by packed (Ok xs) e fits read = (items_take spelling Fits item is (length packed) 0 packed xs fits (omega arith) e).0
  unpacked_by packed (Err f) e fits read = absurd cc

  -- it packs its items
  pub unpacked : (packed : List ℕ) → IsBytes packed → IsOk (items_in item packed) → packed ≡ flat_map spelling (result_unwrap_or (items_in item packed) [])
  unpacked packed fits read = unpacked_by packed (items_in item packed) refl fits read
