-- A packed list as a field of a certificate: its place, its errors, and its two laws.
use Rattle.ssh_certs.proofs.Imports.{◌≡◌, ℕ, ◌+◌, ◌-◌, ◌^◌, ◌<◌, ◌≤◌, cond, ltb, List, [], ◌∷◌, ◌++◌, length, take, Result, Ok, Err, refl, ap, subst, arith, w32, byte_len, from_be_bytes, flat_map, AllByRecursion, ltb-false, length-append, length-take, Short, WireError, string, Position, advance, ◌>>=◌, Read, fault, number_at, IsBytes, Took, bind_ok, guard_ok, ok_is, fine, string_takes, string_again, string_fits, CertError, as_fault, as_cert_error, items_in, without_items}
use Rattle.ssh_wire.specs.Reading.{string_at}
use Rattle.ssh_certs.specs.CertificateReading.{packed_at}
use Rattle.ssh_certs.proofs.Items.{IsItem, items_take, items_again}

-- the value of a result whose error is of another type
pub as_fault_ok : {A E F : Type 0} (f : E → F) (r : Result A E) (y : A) → as_fault f r ≡ Ok y → r ≡ Ok y
as_fault_ok {A} {E} {F} f (Ok x) y e = ap (λ (z : A). fine z) (ok_is {E = F} x y e)
as_fault_ok f (Err d) y e = absurd cc

-- a string lies after its four bytes of length
pub string_after : (at : Position) (text : List ℕ) (after : Position) → string_at at ≡ Ok (text, after) → after.place ≡ at.place + 4 + length text
unfolding string_at
string_after at text after e =
    let b = bind_ok (number_at w32 at) (λ len. cond (ltb (length (len.1).rest) len.0) (fault at Short) (Ok (take len.0 (len.1).rest, advance len.1 len.0))) (text, after) e in
    let n = b.0.0 in
    let middle = b.0.1 in
    let size = byte_len w32 in
    let first = guard_ok (ltb (length at.rest) size) (record { place = at.place; cause = Short }) (from_be_bytes w32 (take size at.rest), advance at size) b.0 b.1 in
    let second = guard_ok (ltb (length middle.rest) n) (record { place = at.place; cause = Short }) (take n middle.rest, advance middle n) (text, after) b.2 in
    let long : n ≤ length middle.rest = ltb-false _ _ second.0 in
    let len : length (take n middle.rest) ≡ n = omega (arith, length-take n middle.rest) in
    let text_len : length (take n middle.rest) ≡ length text = ap (λ (x : List ℕ × Position). length x.0) second.1 in
    let here : at.place + 4 ≡ middle.place = ap (λ (x : ℕ × Position). (x.1).place) first.1 in
    let there : middle.place + n ≡ after.place = ap (λ (x : List ℕ × Position). (x.1).place) second.1 in
    omega arith

refused : {A : Type 0} (r : Result A WireError) (e : WireError) → Err e ≡ without_items r → r ≡ Err e
refused (Ok x) e h = absurd cc
refused (Err d) e h = cc

-- a wrong string of a packed list
pub packed_refused : {A : Type 0} (item : Position → Read A) (list_fault : ℕ → CertError) (at : Position) (text : List ℕ) (after : Position) (e : WireError) (end : ℕ) → string_at at ≡ Ok (text, after)
    → Err e ≡ without_items (items_in item text) → end ≡ after.place → packed_at item list_fault at ≡ Err (list_fault (end - length text + e.place))
unfolding packed_at
packed_refused {A} item list_fault at text after e end read h ends =
    let none = refused (items_in item text) e h in
    let place : at.place + 4 + e.place ≡ end - length text + e.place = omega (arith, string_after at text after read, ends) in
    rw (read, none) (ap (λ (k : ℕ). Err (list_fault k)) place)

-- ---- the two laws

module _ {A : Type 0} (spelling : A → List ℕ) (Fits : A → Type 0) (item : Position → Read A) (is : IsItem spelling Fits item) (list_fault : ℕ → CertError) where
  -- what is read is the string of the packed items
  pub packed_takes : (at : Position) (xs : List A) (after : Position) → IsBytes at.rest → packed_at item list_fault at ≡ Ok (xs, after) → Took at (string (flat_map spelling xs)) after
  unfolding packed_at
  packed_takes at xs after fits e =
      let inner = λ (text : List ℕ × Position). as_fault (λ e. list_fault (at.place + 4 + e.place)) (items_in item text.0) in
      let a = bind_ok (as_cert_error (string_at at)) (λ text. inner text >>= λ items. fine (items, text.1)) (xs, after) e in
      let b = bind_ok (inner a.0) (λ items. fine (items, a.0.1)) (xs, after) a.2 in
      let read = as_fault_ok (λ e. list_fault (at.place + 4 + e.place)) (items_in item a.0.0) b.0 b.1 in
      let t = string_takes at a.0.0 a.0.1 fits (as_fault_ok _ (string_at at) a.0 a.1) in
      let text_fits = string_fits at a.0.0 a.0.1 fits t.0 in
      let items = items_take spelling Fits item is (length a.0.0) 0 a.0.0 b.0 text_fits (omega arith) read in
      subst (λ (y : List A × Position). Took at (string (flat_map spelling y.0)) y.1) (ok_is {E = CertError} (b.0, a.0.1) (xs, after) b.2)
      (subst (λ (text : List ℕ). Took at (string text) a.0.1) items.0 t.0)

  -- packed items are read as those items
  pub packed_again : (xs : List A) (place : ℕ) (rest : List ℕ) → AllByRecursion Fits xs → length (flat_map spelling xs) < 2 ^ 32
      → packed_at item list_fault (record { place = place; rest = string (flat_map spelling xs) ++ rest }) ≡ Ok (xs, record { place = place + length (string (flat_map spelling xs)); rest = rest })
  unfolding packed_at
  packed_again xs place rest fits short =
      let read = items_again spelling Fits item is xs (length (flat_map spelling xs)) 0 fits (omega arith) in
      rw (string_again (flat_map spelling xs) place rest short, read) refl

-- items of a list that is short enough are short enough
pub all_fit : {A : Type 0} (spelling : A → List ℕ) (Fits : A → Type 0) (limit : ℕ) → ((x : A) → length (spelling x) ≤ limit → Fits x) → (xs : List A) → length (flat_map spelling xs) ≤ limit → AllByRecursion Fits xs
all_fit spelling Fits limit each [] short = tt
all_fit spelling Fits limit each (x ∷ xs) short =
    let long = length-append (spelling x) (flat_map spelling xs) in
    (each x (omega (arith, long, short)), all_fit spelling Fits limit each xs (omega (arith, long, short)))
