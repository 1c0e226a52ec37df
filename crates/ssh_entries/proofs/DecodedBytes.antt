-- What base64 decodes to are bytes.
use Rattle.ssh_entries.proofs.Imports.{◌≡◌, ℕ, zero, suc, ◌+◌, ◌*◌, ◌/◌, ◌<◌, List, [], ◌∷◌, ◌++◌, length, take, drop, slice_index, Option, Some, None, Result, Ok, Err, refl, subst, arith, inl, inr, cases_lt, get_or-drop, get_or-take, get_or_past, length-take, IsBytes, decode_of, standard, DecodeError, IsDecodeTable, or_else, symbol_error, group_error, group_bytes, groups_before_last, decode_group, decode_outcome, lone_error, push_leftover, scan_bytes, suffix_bytes, leftover_bytes, no_leftover, IsLeftover, IsDecodeTable_from, are_tables_inverse}
use Rattle.std.proofs.Common.{◌⊎◌, ◌≤◌, ◌==◌, nat_lt, slice_set, ap}
use Rattle.std.proofs.lemmas.List.{get_or-set_same, get_or-set_other, set_past}
use Rattle.std.proofs.lemmas.Bool.{cases_Bool, cases_eq, ltb-false}
use Rattle.base64.proofs.Decoding.{ok_value}
use Rattle.base64.specs.Decode.{groups_error, groups_bytes, scan_steps}

abbrev AreSmall : ℕ → ℕ → ℕ → ℕ → Type 0
AreSmall a b c d = (a < 64) × (b < 64) × (c < 64) × (d < 64)

group-bytes : (a b c d : ℕ) → AreSmall a b c d → IsBytes (decode_group a b c d)
group-bytes a b c d s zero = omega (arith, s.0, s.1)
group-bytes a b c d s (suc zero) = omega (arith, s.1, s.2)
group-bytes a b c d s (suc (suc zero)) = omega (arith, s.2, s.3)
group-bytes a b c d s (suc (suc (suc i))) = omega arith

append-bytes : (a b : List ℕ) → IsBytes a → IsBytes b → IsBytes (a ++ b)
append-bytes [] b h k i = k i
append-bytes (x ∷ a) b h k zero = h 0
append-bytes (x ∷ a) b h k (suc i) = append-bytes a b (λ j. h (suc j)) k i

take-bytes : (n : ℕ) (b : List ℕ) → IsBytes b → IsBytes (take n b)
take-bytes n b h i =
    elim (cases_lt i n) [
      | inl lt ↦ rw (get_or-take n b i 0 lt) (h i)
      | inr le ↦ rw (get_or_past (take n b) i 0 (omega (arith, length-take n b))) (omega arith)
    ]

none-parts : (x y : Option DecodeError) → or_else x y ≡ None → (x ≡ None) × (y ≡ None)
none-parts None y h = (refl, h)
none-parts (Some e) y h = cc

-- each entry of the table, and what stands for one past its end, is a value or none
abbrev IsTable : List ℕ → Type 0
IsTable dec = (x : ℕ) → (slice_index dec x ≡ 255) ⊎ (slice_index dec x < 64)

whole-table : (dec : List ℕ) → length dec ≤ 256 → IsDecodeTable dec → IsTable dec
whole-table dec short table x =
    elim (cases_lt x 256) [
      | inl lt ↦ table x lt
      | inr le ↦ inr (rw (get_or_past dec x 0 (omega (arith, short, le))) (omega arith))
    ]

symbol-small : (dec s : List ℕ) (i : ℕ) → IsTable dec → symbol_error dec s i ≡ None → slice_index dec (slice_index s i) < 64
symbol-small dec s i table none =
    elim (table (slice_index s i)) [
      | inl bad ↦ cc (rw bad at none)
      | inr small ↦ small
    ]

groups-bytes : (dec s : List ℕ) (q : ℕ) → IsTable dec → groups_error dec s q ≡ None → IsBytes (groups_bytes dec s q)
unfolding groups_error groups_bytes
groups-bytes dec s zero table none i = omega arith
groups-bytes dec s (suc q) table none k =
    let i : ℕ = 4 * q in
    let parts = none-parts (groups_error dec s q) (group_error dec s i) none in
    let p0 = none-parts (symbol_error dec s i) _ parts.1 in
    let p1 = none-parts (symbol_error dec s (i + 1)) _ p0.1 in
    let p2 = none-parts (symbol_error dec s (i + 2)) (symbol_error dec s (i + 3)) p1.1 in
    append-bytes (groups_bytes dec s q) (group_bytes dec s i) (groups-bytes dec s q table parts.0)
    (group-bytes _ _ _ _ (
      symbol-small dec s i table p0.0,
      symbol-small dec s (i + 1) table p1.0,
      symbol-small dec s (i + 2) table p2.0,
      symbol-small dec s (i + 3) table p2.1,
    )) k

leftover-bytes : (st : _) (i : ℕ) → IsLeftover st i → IsBytes (leftover_bytes st)
leftover-bytes st i held =
    take-bytes (st.morsels_count * 6 / 8) (decode_group (slice_index st.morsels 0) (slice_index st.morsels 1) (slice_index st.morsels 2) (slice_index st.morsels 3))
    (group-bytes _ _ _ _ (held.3 0, held.3 1, held.3 2, held.3 3))

failed-bytes : (dec : List ℕ) (pad at : ℕ) (bs : List ℕ) (e : DecodeError) (i : ℕ) → IsBytes (scan_bytes (scan_steps dec pad at (Err e) i bs))
unfolding scan_steps
failed-bytes dec pad at [] e i k = omega arith
failed-bytes dec pad at (b ∷ bs) e i k = omega arith

set-held : (xs : List ℕ) (i v k : ℕ) → ((j : ℕ) → slice_index xs j < 64) → v < 64 → slice_index (slice_set xs i v) k < 64
set-held xs i v k all small = elim (cases_eq k i) [
  | inl same ↦ elim (cases_lt i (length xs)) [
    | inl fits ↦ rw (same, get_or-set_same xs i v 0 fits) small
    | inr past ↦ rw (set_past xs i v past) (all k)
  ]
  | inr other ↦ rw (get_or-set_other xs i k v 0 other) (all k)
]

next-held : (dec : List ℕ) (pad at : ℕ) (st : _) (i b : ℕ) (next : _) → IsTable dec → IsLeftover st i → push_leftover dec pad at st i b ≡ Ok next → IsLeftover next (i + 1)
next-held dec pad at st i b next table held e = elim (cases_Bool (b == pad)) [
  | inl p ↦ elim (cases_Bool (nat_lt i 2)) [
    | inl l ↦ cc (rw (p, l) at e)
    | inr l ↦
        let r = rw (p, l) at e in
        let below : 2 ≤ i = ltb-false i 2 l in
        let n = ap (λ (x : Result _ DecodeError). ok_value x st) r in
        elim (cases_Bool (st.padding_count == 0)) [
          | inl z ↦ rw (← n, z) (omega (arith, held.0), omega (arith, held.1), omega (arith, held.2), held.3)
          | inr z ↦ rw (← n, z) (omega (arith, held.0), omega (arith, held.1), omega (arith, held.2), held.3)
        ]
  ]
  | inr p ↦ elim (cases_Bool (nat_lt 0 st.padding_count)) [
    | inl a ↦ cc (rw (p, a) at e)
    | inr a ↦ elim (cases_Bool (slice_index dec b == 255)) [
      | inl v ↦ cc (rw (p, a, v) at e)
      | inr v ↦
          let r = rw (p, a, v) at e in
          let n = ap (λ (x : Result _ DecodeError). ok_value x st) r in
          let small : slice_index dec b < 64 = elim (table b) [ inl f ↦ cc (rw f at v) | inr s ↦ s ] in
          rw (← n) (omega (arith, held.0), omega (arith, held.1), omega (arith, held.2), λ k. set-held st.morsels st.morsels_count (slice_index dec b) k held.3 small)
    ]
  ]
]

next-bytes : (dec : List ℕ) (pad at : ℕ) (b : ℕ) (bs : List ℕ) (st : _) (i : ℕ) (r : Result _ DecodeError) → IsTable dec → IsLeftover st i
    → push_leftover dec pad at st i b ≡ r → ((next : _) → IsLeftover next (i + 1) → IsBytes (scan_bytes (scan_steps dec pad at (Ok next) (i + 1) bs)))
    → IsBytes (scan_bytes (scan_steps dec pad at r (i + 1) bs))
next-bytes dec pad at b bs st i (Err e) table held h ih = failed-bytes dec pad at bs e (i + 1)
next-bytes dec pad at b bs st i (Ok next) table held h ih = ih next (next-held dec pad at st i b next table held h)

scanned-bytes : (dec : List ℕ) (pad at : ℕ) (bs : List ℕ) (st : _) (i : ℕ) → IsTable dec → IsLeftover st i
    → IsBytes (scan_bytes (scan_steps dec pad at (Ok st) i bs))
unfolding scan_steps
scanned-bytes dec pad at [] st i table held = leftover-bytes st i held
scanned-bytes dec pad at (b ∷ bs) st i table held =
    next-bytes dec pad at b bs st i (push_leftover dec pad at st i b) table held refl
    (λ next fits. scanned-bytes dec pad at bs next (i + 1) table fits)

no_leftover-held : IsLeftover no_leftover 0
no_leftover-held = (omega arith, omega arith, omega arith, zeros)
  where
    zeros : (k : ℕ) → slice_index no_leftover.morsels k < 64
    zeros zero = omega arith
    zeros (suc zero) = omega arith
    zeros (suc (suc zero)) = omega arith
    zeros (suc (suc (suc zero))) = omega arith
    zeros (suc (suc (suc (suc k)))) = omega arith

suffix-bytes : (dec s : List ℕ) (pad at : ℕ) → IsTable dec → IsBytes (suffix_bytes dec pad at s)
suffix-bytes dec s pad at table = scanned-bytes dec pad at (drop at s) no_leftover 0 table no_leftover-held

outcome : (x : Option DecodeError) (d b : List ℕ) → decode_outcome x d ≡ Ok b → (x ≡ None) × (d ≡ b)
outcome None d b h = (refl, cc)
outcome (Some e) d b h = cc

standard-length : length standard.decode_table ≤ 256
standard-length = omega arith

-- what any text decodes to are bytes
pub decoded-bytes : (text blob : List ℕ) → decode_of standard text ≡ Ok blob → IsBytes blob
decoded-bytes text blob h =
    let dec = standard.decode_table in
    let table : IsTable dec = whole-table dec standard-length (IsDecodeTable_from standard.encode_table dec (are_tables_inverse standard.encode_table dec standard.padding.value standard.tables)) in
    let parts = outcome _ _ blob h in
    let groups = none-parts (groups_error dec text (groups_before_last (length text))) _ ((none-parts (lone_error dec standard.padding.value text) _ parts.0).1) in
    subst IsBytes parts.1
    (append-bytes _ _ (groups-bytes dec text (groups_before_last (length text)) table groups.0)
    (suffix-bytes dec text standard.padding.value (4 * groups_before_last (length text)) table))
