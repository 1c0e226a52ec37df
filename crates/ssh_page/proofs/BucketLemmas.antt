-- Rows with a key in buckets by the byte that the key begins with: sorted, one bucket behind the other, they are in the order of keys.
use Rattle.std.proofs.Common.{◌≡◌, ◌∙◌, ◌==◌, ◌+◌, ◌^◌, ◌<◌, ◌≤◌, ℕ, zero, suc, Bool, true, false, cond, List, [], ◌∷◌, ◌++◌, map, filter, length, length-append, replicate, get_or, set, refl, ap, ap₂, sym, subst, arith, add-one, append_assoc, append-nil, is_lt, nat_cmp, Option, Some, None, fold, option_to_list, take, drop, take_all, Vec, Less, Equal, Greater}
use Rattle.std.specs.Prelude.{bytes_eq}
use Rattle.std.specs.Cmp.Lexicographic.{bytes_decides, slice_cmp}
use Rattle.std.specs.Cmp.{nat_cmp_total}
use Rattle.std.specs.Ordering.{ordering_reverse, ordering_then}
use Rattle.std.specs.List.{AllByRecursion}
use Rattle.std.specs.List.Sorted.{ties}
use Rattle.std.proofs.lemmas.Bool.{lt-ltb}
use Rattle.std.specs.declared.alloc.Global.{Global}
use Rattle.std.proofs.lemmas.List.{get_or-map, map-append, map-set}
use Rattle.std.proofs.lemmas.List.Elements.{filter-append}
use Rattle.ssh_page.specs.declared.key_rows.KeyRow.{KeyRow}
use Rattle.ssh_page.specs.declared.piece.Piece.TheVariants as piece
use Rattle.ssh_page.specs.Buckets.{ArePlaced, AreSameByKey, bucket_seen, first_byte, joined, with_row}
use Rattle.ssh_page.specs.KeyGroups.{KeyGroupSeen, alike, by_key, group_of, has_key, key_before, put_first, runs}
use Rattle.ssh_page.specs.FoundRows.{after_piece}
use Rattle.ssh_page.specs.KeyRows.{KeyRowSeen, key_row, row_seen, rows_in}
use Rattle.ssh_page.specs.Pieces.{mark}
use Rattle.ssh_page.specs.Sorting.{in_order, put_before}
use Rattle.ssh_page.proofs.GroupLemmas.{all-from, all-ordered, key-kept, key-order, own-key, same-filter, tie-key}
use Rattle.ssh_page.proofs.RunLemmas.{run-first}
use Rattle.ssh_page.proofs.ScanLemmas.{rows_found, rows_none}
use Rattle.ssh_page.proofs.StableLemmas.{NoneBefore, Rises, rises-in_order, unique}

-- ---- buckets without rows

abbrev pub no_rows : ℕ → List (List KeyRowSeen)
no_rows n = replicate n []

pub one_more_empty : (n : ℕ) → no_rows n ++ [] ∷ [] ≡ no_rows (n + 1)
one_more_empty n = go n ∙ ap no_rows (sym (add-one n))
  where
    go : (n : ℕ) → no_rows n ++ [] ∷ [] ≡ no_rows (suc n)
    go zero = refl
    go (suc n) = ap (λ l. [] ∷ l) (go n)

pub empty_placed : (n byte : ℕ) → ArePlaced byte (no_rows n)
empty_placed zero byte = tt
empty_placed (suc n) byte = (tt, empty_placed n (suc byte))

pub empty_joined : (n : ℕ) → joined (no_rows n) ≡ []
empty_joined zero = refl
empty_joined (suc n) = empty_joined n

-- ---- one more row

all-end : {X : Type 0} (P : X → Type 0) (xs : List X) (x : X) → AllByRecursion P xs → P x → AllByRecursion P (xs ++ x ∷ [])
all-end P [] x h own = (own, tt)
all-end P (y ∷ xs) x h own = (h.0, all-end P xs x h.1 own)

all-both : {X : Type 0} (P : X → Type 0) (xs ys : List X) → AllByRecursion P xs → AllByRecursion P ys → AllByRecursion P (xs ++ ys)
all-both P [] ys h k = k
all-both P (x ∷ xs) ys h k = (h.0, all-both P xs ys h.1 k)

placed-set : (byte i : ℕ) (r : KeyRowSeen) (buckets : List (List KeyRowSeen)) → first_byte r ≡ byte + i → ArePlaced byte buckets
    → ArePlaced byte (set buckets i (get_or buckets i [] ++ r ∷ []))
placed-set byte i r [] e h = tt
placed-set byte zero r (rows ∷ buckets) e h = (all-end (λ s. first_byte s ≡ byte) rows r h.0 (omega (arith, e)), h.1)
placed-set byte (suc i) r (rows ∷ buckets) e h = (h.0, placed-set (suc byte) i r buckets (omega (arith, e)) h.1)

-- a row that begins with another byte has another key
other-key : (key : List ℕ) (r s : KeyRowSeen) → has_key key r ≡ true → first_byte r < first_byte s → has_key key s ≡ false
other-key key r s own less = go (has_key key s) refl
  where
    go : (b : Bool) → has_key key s ≡ b → has_key key s ≡ false
    go false e = e
    go true e =
        let same : r.key ≡ s.key = (bytes_decides r.key key).0 own ∙ sym ((bytes_decides s.key key).0 e) in
        let bytes : first_byte r ≡ first_byte s = ap (λ k. get_or k 0 0) same in
        absurd (omega (arith, less, bytes))

none-here : (key : List ℕ) (r : KeyRowSeen) (byte : ℕ) (rows : List KeyRowSeen) → has_key key r ≡ true → first_byte r < byte → AllByRecursion (λ s. first_byte s ≡ byte) rows
    → filter (has_key key) rows ≡ []
none-here key r byte [] own less h = refl
none-here key r byte (s ∷ rows) own less h =
    ap (λ b. cond b (s ∷ filter (has_key key) rows) (filter (has_key key) rows)) (other-key key r s own (omega (arith, less, h.0))) ∙ none-here key r byte rows own less h.1

none-behind : (key : List ℕ) (r : KeyRowSeen) (byte : ℕ) (buckets : List (List KeyRowSeen)) → has_key key r ≡ true → first_byte r < byte → ArePlaced byte buckets
    → filter (has_key key) (joined buckets) ≡ []
none-behind key r byte [] own less h = refl
none-behind key r byte (rows ∷ buckets) own less h =
    filter-append (has_key key) rows (joined buckets)
    ∙ ap₂ (λ a b. a ++ b) (none-here key r byte rows own less h.0) (none-behind key r (suc byte) buckets own (omega (arith, less)) h.1)

-- a row and those of later buckets
changes-place : (key : List ℕ) (r : KeyRowSeen) (byte : ℕ) (buckets : List (List KeyRowSeen)) → first_byte r < byte → ArePlaced byte buckets
    → filter (has_key key) (r ∷ []) ++ filter (has_key key) (joined buckets) ≡ filter (has_key key) (joined buckets) ++ filter (has_key key) (r ∷ [])
changes-place key r byte buckets less h = go (has_key key r) refl
  where
    go : (b : Bool) → has_key key r ≡ b
        → cond b (r ∷ []) [] ++ filter (has_key key) (joined buckets) ≡ filter (has_key key) (joined buckets) ++ cond b (r ∷ []) []
    go true e = let none = none-behind key r byte buckets e less h in ap (λ l. (r ∷ []) ++ l) none ∙ sym (ap (λ l. l ++ r ∷ []) none)
    go false e = sym (append-nil (filter (has_key key) (joined buckets)))

put-same : (key : List ℕ) (byte i : ℕ) (r : KeyRowSeen) (buckets : List (List KeyRowSeen)) → i < length buckets → first_byte r ≡ byte + i → ArePlaced byte buckets
    → filter (has_key key) (joined (set buckets i (get_or buckets i [] ++ r ∷ []))) ≡ filter (has_key key) (joined buckets ++ r ∷ [])
put-same key byte i r [] few e h = absurd (omega (arith, few))
put-same key byte zero r (rows ∷ buckets) few e h =
    let kept = filter (has_key key) in
    let others = joined buckets in
    filter-append (has_key key) (rows ++ r ∷ []) others
    ∙ ap (λ l. l ++ kept others) (filter-append (has_key key) rows (r ∷ []))
    ∙ append_assoc (kept rows) (kept (r ∷ [])) (kept others)
    ∙ ap (λ l. kept rows ++ l) (changes-place key r (suc byte) buckets (omega (arith, e)) h.1)
    ∙ sym (append_assoc (kept rows) (kept others) (kept (r ∷ [])))
    ∙ ap (λ l. l ++ kept (r ∷ [])) (sym (filter-append (has_key key) rows others))
    ∙ sym (filter-append (has_key key) (rows ++ others) (r ∷ []))
put-same key byte (suc i) r (rows ∷ buckets) few e h =
    let kept = filter (has_key key) in
    let others = joined (set buckets i (get_or buckets i [] ++ r ∷ [])) in
    filter-append (has_key key) rows others
    ∙ ap (λ l. kept rows ++ l) (put-same key (suc byte) i r buckets (omega (arith, few)) (omega (arith, e)) h.1)
    ∙ sym (filter-append (has_key key) rows (joined buckets ++ r ∷ []))
    ∙ ap kept (sym (append_assoc rows (joined buckets) (r ∷ [])))

-- the row that was found, if one was
pub found_placed : (row : Option KeyRowSeen) (buckets : List (List KeyRowSeen)) → ArePlaced 0 buckets → ArePlaced 0 (fold with_row buckets (option_to_list row))
found_placed None buckets h = h
found_placed (Some r) buckets h = placed-set 0 (first_byte r) r buckets (omega arith) h

pub found_same : (row : Option KeyRowSeen) (buckets : List (List KeyRowSeen)) (rest all : List KeyRowSeen) → length buckets ≡ 256
    → AllByRecursion (λ r. first_byte r < 256) (option_to_list row) → ArePlaced 0 buckets
    → AreSameByKey (joined buckets ++ (option_to_list row ++ rest)) all → AreSameByKey (joined (fold with_row buckets (option_to_list row)) ++ rest) all
found_same None buckets rest all long few h same key = same key
found_same (Some r) buckets rest all long few h same key =
    let kept = filter (has_key key) in
    let more = joined (with_row buckets r) in
    filter-append (has_key key) more rest
    ∙ ap (λ l. l ++ kept rest) (put-same key 0 (first_byte r) r buckets (omega (arith, long, few.0)) (omega arith) h)
    ∙ sym (filter-append (has_key key) (joined buckets ++ r ∷ []) rest)
    ∙ ap kept (append_assoc (joined buckets) (r ∷ []) rest)
    ∙ same key

-- a row behind those of a bucket in memory
pub row_put : (n : ℕ) (buckets : List (Vec KeyRow Global)) (bucket more : Vec KeyRow Global) (row : KeyRow) (found : Option KeyRowSeen) → n < length buckets
    → n ≡ first_byte (row_seen row) → bucket ≡ get_or buckets n bucket → more.items ≡ bucket.items ++ row ∷ [] → Some (row_seen row) ≡ found
    → map bucket_seen (set buckets n more) ≡ fold with_row (map bucket_seen buckets) (option_to_list found)
row_put n buckets bucket more row found few first here pushed is =
    let seen = map bucket_seen buckets in
    let own : bucket_seen more ≡ get_or seen n [] ++ row_seen row ∷ [] =
    ap (map row_seen) pushed ∙ map-append row_seen bucket.items (row ∷ [])
    ∙ ap (λ l. l ++ row_seen row ∷ []) (ap bucket_seen here ∙ sym (get_or-map bucket_seen buckets n bucket [] few)) in
    map-set bucket_seen buckets n more
    ∙ ap (set seen n) own
    ∙ ap (λ m. set seen m (get_or seen m [] ++ row_seen row ∷ [])) first
    ∙ ap (λ o. fold with_row seen (option_to_list o)) is

-- behind one more row of the sections
pub rows_behind : (text row : List ℕ) (buckets : List (List KeyRowSeen)) (all : List KeyRowSeen) → Some row ≡ after_piece piece.Row text → length buckets ≡ 256
    → AllByRecursion (λ r. first_byte r < 256) (option_to_list (key_row row)) → ArePlaced 0 buckets → AreSameByKey (joined buckets ++ rows_in text) all
    → AreSameByKey (joined (fold with_row buckets (option_to_list (key_row row))) ++ rows_in row) all
rows_behind text row buckets all at long few h same =
    found_same (key_row row) buckets (rows_in row) all long few h (subst (λ l. AreSameByKey (joined buckets ++ l) all) (rows_found text row (sym at)) same)

-- behind the last row
pub rows_all : (text : List ℕ) (buckets : List (List KeyRowSeen)) (all : List KeyRowSeen) → None ≡ after_piece piece.Row text
    → AreSameByKey (joined buckets ++ rows_in text) all → AreSameByKey (joined buckets) all
rows_all text buckets all none same =
    subst (λ l. AreSameByKey l all) (append-nil (joined buckets)) (subst (λ l. AreSameByKey (joined buckets ++ l) all) (rows_none text (sym none)) same)

-- ---- how many rows

length-put : {X : Type 0} (lt : X → X → Bool) (x : X) (ys : List X) → length (put_before lt x ys) ≡ suc (length ys)
length-put lt x [] = refl
length-put lt x (y ∷ ys) = go (lt y x) (length-put lt x ys)
  where
    go : (b : Bool) → length (put_before lt x ys) ≡ suc (length ys) → length (cond b (y ∷ put_before lt x ys) (x ∷ y ∷ ys)) ≡ suc (suc (length ys))
    go true h = ap suc h
    go false h = refl

length-ordered : {X : Type 0} (lt : X → X → Bool) (xs : List X) → length (in_order lt xs) ≡ length xs
length-ordered lt [] = refl
length-ordered lt (x ∷ xs) = length-put lt x (in_order lt xs) ∙ ap suc (length-ordered lt xs)

one-at-most : (b : Bool) (row : Option KeyRowSeen) → length (cond b (option_to_list row) []) ≤ 1
one-at-most true None = omega arith
one-at-most true (Some r) = omega arith
one-at-most false row = omega arith

-- each row begins with a byte of its own
fewer-rows : (text : List ℕ) → length (rows_in text) ≤ length text
fewer-rows [] = omega arith
fewer-rows (b ∷ text) =
    omega (arith, length-append (cond (b == mark piece.Row) (option_to_list (key_row text)) []) (rows_in text), one-at-most (b == mark piece.Row) (key_row text), fewer-rows text)

pub few_rows : (text : List ℕ) (rows : List KeyRowSeen) → length text < 2 ^ 64 → rows ≡ by_key (rows_in text) → length rows < 2 ^ 64
few_rows text rows short same = omega (arith, ap length same, length-ordered key_before (rows_in text), fewer-rows text, short)

-- ---- in the order of keys

later-key : (k l : List ℕ) → get_or k 0 0 < get_or l 0 0 → is_lt (slice_cmp nat_cmp l k) ≡ false
later-key k [] less = absurd (omega (arith, less))
later-key [] (b ∷ l) less = refl
later-key (a ∷ k) (b ∷ l) less =
    ap (λ o. is_lt (ordering_then o (slice_cmp nat_cmp l k)))
    (nat_cmp_total.antisymm b a ∙ ap (λ t. ordering_reverse (cond t Less (cond (a == b) Equal Greater))) (lt-ltb a b less))

none-later : (r : KeyRowSeen) (byte : ℕ) (rows : List KeyRowSeen) → first_byte r ≡ byte → AllByRecursion (λ s. suc byte ≤ first_byte s) rows → NoneBefore key_before r rows
none-later r byte [] own h = tt
none-later r byte (s ∷ rows) own h = (later-key r.key s.key (omega (arith, own, h.0)), none-later r byte rows own h.1)

none-both : (r : KeyRowSeen) (rows others : List KeyRowSeen) → NoneBefore key_before r rows → NoneBefore key_before r others → NoneBefore key_before r (rows ++ others)
none-both r [] others h k = k
none-both r (s ∷ rows) others h k = (h.0, none-both r rows others h.1 k)

rises-both : (byte : ℕ) (rows others : List KeyRowSeen) → AllByRecursion (λ r. first_byte r ≡ byte) rows → AllByRecursion (λ s. suc byte ≤ first_byte s) others
    → Rises key_before rows → Rises key_before others → Rises key_before (rows ++ others)
rises-both byte [] others own later up more = more
rises-both byte (r ∷ rows) others own later up more =
    (none-both r rows others up.0 (none-later r byte others own.0 later), rises-both byte rows others own.1 later up.1 more)

all-later : (byte : ℕ) (buckets : List (List KeyRowSeen)) → ArePlaced byte buckets → AllByRecursion (λ r. byte ≤ first_byte r) (joined (map by_key buckets))
all-later byte [] h = tt
all-later byte (rows ∷ buckets) h =
    all-both (λ r. byte ≤ first_byte r) (by_key rows) (joined (map by_key buckets))
    (all-ordered (λ r. byte ≤ first_byte r) key_before rows (all-from (λ r. first_byte r ≡ byte) (λ r. byte ≤ first_byte r) (λ r e. omega (arith, e)) rows h.0))
    (all-from (λ r. suc byte ≤ first_byte r) (λ r. byte ≤ first_byte r) (λ r e. omega (arith, e)) (joined (map by_key buckets)) (all-later (suc byte) buckets h.1))

rises-joined : (byte : ℕ) (buckets : List (List KeyRowSeen)) → ArePlaced byte buckets → Rises key_before (joined (map by_key buckets))
rises-joined byte [] h = tt
rises-joined byte (rows ∷ buckets) h =
    rises-both byte (by_key rows) (joined (map by_key buckets)) (all-ordered (λ r. first_byte r ≡ byte) key_before rows h.0) (all-later (suc byte) buckets h.1)
    (rises-in_order key_before key-order rows) (rises-joined (suc byte) buckets h.1)

kept-joined : (w : KeyRowSeen) (buckets : List (List KeyRowSeen)) → filter (has_key w.key) (joined (map by_key buckets)) ≡ filter (has_key w.key) (joined buckets)
kept-joined w [] = refl
kept-joined w (rows ∷ buckets) =
    filter-append (has_key w.key) (by_key rows) (joined (map by_key buckets))
    ∙ ap₂ (λ a b. a ++ b) (key-kept w rows) (kept-joined w buckets)
    ∙ sym (filter-append (has_key w.key) rows (joined buckets))

pub sorted_joined : (buckets : List (List KeyRowSeen)) (all : List KeyRowSeen) → ArePlaced 0 buckets → AreSameByKey (joined buckets) all → joined (map by_key buckets) ≡ by_key all
sorted_joined buckets all h same =
    unique key_before key-order (joined (map by_key buckets)) (by_key all) (rises-joined 0 buckets h) (rises-in_order key_before key-order all)
    (λ w.
    same-filter (ties key_before w) (has_key w.key) (tie-key w) (joined (map by_key buckets)) ∙ kept-joined w buckets ∙ same w.key ∙ sym (key-kept w all)
    ∙ sym (same-filter (ties key_before w) (has_key w.key) (tie-key w) (by_key all)))

-- ---- the rows of each key

-- a row in front of others with other keys
stands-alone : (r : KeyRowSeen) (byte : ℕ) (rows : List KeyRowSeen) → first_byte r ≡ byte → AllByRecursion (λ s. suc byte ≤ first_byte s) rows
    → put_first r (runs rows) ≡ (r ∷ []) ∷ runs rows
stands-alone r byte [] own h = refl
stands-alone r byte (s ∷ rows) own h =
    let own-rows = s ∷ take (alike s.key rows) rows in
    let others = runs (drop (alike s.key rows) rows) in
    ap (put_first r) (run-first s rows)
    ∙ ap (λ b. cond b ((r ∷ own-rows) ∷ others) ((r ∷ []) ∷ own-rows ∷ others)) (other-key r.key r s (own-key r) (omega (arith, own, h.0)))
    ∙ ap (λ l. (r ∷ []) ∷ l) (sym (run-first s rows))

put-before-others : (r s : KeyRowSeen) (rows : List KeyRowSeen) (lists others : List (List KeyRowSeen))
    → put_first r (((s ∷ rows) ∷ lists) ++ others) ≡ put_first r ((s ∷ rows) ∷ lists) ++ others
put-before-others r s rows lists others = go (bytes_eq s.key r.key)
  where
    go : (b : Bool) → cond b ((r ∷ s ∷ rows) ∷ (lists ++ others)) ((r ∷ []) ∷ (s ∷ rows) ∷ (lists ++ others))
        ≡ cond b ((r ∷ s ∷ rows) ∷ lists) ((r ∷ []) ∷ (s ∷ rows) ∷ lists) ++ others
    go true = refl
    go false = refl

runs-apart : (byte : ℕ) (rows others : List KeyRowSeen) → AllByRecursion (λ r. first_byte r ≡ byte) rows → AllByRecursion (λ s. suc byte ≤ first_byte s) others
    → runs (rows ++ others) ≡ runs rows ++ runs others
runs-apart byte [] others own later = refl
runs-apart byte (r ∷ []) others own later = stands-alone r byte others own.0 later
runs-apart byte (r ∷ s ∷ rows) others own later =
    ap (put_first r) (runs-apart byte (s ∷ rows) others own.1 later ∙ ap (λ l. l ++ runs others) (run-first s rows))
    ∙ put-before-others r s (take (alike s.key rows) rows) (runs (drop (alike s.key rows) rows)) (runs others)
    ∙ ap (λ l. put_first r l ++ runs others) (sym (run-first s rows))

-- no two buckets have rows with one key
pub runs_joined : (byte : ℕ) (buckets : List (List KeyRowSeen)) → ArePlaced byte buckets → joined (map runs (map by_key buckets)) ≡ runs (joined (map by_key buckets))
runs_joined byte [] h = refl
runs_joined byte (rows ∷ buckets) h =
    ap (λ l. runs (by_key rows) ++ l) (runs_joined (suc byte) buckets h.1)
    ∙ sym (runs-apart byte (by_key rows) (joined (map by_key buckets)) (all-ordered (λ r. first_byte r ≡ byte) key_before rows h.0) (all-later (suc byte) buckets h.1))

-- ---- one bucket after the other

-- the first of some buckets sorted
abbrev pub front_sorted : ℕ → List (List KeyRowSeen) → List (List KeyRowSeen)
front_sorted n [] = []
front_sorted zero (rows ∷ buckets) = rows ∷ buckets
front_sorted (suc n) (rows ∷ buckets) = by_key rows ∷ front_sorted n buckets

pub one_more_sorted : (n : ℕ) (buckets : List (List KeyRowSeen))
    → set (front_sorted n buckets) n (by_key (get_or (front_sorted n buckets) n [])) ≡ front_sorted (n + 1) buckets
one_more_sorted n buckets = go n buckets ∙ ap (λ m. front_sorted m buckets) (sym (add-one n))
  where
    go : (n : ℕ) (buckets : List (List KeyRowSeen)) → set (front_sorted n buckets) n (by_key (get_or (front_sorted n buckets) n [])) ≡ front_sorted (suc n) buckets
    go n [] = refl
    go zero (rows ∷ []) = refl
    go zero (rows ∷ other ∷ buckets) = refl
    go (suc n) (rows ∷ buckets) = ap (λ l. by_key rows ∷ l) (go n buckets)

pub all_sorted : (n : ℕ) (buckets : List (List KeyRowSeen)) → length buckets ≤ n → front_sorted n buckets ≡ map by_key buckets
all_sorted n [] h = refl
all_sorted zero (rows ∷ buckets) h = absurd (omega (arith, h))
all_sorted (suc n) (rows ∷ buckets) h = ap (λ l. by_key rows ∷ l) (all_sorted n buckets (omega (arith, h)))

pub none_sorted : (buckets : List (List KeyRowSeen)) → front_sorted 0 buckets ≡ buckets
none_sorted [] = refl
none_sorted (rows ∷ buckets) = refl

-- one more bucket in memory
pub bucket_sorted : (n : ℕ) (buckets : List (Vec KeyRow Global)) (bucket sorted : Vec KeyRow Global) (before : List (List KeyRowSeen)) → n < length buckets
    → bucket_seen sorted ≡ by_key (bucket_seen (get_or buckets n bucket)) → map bucket_seen buckets ≡ front_sorted n before
    → map bucket_seen (set buckets n sorted) ≡ front_sorted (n + 1) before
bucket_sorted n buckets bucket sorted before few own same =
    map-set bucket_seen buckets n sorted
    ∙ ap (set (map bucket_seen buckets) n) (own ∙ ap by_key (sym (get_or-map bucket_seen buckets n bucket [] few)))
    ∙ ap (λ l. set l n (by_key (get_or l n []))) same
    ∙ one_more_sorted n before

drop-next : {X : Type 0} (n : ℕ) (xs : List X) (x : X) → n < length xs → x ≡ get_or xs n x → drop n xs ≡ x ∷ drop (n + 1) xs
drop-next {X} n xs x few is = go n xs few is ∙ ap (λ m. x ∷ drop m xs) (sym (add-one n))
  where
    go : (n : ℕ) (xs : List X) → n < length xs → x ≡ get_or xs n x → drop n xs ≡ x ∷ drop (suc n) xs
    go n [] few is = absurd (omega (arith, few))
    go zero (y ∷ ys) few is = ap (λ z. z ∷ ys) (sym is)
    go (suc n) (y ∷ ys) few is = go n ys (omega (arith, few)) is

-- the rows of each key of one more bucket in memory
pub bucket_grouped : (n : ℕ) (buckets : List (Vec KeyRow Global)) (bucket : Vec KeyRow Global) (groups more all : List KeyGroupSeen) → n < length buckets
    → bucket ≡ get_or buckets n bucket → more ≡ groups ++ map group_of (runs (bucket_seen bucket))
    → groups ++ map group_of (joined (map runs (map bucket_seen (drop n buckets)))) ≡ all
    → more ++ map group_of (joined (map runs (map bucket_seen (drop (n + 1) buckets)))) ≡ all
bucket_grouped n buckets bucket groups more all few is pushed h =
    let own = map group_of (runs (bucket_seen bucket)) in
    let rest = joined (map runs (map bucket_seen (drop (n + 1) buckets))) in
    let front : drop n buckets ≡ bucket ∷ drop (n + 1) buckets = drop-next n buckets bucket few is in
    ap (λ l. l ++ map group_of rest) pushed
    ∙ append_assoc groups own (map group_of rest)
    ∙ ap (λ l. groups ++ l) (sym (map-append group_of (runs (bucket_seen bucket)) rest))
    ∙ ap (λ l. groups ++ map group_of (joined (map runs (map bucket_seen l)))) (sym front)
    ∙ h

none-left : {X : Type 0} (n : ℕ) (xs : List X) → length xs ≤ n → drop n xs ≡ []
none-left zero [] h = refl
none-left (suc n) [] h = refl
none-left zero (x ∷ xs) h = absurd (omega (arith, h))
none-left (suc n) (x ∷ xs) h = none-left n xs (omega (arith, h))

pub all_grouped : (n : ℕ) (buckets : List (Vec KeyRow Global)) (groups all : List KeyGroupSeen) → length buckets ≤ n
    → groups ++ map group_of (joined (map runs (map bucket_seen (drop n buckets)))) ≡ all → groups ≡ all
all_grouped n buckets groups all long h =
    sym (append-nil groups) ∙ ap (λ l. groups ++ map group_of (joined (map runs (map bucket_seen l)))) (sym (none-left n buckets long)) ∙ h

-- ---- a Vec whose elements were lent

pub written_back : {X : Type 0} (n : ℕ) (xs new : List X) → length xs ≡ n → length new ≡ n → take n (new ++ drop (length new) xs) ≡ new
written_back n xs new long same =
    ap (λ l. take n (new ++ l)) (none-left (length new) xs (omega (arith, long, same))) ∙ ap (take n) (append-nil new) ∙ take_all n new (omega (arith, same))
