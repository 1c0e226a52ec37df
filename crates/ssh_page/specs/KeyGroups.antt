-- The rows that have a key, those with one key together (this project's rule).
use Rattle.std.specs.Prelude.{◌≡◌, ◌<◌, ◌+◌, ◌∷◌, [], ◌-◌, ◌^◌, ◌==◌, ℕ, Bool, false, List, length, map, filter, take, Option, Some, None, bytes_eq, if◌then◌else◌}
use Rattle.std.specs.Cmp.Lexicographic.{slice_cmp}
use Rattle.std.specs.Int.{from_be_bytes, w64}
use Rattle.std.specs.List.{flat_map, fold}
use Rattle.std.specs.Ordering.{is_lt, nat_cmp}
use Rattle.ssh_findings.specs.CodeCounts.{sum_within}
use Rattle.ssh_page.specs.declared.key_groups.FilesSeen.{FilesSeen}
use Rattle.ssh_page.specs.declared.key_groups.KeyGroup.{KeyGroup}
use Rattle.ssh_page.specs.KeyRows.{KeyRowSeen, row_seen}
use Rattle.ssh_page.specs.Sorting.{in_order}

-- ---- rows with one key

-- by the bytes of their fingerprints
abbrev pub key_before : KeyRowSeen → KeyRowSeen → Bool
key_before r s = is_lt (slice_cmp nat_cmp r.key s.key)

-- in the order of keys; those with one key stay in their order
abbrev pub by_key : List KeyRowSeen → List KeyRowSeen
by_key rows = in_order key_before rows

-- the number that the first eight characters of a key spell
abbrev pub key_start : List ℕ → ℕ
key_start key = from_be_bytes w64 (take 8 key)

-- how many rows at the front have this key
abbrev pub alike : List ℕ → List KeyRowSeen → ℕ
alike key [] = 0
alike key (r ∷ rows) = if bytes_eq r.key key then alike key rows + 1 else 0

-- how many at the front have the key of the first
abbrev pub run_length : List KeyRowSeen → ℕ
run_length [] = 0
run_length (r ∷ rows) = alike r.key rows + 1

-- a row in front of rows with one key: it is one of them, or stands alone
abbrev pub put_first : KeyRowSeen → List (List KeyRowSeen) → List (List KeyRowSeen)
put_first r [] = (r ∷ []) ∷ []
put_first r ([] ∷ runs) = (r ∷ []) ∷ runs
put_first r ((s ∷ rows) ∷ runs) = if bytes_eq s.key r.key then (r ∷ s ∷ rows) ∷ runs else (r ∷ []) ∷ (s ∷ rows) ∷ runs

-- rows in the order of keys, cut where the key changes
abbrev pub runs : List KeyRowSeen → List (List KeyRowSeen)
runs [] = []
runs (r ∷ rows) = put_first r (runs rows)

-- ---- in how many files

abbrev pub is_last : Option ℕ → ℕ → Bool
is_last None file = false
is_last (Some other) file = other == file

abbrev pub no_files : FilesSeen
no_files = record { count = 0; last = None }

-- with a row that may be in another file
abbrev pub with_file : FilesSeen → KeyRowSeen → FilesSeen
with_file seen r = if is_last seen.last r.place.file then seen else record { count = sum_within seen.count 1; last = Some r.place.file }

-- how many files rows are in, which are in the order of files
abbrev pub files_of : List KeyRowSeen → ℕ
files_of rows = (fold with_file no_files rows).count

-- ---- the keys

-- the rows of a key, and how many files they are in
pub record KeyGroupSeen : Type 0 where
  pub rows : List KeyRowSeen
  pub files : ℕ

-- the same of what is in memory
abbrev pub group_seen : KeyGroup → KeyGroupSeen
group_seen g = record { rows = map row_seen g.rows.now; files = g.files }

abbrev pub group_of : List KeyRowSeen → KeyGroupSeen
group_of rows = record { rows = rows; files = files_of rows }

-- it is in more files than the other
abbrev pub files_before : KeyGroupSeen → KeyGroupSeen → Bool
files_before g h = is_lt (nat_cmp ((2 ^ 64 - 1) - g.files) ((2 ^ 64 - 1) - h.files))

-- the rows of each key, of rows in the order of keys; those in most files first, and those in as many in the order of keys
abbrev pub groups_in : List KeyRowSeen → List KeyGroupSeen
groups_in rows = in_order files_before (map group_of (runs rows))

-- ---- what the list has

-- the rows of these keys, one after the other
abbrev pub grouped_rows : List KeyGroupSeen → List KeyRowSeen
grouped_rows groups = flat_map (λ (g : KeyGroupSeen). g.rows) groups

-- the row has this key
abbrev pub has_key : List ℕ → KeyRowSeen → Bool
has_key key r = bytes_eq r.key key

-- the key of the first row
abbrev pub first_key : List KeyRowSeen → List ℕ
first_key [] = []
first_key (r ∷ rows) = r.key

-- there is one, and of all rows these are those with the key of the first, in their order
abbrev pub AreOfOneKey : List KeyRowSeen → List KeyRowSeen → Type 0
AreOfOneKey all rows = (0 < length rows) × (rows ≡ filter (has_key (first_key rows)) all)
