-- Rows with a key in buckets, by the byte that the key begins with (this project's rule).
use Rattle.std.specs.Prelude.{◌≡◌, ◌++◌, ◌∷◌, [], ℕ, suc, List, map, filter, slice_index_or, slice_set, Vec}
use Rattle.std.specs.declared.alloc.Global.{Global}
use Rattle.std.specs.List.{AllByRecursion, flat_map}
use Rattle.ssh_page.specs.declared.key_rows.KeyRow.{KeyRow}
use Rattle.ssh_page.specs.KeyGroups.{has_key}
use Rattle.ssh_page.specs.KeyRows.{KeyRowSeen, row_seen}

-- the rows of a bucket in memory
abbrev pub bucket_seen : Vec KeyRow Global → List KeyRowSeen
bucket_seen v = map row_seen v.items

-- the elements of some lists, one list behind the other
abbrev pub joined : {X : Type 0} → List (List X) → List X
joined lists = flat_map (λ l. l) lists

-- the byte that its key begins with
abbrev pub first_byte : KeyRowSeen → ℕ
first_byte r = slice_index_or r.key 0 0

-- a row behind those of its bucket
abbrev pub with_row : List (List KeyRowSeen) → KeyRowSeen → List (List KeyRowSeen)
with_row buckets r = slice_set buckets (first_byte r) (slice_index_or buckets (first_byte r) [] ++ r ∷ [])

-- the buckets from that of this byte on: each has rows of its own byte alone
abbrev pub ArePlaced : ℕ → List (List KeyRowSeen) → Type 0
ArePlaced byte [] = Unit {0}
ArePlaced byte (rows ∷ buckets) = AllByRecursion (λ r. first_byte r ≡ byte) rows × ArePlaced (suc byte) buckets

-- of each key they have the same rows, in the same order
abbrev pub AreSameByKey : List KeyRowSeen → List KeyRowSeen → Type 0
AreSameByKey rows others = (key : List ℕ) → filter (has_key key) rows ≡ filter (has_key key) others
