-- The rows of a hash table (this project's rule): each hash has a row, and leads to the previous one in it.
use Rattle.std.specs.Prelude.{◌≡◌, ℕ, suc, ◌%◌, ◌/◌, ◌*◌, ◌-◌, ◌^◌, min, ◌≤◌, ◌<◌, ◌≢◌, List, get_or, length, map, slice_index}
use Rattle.ssh_findings.specs.declared.table.Link.{Link}

-- the hashes of a table, in the order of insertion
abbrev pub numbers_in : List Link → List ℕ
numbers_in links = map (λ link. link.number) links

-- the row of a hash: it is as far along the rows as the upper half of the hash along the numbers of 32 bits
unfoldable pub row_of : ℕ → ℕ → ℕ
row_of number rows = min ((number / 2 ^ 32 * rows) % 2 ^ 64 / 2 ^ 32) (rows - 1)

-- Of the first `count` hashes, `place` is one more than the place of the last one in a row, or 0 if there is none in
-- it.
pub record IsLast (rows : ℕ) (numbers : List ℕ) (row count place : ℕ) : Type 0 where
  pub within : place ≤ count
  pub own : (i : ℕ) → place ≡ suc i → row_of (slice_index numbers i) rows ≡ row
  pub after : (i : ℕ) → place ≤ i → i < count → row_of (slice_index numbers i) rows ≢ row

-- each row leads to its last hash
pub record LeadToLasts (lasts : List ℕ) (links : List Link) : Type 0 where
  pub at : (row : ℕ) → row < length lasts → IsLast (length lasts) (numbers_in links) row (length links) (slice_index lasts row)

-- and each hash to the previous one in its row
pub record LeadBack (rows : ℕ) (links : List Link) : Type 0 where
  pub at : (i : ℕ) (d : Link) → i < length links
      → IsLast rows (numbers_in links) (row_of (slice_index (numbers_in links) i) rows) i (get_or links i d).before
