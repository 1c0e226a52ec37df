-- Files in memory by their names: of two with one name the first counts (this project's rule).
use Rattle.std.specs.Prelude.{◌≡◌, ℕ, List, Option, option_map}
use Rattle.std.specs.Borrow.{Bor}
use Rattle.std.specs.BTreeMap.{BTreeMap, get_by}
use Rattle.std.specs.Cmp.Lexicographic.{slice_cmp}
use Rattle.std.specs.List.{find}
use Rattle.std.specs.Ordering.{nat_cmp}
use Rattle.std.specs.Str.{bytes_eq}
use Rattle.ssh_memory.specs.declared.files.NamedBytes.{NamedBytes}

-- the first of these files that has the name
abbrev pub first_named : List NamedBytes → List ℕ → Option NamedBytes
first_named files name = find (λ f. bytes_eq f.name.now name) files

-- the bytes of that file
abbrev pub named_in : List NamedBytes → List ℕ → Option (List ℕ)
named_in files name = option_map (λ f. f.bytes.now) (first_named files name)

-- ---- sorted

-- the file that a map has at a name
abbrev pub file_at : BTreeMap (Bor (List ℕ)) NamedBytes → List ℕ → Option NamedBytes
file_at names name = get_by (λ key. slice_cmp nat_cmp name key.now) names

-- the map has at each name the first of these files that has it
abbrev pub FindsFirst : BTreeMap (Bor (List ℕ)) NamedBytes → List NamedBytes → Type 0
FindsFirst names files = (name : List ℕ) → file_at names name ≡ first_named files name
