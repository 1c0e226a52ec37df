-- How often each code was reported (this project's rule).
use Rattle.std.specs.Prelude.{ℕ, ◌+◌, ◌-◌, ◌^◌, min, List, [], ◌∷◌, map, count_by, slice_index, sum_by, Option, Some, None}
use Rattle.ssh_findings.specs.declared.code.Code.{Code}
use Rattle.ssh_findings.specs.declared.code_counts.CodeCounts.{CodeCounts}
use Rattle.ssh_findings.specs.Codes.{all_codes, code_place, same_code}

-- how many of these findings have this code
abbrev pub times : {F : Type 0} → (F → Code) → List F → Code → ℕ
times code_of found c = count_by (λ f. same_code c (code_of f)) found

-- a number for each code, in ascending order of the codes
abbrev pub for_each_code : (Code → ℕ) → List ℕ
for_each_code number = map number all_codes

abbrev pub no_codes : CodeCounts
no_codes = record { numbers = None }

-- how often each code is among these findings
unfoldable pub counted : {F : Type 0} → (F → Code) → List F → CodeCounts
counted code_of [] = no_codes
counted code_of (f ∷ found) = record { numbers = Some (for_each_code (times code_of (f ∷ found))) }

-- ---- the number of a code

abbrev pub number_in : List ℕ → Code → ℕ
number_in numbers c = slice_index numbers (code_place c)

abbrev pub number_if_any : Option (List ℕ) → Code → ℕ
number_if_any None c = 0
number_if_any (Some numbers) c = number_in numbers c

-- how often this code was reported
unfoldable pub number_of : CodeCounts → Code → ℕ
number_of counts c = number_if_any counts.numbers c

-- the sum of the numbers of all codes
abbrev pub findings_in : CodeCounts → ℕ
findings_in counts = sum_by (number_of counts) all_codes

-- ---- sums

-- the numbers of two counts, by the sum of two numbers
abbrev pub joined : (ℕ → ℕ → ℕ) → Option (List ℕ) → Option (List ℕ) → Option (List ℕ)
joined sum None more = more
joined sum (Some numbers) None = Some numbers
joined sum (Some numbers) (Some more) = Some (for_each_code (λ c. sum (number_in numbers c) (number_in more c)))

unfoldable pub plus_codes : CodeCounts → CodeCounts → CodeCounts
plus_codes a b = record { numbers = joined (λ m n. m + n) a.numbers b.numbers }

-- a sum that stops at 2^64 - 1
abbrev pub sum_within : ℕ → ℕ → ℕ
sum_within m n = min (m + n) (2 ^ 64 - 1)

-- the same, where each sum stops at 2^64 - 1
unfoldable pub plus_codes_within : CodeCounts → CodeCounts → CodeCounts
plus_codes_within a b = record { numbers = joined sum_within a.numbers b.numbers }
