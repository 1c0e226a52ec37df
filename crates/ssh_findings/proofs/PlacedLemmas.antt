-- The numbers of places while findings are counted, one after the other.
use Rattle.ssh_findings.proofs.Imports.{◌≡◌, ◌∙◌, ◌<◌, ◌≤◌, ◌==◌, ℕ, List, refl, ap, length, get_or, map, take}
use Rattle.std.proofs.lemmas.List.{take_all}
use Rattle.std.proofs.lemmas.List.FromFn.{fill_by_all}
use Rattle.std.specs.List.{range_with_len}
use Rattle.std.specs.Prelude.{count_by}
use Rattle.ssh_findings.specs.CodeCounts.{for_each_code, times}
use Rattle.ssh_findings.specs.Codes.{code_place}
use Rattle.ssh_findings.specs.declared.code.Code.{Code}

-- how many of these findings have a code with this place
abbrev pub at_place : {F : Type 0} → (F → Code) → ℕ → List F → ℕ
at_place code_of place found = count_by (λ f. place == code_place (code_of f)) found

pub record ArePlaced {F : Type 0} (code_of : F → Code) (numbers : List ℕ) (found : List F) : Type 0 where
  pub long : length numbers ≡ 22
  pub at : (k : ℕ) → k < 22 → get_or numbers k 0 ≡ at_place code_of k found

pub same-places : (number : ℕ → ℕ) → map number (range_with_len 0 22) ≡ for_each_code (λ c. number (code_place c))
same-places number = refl

-- after the last finding
pub all-placed : {F : Type 0} (code_of : F → Code) (found : List F) (i : ℕ) (numbers : List ℕ)
    → length found ≤ i → ArePlaced code_of numbers (take i found) → numbers ≡ for_each_code (times code_of found)
all-placed code_of found i numbers h w =
    fill_by_all (λ k. at_place code_of k found) numbers 22 0 w.long (λ k few. w.at k few ∙ ap (at_place code_of k) (take_all i found h))
    ∙ same-places (λ k. at_place code_of k found)
