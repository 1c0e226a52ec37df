-- The names of the rights of a key, as text (this project's rule).
use Rattle.std.specs.Prelude.{ℕ, List, [], ◌∷◌, codes}
use Rattle.ssh_rights.specs.declared.rights.Rights.{Rights}
use Rattle.ssh_print.specs.DecisionText.{right_words}

-- names with a space before each, without the first space; `none` if there are no names
abbrev pub without_space : List ℕ → List ℕ
without_space [] = codes "none"
without_space (space ∷ words) = words

unfoldable pub rights_words : Rights → List ℕ
rights_words r = without_space (right_words r)
