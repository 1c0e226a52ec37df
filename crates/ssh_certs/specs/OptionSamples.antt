-- Worked examples of the data of options.
use Rattle.std.specs.Prelude.{◌≡◌, ℕ, List, [], ◌∷◌, ◌++◌, codes, Some, None}
use Rattle.ssh_certs.specs.OptionData.{one_string}

-- a string of up to 255 bytes
abbrev short : ℕ → List ℕ → List ℕ
short len text = 0 ∷ 0 ∷ 0 ∷ len ∷ text

-- data that is one string, and data that is not: empty, too short, or with bytes after the string
abbrev pub DataRead : Type 0
DataRead =
    (one_string (short 2 (codes "ls")) ≡ Some (codes "ls"))
    × (one_string (short 0 []) ≡ Some [])
    × (one_string (short 3 (0 ∷ 34 ∷ 255 ∷ [])) ≡ Some (0 ∷ 34 ∷ 255 ∷ []))
    × (one_string [] ≡ None)
    × (one_string (0 ∷ 0 ∷ 0 ∷ []) ≡ None)
    × (one_string (short 3 (codes "ls")) ≡ None)
    × (one_string (codes "ls") ≡ None)
    × (one_string (short 2 (codes "ls" ++ 0 ∷ [])) ≡ None)
    × (one_string (short 0 (0 ∷ [])) ≡ None)
    × (one_string (short 2 (codes "ls" ++ short 2 (codes "ls"))) ≡ None)
