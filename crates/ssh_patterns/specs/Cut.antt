-- Texts that are cut at a mark.
use Rattle.std.specs.Prelude.{ℕ, nat_lt, ◌==◌, if◌then◌else◌, length, List, [], ◌∷◌, Option, Some, None, option_and_then, option_map}

-- a step, and the next one where the first found something (a `do` block over `Option` uses this name)
infixl 10 ◌>>=◌
abbrev pub ◌>>=◌ : {A B : Type 0} → Option A → (A → Option B) → Option B
found >>= next = option_and_then next found

-- what follows the mark at the front of a text
abbrev pub after_mark : List ℕ → List ℕ → Option (List ℕ)
after_mark [] text = Some text
after_mark (m ∷ ms) [] = None
after_mark (m ∷ ms) (c ∷ cs) = if c == m then after_mark ms cs else None

-- the cut here where the mark is at the front, or else the cut of what follows the first byte
abbrev pub cut_here : Option (List ℕ) → ℕ → Option (List ℕ × List ℕ) → Option (List ℕ × List ℕ)
cut_here (Some after) c later = Some ([], after)
cut_here None c later = option_map (λ cut. (c ∷ cut.0, cut.1)) later

-- the parts before and after the first place where a mark of at least one byte begins
abbrev pub cut_at : List ℕ → List ℕ → Option (List ℕ × List ℕ)
cut_at mark [] = None
cut_at mark (c ∷ cs) = cut_here (after_mark mark (c ∷ cs)) c (cut_at mark cs)

-- the cut at the first mark, where fewer bytes than the limit come before it
abbrev pub cut_near : ℕ → List ℕ → List ℕ → Option (List ℕ × List ℕ)
cut_near limit mark text = do
  cut ← cut_at mark text
  if nat_lt (length cut.0) limit then Some cut else None
