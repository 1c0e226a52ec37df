-- A buffer of three bytes, lent for texts that are shorter, as long and longer.
use Rattle.std.specs.Prelude.{◌≡◌, ◌∷◌, [], ℕ, refl}
use Rattle.ssh_lending.specs.Lending.{filled}

abbrev pub BufferSamplesFilled : Type 0
BufferSamplesFilled =
    (filled {A = ℕ} (1 ∷ 2 ∷ []) (7 ∷ 8 ∷ 9 ∷ []) ≡ 1 ∷ 2 ∷ 9 ∷ [])
    × (filled {A = ℕ} (1 ∷ 2 ∷ 3 ∷ []) (7 ∷ 8 ∷ 9 ∷ []) ≡ 1 ∷ 2 ∷ 3 ∷ [])
    × (filled {A = ℕ} (1 ∷ 2 ∷ 3 ∷ 4 ∷ []) (7 ∷ 8 ∷ 9 ∷ []) ≡ 7 ∷ 8 ∷ 9 ∷ [])

pub buffer_samples_filled : BufferSamplesFilled
buffer_samples_filled = (refl, refl, refl)
