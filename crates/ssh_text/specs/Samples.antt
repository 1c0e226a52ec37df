-- Worked examples of files and pieces, as the definitions cut them.
use Rattle.std.specs.Prelude.{◌≡◌, [], ◌∷◌, codes, refl, true, false}
use Rattle.ssh_text.specs.Text.{lines_of, numbered}
use Rattle.ssh_text.specs.Scan.{after_newline, has_newline, unfinished, up_to_newline, whole_lines}

-- the lines of a file
abbrev pub FileSamplesRead : Type 0
FileSamplesRead =
    (numbered 1 (lines_of (codes "a\n\nb")) ≡ (1, codes "a") ∷ (2, []) ∷ (3, codes "b") ∷ [])
    × (numbered 1 (lines_of (codes "a\n")) ≡ (1, codes "a") ∷ [])
    × (numbered 1 (lines_of []) ≡ [])

pub file_samples_read : FileSamplesRead
file_samples_read = (refl, refl, refl)

-- which lines a piece ends and begins
abbrev pub PieceSamplesRead : Type 0
PieceSamplesRead =
    (whole_lines (codes "a\n\nb") ≡ codes "a" ∷ [] ∷ [])
    × (unfinished (codes "a\n\nb") ≡ codes "b")
    × (unfinished (codes "a\n") ≡ [])
    × (unfinished (codes "ab") ≡ codes "ab")
    × (up_to_newline (codes "ab\nc\n") ≡ codes "ab\n")
    × (after_newline (codes "ab\nc\n") ≡ codes "c\n")
    × (up_to_newline (codes "\n\n") ≡ codes "\n")
    × (up_to_newline (codes "ab\r") ≡ codes "ab\r")
    × (after_newline (codes "ab") ≡ [])
    × (has_newline (codes "ab\r\n") ≡ true)
    × (has_newline (codes "ab\r") ≡ false)

pub piece_samples_read : PieceSamplesRead
piece_samples_read = (refl, refl, refl, refl, refl, refl, refl, refl, refl, refl, refl)
