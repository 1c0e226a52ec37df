-- The printed lines of a file that were passed over, each with the reason and what was compared (this project's rule).
use Rattle.std.specs.Prelude.{ℕ, ◌+◌, ◌≤◌, ◌==◌, nat_le, if◌then◌else◌, List, [], ◌∷◌, ◌++◌, length, codes}
use Rattle.std.specs.Fmt.{decimal}
use Rattle.ssh_text.specs.Text.{lines_of, numbered}
use Rattle.ssh_rules.specs.declared.reason.Reason.{Reason}
use Rattle.ssh_print.specs.AnswerText.{indent, reason_sentence}
use Rattle.ssh_print.specs.Codes.{reason_codes}

-- what was compared for a reason with this line, as a text
abbrev pub Compared : Type 0
Compared = Reason → List ℕ → List ℕ

-- the first of these lines with this number, and those after it
abbrev pub line_from : ℕ → List (ℕ × List ℕ) → List ℕ
line_from n [] = []
line_from n (l ∷ lines) = if l.0 == n then l.1 else line_from n lines

abbrev pub lines_after : ℕ → List (ℕ × List ℕ) → List (ℕ × List ℕ)
lines_after n [] = []
lines_after n (l ∷ lines) = if l.0 == n then lines else lines_after n lines

-- the number of a line, the codes of the reason with their sentence, and what was compared
abbrev pub passed_line : Compared → ℕ × Reason → List ℕ → List ℕ
passed_line compared r line =
    indent ++ decimal r.0 ++ reason_codes r.1 ++ codes ": " ++ reason_sentence r.1 ++ compared r.1 line ++ codes "\n"

-- the reasons come in the order of their lines
abbrev pub passed_lines : Compared → List (ℕ × List ℕ) → List (ℕ × Reason) → List ℕ
passed_lines compared lines [] = []
passed_lines compared lines (r ∷ reasons) =
    passed_line compared r (line_from r.0 lines) ++ passed_lines compared (lines_after r.0 lines) reasons

-- the reasons come in the order of their lines, the first of them no earlier than this line
abbrev pub ComeInOrder : ℕ → List (ℕ × Reason) → Type 0
ComeInOrder n [] = Unit {0}
ComeInOrder n (r ∷ reasons) = (n ≤ r.0) × ComeInOrder (r.0 + 1) reasons

-- a decision lists the first 100 reasons
abbrev pub cut_line : List (ℕ × Reason) → List ℕ
cut_line reasons = if nat_le 100 (length reasons) then codes "    .. only the first 100 are listed, and there may be more\n" else []

-- the lines of a file that were passed over for these reasons
unfoldable pub passed_text : Compared → List ℕ → List (ℕ × Reason) → List ℕ
passed_text compared file reasons = passed_lines compared (numbered 1 (lines_of file)) reasons ++ cut_line reasons
