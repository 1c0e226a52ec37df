-- The first line with a property (this project's rule: a finding names the first line that it concerns).
use Rattle.std.specs.Prelude.{ℕ, nat_le, Bool, true, if◌then◌else◌, List, [], ◌∷◌, Option, Some, None, min}
use Rattle.ssh_findings.specs.HostLines.{HostLine}

-- the lower of two line numbers, or the only one
abbrev pub lesser : Option ℕ → Option ℕ → Option ℕ
lesser None other = other
lesser (Some k) None = Some k
lesser (Some k) (Some n) = Some (min k n)

-- the line number, if the condition holds
abbrev pub line_if : Bool → ℕ → Option ℕ
line_if holds n = if holds then Some n else None

-- the lowest number of the lines for which the test holds
unfoldable pub least_line : (HostLine → Bool) → List HostLine → Option ℕ
least_line test [] = None
least_line test (d ∷ ds) = lesser (line_if (test d) d.line) (least_line test ds)

-- the number is at most that of another line, if there is one
abbrev pub leads : ℕ → Option ℕ → Bool
leads n None = true
leads n (Some k) = nat_le n k
