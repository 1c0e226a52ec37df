-- A line that is stored, or only marked as too long.
use Rattle.std.specs.Prelude.{◌≡◌, ◌↔◌, ◌<◌, ℕ, Bool, true, false, if◌then◌else◌, List, [], length}
use Rattle.ssh_text.specs.Text.{line_limit}

-- the bytes of a line, or the mark that it is longer than the limit
pub record Kept : Type 0 where
  pub bytes : List ℕ
  pub too_long : Bool

-- how many bytes are stored, and 1 for a line that is too long
abbrev pub kept_count : Kept → ℕ
kept_count kept = if kept.too_long then 1 else length kept.bytes

-- The line is stored whole; exactly past the limit it has the mark, and no byte is stored.
pub record KeepsLine (kept : Kept) (line : List ℕ) : Type 0 where
  pub mark : (kept.too_long ≡ true) ↔ (line_limit < length line)
  pub whole : kept.too_long ≡ false → kept.bytes ≡ line
  pub none : kept.too_long ≡ true → kept.bytes ≡ []
