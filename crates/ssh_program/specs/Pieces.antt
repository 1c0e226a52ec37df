-- The pieces in which a text of lines is written (this project's rule).
use Rattle.std.specs.Prelude.{◌≡◌, ◌≢◌, ◌⊎◌, ◌+◌, ◌-◌, ◌<◌, ◌≤◌, ℕ, List, length, slice_index}

-- the most bytes of a write to a pipe that those of other processes do not come between: PIPE_BUF of POSIX, on Linux
abbrev pub pipe_room : ℕ
pipe_room = 4096

-- the first n bytes of a text are one of its pieces
pub record IsPiece (text : List ℕ) (n : ℕ) : Type 0 where
  pub within : n ≤ length text
  pub some : 0 < length text → 0 < n
  -- it ends where a line ends, or the text
  pub ends : (slice_index text (n - 1) ≡ 10) ⊎ (n ≡ length text)
  -- it is no longer than a pipe keeps together, or has no line end but its last byte
  pub small : (n ≤ pipe_room) ⊎ ((i : ℕ) → i + 1 < n → slice_index text i ≢ 10)
