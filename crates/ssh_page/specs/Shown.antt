-- The bytes that a terminal may be given: printable ASCII (RFC 20), and LFs.
use Rattle.std.specs.Prelude.{◌&&◌, ◌||◌, ◌==◌, ℕ, Bool, List, nat_le, nat_lt}
use Rattle.std.specs.List.{list_all}

-- a space or a graphic character
abbrev pub is_printable : ℕ → Bool
is_printable c = nat_le 32 c && nat_lt c 127

abbrev pub are_printable : List ℕ → Bool
are_printable text = list_all is_printable text

-- a printable byte, or the LF (10) that ends a line
abbrev pub is_shown : ℕ → Bool
is_shown c = is_printable c || c == 10

abbrev pub are_shown : List ℕ → Bool
are_shown text = list_all is_shown text
