-- The bytes that a terminal is given: printable ASCII (RFC 20), and LFs; in a table also tabs.
use Rattle.std.specs.Prelude.{◌||◌, ◌==◌, ℕ, Bool, List}
use Rattle.std.specs.List.{list_all}
use Rattle.ssh_review.specs.OneLine.{is_printable}
use Rattle.ssh_review.specs.declared.end.Form.{Form}
use Rattle.ssh_review.specs.declared.end.Form.TheVariants.{Json, Line, Text}

-- a printable byte, or the LF (10) that ends a line
abbrev pub is_shown : ℕ → Bool
is_shown c = is_printable c || c == 10

abbrev pub are_shown : List ℕ → Bool
are_shown text = list_all is_shown text

-- the tab (9) between the cells of a table is shown too
abbrev pub is_shown_or_tab : ℕ → Bool
is_shown_or_tab c = is_shown c || c == 9

-- what is shown in each output format
abbrev pub is_shown_in : Form → ℕ → Bool
is_shown_in Text = is_shown
is_shown_in Json = is_shown
is_shown_in (Line kind) = is_shown_or_tab

abbrev pub are_shown_in : Form → List ℕ → Bool
are_shown_in form text = list_all (is_shown_in form) text
