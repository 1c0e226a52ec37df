-- A vouch file: lines of three hexadecimal fields, separated by one space.
use Rattle.std.specs.Prelude.{◌∷◌, [], ◌==◌, ◌+◌, ℕ, Bool, true, List, Option, Some, None, Result, Ok, Err, take, drop, option_map, option_and_then, if◌then◌else◌}
use Rattle.std.specs.List.{list_any, position}
use Rattle.ssh_patterns.specs.Cut.{◌>>=◌}
use Rattle.ssh_offers.specs.declared.claim.Signed.{Signed}
use Rattle.ssh_text.specs.Text.{lines_of}
use Rattle.ssh_files.specs.Values.{hex_bytes}
use Rattle.ssh_files.specs.Words.{is_space}

abbrev pub signed_of : Option (List ℕ) → Option (List ℕ) → Option (List ℕ) → Option Signed
signed_of (Some key) (Some message) (Some signature) = Some (record { key = key; message = message; signature = signature })
signed_of (Some key) (Some message) None = None
signed_of (Some key) None signature = None
signed_of None message signature = None

-- the text before its first space, and the text after that, if it has one
abbrev pub cut_at_space : List ℕ → Option (List ℕ × List ℕ)
cut_at_space text = option_map (λ n. (take n text, drop 1 (drop n text))) (position is_space text)

abbrev pub has_space : List ℕ → Bool
has_space text = list_any is_space text

-- three fields that are separated by one space each
unfoldable pub three_fields : List ℕ → Option (List ℕ × List ℕ × List ℕ)
three_fields line = do
  key ← cut_at_space line
  message ← cut_at_space key.1
  if has_space message.1 then None else Some (key.0, message.0, message.1)

-- the signature of a line, if it is a triple
abbrev pub triple_of : List ℕ → Option Signed
triple_of line = option_and_then (λ f. signed_of (hex_bytes f.0) (hex_bytes f.1) (hex_bytes f.2)) (three_fields line)

-- an empty line, or a comment
abbrev pub is_skipped : List ℕ → Bool
is_skipped [] = true
is_skipped (b ∷ text) = b == 35

abbrev pub with_signed : Option Signed → ℕ → Result (List Signed) ℕ → Result (List Signed) ℕ
with_signed None n rest = Err n
with_signed (Some s) n (Ok xs) = Ok (s ∷ xs)
with_signed (Some s) n (Err k) = Err k

-- the signatures of the lines from line n on, or the first line that is not a triple
abbrev pub vouched_from : ℕ → List (List ℕ) → Result (List Signed) ℕ
vouched_from n [] = Ok []
vouched_from n (l ∷ lines) = if is_skipped l then vouched_from (n + 1) lines
    else with_signed (triple_of l) n (vouched_from (n + 1) lines)

unfoldable pub vouched_of : List ℕ → Result (List Signed) ℕ
vouched_of file = vouched_from 1 (lines_of file)
