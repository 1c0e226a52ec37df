-- What the remaining bytes of a vouch file mean for a search for one signature. The meaning of a state is the result
-- that each rest of the file leads to: states with the same results are equivalent.
use Rattle.std.specs.Prelude.{◌∷◌, [], ◌==◌, ◌+◌, ◌&&◌, ◌||◌, min, ℕ, Bool, true, false, length, List, Option, Some, None, Result, Ok, Err, option_map, option_and_then, if◌then◌else◌}
use Rattle.std.specs.Str.{bytes_eq}
use Rattle.ssh_text.specs.Text.{lines_of}
use Rattle.ssh_offers.specs.declared.claim.Signed.{Signed}
use Rattle.ssh_offers.specs.Vouching.{is_same}
use Rattle.ssh_files.specs.Parts.{cut_at_line}
use Rattle.ssh_files.specs.Values.{hex_bytes, pair_values, prepend}
use Rattle.ssh_files.specs.Seeking.{wanted_of}
use Rattle.ssh_files.specs.VouchFile.{cut_at_space, has_space, is_skipped, triple_of}
use Rattle.ssh_files.specs.declared.seeker.Digits.{Digits}
use Rattle.ssh_files.specs.declared.seeker.Digits.TheVariants.{Nothing, Dash, Pairs, Half}
use Rattle.ssh_files.specs.declared.seeker.Field.{Field}
use Rattle.ssh_files.specs.declared.seeker.FieldName.{FieldName}
use Rattle.ssh_files.specs.declared.seeker.FieldName.TheVariants.{Key, Message, Signature}
use Rattle.ssh_files.specs.declared.seeker.Place.{Place}
use Rattle.ssh_files.specs.declared.seeker.Place.TheVariants.{Start, Comment, Broken, InField}
use Rattle.ssh_files.specs.declared.seeker.Seeker.{Seeker}
use Rattle.ssh_files.specs.declared.part.Found.{Found}

-- ---- the signature that is looked for

abbrev pub is_wanted : Option Signed → Signed → Bool
is_wanted None signed = false
is_wanted (Some wanted) signed = is_same signed wanted

abbrev pub key_wanted : Option Signed → List ℕ
key_wanted None = []
key_wanted (Some wanted) = wanted.key

abbrev pub message_of : Option Signed → List ℕ
message_of None = []
message_of (Some wanted) = wanted.message

abbrev pub signature_wanted : Option Signed → List ℕ
signature_wanted None = []
signature_wanted (Some wanted) = wanted.signature

-- the fields after this one of the signature that is looked for
abbrev pub fields_after : FieldName → Option Signed → List (List ℕ)
fields_after Key wanted = message_of wanted ∷ signature_wanted wanted ∷ []
fields_after Message wanted = signature_wanted wanted ∷ []
fields_after Signature wanted = []

-- ---- a field

-- the bytes of the rest of a field's text, after what came before it
abbrev pub value_rest : Digits → List ℕ → Option (List ℕ)
value_rest Nothing text = hex_bytes text
value_rest Dash text = if length text == 0 then Some [] else None
value_rest Pairs text = pair_values text
value_rest (Half high) text = pair_values (high ∷ text)

-- the same with a completed byte before it, if there is one
abbrev pub value_with : Option ℕ → Option (List ℕ) → Option (List ℕ)
value_with None rest = rest
value_with (Some byte) rest = prepend (Some byte) rest

-- the same after one more character, unless the field is no longer hexadecimal
abbrev pub value_after : Option (Digits × Option ℕ) → List ℕ → Option (List ℕ)
value_after None text = None
value_after (Some step) text = value_with step.1 (value_rest step.0 text)

-- whether these bytes are all that is left of the field that is looked for, and all before them was equal
abbrev pub same_value : Bool → List ℕ → Option (List ℕ) → Option Bool
same_value equal left value = option_map (λ bytes. equal && bytes_eq bytes left) value

-- Whether a field equals what is left of the one that is looked for, as all before it did; none where it is not
-- hexadecimal.
abbrev pub field_rest : Digits → Bool → List ℕ → List ℕ → Option Bool
field_rest digits equal left text = same_value equal left (value_rest digits text)

abbrev pub rest_in_field : Field → List ℕ → Option Bool
rest_in_field field text = field_rest field.digits field.equal field.left.now text

-- ---- a line

-- the same for all remaining fields of a line; those after this one are compared whole
abbrev pub fields_rest : Digits → Bool → List ℕ → List (List ℕ) → List ℕ → Option Bool
fields_rest digits equal left [] text = if has_space text then None else field_rest digits equal left text
fields_rest digits equal left (next ∷ more) text =
    option_and_then (λ cut. option_and_then (λ same. fields_rest Nothing same next more cut.1) (field_rest digits equal left cut.0)) (cut_at_space text)

-- whether a line is the triple that is looked for; none where it is neither a triple nor skipped
abbrev pub triple_verdict : Option Signed → List ℕ → Option Bool
triple_verdict wanted line = if is_skipped line then Some false else option_map (is_wanted wanted) (triple_of line)

-- the same in a field that is followed by the others
abbrev pub in_field_rest : Option Signed → Field → List ℕ → Option Bool
in_field_rest wanted field text = fields_rest field.digits field.equal field.left.now (fields_after field.name wanted) text

-- the same for the rest of a line
abbrev pub place_rest : Option Signed → Place → List ℕ → Option Bool
place_rest wanted Start text = triple_verdict wanted text
place_rest wanted Comment text = Some false
place_rest wanted Broken text = None
place_rest wanted (InField field) text = in_field_rest wanted field text

abbrev pub is_start : Place → Bool
is_start Start = true
is_start Comment = false
is_start Broken = false
is_start (InField field) = false

-- ---- a file

-- the number of the next line; the count stops at its maximum
abbrev pub next_number : ℕ → ℕ
next_number n = min (n + 1) 18446744073709551615

abbrev pub or_found : Bool → Result Bool ℕ → Result Bool ℕ
or_found found (Ok later) = Ok (found || later)
or_found found (Err n) = Err n

-- the result with one more line
abbrev pub with_verdict : Option Bool → ℕ → Result Bool ℕ → Result Bool ℕ
with_verdict None n rest = Err n
with_verdict (Some found) n rest = or_found found rest

-- whether one of the lines from line n on is the triple that is looked for, or the first that is not a triple
abbrev pub lines_rest : Option Signed → ℕ → List (List ℕ) → Result Bool ℕ
lines_rest wanted n [] = Ok false
lines_rest wanted n (line ∷ lines) = with_verdict (triple_verdict wanted line) n (lines_rest wanted (next_number n) lines)

-- the same for the rest of line n, and the lines after it
abbrev pub cut_rest : Option Signed → ℕ → Place → List ℕ × List ℕ → Result Bool ℕ
cut_rest wanted n place cut = with_verdict (place_rest wanted place cut.0) n (lines_rest wanted (next_number n) (lines_of cut.1))

-- at the start of a line there may be no more line
abbrev pub from_place : Option Signed → ℕ → Place → List ℕ → Result Bool ℕ
from_place wanted n Start text = lines_rest wanted n (lines_of text)
from_place wanted n place text = cut_rest wanted n place (cut_at_line text)

-- a line that was not a triple is reported whatever follows
abbrev pub unless_fault : Option ℕ → Bool → Result Bool ℕ → Result Bool ℕ
unless_fault (Some n) found rest = Err n
unless_fault None found rest = or_found found rest

-- whether the file vouches for the signature, or its first line that is not a triple, where these bytes follow
abbrev pub seeker_rest : Seeker → List ℕ → Result Bool ℕ
seeker_rest x text = unless_fault x.fault x.found (from_place (wanted_of x.wanted) x.number x.place text)

-- the same for a search that may be left out: then nothing is found
abbrev pub second_rest : Option Seeker → List ℕ → Result Bool ℕ
second_rest None text = Ok false
second_rest (Some x) text = seeker_rest x text

-- the joint result of two searches of one file
abbrev pub both : Result Bool ℕ → Result Bool ℕ → Result Found ℕ
both (Ok first) (Ok second) = Ok (record { first = first; second = second })
both (Ok first) (Err n) = Err n
both (Err n) second = Err n
