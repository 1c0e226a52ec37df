-- What is written in turn, the first line of a text, and texts without sequences.
use Rattle.std.proofs.Common.{◌≡◌, ◌∙◌, ◌+◌, ◌++◌, ◌<◌, ◌∷◌, [], ℕ, zero, suc, add-one, Bool, true, false, List, Option, Some, None, ap, append_assoc, arith, codes, drop, length, length-append, refl, sym, take}
use Rattle.std.proofs.Math.Seq.{take-append_seam, take-length, take-suc}
use Rattle.std.proofs.lemmas.Bool.{eqb-true, false≢true, lt-ltb, or_from, or_parts}
use Rattle.std.proofs.lemmas.List.{append-nil}
use Rattle.std.proofs.lemmas.List.Quantifiers.{position-Some}
use Rattle.std.specs.Io.KnownBytes.{Appends}
use Rattle.std.specs.List.{list_any, position, position_or_len}
use Rattle.ssh_audit.specs.declared.colour.Colour.{Colour}
use Rattle.ssh_audit.specs.declared.colour.Colour.TheVariants.{Red, Yellow}
use Rattle.ssh_audit.specs.declared.colour.Place.{Place}
use Rattle.ssh_audit.specs.declared.colour.Place.TheVariants.{Between, Within}
use Rattle.ssh_audit.specs.declared.colour.Printed.{Printed}
use Rattle.ssh_audit.specs.Colours.{begins, behind_name, begun_by, colour_at, colour_of, ended_by, front_at, is_end, is_escape, line_at, line_by, plain, taken, taken_by}

-- ---- what is written in turn

pub appended : (a b c : Option (List ℕ)) (x y : List ℕ) → Appends a b x → Appends b c y → Appends a c (x ++ y)
appended None b c x y h k = tt
appended (Some xs) (Some ys) (Some zs) x y h k = k ∙ (ap (λ l. l ++ y) h ∙ append_assoc xs x y)
appended (Some xs) (Some ys) None x y h k = k
appended (Some xs) None c x y h k = absurd h

-- ---- names

pub name-ends : (text : List ℕ) → begins text (codes ": ") ≡ true → behind_name text ≡ Some (drop 2 text)
name-ends [] h = absurd (false≢true h)
name-ends (b ∷ rest) h = rw h refl

pub name-goes-on : (text : List ℕ) → begins text (codes ": ") ≡ false → behind_name text ≡ behind_name (drop 1 text)
name-goes-on [] h = refl
name-goes-on (b ∷ rest) h = rw h refl

-- ---- the first line

-- where no byte of it ends a line, the end stands behind it
end-at : (line rest : List ℕ) → list_any is_end line ≡ false → position_or_len is_end (line ++ 10 ∷ rest) ≡ length line
end-at [] rest h = refl
end-at (b ∷ line) rest h =
    let (first, more) = or_parts (is_end b) (list_any is_end line) h in
    rw first (omega (arith, end-at line rest more))

pub line_whole : (printed : Printed) (line rest : List ℕ) → list_any is_end line ≡ false
    → line_at printed Between (line ++ 10 ∷ rest) ≡ (begun_by (colour_of printed line) ++ line) ++ ended_by (colour_of printed line)
line_whole printed line rest h =
    let within : length line < length (line ++ 10 ∷ rest) = omega (arith, length-append line (10 ∷ rest)) in
    rw (end-at line rest h, lt-ltb (length line) (length (line ++ 10 ∷ rest)) within, take-append_seam line (10 ∷ rest)) refl

-- up to and with the first end
first-end : (text : List ℕ) (end : ℕ) → position is_end text ≡ Some end → take (end + 1) text ≡ take end text ++ 10 ∷ []
first-end text end is =
    let (within, ends, before) = position-Some is_end text end 0 is in
    ap (λ n. take n text) (add-one end) ∙ (take-suc text end 0 within ∙ ap (λ x. take end text ++ x ∷ []) (eqb-true _ 10 ends))

-- ---- without sequences

-- a text that has none is as it is
none-in : (text rest : List ℕ) → list_any is_escape text ≡ false → plain (text ++ rest) ≡ text ++ plain rest
none-in [] rest h = refl
none-in (b ∷ text) rest h =
    let (first, more) = or_parts (is_escape b) (list_any is_escape text) h in
    rw first (ap (λ l. b ∷ l) (none-in text rest more))

none-all : (text : List ℕ) → list_any is_escape text ≡ false → plain text ≡ text
none-all text h = ap plain (sym (append-nil text)) ∙ (none-in text [] h ∙ append-nil text)

none-in-front : (text : List ℕ) (n : ℕ) → list_any is_escape text ≡ false → list_any is_escape (take n text) ≡ false
none-in-front text zero h = refl
none-in-front [] (suc n) h = refl
none-in-front (b ∷ text) (suc n) h =
    let (first, more) = or_parts (is_escape b) (list_any is_escape text) h in
    or_from (is_escape b) (list_any is_escape (take n text)) first (none-in-front text n more)

begun-plain : (colour : Option Colour) (rest : List ℕ) → plain (begun_by colour ++ rest) ≡ plain rest
begun-plain None rest = refl
begun-plain (Some Red) rest = refl
begun-plain (Some Yellow) rest = refl

front-plain : (place : Place) (colour : Option Colour) (rest : List ℕ) → plain (front_at place colour ++ rest) ≡ plain rest
front-plain Between colour rest = begun-plain colour rest
front-plain (Within same) colour rest = refl

ended-plain : (colour : Option Colour) → plain (ended_by colour) ≡ 10 ∷ []
ended-plain None = refl
ended-plain (Some colour) = refl

pub line_plain : (printed : Printed) (place : Place) (text : List ℕ) → list_any is_escape text ≡ false → plain (line_at printed place text) ≡ take (taken text) text
line_plain printed place text h = by (position is_end text) refl
  where
    by : (found : Option ℕ) → position is_end text ≡ found → plain (line_by printed place text found) ≡ take (taken_by text found) text
    by None is = front-plain place (colour_at printed place text) text ∙ (none-all text h ∙ sym (take-length text))
    by (Some end) is =
        let colour = colour_at printed place (take end text) in
        ap plain (append_assoc (front_at place colour) (take end text) (ended_by colour))
        ∙ (front-plain place colour (take end text ++ ended_by colour)
        ∙ (none-in (take end text) (ended_by colour) (none-in-front text end h)
        ∙ (ap (λ l. take end text ++ l) (ended-plain colour) ∙ sym (first-end text end is))))
