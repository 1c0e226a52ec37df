-- The fields of an object are of printable ASCII.
use Rattle.ssh_review.proofs.Imports.{◌≡◌, ℕ, nat_lt, Bool, true, false, cond, List, [], ◌++◌, ℤ, Option, Some, None, codes, refl, field_name, moment_or_null, null_field, number_field, text_field, text_or_null, AreBytes, AreBytesIfAny, are_printable}
use Rattle.ssh_review.specs.Fields.{count_field, object_field, truth_field}
use Rattle.ssh_review.proofs.PrintableLemmas.{ArePrintable, bytes-from_printable, decimal-printable, join, rest-printable, signed-printable, string-printable, word}

pub name-then : {value : List ℕ} (name : List ℕ) → are_printable name ≡ true → ArePrintable value → ArePrintable (field_name name ++ value)
name-then name h k = join (join (join (word (codes ",\"") refl) (word name h)) (word (codes "\":") refl)) k

pub null-printable : (name : List ℕ) → are_printable name ≡ true → ArePrintable (null_field name)
null-printable name h = name-then name h (word (codes "null") refl)

pub text-printable : (name text : List ℕ) → are_printable name ≡ true → AreBytes text → ArePrintable (text_field name text)
text-printable name text h k = name-then name h (string-printable text k)

-- the same of a text that is printed as it is
pub said-printable : {text : List ℕ} (name : List ℕ) → are_printable name ≡ true → ArePrintable text → ArePrintable (text_field name text)
said-printable {text} name h k = text-printable name text h (bytes-from_printable k)

pub any-text-printable : (name : List ℕ) (text : Option (List ℕ)) → are_printable name ≡ true → AreBytesIfAny text → ArePrintable (text_or_null name text)
any-text-printable name None h k = null-printable name h
any-text-printable name (Some text) h k = text-printable name text h k

pub truth-printable : (name : List ℕ) (b : Bool) → are_printable name ≡ true → ArePrintable (truth_field name b)
truth-printable name true h = name-then name h (word (codes "true") refl)
truth-printable name false h = name-then name h (word (codes "false") refl)

pub number-printable : (name : List ℕ) (n : ℕ) → are_printable name ≡ true → ArePrintable (number_field name n)
number-printable name n h = name-then name h (decimal-printable n)

pub count-printable : (name : List ℕ) (n : ℕ) → are_printable name ≡ true → ArePrintable (count_field name n)
count-printable name n h = go (nat_lt 0 n)
  where
    go : (b : Bool) → ArePrintable (cond b (number_field name n) [])
    go true = number-printable name n h
    go false = word [] refl

pub object-printable : (name fields : List ℕ) → are_printable name ≡ true → ArePrintable fields → ArePrintable (object_field name fields)
object-printable name fields h k = join (join (name-then name h (word (codes "{") refl)) (rest-printable k)) (word (codes "}") refl)

pub any-moment-printable : (name : List ℕ) (n : Option ℤ) → are_printable name ≡ true → ArePrintable (moment_or_null name n)
any-moment-printable name None h = null-printable name h
any-moment-printable name (Some n) h = name-then name h (signed-printable n)
