-- What a map from byte texts contains (this project's rule).
use Rattle.std.specs.Prelude.{ℕ, ◌+◌, ◌≡◌, ◌<◌, false, if◌then◌else◌, bytes_eq, get_or, length, List, [], ◌∷◌, Option, Some, None, IfSome}
use Rattle.std.specs.BTreeMap.{get_by}
use Rattle.std.specs.Cmp.Lexicographic.{slice_cmp}
use Rattle.std.specs.List.{sum_by}
use Rattle.std.specs.Option.{option_or}
use Rattle.std.specs.Ordering.{nat_cmp}
use Rattle.ssh_findings.specs.declared.map.ByteMap.{ByteMap}
use Rattle.ssh_findings.specs.declared.map.Slot.{Slot}
use Rattle.ssh_findings.specs.declared.map.Spot.{Spot}
use Rattle.ssh_findings.specs.Number.{number}

module _ {V : Type 0} where
  -- the value at a place, if the text is there
  abbrev pub value_at : Slot V → List ℕ → Option V
  value_at place text = if bytes_eq place.text.items text then Some place.value else None

  -- the value at the last place where the text is
  unfoldable pub value_in : List (Slot V) → List ℕ → Option V
  value_in [] text = None
  value_in (place ∷ places) text = option_or (value_in places text) (value_at place text)

  -- the value of a text in the ordered map, which has the texts of full rows
  abbrev pub other_of : ByteMap V → List ℕ → Option V
  other_of map text = get_by (λ key. slice_cmp nat_cmp text key.items) map.others

  -- the value of a text: at its place, or in the ordered map
  unfoldable pub entry_of : ByteMap V → List ℕ → Option V
  entry_of map text = option_or (value_in map.places.items text) (other_of map text)

  -- the sum of a measure of each entry, by its text and its value
  unfoldable pub sum_of : (List ℕ → V → ℕ) → ByteMap V → ℕ
  sum_of weight map =
      sum_by (λ place. weight place.text.items place.value) map.places.items + sum_by (λ e. weight e.0.items e.1) map.others.entries

  -- the measure of the entry of a text, if it has one
  abbrev pub weight_at : (List ℕ → V → ℕ) → List ℕ → Option V → ℕ
  weight_at weight text None = 0
  weight_at weight text (Some value) = weight text value

  -- this is the last place where the text is
  pub record IsPlace (places : List (Slot V)) (text : List ℕ) (index : ℕ) : Type 0 where
    pub within : index < length places
    pub own : (d : Slot V) → (get_or places index d).text.items ≡ text
    pub after : (i : ℕ) (d : Slot V) → index < i → i < length places → bytes_eq (get_or places i d).text.items text ≡ false

  -- the text with this hash is at this place, or at none
  pub record IsSpot (map : ByteMap V) (text : List ℕ) (spot : Spot) : Type 0 where
    pub hash : spot.hash ≡ number text
    pub found : IfSome spot.place (λ place. IsPlace map.places.items text place)
    pub absent : spot.place ≡ None → value_in map.places.items text ≡ None

  -- each text has its old value, and no sum over the entries has changed
  pub record IsUnchanged (old new : ByteMap V) : Type 0 where
    pub entries : (text : List ℕ) → entry_of new text ≡ entry_of old text
    pub sums : (weight : List ℕ → V → ℕ) → sum_of weight new ≡ sum_of weight old
