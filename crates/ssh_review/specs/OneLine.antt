-- Lines of printable ASCII (RFC 20), and values whose texts consist of bytes.
use Rattle.std.specs.Prelude.{◌&&◌, ◌==◌, ℕ, Bool, false, List, [], ◌∷◌, length, nat_le, nat_lt, Option, Some, None, if◌then◌else◌}
use Rattle.std.specs.List.{AllByRecursion, list_all}
use Rattle.ssh_offers.specs.FirstRefusal.{AreBytes}
use Rattle.ssh_options.specs.AuthOption.{AuthOption, Switch, Setting}
use Rattle.ssh_rights.specs.declared.rights.Carried.{Carried}
use Rattle.ssh_findings.specs.declared.facts.Facts.{Facts}
use Rattle.ssh_findings.specs.declared.recovered_key.HeldKey.{HeldKey}

-- a space or a graphic character
abbrev pub is_printable : ℕ → Bool
is_printable c = nat_le 32 c && nat_lt c 127

abbrev pub are_printable : List ℕ → Bool
are_printable text = list_all is_printable text

-- printable bytes, then an LF (10), and nothing after it
abbrev pub is_line : List ℕ → Bool
is_line [] = false
is_line (c ∷ cs) = if is_printable c then is_line cs else (c == 10 && length cs == 0)

-- ---- texts of bytes

abbrev pub AreBytesIfAny : Option (List ℕ) → Type 0
AreBytesIfAny None = Unit {0}
AreBytesIfAny (Some text) = AreBytes text

abbrev pub HasByteValue : AuthOption → Type 0
HasByteValue (Switch flag) = Unit {0}
HasByteValue (Setting name value) = AreBytes value

-- each value of the options consists of bytes
abbrev pub HaveByteValues : List AuthOption → Type 0
HaveByteValues options = AllByRecursion HasByteValue options

-- each text of an entry consists of bytes
pub record IsOfBytes (f : Facts) : Type 0 where
  pub fingerprint : AreBytes f.fingerprint
  pub comment : AreBytes f.comment
  pub command : AreBytesIfAny f.rights.command
  pub carried : AllByRecursion (λ (c : Carried). AreBytes c.text) f.rights.carried
  pub from : AreBytesIfAny f.from
  pub principals : AreBytesIfAny f.principals

-- the fingerprint of a key, if there is one, consists of bytes
abbrev pub IsHeldOfBytes : Option HeldKey → Type 0
IsHeldOfBytes None = Unit {0}
IsHeldOfBytes (Some held) = AreBytes held.fingerprint
