-- The error of the first wrong field of a public key, stated by its fields alone.
use Rattle.std.specs.Prelude.{◌≡◌, ◌≢◌, ℕ, ◌+◌, true, false, List, [], ◌∷◌, ◌++◌, length, IsTrue}
use Rattle.ssh_wire.specs.declared.cursor.WireCause.{WireCause}
use Rattle.ssh_wire.specs.declared.cursor.WireCause.TheVariants.{Short, MpintNotMinimal, MpintNegative, Value}
use Rattle.ssh_wire.specs.Spelling.{is_least, is_not_negative}
use Rattle.ssh_wire.specs.Stands.{Stands, NoString, BeginsString}
use Rattle.ssh_keys.specs.declared.kind.Curve.{Curve}
use Rattle.ssh_keys.specs.declared.kind.Curve.TheVariants.{Nistp256, Nistp384, Nistp521}
use Rattle.ssh_keys.specs.declared.key.KeyError.{KeyError}
use Rattle.ssh_keys.specs.declared.key.KeyError.TheVariants as errors
use Rattle.ssh_keys.specs.declared.kind.KeyKind.{KeyKind}
use Rattle.ssh_keys.specs.declared.kind.KeyKind.TheVariants.{Rsa, P256, P384, P521, Ed25519, SkP256, SkEd25519}
use Rattle.ssh_keys.specs.Curves.{curve_name_of, point_len_of}
use Rattle.ssh_keys.specs.PublicKey.{PublicKey, kind_of, fields_of, is_point, is_in_range}

-- the type of a field: a number above zero, the name of a curve, a point of it, a public key of 32 bytes, any string
pub data KeyFieldSort : Type 0 where
  number : KeyFieldSort
  curve : Curve → KeyFieldSort
  point : Curve → KeyFieldSort
  public : KeyFieldSort
  text : KeyFieldSort

-- the types of the fields after the type name (RFC 4253 section 6.6, RFC 5656 section 3.1, RFC 8709 section 4, PROTOCOL.u2f)
abbrev pub sorts_of : KeyKind → List KeyFieldSort
sorts_of Rsa = number ∷ number ∷ []
sorts_of P256 = curve Nistp256 ∷ point Nistp256 ∷ []
sorts_of P384 = curve Nistp384 ∷ point Nistp384 ∷ []
sorts_of P521 = curve Nistp521 ∷ point Nistp521 ∷ []
sorts_of Ed25519 = public ∷ []
sorts_of SkP256 = curve Nistp256 ∷ point Nistp256 ∷ text ∷ []
sorts_of SkEd25519 = public ∷ text ∷ []

-- Why no value can be read from the rest: it does not begin with a string; a number has a byte that can be left out; it has none, and is below zero; it is zero.
abbrev pub IsUnread : WireCause → KeyFieldSort → List ℕ → Type 0
IsUnread Short sort rest = NoString rest
IsUnread MpintNotMinimal number rest = BeginsString (λ bytes. is_least bytes ≡ false) rest
IsUnread MpintNegative number rest = BeginsString (λ bytes. (is_least bytes ≡ true) × (is_not_negative bytes ≡ false)) rest
IsUnread Value number rest = BeginsString (λ bytes. bytes ≡ []) rest
IsUnread cause sort rest = ⊥

-- The error of a field of this type: it cannot be read, at this place; it is another curve's name; it is not a point of that curve's length; it does not have 32 bytes.
abbrev pub IsWrong : KeyError → KeyFieldSort → List ℕ → ℕ → Type 0
IsWrong (errors.Wire e) sort rest place = (e.place ≡ place) × IsUnread e.cause sort rest
IsWrong errors.Curve (curve c) rest place = BeginsString (λ name. name ≢ curve_name_of c) rest
IsWrong errors.Point (point c) rest place = BeginsString (λ q. is_point (point_len_of c) q ≡ false) rest
IsWrong errors.Length public rest place = BeginsString (λ a. length a ≢ 32) rest
IsWrong e sort rest place = ⊥

-- a key of this kind whose fields are in their ranges
pub record IsOfKind (kind : KeyKind) (key : PublicKey) : Type 0 where
  pub of : kind_of key ≡ kind
  pub in_range : IsTrue (is_in_range key)

-- The fields before one are complete, as those of a key of this kind, and this one is wrong. (`offset` bytes come before the first of them.)
pub record IsFieldFault (kind : KeyKind) (offset : ℕ) (bytes : List ℕ) (e : KeyError) : Type 0 where
  pub before : List KeyFieldSort
  pub sort : KeyFieldSort
  pub after : List KeyFieldSort
  pub row : sorts_of kind ≡ before ++ sort ∷ after
  pub place : ℕ
  pub rest : List ℕ
  pub stands : Stands fields_of (IsOfKind kind) (length before) bytes place rest
  pub wrong : IsWrong e sort rest (offset + place)
