-- Key type, base64 key and comment: the part that the lines of both files share (sshd(8)).
use Rattle.std.specs.Prelude.{◌≡◌, ℕ, Bool, true, false, ◌||◌, if◌then◌else◌, List, [], ◌∷◌, ◌++◌, bytes_eq, Result, Ok, Err}
use Rattle.base64.specs.GeneralPurpose.{decode_of, IsBytes}
use Rattle.base64.specs.Engines.{standard}
use Rattle.base64.specs.declared.decode.DecodeError.{DecodeError}
use Rattle.ssh_keys.specs.declared.kind.KeyKind.{KeyKind}
use Rattle.ssh_keys.specs.declared.kind.NameClass.{NameClass}
use Rattle.ssh_keys.specs.declared.kind.NameClass.TheVariants.{Plain, Certificate, Retired, Other}
use Rattle.ssh_keys.specs.declared.key.KeyError.{KeyError}
use Rattle.ssh_keys.specs.Names.{key_name_of, class_of}
use Rattle.ssh_keys.specs.PublicKey.{PublicKey, kind_of, key_blob, IsKey}
use Rattle.ssh_keys.specs.KeyReading.{key_in}
use Rattle.ssh_options.specs.declared.option_text.LineCause.{LineCause}
use Rattle.ssh_options.specs.declared.option_text.LineCause.TheVariants as causes
use Rattle.ssh_entries.specs.Names.{base64}
use Rattle.ssh_text.specs.Text.{skip_blanks, first_word, next_field, after_word, comment_of, IsGap, SpellsTail, IsComment}

-- a key, and the comment after it
pub record KeyPart : Type 0 where
  pub key : PublicKey
  pub comment : List ℕ

-- ---- the grammar

-- the key's type string, blanks, the base64 of its blob, and the comment after them
abbrev pub SpellsKey : PublicKey → List ℕ → List ℕ → Type 0
SpellsKey key comment text =
    (gap tail : List ℕ) × IsGap gap × IsBytes (key_blob key) × IsKey key
    × IsComment comment × SpellsTail comment tail
    × (text ≡ key_name_of (kind_of key) ++ gap ++ base64 (key_blob key) ++ tail)

-- ---- reading

abbrev pub has_no_bytes : List ℕ → Bool
has_no_bytes [] = true
has_no_bytes (c ∷ cs) = false

abbrev pub is_type : NameClass → Bool
is_type (Plain kind) = true
is_type (Certificate kind) = true
is_type Retired = true
is_type Other = false

-- whether the text begins with the name of a key type: plain, retired or certificate
abbrev pub begins_with_type : List ℕ → Bool
begins_with_type text = is_type (class_of (first_word text))

-- the type or the base64 field is missing
abbrev pub lacks_key : List ℕ → Bool
lacks_key text = has_no_bytes (first_word text) || has_no_bytes (first_word (next_field text))

abbrev pub key_of_kind : KeyKind → List ℕ → Result PublicKey KeyError → Result KeyPart LineCause
key_of_kind kind comment (Err e) = Err (causes.KeyBlob e)
key_of_kind kind comment (Ok key) =
    if bytes_eq (key_name_of kind) (key_name_of (kind_of key)) then Ok (record { key = key; comment = comment }) else Err causes.TypeMismatch

abbrev pub key_of_blob : KeyKind → List ℕ → Result (List ℕ) DecodeError → Result KeyPart LineCause
key_of_blob kind comment (Err e) = Err causes.Base64
key_of_blob kind comment (Ok blob) = key_of_kind kind comment (key_in blob)

-- the key of a type field, a base64 field and what follows them
abbrev pub key_by_class : NameClass → List ℕ → List ℕ → Result KeyPart LineCause
key_by_class Other field rest = Err causes.KeyType
key_by_class Retired field rest = Err causes.RetiredType
key_by_class (Certificate kind) field rest = Err causes.CertificateOnLine
key_by_class (Plain kind) field rest = key_of_blob kind (comment_of rest) (decode_of standard field)

-- the key by a type field, its class, and what follows it, or the first fault
abbrev pub key_of_class : NameClass → List ℕ → List ℕ → Result KeyPart LineCause
key_of_class class word after =
    if has_no_bytes word || has_no_bytes (first_word (skip_blanks after)) then Err causes.NoKey
    else key_by_class class (first_word (skip_blanks after)) (after_word (skip_blanks after))

-- the key of a text in which type and base64 are not missing
abbrev pub key_after_fields : List ℕ → Result KeyPart LineCause
key_after_fields text =
    key_by_class (class_of (first_word text)) (first_word (next_field text)) (after_word (next_field text))

-- the key of a text of type, base64 and comment, or its first fault
unfoldable pub key_part_of : List ℕ → Result KeyPart LineCause
key_part_of text = if lacks_key text then Err causes.NoKey else key_after_fields text
