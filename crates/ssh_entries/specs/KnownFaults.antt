-- Why a known_hosts line cannot be read, stated over its fields alone: the line passes all earlier tests, and it has
-- the fault.
use Rattle.std.specs.Prelude.{◌≡◌, ◌≢◌, ◌⊎◌, ℕ, ◌≤◌, true, false, List, [], length}
use Rattle.base64.specs.GeneralPurpose.{IsBytes}
use Rattle.ssh_keys.specs.declared.kind.KeyKind.{KeyKind}
use Rattle.ssh_keys.specs.declared.kind.NameClass.TheVariants.{Plain, Certificate, Retired, Other}
use Rattle.ssh_keys.specs.Names.{key_name_of, class_of}
use Rattle.ssh_keys.specs.PublicKey.{PublicKey, kind_of, key_blob, IsKey}
use Rattle.ssh_keys.specs.FirstFault.{IsFirstFault}
use Rattle.ssh_entries.specs.Names.{Names, SpellsNames, IsNamesFault}
use Rattle.ssh_entries.specs.declared.names.NamesError.TheVariants as faults
use Rattle.ssh_options.specs.declared.option_text.LineCause.{LineCause}
use Rattle.ssh_options.specs.declared.option_text.LineCause.TheVariants as causes
use Rattle.ssh_text.specs.Text.{line_limit, body_of, first_word, next_field}
use Rattle.ssh_entries.specs.Front.{begins_with}
use Rattle.ssh_entries.specs.Names.{base64}
use Rattle.ssh_entries.specs.Markers.{authority_marker, revoked_marker}
use Rattle.ssh_entries.specs.KnownGrammar.{HasNoBytes}

-- the base64 field of a text of type and base64
abbrev pub field_of : List ℕ → List ℕ
field_of key = first_word (next_field key)

-- The fault of a text in which type and base64 are not missing, in this order: the class of the type, the base64, the
-- blob, and the type of the key.
abbrev pub IsKeyFault : LineCause → List ℕ → Type 0
IsKeyFault causes.KeyType key = class_of (first_word key) ≡ Other
IsKeyFault causes.RetiredType key = class_of (first_word key) ≡ Retired
IsKeyFault causes.CertificateOnLine key = (kind : KeyKind) × (class_of (first_word key) ≡ Certificate kind)
IsKeyFault causes.Base64 key = (kind : KeyKind) × (class_of (first_word key) ≡ Plain kind) × HasNoBytes (field_of key)
IsKeyFault (causes.KeyBlob e) key =
    (kind : KeyKind) × (blob : List ℕ) × (class_of (first_word key) ≡ Plain kind) × IsBytes blob × (field_of key ≡ base64 blob)
    × IsFirstFault blob e
IsKeyFault causes.TypeMismatch key =
    (kind : KeyKind) × (read : PublicKey) × (class_of (first_word key) ≡ Plain kind) × IsKey read
    × (field_of key ≡ base64 (key_blob read)) × (key_name_of kind ≢ key_name_of (kind_of read))
IsKeyFault _ key = ⊥

-- type and base64 are not missing
pub record HasKey (key : List ℕ) : Type 0 where
  pub type_name : first_word key ≢ []
  pub base64 : field_of key ≢ []

-- The fault of a text of names and key: type or base64 is missing, the names are faulty, or the key is.
abbrev pub IsTextFault : LineCause → List ℕ → Type 0
IsTextFault causes.NoKey text = (first_word (next_field text) ≡ []) ⊎ (field_of (next_field text) ≡ [])
IsTextFault causes.HashedName text = HasKey (next_field text) × IsNamesFault faults.HashedName (first_word text)
IsTextFault causes.Names text = HasKey (next_field text) × IsNamesFault faults.EmptyItem (first_word text)
IsTextFault cause text =
    HasKey (next_field text) × ((names : Names) × SpellsNames names (first_word text)) × IsKeyFault cause (next_field text)

-- the line has fields, and it is within the limit
pub record HasFields (line : List ℕ) : Type 0 where
  pub short : length line ≤ line_limit
  pub some : body_of line ≢ []
  pub comment : begins_with 35 (body_of line) ≡ false

-- the names of the line and what follows them: all of its fields, or those after `@cert-authority`
abbrev pub IsText : List ℕ → List ℕ → Type 0
IsText line text =
    ((begins_with 64 (first_word (body_of line)) ≡ false) × (text ≡ body_of line))
    ⊎ ((first_word (body_of line) ≡ authority_marker) × (text ≡ next_field (body_of line)))

-- The fault of a line: an unknown marker, or that of its names and its key.
abbrev pub IsKnownFault : LineCause → List ℕ → Type 0
IsKnownFault causes.Marker line =
    HasFields line × (begins_with 64 (first_word (body_of line)) ≡ true)
    × (first_word (body_of line) ≢ authority_marker) × (first_word (body_of line) ≢ revoked_marker)
IsKnownFault cause line = HasFields line × ((text : List ℕ) × IsText line text × IsTextFault cause text)
