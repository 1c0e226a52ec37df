-- Why a line of an authorized_keys file cannot be read, stated over its fields alone: the line passes all earlier
-- tests, and it has the fault (sshd(8), AUTHORIZED_KEYS FILE FORMAT; the order of the tests is this project's rule).
use Rattle.std.specs.Prelude.{◌≡◌, ◌≢◌, ◌⊎◌, ℕ, ◌<◌, false, List, [], length, drop}
use Rattle.ssh_keys.specs.declared.kind.NameClass.TheVariants.{Other}
use Rattle.ssh_keys.specs.Names.{class_of}
use Rattle.ssh_options.specs.declared.option_text.LineCause.{LineCause}
use Rattle.ssh_options.specs.declared.option_text.LineCause.TheVariants as causes
use Rattle.ssh_options.specs.AuthOption.{AuthOption}
use Rattle.ssh_options.specs.OptionFaults.{IsOptionsFault}
use Rattle.ssh_options.specs.OptionText.{AreAllowed, SpellsItems, option_text_of}
use Rattle.ssh_text.specs.Text.{body_of, first_word, line_limit, skip_blanks}
use Rattle.ssh_entries.specs.KnownFaults.{HasFields, HasKey, IsKeyFault, field_of}

-- the fields of a line up to the first blank outside quotes, and what follows the blanks there
abbrev pub option_field : List ℕ → List ℕ
option_field line = option_text_of false 0 (body_of line)

abbrev pub after_options : List ℕ → List ℕ
after_options line = skip_blanks (drop (length (option_field line)) (body_of line))

-- the line has fields, and the first is not a key type, so that the line begins with options
pub record HasOptions (line : List ℕ) : Type 0 where
  pub there : HasFields line
  pub no_type : class_of (first_word (body_of line)) ≡ Other

-- The text of type and base64: all fields of a line that begins with a key type, otherwise what follows the options,
-- which are well formed and may occur together on a line.
abbrev pub IsKeyText : List ℕ → List ℕ → Type 0
IsKeyText line text =
    ((class_of (first_word (body_of line)) ≢ Other) × (text ≡ body_of line))
    ⊎ ((options : List AuthOption) × (class_of (first_word (body_of line)) ≡ Other) × SpellsItems options (option_field line)
    × AreAllowed [] options × (text ≡ after_options line))

-- The fault of a line, in this order: it is too long; its options have a fault; type or base64 is missing; its key has
-- a fault.
abbrev pub IsAuthFault : LineCause → List ℕ → Type 0
IsAuthFault causes.TooLong line = line_limit < length line
IsAuthFault causes.OptionSyntax line = HasOptions line × IsOptionsFault causes.OptionSyntax (option_field line)
IsAuthFault causes.UnknownOption line = HasOptions line × IsOptionsFault causes.UnknownOption (option_field line)
IsAuthFault causes.OptionValue line = HasOptions line × IsOptionsFault causes.OptionValue (option_field line)
IsAuthFault causes.RepeatedOption line = HasOptions line × IsOptionsFault causes.RepeatedOption (option_field line)
IsAuthFault causes.ExpiryText line = HasOptions line × IsOptionsFault causes.ExpiryText (option_field line)
IsAuthFault causes.NoKey line =
    (text : List ℕ) × HasFields line × IsKeyText line text × ((first_word text ≡ []) ⊎ (field_of text ≡ []))
IsAuthFault cause line = (text : List ℕ) × HasFields line × IsKeyText line text × HasKey text × IsKeyFault cause text
