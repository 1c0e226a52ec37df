-- The fields of a line that has a key (sshd(8), AUTHORIZED_KEYS FILE FORMAT), and for which answers its bytes are
-- decoded.
use Rattle.std.specs.Prelude.{Bool, true, false}
use Rattle.base64.specs.Engines.{standard}
use Rattle.base64.specs.GeneralPurpose.{decode_of}
use Rattle.ssh_options.specs.declared.option_text.LineCause.{LineCause}
use Rattle.ssh_options.specs.declared.option_text.LineCause.TheVariants as causes
use Rattle.ssh_text.specs.Text.{after_word, comment_of, first_word}
use Rattle.ssh_entries.specs.declared.auth_line.AuthLine.{AuthLine}
use Rattle.ssh_entries.specs.declared.auth_line.AuthLine.TheVariants.{Blank, Comment, Entry, Unreadable}
use Rattle.ssh_entries.specs.declared.auth_view.EntryFields.{EntryFields}
use Rattle.ssh_entries.specs.AuthGrammar.{entry_of_key}
use Rattle.ssh_entries.specs.KeyPart.{key_of_blob}

-- the line of these fields, once the key's bytes are decoded
abbrev pub entry_of_fields : EntryFields → AuthLine
entry_of_fields f = entry_of_key f.options (key_of_blob f.kind (comment_of (after_word f.text.now)) (decode_of standard (first_word f.text.now)))

-- the faults that need the decoded bytes: L10, L11 and L12
abbrev pub is_of_bytes : LineCause → Bool
is_of_bytes causes.Base64 = true
is_of_bytes (causes.KeyBlob e) = true
is_of_bytes causes.TypeMismatch = true
is_of_bytes _ = false

-- whether the key's bytes are decoded, which allocates memory
abbrev pub needs_bytes : AuthLine → Bool
needs_bytes Blank = false
needs_bytes Comment = false
needs_bytes (Entry entry) = true
needs_bytes (Unreadable cause) = is_of_bytes cause
