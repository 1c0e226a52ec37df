-- The grammar of the lines of an authorized_keys file, and the function that reads them (sshd(8), AUTHORIZED_KEYS FILE
-- FORMAT).
use Rattle.std.specs.Prelude.{◌≡◌, ℕ, ◌≤◌, false, if◌then◌else◌, List, [], ◌∷◌, ◌++◌, length, drop, Result, Ok, Err}
use Rattle.ssh_options.specs.declared.option_text.LineCause.{LineCause}
use Rattle.ssh_options.specs.declared.option_text.LineCause.TheVariants as causes
use Rattle.ssh_options.specs.AuthOption.{AuthOption}
use Rattle.ssh_entries.specs.AuthEntry.{AuthEntry}
use Rattle.ssh_entries.specs.declared.auth_line.AuthLine.{AuthLine}
use Rattle.ssh_entries.specs.declared.auth_line.AuthLine.TheVariants.{Blank, Comment, Entry, Unreadable}
use Rattle.ssh_text.specs.Text.{line_limit, skip_blanks, AreBlanks, IsGap}
use Rattle.ssh_options.specs.OptionText.{SpellsItems, AreAllowed, option_text_of, options_of}
use Rattle.ssh_entries.specs.KeyPart.{KeyPart, SpellsKey, begins_with_type, key_part_of}
use Rattle.ssh_entries.specs.Front.{LineFront, past_limit, empty, remark, fields, front_of}

-- ---- the grammar

-- no options, or options and the blanks after them
abbrev pub SpellsOptions : List AuthOption → List ℕ → Type 0
SpellsOptions [] text = text ≡ []
SpellsOptions (option ∷ options) text =
    (items gap : List ℕ) × SpellsItems (option ∷ options) items × IsGap gap
    × AreAllowed [] (option ∷ options) × (text ≡ items ++ gap)

-- The line spells the entry: blanks, options and blanks or nothing, type, blanks, base64, and a tail with the comment.
abbrev pub SpellsEntry : AuthEntry → List ℕ → Type 0
SpellsEntry entry line =
    (length line ≤ line_limit)
    × ((front options key : List ℕ) × AreBlanks front × SpellsOptions entry.options options
    × SpellsKey entry.key entry.comment key × (line ≡ front ++ options ++ key))

-- ---- reading, with the first fault

abbrev pub entry_of_key : List AuthOption → Result KeyPart LineCause → AuthLine
entry_of_key options (Err cause) = Unreadable cause
entry_of_key options (Ok part) = Entry (record { options = options; key = part.key; comment = part.comment })

abbrev pub entry_after_options : Result (List AuthOption) LineCause → List ℕ → AuthLine
entry_after_options (Err cause) rest = Unreadable cause
entry_after_options (Ok options) rest = entry_of_key options (key_part_of rest)

-- a line that begins with options, as read
abbrev pub entry_with_options : List ℕ → AuthLine
entry_with_options body =
    entry_after_options (options_of (option_text_of false 0 body))
    (skip_blanks (drop (length (option_text_of false 0 body)) body))

-- Where the first word is a key type, the line has no options.
abbrev pub entry_of : List ℕ → AuthLine
entry_of body =
    if begins_with_type body then entry_of_key [] (key_part_of body)
    else entry_with_options body

abbrev pub line_of_front : LineFront → AuthLine
line_of_front past_limit = Unreadable causes.TooLong
line_of_front empty = Blank
line_of_front remark = Comment
line_of_front (fields body) = entry_of body

-- a line as read: too long, blank, a comment, an entry, or the first fault of its options and its key
unfoldable pub auth_line : List ℕ → AuthLine
auth_line line = line_of_front (front_of line)
