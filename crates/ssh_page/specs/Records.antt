-- The rows of authorized_keys lines on the page (this project's rule), in the order and with the words of the text form.
use Rattle.std.specs.Prelude.{◌∷◌, [], ◌&&◌, ◌||◌, ◌==◌, ℕ, ℤ, Bool, not, List, Option, Some, None, is_none, length, codes, if◌then◌else◌}
use Rattle.ssh_keys.specs.declared.kind.KeyKind.{KeyKind}
use Rattle.ssh_keys.specs.Names.{key_name_of}
use Rattle.ssh_rights.specs.declared.rights.Carried.{Carried}
use Rattle.ssh_rights.specs.declared.rights.Rights.{Rights}
use Rattle.ssh_print.specs.Dates.{moment_text}
use Rattle.ssh_print.specs.DecisionText.{carried_word, has_no_right}
use Rattle.ssh_findings.specs.declared.facts.Facts.{Facts}
use Rattle.ssh_findings.specs.declared.finding.Finding.{Finding}
use Rattle.ssh_findings.specs.declared.recovered_key.HeldKey.{HeldKey}
use Rattle.ssh_findings.specs.FindingRows.{FindingRow}
use Rattle.ssh_findings.specs.Findings.{auth_row}
use Rattle.ssh_page.specs.declared.piece.Piece.{Piece}
use Rattle.ssh_page.specs.declared.piece.Piece.TheVariants as piece
use Rattle.ssh_page.specs.declared.record.RowPlace.{RowPlace}
use Rattle.ssh_page.specs.Documents.{Document, nothing, put, say, tell, count, each, ◌&◌}
use Rattle.ssh_page.specs.Findings.{finding_part}
use Rattle.ssh_page.specs.Classes.{class_of}

-- ---- parts of all rows

-- a piece that stands where something holds
abbrev pub put_if : Bool → Piece → Document
put_if holds p = if holds then put p else nothing

-- the classes of the findings of a row
abbrev pub row_classes : {F : Type 0} → (F → FindingRow) → List F → Document
row_classes row found = each (λ f. class_of (row f).code) found

-- the numbers of a row: its name on the page, which links lead to, and the line's number
unfoldable pub row_numbers : RowPlace → Document
row_numbers place =
    put piece.FileId & count place.file & put piece.LineId & count place.line & put piece.RowNumber & count place.line & put piece.KeyCell

-- the findings of a row
abbrev pub row_findings : {F : Type 0} → RowPlace → (F → FindingRow) → List F → Document
row_findings place row found = each (λ f. finding_part place.file (row f)) found

-- a comment
abbrev pub comment_part : List ℕ → Document
comment_part [] = put piece.NoComment
comment_part (c ∷ cs) = tell (c ∷ cs)

-- the number of bits of an RSA key
abbrev pub bits_part : Option ℕ → Document
bits_part None = nothing
bits_part (Some bits) = say (codes " ") & count bits

-- a fingerprint as `ssh-keygen -l` prints it
unfoldable pub fingerprint_part : List ℕ → Document
fingerprint_part fingerprint = put piece.Fingerprint & say fingerprint & put piece.FingerprintEnd

-- the type of a key, the size of an RSA key, and the fingerprint
unfoldable pub key_part : KeyKind → Option ℕ → List ℕ → Document
key_part kind bits fingerprint =
    put piece.KeyType & say (key_name_of kind) & bits_part bits & put piece.KeyTypeEnd & fingerprint_part fingerprint

-- the recovered key of a line that cannot be read, if there is one
abbrev pub held_part : Option HeldKey → Document
held_part None = nothing
held_part (Some held) = key_part held.kind held.bits held.fingerprint

-- the value of an option, if there is one, after its word
abbrev pub setting_part : List ℕ → Option (List ℕ) → Document
setting_part word None = nothing
setting_part word (Some text) = put piece.Limit & say word & tell text & put piece.LimitEnd

abbrev pub flag_part : Bool → List ℕ → Document
flag_part stands words = if stands then put piece.Limit & say words & put piece.LimitEnd else nothing

-- ---- rights and limits of an entry

-- a right, or an empty mark where it is off
abbrev pub right_piece : Bool → Piece → Piece
right_piece on right = if on then right else piece.RightOff

unfoldable pub right_marks : Rights → Document
right_marks r =
    put (right_piece r.port piece.Port) & put (right_piece r.agent piece.Agent) & put (right_piece r.x11 piece.X11)
    & put (right_piece r.pty piece.Pty) & put (right_piece r.user_rc piece.UserRc)

abbrev pub rights_part : Rights → Document
rights_part r = if has_no_right r then put piece.NoRights else right_marks r

-- the text of an option that is listed as it is, without reading it
unfoldable pub carried_part : Carried → Document
carried_part c =
    put piece.Limit & say (codes "carry ") & say (carried_word c.name) & say (codes " ") & tell c.text & put piece.LimitEnd

-- a word and what the program says of it
unfoldable pub words_part : List ℕ → List ℕ → Document
words_part word text = put piece.Limit & say word & say text & put piece.LimitEnd

-- the moment at which the entry expires, and its date
abbrev pub until_part : Option ℤ → Document
until_part None = nothing
until_part (Some moment) = words_part (codes "expires ") (moment_text moment)

-- the forced command, and the texts of options that are listed as they are
unfoldable pub command_part : Rights → Document
command_part r = setting_part (codes "command ") r.command & each carried_part r.carried

-- the other limits: flags of security keys, addresses, principals, time
unfoldable pub limits_part : Facts → Document
limits_part f =
    flag_part f.no_touch_required (codes "no-touch-required") & flag_part f.verify_required (codes "verify-required")
    & setting_part (codes "from ") f.from & setting_part (codes "principals ") f.principals & until_part f.until

abbrev pub is_free_to_run : Rights → Bool
is_free_to_run r = is_none r.command && length r.carried == 0

abbrev pub is_free_of_flags : Facts → Bool
is_free_of_flags f = not (f.is_authority || (f.no_touch_required || f.verify_required))

abbrev pub is_free_of_lists : Facts → Bool
is_free_of_lists f = is_none f.from && (is_none f.principals && is_none f.until)

-- nothing limits the key
abbrev pub is_free : Facts → Bool
is_free f = is_free_of_flags f && (is_free_to_run f.rights && is_free_of_lists f)

-- all limits, and that there is none
unfoldable pub all_limits : Facts → Document
all_limits f =
    flag_part f.is_authority (codes "authority: whoever it certifies") & command_part f.rights & limits_part f
    & put_if (is_free f) piece.NoLimit

-- ---- rows

-- the first cells of an entry: whose key it is, which key, and what it may do
unfoldable pub entry_cells : Facts → Document
entry_cells f = comment_part f.comment & key_part f.kind f.bits f.fingerprint & put piece.RightsCell & rights_part f.rights

-- the row of an entry with the reported findings
unfoldable pub entry_row : RowPlace → Facts → List Finding → Document
entry_row place f found =
    put piece.Row & row_classes auth_row found & put_if f.is_authority piece.AuthorityClass & row_numbers place & entry_cells f
    & put piece.LimitsCell & all_limits f & row_findings place auth_row found & put piece.RowEnd

-- the row of a line that cannot be read, with its recovered key, if there is one, and the reported findings
unfoldable pub unreadable_row : RowPlace → Option HeldKey → List Finding → Document
unreadable_row place held found =
    put piece.Row & row_classes auth_row found & put piece.UnreadableClass & row_numbers place & say (codes "unreadable")
    & held_part held & put piece.RightsCell & put piece.RightsUnknown & put piece.LimitsCell & row_findings place auth_row found
    & put piece.RowEnd
