-- What is read on the rows of the page, in the words of the text form (this project's rule).
use Rattle.std.specs.Prelude.{◌≡◌, ◌++◌, ◌∷◌, [], ◌||◌, ℕ, Bool, true, false, List, Option, codes, bytes_eq, if◌then◌else◌}
use Rattle.std.specs.Fmt.{decimal}
use Rattle.std.specs.List.{flat_map, list_all}
use Rattle.ssh_keys.specs.declared.kind.KeyKind.{KeyKind}
use Rattle.ssh_rights.specs.declared.rights.Rights.{Rights}
use Rattle.ssh_print.specs.Texts.{escaped_text, is_plain_byte, text_line}
use Rattle.ssh_findings.specs.Codes.{code_text}
use Rattle.ssh_findings.specs.FindingRows.{FindingRow}
use Rattle.ssh_findings.specs.Findings.{auth_row}
use Rattle.ssh_findings.specs.HostFindingsFindings.{host_row}
use Rattle.ssh_findings.specs.declared.facts.Facts.{Facts}
use Rattle.ssh_findings.specs.declared.finding.Finding.{Finding}
use Rattle.ssh_findings.specs.declared.host_facts.HostFacts.{HostFacts}
use Rattle.ssh_findings.specs.declared.host_finding.HostFinding.{HostFinding}
use Rattle.ssh_findings.specs.declared.recovered_key.HeldKey.{HeldKey}
use Rattle.ssh_findings.specs.declared.row.Value.{Value}
use Rattle.ssh_findings.specs.declared.row.Value.TheVariants.{Nothing, Number, Cause}
use Rattle.ssh_page.specs.Documents.{Document, nothing, put, say, tell, copied, count, ◌&◌}
use Rattle.ssh_page.specs.Findings.{names_a_line}
use Rattle.ssh_page.specs.HostRecords.{role}
use Rattle.ssh_page.specs.Pieces.{tags}
use Rattle.ssh_page.specs.Records.{is_free}
use Rattle.ssh_page.specs.Tags.{Tag, opens, alone, closes, begins, begins_alone, goes_on, ends, reads}
use Rattle.ssh_review.specs.Findings.{finding_head, row_detail, row_sentence}
use Rattle.ssh_review.specs.Records.{carried_inset, fingerprint_word, flag_line, held_words, key_words, limit_lines, setting_line}
use Rattle.ssh_review.specs.RightsWords.{rights_words}

-- ---- a part of the page as a text

-- what stands in a text where an element begins: a paragraph is a line of its own, after four spaces (this project's rule)
abbrev pub opening : List ℕ → List ℕ
opening name = if bytes_eq name (codes "p") then codes "    " else []

-- the same of a word in an element of its own, which has a space before it (this project's rule)
abbrev pub word_opening : List ℕ → List ℕ
word_opening name = if bytes_eq name (codes "p") then codes "    " else codes " "

-- the elements that are lines of their own where they end: paragraphs and cells (this project's rule)
abbrev pub ends_a_line : List ℕ → Bool
ends_a_line name = bytes_eq name (codes "p") || (bytes_eq name (codes "td") || bytes_eq name (codes "th"))

-- what stands in a text where an element ends (this project's rule)
abbrev pub closing : List ℕ → List ℕ
closing name = if ends_a_line name then codes "\n" else []

-- the same of any tag: a new line within a cell is a space, and attributes are not read (this project's rule)
abbrev pub spoken_tag : Tag → List ℕ
spoken_tag (opens name attributes) = opening name
spoken_tag (alone name attributes) = codes " "
spoken_tag (closes name) = closing name
spoken_tag (begins name attributes) = opening name
spoken_tag (begins_alone name attributes) = codes " "
spoken_tag (goes_on attributes) = []
spoken_tag (ends attributes) = []
spoken_tag (reads words) = words

-- the same of the tags of a piece (this project's rule)
abbrev pub spoken_tags : List Tag → List ℕ
spoken_tags (opens name attributes ∷ reads words ∷ closes other ∷ []) = word_opening name ++ words ++ closing other
spoken_tags tags = flat_map spoken_tag tags

-- whether the value of an attribute is open after a tag, if it was so before (this project's rule)
abbrev pub valued_after_tag : Bool → Tag → Bool
valued_after_tag valued (opens name attributes) = false
valued_after_tag valued (alone name attributes) = false
valued_after_tag valued (closes name) = false
valued_after_tag valued (begins name attributes) = true
valued_after_tag valued (begins_alone name attributes) = true
valued_after_tag valued (goes_on attributes) = valued
valued_after_tag valued (ends attributes) = false
valued_after_tag valued (reads words) = valued

abbrev pub valued_after_tags : Bool → List Tag → Bool
valued_after_tags valued [] = valued
valued_after_tags valued (tag ∷ tags) = valued_after_tags (valued_after_tag valued tag) tags

-- the same after a part of the page (this project's rule)
abbrev pub valued_after : Bool → Document → Bool
valued_after valued nothing = valued
valued_after valued (put p) = valued_after_tags valued (tags p)
valued_after valued (say text) = valued
valued_after valued (tell text) = valued
valued_after valued (copied text) = valued
valued_after valued (count n) = valued
valued_after valued (a & b) = valued_after (valued_after valued a) b

-- The words of a part of the page: those of the program as they are, the texts of a file escaped, and the numbers that do not
-- stand in an attribute (this project's rule).
abbrev pub spoken : Bool → Document → List ℕ
spoken valued nothing = []
spoken valued (put p) = spoken_tags (tags p)
spoken valued (say text) = text
spoken valued (tell text) = escaped_text text
spoken valued (copied text) = text
spoken valued (count n) = if valued then [] else decimal n
spoken valued (a & b) = spoken valued a ++ spoken (valued_after valued a) b

-- what is read on it (this project's rule)
abbrev pub words_on : Document → List ℕ
words_on part = spoken false part

-- a text that is escaped to itself (this project's rule)
abbrev pub are_plain : List ℕ → Bool
are_plain text = list_all is_plain_byte text

-- no word of the program in it has a byte to escape (this project's rule)
abbrev pub IsPlain : Document → Type 0
IsPlain nothing = Unit {0}
IsPlain (put p) = Unit {0}
IsPlain (say text) = are_plain text ≡ true
IsPlain (tell text) = Unit {0}
IsPlain (copied text) = Unit {0}
IsPlain (count n) = Unit {0}
IsPlain (a & b) = IsPlain a × IsPlain b

-- ---- findings

-- the words of the link to the line that a finding names, if it names one (this project's rule)
abbrev pub line_word : Value → List ℕ
line_word Nothing = []
line_word (Number line) = codes " see line " ++ decimal line
line_word (Cause why) = []

abbrev pub see_line : FindingRow → List ℕ
see_line r = if names_a_line r.code then line_word r.value else []

-- the line of a finding as in the text form, with the words of its link at the end (this project's rule)
abbrev pub linked_line : FindingRow → List ℕ
linked_line r = finding_head (code_text r.code) (row_detail r) ++ row_sentence r ++ see_line r ++ codes "\n"

abbrev pub linked_lines : {F : Type 0} → (F → FindingRow) → List F → List ℕ
linked_lines row found = flat_map (λ f. linked_line (row f)) found

-- ---- rows

-- a comment as in the text form, or that there is none (this project's rule)
abbrev pub comment_words : List ℕ → List ℕ
comment_words [] = codes " no comment"
comment_words (c ∷ cs) = escaped_text (c ∷ cs)

-- whose key it is, and which key, as in the text form (this project's rule)
abbrev pub named_key : List ℕ → KeyKind → Option ℕ → List ℕ → List ℕ
named_key comment kind bits fingerprint = comment_words comment ++ codes " " ++ key_words kind bits fingerprint ++ codes "\n"

-- that nothing limits the key (this project's rule)
abbrev pub free_line : Facts → List ℕ
free_line f = if is_free f then codes "    any command, from anywhere, for ever\n" else []

-- the forced command, and the texts of options that are listed as they are, as in the text form (this project's rule)
abbrev pub command_lines : Rights → List ℕ
command_lines r = setting_line (codes "    command ") r.command ++ flat_map carried_inset r.carried

-- all limits, those that the text form has in its words (this project's rule)
abbrev pub all_limit_lines : Facts → List ℕ
all_limit_lines f =
    flag_line f.is_authority (codes "    authority: whoever it certifies\n") ++ command_lines f.rights ++ limit_lines f ++ free_line f

-- the row of an entry: the number of its line, its key, its rights, its limits and its findings (this project's rule)
abbrev pub entry_words : ℕ → Facts → List Finding → List ℕ
entry_words line f found =
    decimal line ++ codes "\n" ++ named_key f.comment f.kind f.bits f.fingerprint ++ codes " " ++ rights_words f.rights ++ codes "\n"
    ++ all_limit_lines f ++ linked_lines auth_row found ++ codes "\n\n"

-- the row of a line that cannot be read (this project's rule)
abbrev pub unreadable_words : ℕ → Option HeldKey → List Finding → List ℕ
unreadable_words line held found =
    decimal line ++ codes "\n" ++ codes "unreadable" ++ held_words held ++ codes "\n" ++ codes " cannot be read\n"
    ++ linked_lines auth_row found ++ codes "\n\n"

-- the row of an entry of a known_hosts file (this project's rule)
abbrev pub host_entry_words : ℕ → HostFacts → List HostFinding → List ℕ
host_entry_words line f found =
    decimal line ++ codes "\n" ++ named_key f.comment f.kind f.bits f.fingerprint ++ role f.is_authority ++ codes "\n"
    ++ text_line (codes "    names ") f.names ++ linked_lines host_row found ++ codes "\n\n"

-- the row of a revocation of the key with this fingerprint (this project's rule)
abbrev pub revoked_words : ℕ → List ℕ → List ℕ → List HostFinding → List ℕ
revoked_words line fingerprint names found =
    decimal line ++ codes "\n" ++ codes "revoked" ++ fingerprint_word fingerprint ++ codes "\n" ++ codes "revoked\n"
    ++ text_line (codes "    names ") names ++ codes "    in ssh it counts for these names alone\n"
    ++ linked_lines host_row found ++ codes "\n\n"

-- the row of a line of a known_hosts file that cannot be read (this project's rule)
abbrev pub bare_words : ℕ → List ℕ → Option HeldKey → List HostFinding → List ℕ
bare_words line is held found =
    decimal line ++ codes "\n" ++ is ++ held_words held ++ codes "\n" ++ is ++ codes "\n" ++ linked_lines host_row found
    ++ codes "\n\n"
