-- Each section of a file, the register and the whole page close what they open.
use Rattle.std.proofs.Common.{◌≡◌, ◌==◌, Bool, true, false, cond, List, [], ◌∷◌, ℕ, length, refl}
use Rattle.std.specs.Prelude.{codes}
use Rattle.ssh_print.specs.Texts.{hex_text}
use Rattle.ssh_page.specs.declared.file.FileKind.{FileKind}
use Rattle.ssh_page.specs.declared.file.FileKind.TheVariants.{AuthorizedKeys, KnownHosts}
use Rattle.ssh_page.specs.declared.header.PageTotals.{PageTotals}
use Rattle.ssh_page.specs.declared.mend.CodeCount.{CodeCount}
use Rattle.ssh_page.specs.declared.piece.Piece.TheVariants as piece
use Rattle.ssh_page.specs.Choices.{choice, choices}
use Rattle.ssh_page.specs.Documents.{Document, nothing, put, say, each, after, ◌&◌}
use Rattle.ssh_page.specs.Files.{ClassesSeen, FileSeen, count_cells, counts_part, empty_section, fault_row, fault_section, fault_words, file_link, file_row, register, register_end, section, section_classes, section_head, section_name, table_piece}
use Rattle.ssh_page.specs.KeyLists.{keys}
use Rattle.ssh_page.specs.Mending.{mend}
use Rattle.ssh_page.specs.Pages.{header, lines_start, page_lines, page_end, page_start, whole_page}
use Rattle.ssh_page.specs.Questions.{QuestionSeen}
use Rattle.ssh_page.specs.Tags.{within, valued}
use Rattle.ssh_page.specs.Classes.{class_of}
use Rattle.ssh_page.proofs.HeaderLemmas.{asked_leads, tiles_stay, verdict_stays}
use Rattle.ssh_page.proofs.KeyLemmas.{keys_stay}
use Rattle.ssh_page.proofs.MendLemmas.{mend_stays}
use Rattle.ssh_page.proofs.PlaceLemmas.{Leads, here, next, all_stay, may_stay}
use Rattle.ssh_page.proofs.RowLemmas.{class_stays}

abbrev Open : Type 0
Open = List (List ℕ)

-- the elements that are open between the rows of a file
abbrev rows_of_file : Open → Open
rows_of_file opened = codes "tbody" ∷ codes "table" ∷ codes "div" ∷ codes "section" ∷ opened

-- ---- sections

name_leads : (opened : Open) (file : ℕ) (name : List ℕ)
    → Leads (valued (codes "section" ∷ opened)) (section_name file name) (within (codes "p" ∷ codes "section" ∷ opened))
unfolding section_name
name_leads opened file name = record { by = refl }

counts_stay : (opened : Open) (f : FileSeen) → Leads (within opened) (counts_part f) (within opened)
unfolding counts_part
counts_stay opened f = record { by = refl }

classes_stay : (opened : Open) (c : ClassesSeen) → Leads (valued opened) (section_classes c) (valued opened)
unfolding section_classes
classes_stay opened c =
    next (next (all_stay (valued opened) class_of (class_stays opened) c.reported) (may_stay (valued opened) piece.UnreadableClass c.has_unreadable (record { by = refl }))) (may_stay (valued opened) piece.AuthorityClass c.has_authority (record { by = refl }))

table_leads : (opened : Open) (kind : FileKind) → Leads (within (codes "p" ∷ codes "section" ∷ opened)) (put (table_piece kind)) (within (rows_of_file opened))
table_leads opened AuthorizedKeys = record { by = refl }
table_leads opened KnownHosts = record { by = refl }

section_head_leads : (opened : Open) (file : ℕ) (kind : FileKind) (f : FileSeen) (c : ClassesSeen)
    → Leads (within opened) (section_head file kind f c) (within (rows_of_file opened))
unfolding section_head
section_head_leads opened file kind f c =
    let inner = codes "section" ∷ opened in
    next (next (next (next (here (within opened) (put piece.Section)) (classes_stay inner c)) (name_leads opened file f.name)) (counts_stay (codes "p" ∷ inner) f)) (table_leads opened kind)

pub section_stays : (opened : Open) (file : ℕ) (kind : FileKind) (f : FileSeen) (c : ClassesSeen) (rows : Document)
    → ((inner : Open) → after (within inner) rows ≡ within inner) → Leads (within opened) (section file kind f c rows) (within opened)
section_stays opened file kind f c rows h =
    let middle : Leads (within (rows_of_file opened)) rows (within (rows_of_file opened)) = record { by = h (rows_of_file opened) } in
    next (next (section_head_leads opened file kind f c) middle) (here (within (rows_of_file opened)) (put piece.TableEnd))

pub empty_section_stays : (opened : Open) (file : ℕ) (f : FileSeen) → Leads (within opened) (empty_section file f) (within opened)
unfolding empty_section
empty_section_stays opened file f =
    let p = codes "p" ∷ codes "section" ∷ opened in
    next (next (next (here (within opened) (put piece.Section)) (name_leads opened file f.name)) (counts_stay p f)) (here (within p) (put piece.SectionEnd))

words_lead : (opened : Open) (code means : List ℕ) → Leads (within (codes "strong" ∷ opened)) (fault_words code means) (within opened)
unfolding fault_words
words_lead opened code means = record { by = refl }

pub fault_section_stays : (opened : Open) (file : ℕ) (name code means : List ℕ) → Leads (within opened) (fault_section file name code means) (within opened)
unfolding fault_section
fault_section_stays opened file name code means =
    let p = codes "p" ∷ codes "section" ∷ opened in
    next (next (next (next (next (here (within opened) (put piece.Section)) (name_leads opened file name)) (here (within p) (put piece.Fault))) (words_lead p code means)) (here (within p) (say (codes ". Nothing else is told of this file.")))) (here (within p) (put piece.SectionEnd))

-- ---- the register

-- the elements that are open between the rows of the register
abbrev rows_of_register : Open → Open
rows_of_register opened = codes "tbody" ∷ codes "table" ∷ codes "section" ∷ opened

-- the elements that are open in the first cell of a row
abbrev first_cell : Open → Open
first_cell opened = codes "a" ∷ codes "th" ∷ codes "tr" ∷ opened

link_leads : (opened : Open) (file : ℕ) (name : List ℕ) → Leads (within opened) (file_link file name) (within (first_cell opened))
unfolding file_link
link_leads opened file name = record { by = refl }

cells_lead : (opened : Open) (f : FileSeen) → Leads (within (first_cell opened)) (count_cells f) (within (codes "td" ∷ codes "tr" ∷ opened))
unfolding count_cells
cells_lead opened f = record { by = refl }

pub file_row_stays : (opened : Open) (file : ℕ) (f : FileSeen) → Leads (within opened) (file_row file f) (within opened)
unfolding file_row
file_row_stays opened file f =
    let samp = codes "samp" ∷ codes "td" ∷ codes "tr" ∷ opened in
    next (next (next (next (link_leads opened file f.name) (cells_lead opened f)) (here (within (codes "td" ∷ codes "tr" ∷ opened)) (put piece.Digest))) (here (within samp) (say (hex_text f.digest)))) (here (within samp) (put piece.DigestEnd))

pub fault_row_stays : (opened : Open) (file : ℕ) (name code means : List ℕ) → Leads (within opened) (fault_row file name code means) (within opened)
unfolding fault_row file_link
fault_row_stays opened file name code means = record { by = refl }

end_leads : (opened : Open) (total : List ℕ) → Leads (within (rows_of_register opened)) (register_end total) (within opened)
unfolding register_end
end_leads opened total = record { by = refl }

pub register_stays : (opened : Open) (rows : Document) (total : List ℕ)
    → ((inner : Open) → after (within inner) rows ≡ within inner) → Leads (within opened) (register rows total) (within opened)
register_stays opened rows total h =
    let middle : Leads (within (rows_of_register opened)) rows (within (rows_of_register opened)) = record { by = h (rows_of_register opened) } in
    next (next (here (within opened) (put piece.Register)) middle) (end_leads opened total)

-- ---- the whole page

-- the elements that are open in its header, and between its sections
abbrev heading : Open
heading = codes "header" ∷ codes "body" ∷ codes "html" ∷ []

abbrev sections : Open
sections = codes "main" ∷ codes "body" ∷ codes "html" ∷ []

start_leads : (title : List ℕ) → Leads (within []) (page_start title) (within heading)
unfolding page_start
start_leads title = record { by = refl }

header_leads : (q : QuestionSeen) (t : PageTotals) → Leads (within heading) (header q t) (within sections)
header_leads q t = next (next (verdict_stays heading q t) (tiles_stay heading t)) (asked_leads (codes "body" ∷ codes "html" ∷ []) q)

choice_stays : (opened : Open) (f : CodeCount) → Leads (within opened) (choice f) (within opened)
unfolding choice
choice_stays opened f = record { by = refl }

choices-by : (b : Bool) (opened : Open) (found : List CodeCount)
    → after (within opened) (cond b nothing (put piece.Choices & each choice found)) ≡ within opened
choices-by true opened found = refl
choices-by false opened found =
    let each_stays : Leads (within opened) (each choice found) (within opened) = all_stay (within opened) choice (choice_stays opened) found in
    let whole : Leads (within opened) (put piece.Choices & each choice found) (within opened) = next (here (within opened) (put piece.Choices)) each_stays in
    whole.by

choices_stay : (opened : Open) (found : List CodeCount) → Leads (within opened) (choices found) (within opened)
unfolding choices
choices_stay opened found = record { by = choices-by (length found == 0) opened found }

lines_lead : (opened : Open) (found : List CodeCount) → Leads (within opened) (lines_start found) (within (codes "div" ∷ codes "section" ∷ opened))
unfolding lines_start
lines_lead opened found =
    let inner = codes "section" ∷ opened in
    next (next (here (within opened) (put piece.Lines)) (choices_stay inner found)) (here (within inner) (put piece.Sections))

page_end_leads : Leads (within sections) page_end (within [])
unfolding page_end
page_end_leads = record { by = refl }

pub page_closes : (title : List ℕ) (q : QuestionSeen) (t : PageTotals) (found : List CodeCount) (names : List (List ℕ)) (files rows : Document) (total : List ℕ)
    → ((inner : Open) → after (within inner) files ≡ within inner) → ((inner : Open) → after (within inner) rows ≡ within inner)
    → Leads (within []) (whole_page title q t found names files rows total) (within [])
page_closes title q t found names files rows total h k =
    let lines : Open = codes "div" ∷ codes "section" ∷ sections in
    let middle : Leads (within lines) files (within lines) = record { by = h lines } in
    let head : Leads (within []) (page_start title & header q t) (within sections) = next (start_leads title) (header_leads q t) in
    let seen = page_lines names files in
    let front : Leads (within []) (page_start title & header q t & mend q t found seen & keys seen) (within sections) = next (next head (mend_stays sections q t found seen)) (keys_stay sections seen) in
    next (next (next (next (next front (lines_lead sections found)) middle) (here (within lines) (put piece.LinesEnd))) (register_stays sections rows total k)) page_end_leads
