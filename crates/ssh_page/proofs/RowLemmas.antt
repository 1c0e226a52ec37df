-- Each row closes what it opens.
use Rattle.std.proofs.Common.{◌≡◌, Bool, true, false, ◌||◌, cond, List, [], ◌∷◌, ℕ, refl}
use Rattle.std.specs.Prelude.{ℤ, Option, Some, None, codes}
use Rattle.ssh_findings.specs.Codes.{code_text}
use Rattle.ssh_findings.specs.declared.code.Code.{Code}
use Rattle.ssh_findings.specs.declared.facts.Facts.{Facts}
use Rattle.ssh_findings.specs.declared.finding.Finding.{Finding}
use Rattle.ssh_findings.specs.declared.host_facts.HostFacts.{HostFacts}
use Rattle.ssh_findings.specs.declared.host_finding.HostFinding.{HostFinding}
use Rattle.ssh_findings.specs.declared.recovered_key.HeldKey.{HeldKey}
use Rattle.ssh_findings.specs.declared.row.Value.{Value}
use Rattle.ssh_findings.specs.declared.row.Value.TheVariants.{Nothing, Number, Cause}
use Rattle.ssh_findings.specs.FindingRows.{FindingRow}
use Rattle.ssh_findings.specs.Findings.{auth_row}
use Rattle.ssh_findings.specs.HostFindingsFindings.{host_row}
use Rattle.ssh_keys.specs.Names.{key_name_of}
use Rattle.ssh_keys.specs.declared.kind.KeyKind.{KeyKind}
use Rattle.ssh_print.specs.DecisionText.{has_no_right}
use Rattle.ssh_rights.specs.declared.rights.Carried.{Carried}
use Rattle.ssh_rights.specs.declared.rights.Rights.{Rights}
use Rattle.ssh_page.specs.declared.piece.Piece.{Piece}
use Rattle.ssh_page.specs.declared.piece.Piece.TheVariants as piece
use Rattle.ssh_page.specs.declared.record.RowPlace.{RowPlace}
use Rattle.ssh_findings.specs.Urgency.{how_soon}
use Rattle.ssh_findings.specs.declared.urgency.Urgency.{Urgency}
use Rattle.ssh_findings.specs.declared.urgency.Urgency.TheVariants as urgencies
use Rattle.ssh_page.specs.Documents.{nothing, put, say, count, after, ◌&◌}
use Rattle.ssh_page.specs.Findings.{detail, finding_head, finding_part, has_bytes, has_value, line_link, link, names_a_line, value_detail, value_link, value_sentence}
use Rattle.ssh_page.specs.HostRecords.{bare_row, host_cells, host_entry_row, revoked_cells, revoked_row, role}
use Rattle.ssh_page.specs.Records.{all_limits, bits_part, carried_part, command_part, comment_part, entry_cells, entry_row, fingerprint_part, flag_part, held_part, is_free, key_part, limits_part, right_marks, right_piece, rights_part, row_classes, row_findings, row_numbers, setting_part, unreadable_row, until_part, words_part}
use Rattle.ssh_page.specs.Tags.{within, valued}
use Rattle.ssh_page.specs.Classes.{class_of, class_piece, code_number}
use Rattle.ssh_page.proofs.PlaceLemmas.{Leads, here, next, all_stay, may_stay}

abbrev Open : Type 0
Open = List (List ℕ)

-- ---- findings

class-by : (u : Urgency) (n : ℕ) (opened : Open) → after (valued opened) (put (class_piece u) & count n) ≡ valued opened
class-by urgencies.Today n opened = refl
class-by urgencies.Soon n opened = refl
class-by urgencies.TidyUp n opened = refl
class-by urgencies.Policy n opened = refl

pub class_stays : (opened : Open) (c : Code) → Leads (valued opened) (class_of c) (valued opened)
unfolding class_of
class_stays opened c = record { by = class-by (how_soon c) (code_number c) opened }

value-detail : (opened : Open) (v : Value) → after (within opened) (value_detail v) ≡ within opened
value-detail opened Nothing = refl
value-detail opened (Number n) = refl
value-detail opened (Cause why) = refl

detail-by : (b : Bool) (opened : Open) (words : List ℕ) (v : Value)
    → after (within opened) (cond b (say (codes " ") & say words & value_detail v) nothing) ≡ within opened
detail-by true opened words v = value-detail opened v
detail-by false opened words v = refl

detail_stays : (opened : Open) (r : FindingRow) → Leads (within opened) (detail r) (within opened)
unfolding detail
detail_stays opened r = record { by = detail-by (has_bytes r.detail || has_value r.value) opened r.detail r.value }

sentence_stays : (opened : Open) (v : Value) → Leads (within opened) (value_sentence v) (within opened)
sentence_stays opened Nothing = record { by = refl }
sentence_stays opened (Number n) = record { by = refl }
sentence_stays opened (Cause why) = record { by = refl }

line_link_stays : (opened : Open) (file line : ℕ) → Leads (within opened) (line_link file line) (within opened)
unfolding line_link
line_link_stays opened file line = record { by = refl }

value_link_stays : (opened : Open) (file : ℕ) (v : Value) → Leads (within opened) (value_link file v) (within opened)
value_link_stays opened file Nothing = record { by = refl }
value_link_stays opened file (Number line) = line_link_stays opened file line
value_link_stays opened file (Cause why) = record { by = refl }

link-by : (b : Bool) (opened : Open) (file : ℕ) (v : Value) → after (within opened) (cond b (value_link file v) nothing) ≡ within opened
link-by true opened file v = (value_link_stays opened file v).by
link-by false opened file v = refl

link_stays : (opened : Open) (file : ℕ) (r : FindingRow) → Leads (within opened) (link file r) (within opened)
link_stays opened file r = record { by = link-by (names_a_line r.code) opened file r.value }

head_leads : (opened : Open) (r : FindingRow) → Leads (within opened) (finding_head r) (within (codes "p" ∷ opened))
unfolding finding_head
head_leads opened r =
    let p = codes "p" ∷ opened in
    let b = codes "b" ∷ codes "p" ∷ opened in
    next (next (next (next (next (here (within opened) (put piece.Finding)) (class_stays p r.code)) (here (valued p) (put piece.FindingCode))) (here (within b) (say (code_text r.code)))) (detail_stays b r)) (here (within b) (put piece.FindingSays))

finding_stays : (opened : Open) (file : ℕ) (r : FindingRow) → Leads (within opened) (finding_part file r) (within opened)
unfolding finding_part
finding_stays opened file r =
    let p = codes "p" ∷ opened in
    next (next (next (next (next (head_leads opened r) (here (within p) (say r.before))) (sentence_stays p r.value)) (here (within p) (say r.after))) (link_stays p file r)) (here (within p) (put piece.LimitEnd))

classes_stay : {F : Type 0} (opened : Open) (row : F → FindingRow) (found : List F) → Leads (valued opened) (row_classes row found) (valued opened)
classes_stay opened row found = all_stay (valued opened) (λ f. class_of (row f).code) (λ f. class_stays opened (row f).code) found

findings_stay : {F : Type 0} (opened : Open) (place : RowPlace) (row : F → FindingRow) (found : List F)
    → Leads (within opened) (row_findings place row found) (within opened)
findings_stay opened place row found =
    all_stay (within opened) (λ f. finding_part place.file (row f)) (λ f. finding_stays opened place.file (row f)) found

-- ---- cells

numbers_lead : (opened : Open) (place : RowPlace) → Leads (valued (codes "tr" ∷ opened)) (row_numbers place) (within (codes "td" ∷ codes "tr" ∷ opened))
unfolding row_numbers
numbers_lead opened place = record { by = refl }

comment_stays : (opened : Open) (text : List ℕ) → Leads (within opened) (comment_part text) (within opened)
comment_stays opened [] = record { by = refl }
comment_stays opened (c ∷ cs) = record { by = refl }

bits_stay : (opened : Open) (bits : Option ℕ) → Leads (within opened) (bits_part bits) (within opened)
bits_stay opened None = record { by = refl }
bits_stay opened (Some n) = record { by = refl }

fingerprint_stays : (opened : Open) (fingerprint : List ℕ) → Leads (within opened) (fingerprint_part fingerprint) (within opened)
unfolding fingerprint_part
fingerprint_stays opened fingerprint = record { by = refl }

key_stays : (opened : Open) (kind : KeyKind) (bits : Option ℕ) (fingerprint : List ℕ)
    → Leads (within opened) (key_part kind bits fingerprint) (within opened)
unfolding key_part
key_stays opened kind bits fingerprint =
    let span = codes "span" ∷ opened in
    next (next (next (next (here (within opened) (put piece.KeyType)) (here (within span) (say (key_name_of kind)))) (bits_stay span bits)) (here (within span) (put piece.KeyTypeEnd))) (fingerprint_stays opened fingerprint)

held_stays : (opened : Open) (held : Option HeldKey) → Leads (within opened) (held_part held) (within opened)
held_stays opened None = record { by = refl }
held_stays opened (Some held) = key_stays opened held.kind held.bits held.fingerprint

setting_stays : (opened : Open) (word : List ℕ) (value : Option (List ℕ)) → Leads (within opened) (setting_part word value) (within opened)
setting_stays opened word None = record { by = refl }
setting_stays opened word (Some text) = record { by = refl }

flag_stays : (opened : Open) (stands : Bool) (words : List ℕ) → Leads (within opened) (flag_part stands words) (within opened)
flag_stays opened true words = record { by = refl }
flag_stays opened false words = record { by = refl }

right_stays : (opened : Open) (on : Bool) (p : Piece) → Leads (within opened) (put p) (within opened) → Leads (within opened) (put (right_piece on p)) (within opened)
right_stays opened true p h = h
right_stays opened false p h = record { by = refl }

right_marks_stay : (opened : Open) (r : Rights) → Leads (within opened) (right_marks r) (within opened)
unfolding right_marks
right_marks_stay opened r =
    let one = λ (on : Bool) (p : Piece) (h : Leads (within opened) (put p) (within opened)). right_stays opened on p h in
    next (next (next (next (one r.port piece.Port (record { by = refl })) (one r.agent piece.Agent (record { by = refl }))) (one r.x11 piece.X11 (record { by = refl }))) (one r.pty piece.Pty (record { by = refl }))) (one r.user_rc piece.UserRc (record { by = refl }))

rights-by : (opened : Open) (b : Bool) (r : Rights) → after (within opened) (cond b (put piece.NoRights) (right_marks r)) ≡ within opened
rights-by opened true r = refl
rights-by opened false r = (right_marks_stay opened r).by

rights_stay : (opened : Open) (r : Rights) → Leads (within opened) (rights_part r) (within opened)
rights_stay opened r = record { by = rights-by opened (has_no_right r) r }

carried_stays : (opened : Open) (c : Carried) → Leads (within opened) (carried_part c) (within opened)
unfolding carried_part
carried_stays opened c = record { by = refl }

until_stays : (opened : Open) (until : Option ℤ) → Leads (within opened) (until_part until) (within opened)
unfolding words_part
until_stays opened None = record { by = refl }
until_stays opened (Some moment) = record { by = refl }

command_stays : (opened : Open) (r : Rights) → Leads (within opened) (command_part r) (within opened)
unfolding command_part
command_stays opened r =
    next (setting_stays opened (codes "command ") r.command) (all_stay (within opened) carried_part (carried_stays opened) r.carried)

limits_stay : (opened : Open) (f : Facts) → Leads (within opened) (limits_part f) (within opened)
unfolding limits_part
limits_stay opened f =
    next (next (next (next (flag_stays opened f.no_touch_required (codes "no-touch-required")) (flag_stays opened f.verify_required (codes "verify-required"))) (setting_stays opened (codes "from ") f.from)) (setting_stays opened (codes "principals ") f.principals)) (until_stays opened f.until)

all_limits_stay : (opened : Open) (f : Facts) → Leads (within opened) (all_limits f) (within opened)
unfolding all_limits
all_limits_stay opened f =
    next (next (next (flag_stays opened f.is_authority (codes "authority: whoever it certifies")) (command_stays opened f.rights)) (limits_stay opened f)) (may_stay (within opened) piece.NoLimit (is_free f) (record { by = refl }))

-- ---- rows

entry_cells_stay : (opened : Open) (f : Facts) → Leads (within (codes "td" ∷ opened)) (entry_cells f) (within (codes "td" ∷ opened))
unfolding entry_cells
entry_cells_stay opened f =
    let td = codes "td" ∷ opened in
    next (next (next (comment_stays td f.comment) (key_stays td f.kind f.bits f.fingerprint)) (here (within td) (put piece.RightsCell))) (rights_stay td f.rights)

pub entry_stays : (opened : Open) (place : RowPlace) (f : Facts) (found : List Finding) → Leads (within opened) (entry_row place f found) (within opened)
unfolding entry_row
entry_stays opened place f found =
    let tr = codes "tr" ∷ opened in
    let td = codes "td" ∷ codes "tr" ∷ opened in
    next (next (next (next (next (next (next (next (here (within opened) (put piece.Row)) (classes_stay tr auth_row found)) (may_stay (valued tr) piece.AuthorityClass f.is_authority (record { by = refl }))) (numbers_lead opened place)) (entry_cells_stay tr f)) (here (within td) (put piece.LimitsCell))) (all_limits_stay td f)) (findings_stay td place auth_row found)) (here (within td) (put piece.RowEnd))

pub unreadable_stays : (opened : Open) (place : RowPlace) (held : Option HeldKey) (found : List Finding)
    → Leads (within opened) (unreadable_row place held found) (within opened)
unfolding unreadable_row
unreadable_stays opened place held found =
    let tr = codes "tr" ∷ opened in
    let td = codes "td" ∷ codes "tr" ∷ opened in
    next (next (next (next (next (next (next (next (next (next (here (within opened) (put piece.Row)) (classes_stay tr auth_row found)) (here (valued tr) (put piece.UnreadableClass))) (numbers_lead opened place)) (here (within td) (say (codes "unreadable")))) (held_stays td held)) (here (within td) (put piece.RightsCell))) (here (within td) (put piece.RightsUnknown))) (here (within td) (put piece.LimitsCell))) (findings_stay td place auth_row found)) (here (within td) (put piece.RowEnd))

host_cells_stay : (opened : Open) (f : HostFacts) → Leads (within (codes "td" ∷ opened)) (host_cells f) (within (codes "td" ∷ opened))
unfolding host_cells
host_cells_stay opened f =
    let td = codes "td" ∷ opened in
    next (next (next (comment_stays td f.comment) (key_stays td f.kind f.bits f.fingerprint)) (here (within td) (put piece.RightsCell))) (here (within td) (say (role f.is_authority)))

pub host_entry_stays : (opened : Open) (place : RowPlace) (f : HostFacts) (found : List HostFinding)
    → Leads (within opened) (host_entry_row place f found) (within opened)
unfolding host_entry_row
host_entry_stays opened place f found =
    let tr = codes "tr" ∷ opened in
    let td = codes "td" ∷ codes "tr" ∷ opened in
    next (next (next (next (next (next (next (next (here (within opened) (put piece.Row)) (classes_stay tr host_row found)) (may_stay (valued tr) piece.AuthorityClass f.is_authority (record { by = refl }))) (numbers_lead opened place)) (host_cells_stay tr f)) (here (within td) (put piece.LimitsCell))) (setting_stays td (codes "names ") (Some f.names))) (findings_stay td place host_row found)) (here (within td) (put piece.RowEnd))

revoked_cells_stay : (opened : Open) (fingerprint : List ℕ) → Leads (within (codes "td" ∷ opened)) (revoked_cells fingerprint) (within (codes "td" ∷ opened))
unfolding revoked_cells
revoked_cells_stay opened fingerprint =
    let td = codes "td" ∷ opened in
    next (next (next (next (here (within td) (say (codes "revoked"))) (fingerprint_stays td fingerprint)) (here (within td) (put piece.RightsCell))) (here (within td) (say (codes "revoked")))) (here (within td) (put piece.LimitsCell))

pub revoked_stays : (opened : Open) (place : RowPlace) (fingerprint names : List ℕ) (found : List HostFinding)
    → Leads (within opened) (revoked_row place fingerprint names found) (within opened)
unfolding revoked_row
revoked_stays opened place fingerprint names found =
    let tr = codes "tr" ∷ opened in
    let td = codes "td" ∷ codes "tr" ∷ opened in
    next (next (next (next (next (next (next (here (within opened) (put piece.Row)) (classes_stay tr host_row found)) (numbers_lead opened place)) (revoked_cells_stay tr fingerprint)) (setting_stays td (codes "names ") (Some names))) (flag_stays td true (codes "in ssh it counts for these names alone"))) (findings_stay td place host_row found)) (here (within td) (put piece.RowEnd))

pub bare_stays : (opened : Open) (place : RowPlace) (is : List ℕ) (held : Option HeldKey) (found : List HostFinding)
    → Leads (within opened) (bare_row place is held found) (within opened)
unfolding bare_row
bare_stays opened place is held found =
    let tr = codes "tr" ∷ opened in
    let td = codes "td" ∷ codes "tr" ∷ opened in
    next (next (next (next (next (next (next (next (next (next (here (within opened) (put piece.Row)) (classes_stay tr host_row found)) (here (valued tr) (put piece.UnreadableClass))) (numbers_lead opened place)) (here (within td) (say is))) (held_stays td held)) (here (within td) (put piece.RightsCell))) (here (within td) (say is))) (here (within td) (put piece.LimitsCell))) (findings_stay td place host_row found)) (here (within td) (put piece.RowEnd))
