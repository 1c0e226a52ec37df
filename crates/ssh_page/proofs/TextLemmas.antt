-- The texts of a file that stand in a row.
use Rattle.std.proofs.Common.{◌≡◌, ◌∙◌, ℕ, Bool, true, false, ◌||◌, cond, List, [], ◌∷◌, ◌++◌, map, refl, ap, append_assoc}
use Rattle.std.specs.Prelude.{ℤ, Option, Some, None, codes}
use Rattle.std.specs.Option.{option_to_list}
use Rattle.std.proofs.lemmas.List.{append-nil}
use Rattle.ssh_findings.specs.Codes.{code_text}
use Rattle.ssh_findings.specs.declared.code.Code.{Code}
use Rattle.ssh_findings.specs.declared.facts.Facts.{Facts}
use Rattle.ssh_findings.specs.declared.finding.Finding.{Finding}
use Rattle.ssh_findings.specs.declared.host_facts.HostFacts.{HostFacts}
use Rattle.ssh_findings.specs.declared.host_finding.HostFinding.{HostFinding}
use Rattle.ssh_findings.specs.declared.recovered_key.HeldKey.{HeldKey}
use Rattle.ssh_findings.specs.declared.row.Value.{Value}
use Rattle.ssh_findings.specs.declared.row.Value.TheVariants.{Nothing, Number, Cause}
use Rattle.ssh_findings.specs.FindingRows.{FindingRow}
use Rattle.ssh_findings.specs.Findings.{auth_row}
use Rattle.ssh_findings.specs.HostFindingsFindings.{host_row}
use Rattle.ssh_keys.specs.declared.kind.KeyKind.{KeyKind}
use Rattle.ssh_print.specs.DecisionText.{has_no_right}
use Rattle.ssh_rights.specs.declared.rights.Carried.{Carried}
use Rattle.ssh_rights.specs.declared.rights.Rights.{Rights}
use Rattle.ssh_page.specs.declared.piece.Piece.{Piece}
use Rattle.ssh_page.specs.declared.piece.Piece.TheVariants as piece
use Rattle.ssh_page.specs.declared.record.RowPlace.{RowPlace}
use Rattle.ssh_page.specs.Documents.{Document, nothing, put, say, each, texts_of, ◌&◌}
use Rattle.ssh_page.specs.Findings.{detail, finding_head, finding_part, has_bytes, has_value, line_link, link, names_a_line, value_detail, value_link, value_sentence}
use Rattle.ssh_page.specs.HostRecords.{bare_row, host_cells, host_entry_row, revoked_cells, revoked_row, role}
use Rattle.ssh_page.specs.Records.{all_limits, carried_part, command_part, comment_part, entry_cells, entry_row, fingerprint_part, flag_part, held_part, is_free, key_part, limits_part, put_if, right_marks, rights_part, row_classes, row_findings, row_numbers, setting_part, unreadable_row, until_part, words_part}
use Rattle.ssh_page.specs.StandIns.{entry_texts, if_bytes}
use Rattle.ssh_page.specs.Classes.{class_of}
use Rattle.ssh_page.proofs.EachLemmas.{each_textless}

-- A part has these texts. As a record, so that a proof finds them.
pub record HasTexts (d : Document) (texts : List (List ℕ)) : Type 0 where
  pub by : texts_of d ≡ texts

pub has : {a b : Document} {s t : List (List ℕ)} → HasTexts a s → HasTexts b t → HasTexts (a & b) (s ++ t)
has {a} {b} {s} {t} h k = record { by = ap (λ texts. texts ++ texts_of b) h.by ∙ ap (λ texts. s ++ texts) k.by }

-- the same after a part without texts, and before one
pub past : {a b : Document} {t : List (List ℕ)} → HasTexts a [] → HasTexts b t → HasTexts (a & b) t
past h k = has h k

pub upto : {a b : Document} {s : List (List ℕ)} → HasTexts a s → HasTexts b [] → HasTexts (a & b) s
upto {a} {b} {s} h k = record { by = (has h k).by ∙ append-nil s }

pub piece_none : (p : Piece) → HasTexts (put p) []
piece_none p = record { by = refl }

pub say_none : (words : List ℕ) → HasTexts (say words) []
say_none words = record { by = refl }

-- ---- findings

class-none : (c : Code) → texts_of (class_of c) ≡ []
unfolding class_of
class-none c = refl

class_none : {F : Type 0} (row : F → FindingRow) (found : List F) → HasTexts (row_classes row found) []
class_none row found = record { by = each_textless (λ f. class_of (row f).code) (λ f. class-none (row f).code) found }

value_detail_none : (v : Value) → HasTexts (value_detail v) []
value_detail_none Nothing = record { by = refl }
value_detail_none (Number n) = record { by = refl }
value_detail_none (Cause why) = record { by = refl }

value_sentence_none : (v : Value) → HasTexts (value_sentence v) []
value_sentence_none Nothing = record { by = refl }
value_sentence_none (Number n) = record { by = refl }
value_sentence_none (Cause why) = record { by = refl }

detail-none : (b : Bool) (words : List ℕ) (v : Value) → texts_of (cond b (say (codes " ") & say words & value_detail v) nothing) ≡ []
detail-none true words v = (value_detail_none v).by
detail-none false words v = refl

detail_none : (r : FindingRow) → HasTexts (detail r) []
unfolding detail
detail_none r = record { by = detail-none (has_bytes r.detail || has_value r.value) r.detail r.value }

value-link-none : (file : ℕ) (v : Value) → texts_of (value_link file v) ≡ []
unfolding line_link
value-link-none file Nothing = refl
value-link-none file (Number n) = refl
value-link-none file (Cause why) = refl

link-none : (b : Bool) (file : ℕ) (v : Value) → texts_of (cond b (value_link file v) nothing) ≡ []
link-none true file v = value-link-none file v
link-none false file v = refl

link_none : (file : ℕ) (r : FindingRow) → HasTexts (link file r) []
link_none file r = record { by = link-none (names_a_line r.code) file r.value }

head_none : (r : FindingRow) → HasTexts (finding_head r) []
unfolding finding_head class_of
head_none r =
    let front : HasTexts (put piece.Finding & class_of r.code & put piece.FindingCode & say (code_text r.code)) [] = record { by = refl } in
    past (past front (detail_none r)) (piece_none piece.FindingSays)

finding_none : (file : ℕ) (r : FindingRow) → HasTexts (finding_part file r) []
unfolding finding_part
finding_none file r =
    past (past (past (past (past (head_none r) (say_none r.before)) (value_sentence_none r.value)) (say_none r.after)) (link_none file r)) (piece_none piece.LimitEnd)

findings_none : {F : Type 0} (place : RowPlace) (row : F → FindingRow) (found : List F) → HasTexts (row_findings place row found) []
findings_none place row found =
    record { by = each_textless (λ f. finding_part place.file (row f)) (λ f. (finding_none place.file (row f)).by) found }

-- ---- cells

numbers_none : (place : RowPlace) → HasTexts (row_numbers place) []
unfolding row_numbers
numbers_none place = record { by = refl }

pub if_none : (holds : Bool) (p : Piece) → HasTexts (put_if holds p) []
if_none true p = record { by = refl }
if_none false p = record { by = refl }

comment_has : (text : List ℕ) → HasTexts (comment_part text) (if_bytes text)
comment_has [] = record { by = refl }
comment_has (c ∷ cs) = record { by = refl }

fingerprint_none : (fingerprint : List ℕ) → HasTexts (fingerprint_part fingerprint) []
unfolding fingerprint_part
fingerprint_none fingerprint = record { by = refl }

key_none : (kind : KeyKind) (bits : Option ℕ) (fingerprint : List ℕ) → HasTexts (key_part kind bits fingerprint) []
unfolding key_part fingerprint_part
key_none kind None fingerprint = record { by = refl }
key_none kind (Some bits) fingerprint = record { by = refl }

held_none : (held : Option HeldKey) → HasTexts (held_part held) []
held_none None = record { by = refl }
held_none (Some held) = key_none held.kind held.bits held.fingerprint

rights-none : (b : Bool) (r : Rights) → texts_of (cond b (put piece.NoRights) (right_marks r)) ≡ []
unfolding right_marks
rights-none true r = refl
rights-none false r = refl

rights_none : (r : Rights) → HasTexts (rights_part r) []
rights_none r = record { by = rights-none (has_no_right r) r }

setting_has : (word : List ℕ) (value : Option (List ℕ)) → HasTexts (setting_part word value) (option_to_list value)
setting_has word None = record { by = refl }
setting_has word (Some text) = record { by = refl }

flag_none : (stands : Bool) (words : List ℕ) → HasTexts (flag_part stands words) []
flag_none true words = record { by = refl }
flag_none false words = record { by = refl }

until_none : (until : Option ℤ) → HasTexts (until_part until) []
unfolding words_part
until_none None = record { by = refl }
until_none (Some moment) = record { by = refl }

abbrev text_of : Carried → List ℕ
text_of c = c.text

carried-has : (carried : List Carried) → texts_of (each carried_part carried) ≡ map text_of carried
unfolding carried_part
carried-has [] = refl
carried-has (c ∷ cs) = ap (λ texts. c.text ∷ texts) (carried-has cs)

command_has : (r : Rights) → HasTexts (command_part r) (option_to_list r.command ++ map text_of r.carried)
unfolding command_part
command_has r = has (setting_has (codes "command ") r.command) (record { by = carried-has r.carried })

limits_have : (f : Facts) → HasTexts (limits_part f) (option_to_list f.from ++ option_to_list f.principals)
unfolding limits_part
limits_have f =
    let flags = past (flag_none f.no_touch_required (codes "no-touch-required")) (flag_none f.verify_required (codes "verify-required")) in
    upto (has (past flags (setting_has (codes "from ") f.from)) (setting_has (codes "principals ") f.principals)) (until_none f.until)

all_limits_have : (f : Facts)
    → HasTexts (all_limits f) ((option_to_list f.rights.command ++ map text_of f.rights.carried) ++ (option_to_list f.from ++ option_to_list f.principals))
unfolding all_limits
all_limits_have f =
    upto (has (past (flag_none f.is_authority (codes "authority: whoever it certifies")) (command_has f.rights)) (limits_have f)) (if_none (is_free f) piece.NoLimit)

entry_cells_have : (f : Facts) → HasTexts (entry_cells f) (if_bytes f.comment)
unfolding entry_cells
entry_cells_have f =
    upto (upto (upto (comment_has f.comment) (key_none f.kind f.bits f.fingerprint)) (piece_none piece.RightsCell)) (rights_none f.rights)

-- ---- rows

regrouped : (a b c d e : List (List ℕ)) → a ++ ((b ++ c) ++ (d ++ e)) ≡ (((a ++ b) ++ c) ++ d) ++ e
regrouped a b c d e = simp append_assoc

entry_front : {F : Type 0} (row : F → FindingRow) (place : RowPlace) (holds : Bool) (found : List F)
    → HasTexts (put piece.Row & row_classes row found & put_if holds piece.AuthorityClass & row_numbers place) []
entry_front row place holds found =
    past (past (past (piece_none piece.Row) (class_none row found)) (if_none holds piece.AuthorityClass)) (numbers_none place)

pub entry_has : (place : RowPlace) (f : Facts) (found : List Finding) → HasTexts (entry_row place f found) (entry_texts f)
unfolding entry_row
entry_has place f found =
    let cells = upto (past (entry_front auth_row place f.is_authority found) (entry_cells_have f)) (piece_none piece.LimitsCell) in
    let all = upto (upto (has cells (all_limits_have f)) (findings_none place auth_row found)) (piece_none piece.RowEnd) in
    record {
      by = all.by ∙ regrouped (if_bytes f.comment) (option_to_list f.rights.command) (map text_of f.rights.carried) (option_to_list f.from) (option_to_list f.principals);
    }

pub unreadable_none : (place : RowPlace) (held : Option HeldKey) (found : List Finding) → HasTexts (unreadable_row place held found) []
unfolding unreadable_row
unreadable_none place held found =
    past (past (past (past (past (past (past (past (past (past (piece_none piece.Row) (class_none auth_row found)) (piece_none piece.UnreadableClass)) (numbers_none place)) (say_none (codes "unreadable"))) (held_none held)) (piece_none piece.RightsCell)) (piece_none piece.RightsUnknown)) (piece_none piece.LimitsCell)) (findings_none place auth_row found)) (piece_none piece.RowEnd)

host_cells_have : (f : HostFacts) → HasTexts (host_cells f) (if_bytes f.comment)
unfolding host_cells
host_cells_have f =
    upto (upto (upto (comment_has f.comment) (key_none f.kind f.bits f.fingerprint)) (piece_none piece.RightsCell)) (say_none (role f.is_authority))

pub host_entry_has : (place : RowPlace) (f : HostFacts) (found : List HostFinding)
    → HasTexts (host_entry_row place f found) (if_bytes f.comment ++ f.names ∷ [])
unfolding host_entry_row
host_entry_has place f found =
    let cells = upto (past (entry_front host_row place f.is_authority found) (host_cells_have f)) (piece_none piece.LimitsCell) in
    upto (upto (has cells (setting_has (codes "names ") (Some f.names))) (findings_none place host_row found)) (piece_none piece.RowEnd)

revoked_cells_none : (fingerprint : List ℕ) → HasTexts (revoked_cells fingerprint) []
unfolding revoked_cells fingerprint_part
revoked_cells_none fingerprint = record { by = refl }

pub revoked_has : (place : RowPlace) (fingerprint names : List ℕ) (found : List HostFinding)
    → HasTexts (revoked_row place fingerprint names found) (names ∷ [])
unfolding revoked_row
revoked_has place fingerprint names found =
    let front = past (past (past (piece_none piece.Row) (class_none host_row found)) (numbers_none place)) (revoked_cells_none fingerprint) in
    let said = past front (setting_has (codes "names ") (Some names)) in
    upto (upto (upto said (flag_none true (codes "in ssh it counts for these names alone"))) (findings_none place host_row found)) (piece_none piece.RowEnd)

pub bare_none : (place : RowPlace) (is : List ℕ) (held : Option HeldKey) (found : List HostFinding) → HasTexts (bare_row place is held found) []
unfolding bare_row
bare_none place is held found =
    past (past (past (past (past (past (past (past (past (past (piece_none piece.Row) (class_none host_row found)) (piece_none piece.UnreadableClass)) (numbers_none place)) (say_none is)) (held_none held)) (piece_none piece.RightsCell)) (say_none is)) (piece_none piece.LimitsCell)) (findings_none place host_row found)) (piece_none piece.RowEnd)
