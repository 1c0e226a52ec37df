-- Records are whole lines: each is nothing, or its last byte is an LF.
use Rattle.ssh_review.proofs.Imports.{◌≡◌, ◌∙◌, ℕ, ℤ, Bool, true, false, List, [], ◌∷◌, ◌++◌, refl, sym, ap, subst, inl, inr, append_assoc, append-nil, codes, flat_map, Option, Some, None, AuthLine, Blank, Comment, Entry, Unreadable, KnownLine, Revoked, RevokedUnreadable, Asking, RecordForm, AsLines, AsRow, Text, Json, Line, Facts, Finding, HostFacts, RevocationFacts, HostFinding, HeldKey, FindingRow, Held, HostLine, Rights, AuthOption, auth_row, host_row, line_record, host_line_record, finding_line, host_finding_line, row_line, rows_list, carried_inset, carried_word, place_text, held_words, escaped_text, moment_text}
use Rattle.std.specs.Prelude.{if◌then◌else◌}
use Rattle.ssh_entries.specs.declared.known_line.KnownLine.TheVariants as known
use Rattle.ssh_print.specs.Texts.{text_line, word_line}
use Rattle.ssh_review.specs.Findings.{finding_head, record_end, row_detail, row_sentence, words_list}
use Rattle.ssh_review.specs.HostObjects.{bare_in, host_entry_in, revoked_in}
use Rattle.ssh_review.specs.HostRecords.{bare_text, host_entry_head, host_entry_text, print_of, revoked_names, revoked_text}
use Rattle.ssh_review.specs.Making.{IsWrittenInLines, AreWholeLines, EndsLine}
use Rattle.ssh_review.specs.Objects.{entry_in, unreadable_in}
use Rattle.ssh_review.specs.declared.record_field.FieldForm.{FieldForm}
use Rattle.ssh_review.specs.declared.record_field.FieldForm.TheVariants.{Cell, Member}
use Rattle.ssh_review.specs.Records.{entry_head, entry_text, fingerprint_word, flag_line, limit_lines, right_lines, rights_inset, setting_line, unreadable_text, until_line}
use Rattle.ssh_review.specs.RightsWords.{rights_words}
use Rattle.ssh_findings.specs.Codes.{code_text}

-- ---- whole lines, one after the other

pub ended : (text : List ℕ) → EndsLine (text ++ 10 ∷ [])
ended text = (text, refl)

-- whatever stands before
pub after : (front text : List ℕ) → EndsLine text → EndsLine (front ++ text)
after front text (before, is) = (front ++ before, ap (λ t. front ++ t) is ∙ sym (append_assoc front before (10 ∷ [])))

pub then-lines : (text more : List ℕ) → EndsLine text → AreWholeLines more → EndsLine (text ++ more)
then-lines text more (before, is) (inl none) = (before, ap (λ t. text ++ t) none ∙ (append-nil text ∙ is))
then-lines text more ends (inr ended) = after text more ended

pub both-lines : (text more : List ℕ) → AreWholeLines text → AreWholeLines more → AreWholeLines (text ++ more)
both-lines text more (inl none) more-lines = rw none more-lines
both-lines text more (inr ends) more-lines = inr (then-lines text more ends more-lines)

pub each-line : {X : Type 0} (f : X → List ℕ) → ((x : X) → EndsLine (f x)) → (xs : List X) → AreWholeLines (flat_map f xs)
each-line f ends [] = inl refl
each-line f ends (x ∷ xs) = inr (then-lines (f x) (flat_map f xs) (ends x) (each-line f ends xs))

row-ends : (r : FindingRow) → EndsLine (row_line r)
row-ends r = ended (finding_head (code_text r.code) (row_detail r) ++ row_sentence r)

-- ---- text

flag-lines : (b : Bool) (line : List ℕ) → EndsLine line → AreWholeLines (if b then line else [])
flag-lines true line ends = inr ends
flag-lines false line ends = inl refl

setting-lines : (word : List ℕ) (value : Option (List ℕ)) → AreWholeLines (setting_line word value)
unfolding setting_line word_line
setting-lines word None = inl refl
setting-lines word (Some text) = inr (ended (word ++ escaped_text text))

until-lines : (until : Option ℤ) → AreWholeLines (until_line until)
unfolding until_line word_line
until-lines None = inl refl
until-lines (Some moment) = inr (ended (codes "    expires " ++ moment_text moment))

limits-lines : (f : Facts) → AreWholeLines (limit_lines f)
unfolding limit_lines flag_line
limits-lines f =
    both-lines _ _
    (both-lines _ _
    (both-lines _ _
    (both-lines _ _ (flag-lines f.no_touch_required (codes "    no-touch-required\n") (ended (codes "    no-touch-required"))) (flag-lines f.verify_required (codes "    verify-required\n") (ended (codes "    verify-required"))))
    (setting-lines (codes "    from ") f.from))
    (setting-lines (codes "    principals ") f.principals))
    (until-lines f.until)

rights-end : (r : Rights) → EndsLine (right_lines r)
unfolding right_lines rights_inset
rights-end r =
    then-lines (rights_inset r ++ setting_line (codes "    command ") r.command) (flat_map carried_inset r.carried)
    (then-lines (rights_inset r) (setting_line (codes "    command ") r.command) (ended (codes "    rights " ++ rights_words r)) (setting-lines (codes "    command ") r.command))
    (each-line carried_inset (λ c. ended (codes "    carry " ++ carried_word c.name ++ codes " " ++ escaped_text c.text)) r.carried)

findings-lines : (found : List Finding) → AreWholeLines (flat_map finding_line found)
findings-lines found = each-line finding_line (λ f. row-ends (auth_row f)) found

host-findings-lines : (found : List HostFinding) → AreWholeLines (flat_map host_finding_line found)
host-findings-lines found = each-line host_finding_line (λ f. row-ends (host_row f)) found

entry-text-ends : (name : List ℕ) (n : ℕ) (f : Facts) (found : List Finding) → EndsLine (entry_text name n f found)
unfolding entry_text
entry-text-ends name n f found =
    then-lines (place_text name n ++ entry_head f ++ right_lines f.rights ++ limit_lines f) (flat_map finding_line found)
    (then-lines (place_text name n ++ entry_head f ++ right_lines f.rights) (limit_lines f) (after (place_text name n ++ entry_head f) (right_lines f.rights) (rights-end f.rights)) (limits-lines f))
    (findings-lines found)

unreadable-text-ends : (name : List ℕ) (n : ℕ) (held : Option HeldKey) (found : List Finding) → EndsLine (unreadable_text name n held found)
unfolding unreadable_text
unreadable-text-ends name n held found =
    then-lines (place_text name n ++ codes "unreadable" ++ held_words held ++ codes "\n") (flat_map finding_line found)
    (ended (place_text name n ++ codes "unreadable" ++ held_words held)) (findings-lines found)

names-end : (names : List ℕ) → EndsLine (text_line (codes "    names ") names)
unfolding word_line
names-end names = ended (codes "    names " ++ escaped_text names)

host-entry-text-ends : (name : List ℕ) (n : ℕ) (f : HostFacts) (found : List HostFinding) → EndsLine (host_entry_text name n f found)
unfolding host_entry_text
host-entry-text-ends name n f found =
    then-lines (place_text name n ++ host_entry_head f ++ text_line (codes "    names ") f.names) (flat_map host_finding_line found)
    (after (place_text name n ++ host_entry_head f) (text_line (codes "    names ") f.names) (names-end f.names)) (host-findings-lines found)

revoked-names-end : (f : RevocationFacts) → EndsLine (revoked_names f)
unfolding revoked_names
revoked-names-end f =
    after (text_line (codes "    names ") f.names) (codes "    in ssh it counts for these names alone\n") (ended (codes "    in ssh it counts for these names alone"))

revoked-text-ends : (name : List ℕ) (n : ℕ) (bytes : List ℕ) (f : RevocationFacts) (found : List HostFinding) → EndsLine (revoked_text name n bytes f found)
unfolding revoked_text
revoked-text-ends name n bytes f found =
    then-lines (place_text name n ++ codes "revoked" ++ fingerprint_word (print_of bytes) ++ codes "\n" ++ revoked_names f) (flat_map host_finding_line found)
    (after (place_text name n ++ codes "revoked" ++ fingerprint_word (print_of bytes) ++ codes "\n") (revoked_names f) (revoked-names-end f)) (host-findings-lines found)

bare-text-ends : (name : List ℕ) (n : ℕ) (is : List ℕ) (held : Option HeldKey) (found : List HostFinding) → EndsLine (bare_text name n is held found)
unfolding bare_text
bare-text-ends name n is held found =
    then-lines (place_text name n ++ is ++ held_words held ++ codes "\n") (flat_map host_finding_line found)
    (ended (place_text name n ++ is ++ held_words held)) (host-findings-lines found)

-- ---- fields

fields-end : {F : Type 0} (form : FieldForm) (row : F → FindingRow) (found : List F) → EndsLine (record_end form row found)
fields-end Member row found = after (codes ",\"findings\":[" ++ rows_list row found) (codes "]}\n") (ended (codes "]}"))
fields-end Cell row found = ended (codes "\t" ++ words_list row found ++ codes "\t")

entry-ends : (form : FieldForm) (head : List ℕ) (n : ℕ) (f : Facts) (options : List AuthOption) (shadowed_by : Option ℕ) (lets_in : Bool) (found : List Finding) → EndsLine (entry_in form head n f options shadowed_by lets_in found)
unfolding entry_in
entry-ends form head n f options shadowed_by lets_in found = after _ (record_end form auth_row found) (fields-end form auth_row found)

unreadable-ends : (form : FieldForm) (head : List ℕ) (n : ℕ) (held : Option HeldKey) (found : List Finding) → EndsLine (unreadable_in form head n held found)
unfolding unreadable_in
unreadable-ends form head n held found = after _ (record_end form auth_row found) (fields-end form auth_row found)

host-entry-ends : (form : FieldForm) (head : List ℕ) (n : ℕ) (f : HostFacts) (found : List HostFinding) → EndsLine (host_entry_in form head n f found)
unfolding host_entry_in
host-entry-ends form head n f found = after _ (record_end form host_row found) (fields-end form host_row found)

revoked-ends : (form : FieldForm) (head : List ℕ) (n : ℕ) (bytes : List ℕ) (f : RevocationFacts) (found : List HostFinding) → EndsLine (revoked_in form head n bytes f found)
unfolding revoked_in
revoked-ends form head n bytes f found = after _ (record_end form host_row found) (fields-end form host_row found)

bare-ends : (form : FieldForm) (head : List ℕ) (n : ℕ) (is : List ℕ) (held : Option HeldKey) (found : List HostFinding) → EndsLine (bare_in form head n is held found)
unfolding bare_in
bare-ends form head n is held found = after _ (record_end form host_row found) (fields-end form host_row found)

-- ---- records

pub record-lines : (form : RecordForm) (asking : Asking) (name : List ℕ) (held : List Held) (n : ℕ) (line : List ℕ) (said : AuthLine) → IsWrittenInLines form → AreWholeLines (line_record form asking name held (n, line) said)
record-lines form asking name held n line Blank lines = inl refl
record-lines form asking name held n line Comment lines = inl refl
record-lines (AsLines Text) asking name held n line (Entry e) lines = inr (entry-text-ends name n _ _)
record-lines (AsLines Json) asking name held n line (Entry e) lines = inr (entry-ends Member name n _ _ _ _ _)
record-lines (AsLines (Line kind)) asking name held n line (Entry e) lines = inr (entry-ends Cell name n _ _ _ _ _)
record-lines (AsLines Text) asking name held n line (Unreadable cause) lines = inr (unreadable-text-ends name n _ _)
record-lines (AsLines Json) asking name held n line (Unreadable cause) lines = inr (unreadable-ends Member name n _ _)
record-lines (AsLines (Line kind)) asking name held n line (Unreadable cause) lines = inr (unreadable-ends Cell name n _ _)
record-lines (AsRow file) asking name held n line (Entry e) lines = absurd lines
record-lines (AsRow file) asking name held n line (Unreadable cause) lines = absurd lines

pub host-record-lines : (form : RecordForm) (asking : Asking) (name : List ℕ) (earlier : List HostLine) (n : ℕ) (line : List ℕ) (said : KnownLine) → IsWrittenInLines form → AreWholeLines (host_line_record form asking name earlier n line said)
host-record-lines form asking name earlier n line known.Blank lines = inl refl
host-record-lines form asking name earlier n line known.Comment lines = inl refl
host-record-lines (AsLines Text) asking name earlier n line (known.Entry e) lines = inr (host-entry-text-ends name n _ _)
host-record-lines (AsLines Json) asking name earlier n line (known.Entry e) lines = inr (host-entry-ends Member name n _ _)
host-record-lines (AsLines (Line kind)) asking name earlier n line (known.Entry e) lines = inr (host-entry-ends Cell name n _ _)
host-record-lines (AsLines Text) asking name earlier n line (Revoked bytes) lines = inr (revoked-text-ends name n bytes _ _)
host-record-lines (AsLines Json) asking name earlier n line (Revoked bytes) lines = inr (revoked-ends Member name n bytes _ _)
host-record-lines (AsLines (Line kind)) asking name earlier n line (Revoked bytes) lines = inr (revoked-ends Cell name n bytes _ _)
host-record-lines (AsLines Text) asking name earlier n line RevokedUnreadable lines = inr (bare-text-ends name n _ _ _)
host-record-lines (AsLines Json) asking name earlier n line RevokedUnreadable lines = inr (bare-ends Member name n _ _ _)
host-record-lines (AsLines (Line kind)) asking name earlier n line RevokedUnreadable lines = inr (bare-ends Cell name n _ _ _)
host-record-lines (AsLines Text) asking name earlier n line (known.Unreadable cause) lines = inr (bare-text-ends name n _ _ _)
host-record-lines (AsLines Json) asking name earlier n line (known.Unreadable cause) lines = inr (bare-ends Member name n _ _ _)
host-record-lines (AsLines (Line kind)) asking name earlier n line (known.Unreadable cause) lines = inr (bare-ends Cell name n _ _ _)
host-record-lines (AsRow file) asking name earlier n line (known.Entry e) lines = absurd lines
host-record-lines (AsRow file) asking name earlier n line (Revoked bytes) lines = absurd lines
host-record-lines (AsRow file) asking name earlier n line RevokedUnreadable lines = absurd lines
host-record-lines (AsRow file) asking name earlier n line (known.Unreadable cause) lines = absurd lines

pub if-lines : (b : Bool) (text : List ℕ) → AreWholeLines text → AreWholeLines (if b then text else [])
if-lines true text lines = lines
if-lines false text lines = inl refl

-- what was appended to whole lines are whole lines
pub lines-on : (before made after : List ℕ) → after ≡ before ++ made → AreWholeLines made → AreWholeLines before → AreWholeLines after
lines-on before made after is lines w = subst AreWholeLines (sym is) (both-lines before made w lines)
