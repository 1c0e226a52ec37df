-- The places of a code on the page are the rows that have a finding with it.
use Rattle.std.proofs.Common.{◌≡◌, ◌∙◌, ◌+◌, ◌*◌, ◌-◌, ◌/◌, ◌%◌, ◌^◌, ◌<◌, ◌==◌, ◌&&◌, ◌||◌, ℕ, nat_le, nat_lt, min, Bool, true, false, not, cond, List, [], ◌∷◌, ◌++◌, refl, ap, sym, append_assoc, arith}
use Rattle.std.specs.Prelude.{ℤ, Option, Some, None, codes}
use Rattle.std.specs.Fmt.{decimal}
use Rattle.std.specs.List.{fold}
use Rattle.std.specs.Option.{option_to_list}
use Rattle.std.proofs.Math.Nat.{min-eq_left}
use Rattle.std.proofs.lemmas.Bool.{and_parts, eq-eqb, eqb-false, eqb-true, ltb-true, ne_eqb}
use Rattle.std.proofs.lemmas.Fmt.{decimal_by_steps}
use Rattle.std.proofs.lemmas.List.Sums.{fold-append}
use Rattle.ssh_print.specs.Texts.{escaped_text}
use Rattle.ssh_findings.specs.Codes.{code_place, code_text, same_code}
use Rattle.ssh_findings.specs.declared.code.Code.{Code}
use Rattle.ssh_findings.specs.declared.code.Code.TheVariants as code
use Rattle.ssh_findings.specs.declared.facts.Facts.{Facts}
use Rattle.ssh_findings.specs.declared.finding.Finding.{Finding}
use Rattle.ssh_findings.specs.declared.host_facts.HostFacts.{HostFacts}
use Rattle.ssh_findings.specs.declared.host_finding.HostFinding.{HostFinding}
use Rattle.ssh_findings.specs.declared.recovered_key.HeldKey.{HeldKey}
use Rattle.ssh_findings.specs.declared.row.Value.{Value}
use Rattle.ssh_findings.specs.declared.row.Value.TheVariants.{Nothing, Number, Cause}
use Rattle.ssh_findings.specs.declared.urgency.Urgency.{Urgency}
use Rattle.ssh_findings.specs.declared.urgency.Urgency.TheVariants as urgencies
use Rattle.ssh_findings.specs.FindingRows.{FindingRow}
use Rattle.ssh_findings.specs.Findings.{auth_row}
use Rattle.ssh_findings.specs.HostFindingsFindings.{host_row}
use Rattle.ssh_findings.specs.Urgency.{how_soon}
use Rattle.ssh_keys.specs.Names.{key_name_of}
use Rattle.ssh_keys.specs.declared.kind.KeyKind.{KeyKind}
use Rattle.ssh_print.specs.Dates.{moment_text}
use Rattle.ssh_print.specs.DecisionText.{carried_word, has_no_right}
use Rattle.ssh_rights.specs.declared.rights.Carried.{Carried}
use Rattle.ssh_rights.specs.declared.rights.Rights.{Rights}
use Rattle.ssh_page.specs.declared.file.FileKind.{FileKind}
use Rattle.ssh_page.specs.declared.file.FileKind.TheVariants.{AuthorizedKeys, KnownHosts}
use Rattle.ssh_page.specs.declared.found_rows.RowPart.TheVariants.{Classes, File, Line}
use Rattle.ssh_page.specs.declared.found_rows.RowPart.{RowPart}
use Rattle.ssh_page.specs.declared.found_rows.RowRead.{RowRead}
use Rattle.ssh_page.specs.declared.piece.Piece.{Piece}
use Rattle.ssh_page.specs.declared.piece.Piece.TheVariants as piece
use Rattle.ssh_page.specs.declared.record.RowPlace.{RowPlace}
use Rattle.ssh_page.specs.Classes.{class_of, class_piece, code_number}
use Rattle.ssh_page.specs.Documents.{Document, IsOfBytes, nothing, put, say, tell, copied, count, each, marks, ◌&◌}
use Rattle.ssh_page.specs.Files.{ClassesSeen, FileSeen, counts_part, empty_section, fault_section, fault_words, section, section_classes, section_end, section_head, section_name, table_piece}
use Rattle.ssh_page.specs.Findings.{detail, finding_head, finding_part, has_bytes, has_value, line_link, link, names_a_line, value_detail, value_link, value_sentence}
use Rattle.ssh_page.specs.FoundRows.{AreNumbers, HasPlaces, after_class, found_place, has_finding, no_row, places_in, places_read, row_start, with_digit, with_number}
use Rattle.ssh_page.specs.HostRecords.{bare_row, host_cells, host_entry_row, revoked_cells, revoked_row, role}
use Rattle.ssh_page.specs.Pieces.{mark}
use Rattle.ssh_page.specs.Records.{all_limits, bits_part, carried_part, command_part, comment_part, entry_cells, entry_row, fingerprint_part, flag_part, held_part, is_free, key_part, limits_part, put_if, right_marks, right_piece, rights_part, row_classes, row_findings, row_numbers, setting_part, unreadable_row, until_part, words_part}
use Rattle.ssh_page.specs.Shown.{are_printable, is_printable}
use Rattle.ssh_page.proofs.PrintableLemmas.{decimal-printable, escaped-printable, printable-low}

-- From one state to another a part has these places. As a record, so that a proof finds the states.
pub record Reads (c : Code) (s : RowRead) (d : Document) (ps : List RowPlace) (t : RowRead) : Type 0 where
  pub by : (rest : List ℕ) → places_read c s (marks d ++ rest) ≡ ps ++ places_read c t rest

pub on : {c : Code} {s t u : RowRead} {a b : Document} {ps qs : List RowPlace} → Reads c s a ps t → Reads c t b qs u → Reads c s (a & b) (ps ++ qs) u
on {c} {s} {t} {u} {a} {b} {ps} {qs} h k = record {
  by = λ rest.
      ap (places_read c s) (append_assoc (marks a) (marks b) rest) ∙ h.by (marks b ++ rest)
      ∙ ap (λ l. ps ++ l) (k.by rest) ∙ sym (append_assoc ps qs (places_read c u rest));
}

-- a part without a place, before and after another
first : {c : Code} {s t u : RowRead} {a b : Document} {qs : List RowPlace} → Reads c s a [] t → Reads c t b qs u → Reads c s (a & b) qs u
first h k = on h k

last : {c : Code} {s t u : RowRead} {a b : Document} {ps : List RowPlace} → Reads c s a ps t → Reads c t b [] u → Reads c s (a & b) ps u
last {c} {s} {t} {u} {a} {b} {ps} h k = record {
  by = λ rest. ap (places_read c s) (append_assoc (marks a) (marks b) rest) ∙ h.by (marks b ++ rest) ∙ ap (λ l. ps ++ l) (k.by rest);
}

-- ---- numbers

digit-within : (k d : ℕ) → k * 10 + (d - 48) < 2 ^ 64 → with_digit k d ≡ k * 10 + (d - 48)
digit-within k d h =
    ap (λ x. min (x + (d - 48)) (2 ^ 64 - 1)) (min-eq_left {n = k * 10} {m = 2 ^ 64 - 1} (omega (arith, h)))
    ∙ min-eq_left {n = k * 10 + (d - 48)} {m = 2 ^ 64 - 1} (omega (arith, h))

abbrev read-digits : List ℕ → ℕ
read-digits ds = fold with_digit 0 ds

last-digit : (m : ℕ) (ds : List ℕ) → m < 2 ^ 64 → read-digits ds ≡ m / 10 → read-digits (ds ++ (48 + m % 10) ∷ []) ≡ m
last-digit m ds small h =
    let fits : (m / 10) * 10 + ((48 + m % 10) - 48) < 2 ^ 64 = omega (arith, small) in
    let same : (m / 10) * 10 + ((48 + m % 10) - 48) ≡ m = omega arith in
    fold-append with_digit 0 ds ((48 + m % 10) ∷ []) ∙ ap (λ k. with_digit k (48 + m % 10)) h ∙ digit-within (m / 10) (48 + m % 10) fits ∙ same

one-digit : (m : ℕ) → m < 10 → read-digits ((48 + m) ∷ []) ≡ m
one-digit m l =
    let same : 0 * 10 + ((48 + m) - 48) ≡ m = omega arith in
    digit-within 0 (48 + m) (omega (arith, l)) ∙ same

pub number-read : (n : ℕ) → n < 2 ^ 64 → read-digits (decimal n) ≡ n
number-read n small =
    decimal_by_steps (λ m ds. m < 2 ^ 64 → read-digits ds ≡ m) (λ m l less. one-digit m l) (λ m ds l h less. last-digit m ds less (h (omega (arith, less)))) n small small

-- ---- the numbers of a row

abbrev at : RowPart → ℕ → Bool → ℕ → RowRead
at part number has file = record { part = part; number = number; has_code = has; file = file }

classes-text : (c : Code) (text : List ℕ) (number : ℕ) (has : Bool) (rest : List ℕ) → are_printable text ≡ true
    → places_read c (at Classes number has 0) (text ++ rest) ≡ places_read c (at Classes (fold with_digit number text) has 0) rest
classes-text c [] number has rest h = refl
classes-text c (b ∷ text) number has rest h =
    let both = and_parts (is_printable b) (are_printable text) h in
    ap (λ low. places_read c (cond (not low) (after_class c (at Classes number has 0) b) (with_number (at Classes number has 0) b)) (text ++ rest)) (printable-low b both.0)
    ∙ classes-text c text (with_digit number b) has rest both.1

file-text : (c : Code) (text : List ℕ) (number : ℕ) (has : Bool) (rest : List ℕ) → are_printable text ≡ true
    → places_read c (at File number has 0) (text ++ rest) ≡ places_read c (at File (fold with_digit number text) has 0) rest
file-text c [] number has rest h = refl
file-text c (b ∷ text) number has rest h =
    let both = and_parts (is_printable b) (are_printable text) h in
    ap (λ low. places_read c (cond (not low) (at Line 0 has number) (with_number (at File number has 0) b)) (text ++ rest)) (printable-low b both.0)
    ∙ file-text c text (with_digit number b) has rest both.1

line-text : (c : Code) (text : List ℕ) (number : ℕ) (has : Bool) (file : ℕ) (rest : List ℕ) → are_printable text ≡ true
    → places_read c (at Line number has file) (text ++ rest) ≡ places_read c (at Line (fold with_digit number text) has file) rest
line-text c [] number has file rest h = refl
line-text c (b ∷ text) number has file rest h =
    let both = and_parts (is_printable b) (are_printable text) h in
    let place : RowPlace = record { file = file; line = number } in
    ap (λ low. option_to_list (cond (not low && has) (Some place) None) ++ places_read c (cond (not low) no_row (with_number (at Line number has file) b)) (text ++ rest)) (printable-low b both.0)
    ∙ line-text c text (with_digit number b) has file rest both.1

class_count : (c : Code) (n : ℕ) (has : Bool) → n < 2 ^ 64 → Reads c (at Classes 0 has 0) (count n) [] (at Classes n has 0)
class_count c n has small = record {
  by = λ rest. classes-text c (decimal n) 0 has rest (decimal-printable n) ∙ ap (λ k. places_read c (at Classes k has 0) rest) (number-read n small);
}

file_count : (c : Code) (n : ℕ) (has : Bool) → n < 2 ^ 64 → Reads c (at File 0 has 0) (count n) [] (at File n has 0)
file_count c n has small = record {
  by = λ rest. file-text c (decimal n) 0 has rest (decimal-printable n) ∙ ap (λ k. places_read c (at File k has 0) rest) (number-read n small);
}

line_count : (c : Code) (n : ℕ) (has : Bool) (file : ℕ) → n < 2 ^ 64 → Reads c (at Line 0 has file) (count n) [] (at Line n has file)
line_count c n has file small = record {
  by = λ rest. line-text c (decimal n) 0 has file rest (decimal-printable n) ∙ ap (λ k. places_read c (at Line k has file) rest) (number-read n small);
}

-- ---- classes

-- the code was among the classes, the last of which has this number
abbrev seen : Code → Bool → ℕ → Bool
seen c has number = has || number == code_number c

class_piece_read : (c : Code) (u : Urgency) (has : Bool) (number : ℕ) → Reads c (at Classes number has 0) (put (class_piece u)) [] (at Classes 0 (seen c has number) 0)
unfolding mark
class_piece_read c urgencies.Today has number = record { by = λ rest. refl }
class_piece_read c urgencies.Soon has number = record { by = λ rest. refl }
class_piece_read c urgencies.TidyUp has number = record { by = λ rest. refl }
class_piece_read c urgencies.Policy has number = record { by = λ rest. refl }

few-codes : (d : Code) → nat_lt (code_number d) 100 ≡ true
unfolding code_number
few-codes code.Unreadable = refl
few-codes code.SameKey = refl
few-codes code.NeverDecides = refl
few-codes code.GivesMore = refl
few-codes code.ShortKey = refl
few-codes code.Expired = refl
few-codes code.PermitsNobody = refl
few-codes code.ReadOtherwise = refl
few-codes code.ForcedButForwards = refl
few-codes code.UnreadableRevocation = refl
few-codes code.OtherKey = refl
few-codes code.TrustedAndRevoked = refl
few-codes code.PatternHosts = refl
few-codes code.EveryHost = refl
few-codes code.AnyAddress = refl
few-codes code.AnyCommand = refl
few-codes code.NoExpiry = refl
few-codes code.AnyPrincipal = refl
few-codes code.NoComment = refl
few-codes code.NamesInClear = refl
few-codes code.SameHostKey = refl
few-codes code.MayRefuse = refl

code-small : (d : Code) → code_number d < 2 ^ 64
code-small d = let few = ltb-true (code_number d) 100 (few-codes d) in omega (arith, few)

class_read : (c d : Code) (has : Bool) (number : ℕ) → Reads c (at Classes number has 0) (class_of d) [] (at Classes (code_number d) (seen c has number) 0)
unfolding class_of
class_read c d has number = first (class_piece_read c (how_soon d) has number) (class_count c (code_number d) (seen c has number) (code-small d))

one-more : (m n : ℕ) (b : Bool) → (m == n) ≡ b → (m + 1 == n + 1) ≡ b
one-more m n true h = eq-eqb (m + 1) (n + 1) (ap (λ k. k + 1) (eqb-true m n h))
one-more m n false h = ne_eqb (m + 1) (n + 1) (λ e. eqb-false m n h (omega (arith, e)))

same-number : (d c : Code) → (code_number d == code_number c) ≡ same_code d c
unfolding code_number
same-number d c = one-more (code_place d) (code_place c) (same_code d c) refl

no-number : (c : Code) → (0 == code_number c) ≡ false
unfolding code_number
no-number c = ne_eqb 0 (code_place c + 1) (λ e. omega (arith, e))

or-assoc : (a b d : Bool) → ((a || b) || d) ≡ (a || (b || d))
or-assoc true b d = refl
or-assoc false b d = refl

or-false : (a : Bool) → (a || false) ≡ a
or-false true = refl
or-false false = refl

-- behind the classes of these findings
record ClassesRead {F : Type 0} (row : F → FindingRow) (c : Code) (has : Bool) (number : ℕ) (found : List F) : Type 0 where
  now : Bool
  last_number : ℕ
  reads : Reads c (at Classes number has 0) (row_classes row found) [] (at Classes last_number now 0)
  tells : seen c now last_number ≡ (seen c has number || has_finding row c found)

classes_read : {F : Type 0} (row : F → FindingRow) (c : Code) (found : List F) (has : Bool) (number : ℕ) → ClassesRead row c has number found
classes_read row c [] has number = record {
  now = has;
  last_number = number;
  reads = record { by = λ rest. refl };
  tells = sym (or-false (seen c has number));
}
classes_read row c (f ∷ found) has number =
    let d = (row f).code in
    let more = classes_read row c found (seen c has number) (code_number d) in
    let same : seen c (seen c has number) (code_number d) ≡ (seen c has number || same_code d c) = ap (λ (b : Bool). seen c has number || b) (same-number d c) in
    record {
      now = more.now;
      last_number = more.last_number;
      reads = first (class_read c d has number) more.reads;
      tells = more.tells ∙ ap (λ (b : Bool). b || has_finding row c found) same ∙ or-assoc (seen c has number) (same_code d c) (has_finding row c found);
    }

-- ---- outside of a row's numbers

pub no-row : (b : ℕ) → is_printable b ≡ true → (b == mark piece.Row) ≡ false
unfolding mark
no-row b h = let few = ltb-true b 127 (and_parts (nat_le 32 b) (nat_lt b 127) h).1 in ne_eqb b 130 (λ e. omega (arith, few, e))

outside-text : (c : Code) (text : List ℕ) (rest : List ℕ) → are_printable text ≡ true → places_in c (text ++ rest) ≡ places_in c rest
outside-text c [] rest h = refl
outside-text c (b ∷ text) rest h =
    let both = and_parts (is_printable b) (are_printable text) h in
    ap (λ is. places_read c (cond is row_start no_row) (text ++ rest)) (no-row b both.0) ∙ outside-text c text rest both.1

-- no row begins in it
abbrev pub Rowless : Document → Type 0
Rowless nothing = Unit {0}
Rowless (put p) = (mark p == mark piece.Row) ≡ false
Rowless (say text) = Unit {0}
Rowless (tell text) = Unit {0}
Rowless (copied text) = Unit {0}
Rowless (count n) = Unit {0}
Rowless (a & b) = Rowless a × Rowless b

pub outside-piece : (c : Code) (p : Piece) → (mark p == mark piece.Row) ≡ false → (rest : List ℕ) → places_in c (mark p ∷ rest) ≡ places_in c rest
outside-piece c p h rest = ap (λ is. places_read c (cond is row_start no_row) rest) h

pub code-is-none : (mark piece.Code == mark piece.Row) ≡ false
unfolding mark
code-is-none = refl

pub code-end-is-none : (mark piece.CodeEnd == mark piece.Row) ≡ false
unfolding mark
code-end-is-none = refl

outside-copied : (c : Code) (text : List ℕ) → are_printable text ≡ true → (rest : List ℕ) → places_in c (marks (copied text) ++ rest) ≡ places_in c rest
outside-copied c text are rest =
    outside-piece c piece.Code code-is-none ((text ++ mark piece.CodeEnd ∷ []) ++ rest)
    ∙ ap (places_in c) (append_assoc text (mark piece.CodeEnd ∷ []) rest)
    ∙ outside-text c text (mark piece.CodeEnd ∷ rest) are
    ∙ outside-piece c piece.CodeEnd code-end-is-none rest

outside : (c : Code) (d : Document) → IsOfBytes d → Rowless d → (rest : List ℕ) → places_in c (marks d ++ rest) ≡ places_in c rest
outside c nothing are h rest = refl
outside c (put p) are h rest = outside-piece c p h rest
outside c (say text) are h rest = outside-text c (escaped_text text) rest (escaped-printable text are)
outside c (tell text) are h rest = outside-copied c (escaped_text text) (escaped-printable text are) rest
outside c (copied text) are h rest = outside-copied c text are rest
outside c (count n) are h rest = outside-text c (decimal n) rest (decimal-printable n)
outside c (a & b) are h rest =
    ap (places_in c) (append_assoc (marks a) (marks b) rest) ∙ outside c a are.0 h.0 (marks b ++ rest) ∙ outside c b are.1 h.1 rest

-- The same as a record, so that a proof finds the part.
pub record NoRow (d : Document) : Type 0 where
  pub by : Rowless d

pub also : {a b : Document} → NoRow a → NoRow b → NoRow (a & b)
also h k = record { by = (h.by, k.by) }

pub said : (text : List ℕ) → NoRow (say text)
said text = record { by = tt }

passes : (c : Code) (d : Document) → IsOfBytes d → NoRow d → Reads c no_row d [] no_row
passes c d are h = record { by = outside c d are h.by }

each-none : {A : Type 0} (part : A → Document) → ((x : A) → NoRow (part x)) → (xs : List A) → Rowless (each part xs)
each-none part h [] = tt
each-none part h (x ∷ xs) = ((h x).by, each-none part h xs)

pub each_none : {A : Type 0} (part : A → Document) → ((x : A) → NoRow (part x)) → (xs : List A) → NoRow (each part xs)
each_none part h xs = record { by = each-none part h xs }

pub if_none : (holds : Bool) (p : Piece) → NoRow (put p) → NoRow (put_if holds p)
if_none true p h = h
if_none false p h = record { by = tt }

-- ---- the numbers of a row

file_id_read : (c : Code) (has : Bool) (number : ℕ) → Reads c (at Classes number has 0) (put piece.FileId) [] (at File 0 (seen c has number) 0)
unfolding mark
file_id_read c has number = record { by = λ rest. refl }

line_id_read : (c : Code) (has : Bool) (number : ℕ) → Reads c (at File number has 0) (put piece.LineId) [] (at Line 0 has number)
unfolding mark
line_id_read c has number = record { by = λ rest. refl }

abbrev if-so : Bool → RowPlace → List RowPlace
if-so has place = cond has (place ∷ []) []

row-number-read : (c : Code) (has : Bool) (number file : ℕ) (rest : List ℕ)
    → places_read c (at Line number has file) (mark piece.RowNumber ∷ rest) ≡ if-so has (record { file = file; line = number }) ++ places_read c no_row rest
unfolding mark
row-number-read c true number file rest = refl
row-number-read c false number file rest = refl

row_number_read : (c : Code) (has : Bool) (number file : ℕ) → Reads c (at Line number has file) (put piece.RowNumber) (if-so has (record { file = file; line = number })) no_row
row_number_read c has number file = record { by = row-number-read c has number file }

pub key_cell_none : NoRow (put piece.KeyCell)
unfolding mark
key_cell_none = record { by = refl }

numbers_read : (c : Code) (place : RowPlace) (has : Bool) (number : ℕ) → AreNumbers place
    → Reads c (at Classes number has 0) (row_numbers place) (if-so (seen c has number) place) no_row
unfolding row_numbers
numbers_read c place has number few =
    let own = seen c has number in
    let file = first (first (file_id_read c has number) (file_count c place.file own few.0)) (line_id_read c own place.file) in
    let line = on (first file (line_count c place.line own place.file few.1)) (row_number_read c own place.line place.file) in
    last (last line (passes c (count place.line) tt (record { by = tt }))) (passes c (put piece.KeyCell) tt key_cell_none)

-- ---- the front of a row

row_begins : (c : Code) → Reads c no_row (put piece.Row) [] (at Classes 0 false 0)
unfolding mark
row_begins c = record { by = λ rest. refl }

unreadable_read : (c : Code) (has : Bool) (number : ℕ) → Reads c (at Classes number has 0) (put piece.UnreadableClass) [] (at Classes 0 (seen c has number) 0)
unfolding mark
unreadable_read c has number = record { by = λ rest. refl }

authority_read : (c : Code) (has : Bool) (number : ℕ) → Reads c (at Classes number has 0) (put piece.AuthorityClass) [] (at Classes 0 (seen c has number) 0)
unfolding mark
authority_read c has number = record { by = λ rest. refl }

-- the code was among the classes, also behind another class
still-seen : (c : Code) (b : Bool) → seen c b 0 ≡ b
still-seen c b = ap (λ (d : Bool). b || d) (no-number c) ∙ or-false b

first-seen : (c : Code) → seen c false 0 ≡ false
first-seen c = no-number c

abbrev found-in : {F : Type 0} → (F → FindingRow) → Code → List F → Bool
found-in row c found = has_finding row c found

tells-found : {F : Type 0} (row : F → FindingRow) (c : Code) (found : List F) (own : Bool) → own ≡ (seen c false 0 || has_finding row c found) → own ≡ has_finding row c found
tells-found row c found own h = h ∙ ap (λ (b : Bool). b || has_finding row c found) (first-seen c)

plain_front : {F : Type 0} (row : F → FindingRow) (c : Code) (place : RowPlace) (found : List F) → AreNumbers place
    → Reads c no_row (put piece.Row & row_classes row found & row_numbers place) (found_place row c place found) no_row
plain_front row c place found few =
    let classes = classes_read row c found false 0 in
    let whole = first (first (row_begins c) classes.reads) (numbers_read c place classes.now classes.last_number few) in
    let same = tells-found row c found (seen c classes.now classes.last_number) classes.tells in
    record { by = λ rest. whole.by rest ∙ ap (λ b. if-so b place ++ places_in c rest) same }

unreadable_front : {F : Type 0} (row : F → FindingRow) (c : Code) (place : RowPlace) (found : List F) → AreNumbers place
    → Reads c no_row (put piece.Row & row_classes row found & put piece.UnreadableClass & row_numbers place) (found_place row c place found) no_row
unreadable_front row c place found few =
    let classes = classes_read row c found false 0 in
    let own = seen c classes.now classes.last_number in
    let whole = first (first (first (row_begins c) classes.reads) (unreadable_read c classes.now classes.last_number)) (numbers_read c place own 0 few) in
    let same = still-seen c own ∙ tells-found row c found own classes.tells in
    record { by = λ rest. whole.by rest ∙ ap (λ b. if-so b place ++ places_in c rest) same }

authority_front : {F : Type 0} (row : F → FindingRow) (c : Code) (place : RowPlace) (holds : Bool) (found : List F) → AreNumbers place
    → Reads c no_row (put piece.Row & row_classes row found & put_if holds piece.AuthorityClass & row_numbers place) (found_place row c place found) no_row
authority_front row c place false found few =
    let classes = classes_read row c found false 0 in
    let none : Reads c (at Classes classes.last_number classes.now 0) nothing [] (at Classes classes.last_number classes.now 0) = record { by = λ rest. refl } in
    let whole = first (first (first (row_begins c) classes.reads) none) (numbers_read c place classes.now classes.last_number few) in
    let same = tells-found row c found (seen c classes.now classes.last_number) classes.tells in
    record { by = λ rest. whole.by rest ∙ ap (λ b. if-so b place ++ places_in c rest) same }
authority_front row c place true found few =
    let classes = classes_read row c found false 0 in
    let own = seen c classes.now classes.last_number in
    let whole = first (first (first (row_begins c) classes.reads) (authority_read c classes.now classes.last_number)) (numbers_read c place own 0 few) in
    let same = still-seen c own ∙ tells-found row c found own classes.tells in
    record { by = λ rest. whole.by rest ∙ ap (λ b. if-so b place ++ places_in c rest) same }

-- ---- the other parts of a row

class_piece_none : (u : Urgency) → NoRow (put (class_piece u))
unfolding mark
class_piece_none urgencies.Today = record { by = refl }
class_piece_none urgencies.Soon = record { by = refl }
class_piece_none urgencies.TidyUp = record { by = refl }
class_piece_none urgencies.Policy = record { by = refl }

pub class_none : (d : Code) → NoRow (class_of d)
unfolding class_of
class_none d = also (class_piece_none (how_soon d)) (record { by = tt })

value_detail_none : (v : Value) → NoRow (value_detail v)
value_detail_none Nothing = record { by = tt }
value_detail_none (Number n) = record { by = tt }
value_detail_none (Cause why) = record { by = tt }

value_sentence_none : (v : Value) → NoRow (value_sentence v)
value_sentence_none Nothing = record { by = tt }
value_sentence_none (Number n) = record { by = tt }
value_sentence_none (Cause why) = record { by = tt }

detail-by : (b : Bool) (words : List ℕ) (v : Value) → NoRow (cond b (say (codes " ") & say words & value_detail v) nothing)
detail-by true words v = also (also (said (codes " ")) (said words)) (value_detail_none v)
detail-by false words v = record { by = tt }

detail_none : (r : FindingRow) → NoRow (detail r)
unfolding detail
detail_none r = detail-by (has_bytes r.detail || has_value r.value) r.detail r.value

line_link_none : (file line : ℕ) → NoRow (line_link file line)
unfolding line_link mark
line_link_none file line = record { by = ((((((refl, tt), refl), tt), refl), tt), refl) }

value_link_none : (file : ℕ) (v : Value) → NoRow (value_link file v)
value_link_none file Nothing = record { by = tt }
value_link_none file (Number line) = line_link_none file line
value_link_none file (Cause why) = record { by = tt }

link-by : (b : Bool) (file : ℕ) (v : Value) → NoRow (cond b (value_link file v) nothing)
link-by true file v = value_link_none file v
link-by false file v = record { by = tt }

link_none : (file : ℕ) (r : FindingRow) → NoRow (link file r)
link_none file r = link-by (names_a_line r.code) file r.value

finding_piece_none : NoRow (put piece.Finding)
unfolding mark
finding_piece_none = record { by = refl }

finding_code_none : NoRow (put piece.FindingCode)
unfolding mark
finding_code_none = record { by = refl }

finding_says_none : NoRow (put piece.FindingSays)
unfolding mark
finding_says_none = record { by = refl }

limit_none : NoRow (put piece.Limit)
unfolding mark
limit_none = record { by = refl }

limit_end_none : NoRow (put piece.LimitEnd)
unfolding mark
limit_end_none = record { by = refl }

head_none : (r : FindingRow) → NoRow (finding_head r)
unfolding finding_head
head_none r =
    also (also (also (also (also finding_piece_none (class_none r.code)) finding_code_none) (said (code_text r.code))) (detail_none r)) finding_says_none

finding_none : (file : ℕ) (r : FindingRow) → NoRow (finding_part file r)
unfolding finding_part
finding_none file r =
    also (also (also (also (also (head_none r) (said r.before)) (value_sentence_none r.value)) (said r.after)) (link_none file r)) limit_end_none

pub findings_none : {F : Type 0} (place : RowPlace) (row : F → FindingRow) (found : List F) → NoRow (row_findings place row found)
findings_none place row found = each_none (λ f. finding_part place.file (row f)) (λ f. finding_none place.file (row f)) found

comment_none : (text : List ℕ) → NoRow (comment_part text)
unfolding mark
comment_none [] = record { by = refl }
comment_none (b ∷ text) = record { by = tt }

fingerprint_none : (fingerprint : List ℕ) → NoRow (fingerprint_part fingerprint)
unfolding fingerprint_part mark
fingerprint_none fingerprint = record { by = ((refl, tt), refl) }

bits_none : (bits : Option ℕ) → NoRow (bits_part bits)
bits_none None = record { by = tt }
bits_none (Some n) = record { by = (tt, tt) }

type_none : NoRow (put piece.KeyType)
unfolding mark
type_none = record { by = refl }

type_end_none : NoRow (put piece.KeyTypeEnd)
unfolding mark
type_end_none = record { by = refl }

key_none : (kind : KeyKind) (bits : Option ℕ) (fingerprint : List ℕ) → NoRow (key_part kind bits fingerprint)
unfolding key_part
key_none kind bits fingerprint = also (also (also (also type_none (said (key_name_of kind))) (bits_none bits)) type_end_none) (fingerprint_none fingerprint)

pub held_none : (held : Option HeldKey) → NoRow (held_part held)
held_none None = record { by = tt }
held_none (Some held) = key_none held.kind held.bits held.fingerprint

pub setting_none : (word : List ℕ) (value : Option (List ℕ)) → NoRow (setting_part word value)
setting_none word None = record { by = tt }
setting_none word (Some text) = also (also (also limit_none (said word)) (record { by = tt })) limit_end_none

pub flag_none : (stands : Bool) (words : List ℕ) → NoRow (flag_part stands words)
flag_none true words = also (also limit_none (said words)) limit_end_none
flag_none false words = record { by = tt }

right_none : (on : Bool) (p : Piece) → NoRow (put p) → NoRow (put (right_piece on p))
unfolding mark
right_none true p h = h
right_none false p h = record { by = refl }

right_marks_none : (r : Rights) → NoRow (right_marks r)
unfolding right_marks mark
right_marks_none r =
    also (also (also (also (right_none r.port piece.Port (record { by = refl })) (right_none r.agent piece.Agent (record { by = refl }))) (right_none r.x11 piece.X11 (record { by = refl }))) (right_none r.pty piece.Pty (record { by = refl }))) (right_none r.user_rc piece.UserRc (record { by = refl }))

rights-by : (b : Bool) (r : Rights) → NoRow (cond b (put piece.NoRights) (right_marks r))
unfolding mark
rights-by true r = record { by = refl }
rights-by false r = right_marks_none r

pub rights_none : (r : Rights) → NoRow (rights_part r)
rights_none r = rights-by (has_no_right r) r

carried_none : (x : Carried) → NoRow (carried_part x)
unfolding carried_part
carried_none x = also (also (also (also (also limit_none (said (codes "carry "))) (said (carried_word x.name))) (said (codes " "))) (record { by = tt })) limit_end_none

words_none : (word words : List ℕ) → NoRow (words_part word words)
unfolding words_part
words_none word words = also (also (also limit_none (said word)) (said words)) limit_end_none

until_none : (until : Option ℤ) → NoRow (until_part until)
until_none None = record { by = tt }
until_none (Some moment) = words_none (codes "expires ") (moment_text moment)

command_none : (r : Rights) → NoRow (command_part r)
unfolding command_part
command_none r = also (setting_none (codes "command ") r.command) (each_none carried_part carried_none r.carried)

limits_none : (f : Facts) → NoRow (limits_part f)
unfolding limits_part
limits_none f =
    also (also (also (also (flag_none f.no_touch_required (codes "no-touch-required")) (flag_none f.verify_required (codes "verify-required"))) (setting_none (codes "from ") f.from)) (setting_none (codes "principals ") f.principals)) (until_none f.until)

no_limit_none : NoRow (put piece.NoLimit)
unfolding mark
no_limit_none = record { by = refl }

pub all_limits_none : (f : Facts) → NoRow (all_limits f)
unfolding all_limits
all_limits_none f =
    also (also (also (flag_none f.is_authority (codes "authority: whoever it certifies")) (command_none f.rights)) (limits_none f)) (if_none (is_free f) piece.NoLimit no_limit_none)

pub rights_cell_none : NoRow (put piece.RightsCell)
unfolding mark
rights_cell_none = record { by = refl }

pub limits_cell_none : NoRow (put piece.LimitsCell)
unfolding mark
limits_cell_none = record { by = refl }

pub unknown_none : NoRow (put piece.RightsUnknown)
unfolding mark
unknown_none = record { by = refl }

pub row_end_none : NoRow (put piece.RowEnd)
unfolding mark
row_end_none = record { by = refl }

pub entry_cells_none : (f : Facts) → NoRow (entry_cells f)
unfolding entry_cells
entry_cells_none f = also (also (also (comment_none f.comment) (key_none f.kind f.bits f.fingerprint)) rights_cell_none) (rights_none f.rights)

pub host_cells_none : (f : HostFacts) → NoRow (host_cells f)
unfolding host_cells
host_cells_none f = also (also (also (comment_none f.comment) (key_none f.kind f.bits f.fingerprint)) rights_cell_none) (said (role f.is_authority))

pub revoked_cells_none : (fingerprint : List ℕ) → NoRow (revoked_cells fingerprint)
unfolding revoked_cells
revoked_cells_none fingerprint =
    also (also (also (also (said (codes "revoked")) (fingerprint_none fingerprint)) rights_cell_none) (said (codes "revoked"))) limits_cell_none

-- ---- rows

pub entry_reads : (c : Code) (place : RowPlace) (f : Facts) (found : List Finding) → AreNumbers place → IsOfBytes (entry_row place f found)
    → Reads c no_row (entry_row place f found) (found_place auth_row c place found) no_row
unfolding entry_row
entry_reads c place f found few (((((front, cells), x), limits), findings), y) =
    last (last (last (last (last (authority_front auth_row c place f.is_authority found few) (passes c (entry_cells f) cells (entry_cells_none f))) (passes c (put piece.LimitsCell) tt limits_cell_none)) (passes c (all_limits f) limits (all_limits_none f))) (passes c (row_findings place auth_row found) findings (findings_none place auth_row found))) (passes c (put piece.RowEnd) tt row_end_none)

pub unreadable_reads : (c : Code) (place : RowPlace) (held : Option HeldKey) (found : List Finding) → AreNumbers place → IsOfBytes (unreadable_row place held found)
    → Reads c no_row (unreadable_row place held found) (found_place auth_row c place found) no_row
unfolding unreadable_row
unreadable_reads c place held found few (((((((front, words), key), x), y), z), findings), end) =
    last (last (last (last (last (last (last (unreadable_front auth_row c place found few) (passes c (say (codes "unreadable")) words (said (codes "unreadable")))) (passes c (held_part held) key (held_none held))) (passes c (put piece.RightsCell) tt rights_cell_none)) (passes c (put piece.RightsUnknown) tt unknown_none)) (passes c (put piece.LimitsCell) tt limits_cell_none)) (passes c (row_findings place auth_row found) findings (findings_none place auth_row found))) (passes c (put piece.RowEnd) tt row_end_none)

pub host_entry_reads : (c : Code) (place : RowPlace) (f : HostFacts) (found : List HostFinding) → AreNumbers place → IsOfBytes (host_entry_row place f found)
    → Reads c no_row (host_entry_row place f found) (found_place host_row c place found) no_row
unfolding host_entry_row
host_entry_reads c place f found few (((((front, cells), x), names), findings), y) =
    last (last (last (last (last (authority_front host_row c place f.is_authority found few) (passes c (host_cells f) cells (host_cells_none f))) (passes c (put piece.LimitsCell) tt limits_cell_none)) (passes c (setting_part (codes "names ") (Some f.names)) names (setting_none (codes "names ") (Some f.names)))) (passes c (row_findings place host_row found) findings (findings_none place host_row found))) (passes c (put piece.RowEnd) tt row_end_none)

pub revoked_reads : (c : Code) (place : RowPlace) (fingerprint names : List ℕ) (found : List HostFinding) → AreNumbers place → IsOfBytes (revoked_row place fingerprint names found)
    → Reads c no_row (revoked_row place fingerprint names found) (found_place host_row c place found) no_row
unfolding revoked_row
revoked_reads c place fingerprint names found few (((((front, cells), own), words), findings), y) =
    let note = codes "in ssh it counts for these names alone" in
    last (last (last (last (last (plain_front host_row c place found few) (passes c (revoked_cells fingerprint) cells (revoked_cells_none fingerprint))) (passes c (setting_part (codes "names ") (Some names)) own (setting_none (codes "names ") (Some names)))) (passes c (flag_part true note) words (flag_none true note))) (passes c (row_findings place host_row found) findings (findings_none place host_row found))) (passes c (put piece.RowEnd) tt row_end_none)

pub bare_reads : (c : Code) (place : RowPlace) (is : List ℕ) (held : Option HeldKey) (found : List HostFinding) → AreNumbers place → IsOfBytes (bare_row place is held found)
    → Reads c no_row (bare_row place is held found) (found_place host_row c place found) no_row
unfolding bare_row
bare_reads c place is held found few (((((((front, words), key), x), same), z), findings), end) =
    last (last (last (last (last (last (last (unreadable_front host_row c place found few) (passes c (say is) words (said is))) (passes c (held_part held) key (held_none held))) (passes c (put piece.RightsCell) tt rights_cell_none)) (passes c (say is) same (said is))) (passes c (put piece.LimitsCell) tt limits_cell_none)) (passes c (row_findings place host_row found) findings (findings_none place host_row found))) (passes c (put piece.RowEnd) tt row_end_none)

-- ---- sections

pub section_piece_none : NoRow (put piece.Section)
unfolding mark
section_piece_none = record { by = refl }

pub section_end_none : NoRow (put piece.SectionEnd)
unfolding mark
section_end_none = record { by = refl }

pub table_end_none : NoRow section_end
unfolding mark
table_end_none = record { by = refl }

table_none : (kind : FileKind) → NoRow (put (table_piece kind))
unfolding mark
table_none AuthorizedKeys = record { by = refl }
table_none KnownHosts = record { by = refl }

name_none : (file : ℕ) (name : List ℕ) → NoRow (section_name file name)
unfolding section_name mark
name_none file name = record { by = ((((refl, tt), refl), tt), refl) }

counts_none : (f : FileSeen) → NoRow (counts_part f)
unfolding counts_part
counts_none f = record { by = (((((((tt, tt), tt), tt), tt), tt), tt), tt) }

section_classes_none : (x : ClassesSeen) → NoRow (section_classes x)
unfolding section_classes mark
section_classes_none x =
    also (also (each_none class_of class_none x.reported) (if_none x.has_unreadable piece.UnreadableClass (record { by = refl }))) (if_none x.has_authority piece.AuthorityClass (record { by = refl }))

pub head_of_section_none : (file : ℕ) (kind : FileKind) (f : FileSeen) (x : ClassesSeen) → NoRow (section_head file kind f x)
unfolding section_head
head_of_section_none file kind f x =
    also (also (also (also section_piece_none (section_classes_none x)) (name_none file f.name)) (counts_none f)) (table_none kind)

pub section_reads : (c : Code) (file : ℕ) (kind : FileKind) (f : FileSeen) (x : ClassesSeen) (rows : Document) (places : List RowPlace) → IsOfBytes (section file kind f x rows)
    → HasPlaces c rows places → Reads c no_row (section file kind f x rows) places no_row
section_reads c file kind f x rows places ((head, inner), end) h =
    let own : Reads c no_row rows places no_row = record { by = h } in
    last (first (passes c (section_head file kind f x) head (head_of_section_none file kind f x)) own) (passes c section_end tt table_end_none)

pub empty_none : (file : ℕ) (f : FileSeen) → NoRow (empty_section file f)
unfolding empty_section
empty_none file f = also (also (also section_piece_none (name_none file f.name)) (counts_none f)) section_end_none

pub empty_reads : (c : Code) (file : ℕ) (f : FileSeen) → IsOfBytes (empty_section file f) → Reads c no_row (empty_section file f) [] no_row
empty_reads c file f are = passes c (empty_section file f) are (empty_none file f)

fault_words_none : (word means : List ℕ) → NoRow (fault_words word means)
unfolding fault_words mark
fault_words_none word means = record { by = (((tt, tt), refl), tt) }

fault_piece_none : NoRow (put piece.Fault)
unfolding mark
fault_piece_none = record { by = refl }

pub fault_none : (file : ℕ) (name word means : List ℕ) → NoRow (fault_section file name word means)
unfolding fault_section
fault_none file name word means =
    also (also (also (also (also section_piece_none (name_none file name)) fault_piece_none) (fault_words_none word means)) (said (codes ". Nothing else is told of this file."))) section_end_none

pub fault_reads : (c : Code) (file : ℕ) (name word means : List ℕ) → IsOfBytes (fault_section file name word means) → Reads c no_row (fault_section file name word means) [] no_row
fault_reads c file name word means are = passes c (fault_section file name word means) are (fault_none file name word means)
