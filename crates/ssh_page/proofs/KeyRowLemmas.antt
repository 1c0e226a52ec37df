-- The rows with a key that are read off a part of the page are those of its lines with a key.
use Rattle.std.proofs.Common.{◌≡◌, ◌∙◌, ◌<◌, ◌==◌, ◌||◌, ◌^◌, ℕ, Bool, true, false, not, cond, List, [], ◌∷◌, ◌++◌, length, refl, ap, ap₂, sym, true≢false, append_assoc, eq-eqb, option_to_list}
use Rattle.std.specs.Prelude.{Option, Some, None, codes}
use Rattle.std.specs.Fmt.{decimal}
use Rattle.std.proofs.lemmas.Bool.{and_parts}
use Rattle.ssh_findings.specs.declared.facts.Facts.{Facts}
use Rattle.ssh_findings.specs.declared.finding.Finding.{Finding}
use Rattle.ssh_findings.specs.declared.host_facts.HostFacts.{HostFacts}
use Rattle.ssh_findings.specs.declared.host_finding.HostFinding.{HostFinding}
use Rattle.ssh_findings.specs.declared.recovered_key.HeldKey.{HeldKey}
use Rattle.ssh_findings.specs.declared.urgency.Urgency.{Urgency}
use Rattle.ssh_findings.specs.declared.urgency.Urgency.TheVariants as urgencies
use Rattle.ssh_findings.specs.FindingRows.{FindingRow}
use Rattle.ssh_findings.specs.Findings.{auth_row}
use Rattle.ssh_findings.specs.HostFindingsFindings.{host_row}
use Rattle.ssh_findings.specs.Urgency.{how_soon}
use Rattle.ssh_findings.specs.declared.code.Code.{Code}
use Rattle.ssh_keys.specs.Names.{key_name_of}
use Rattle.ssh_keys.specs.declared.kind.KeyKind.{KeyKind}
use Rattle.ssh_print.specs.Texts.{escaped_text}
use Rattle.ssh_page.specs.declared.file.FileKind.{FileKind}
use Rattle.ssh_page.specs.declared.piece.Piece.{Piece}
use Rattle.ssh_page.specs.declared.piece.Piece.TheVariants as piece
use Rattle.ssh_page.specs.declared.record.RowPlace.{RowPlace}
use Rattle.ssh_page.specs.Classes.{class_of, class_piece}
use Rattle.ssh_page.specs.Documents.{Document, IsOfBytes, nothing, put, say, tell, copied, count, marks, ◌&◌}
use Rattle.ssh_page.specs.Files.{ClassesSeen, FileSeen, empty_section, fault_section, section, section_end, section_head}
use Rattle.ssh_page.specs.FoundRows.{AreNumbers}
use Rattle.ssh_page.specs.HostRecords.{bare_row, host_cells, host_entry_row, revoked_cells, revoked_row, role}
use Rattle.ssh_page.specs.KeyRows.{HasKeyRows, IsHeldPrint, IsPrint, KeyRowSeen, behind, fingerprint, front_text, held_rows, is_limited, is_unlimited, key_row, cell_comment, number_of, print_in, row_by_cell, row_of, row_place, rows_in, with_print}
use Rattle.ssh_page.specs.Pieces.{mark}
use Rattle.ssh_page.specs.Records.{all_limits, bits_part, comment_part, entry_cells, entry_row, fingerprint_part, flag_part, held_part, key_part, put_if, rights_part, row_classes, row_findings, row_numbers, setting_part, unreadable_row}
use Rattle.ssh_page.specs.Shown.{are_printable, is_printable}
use Rattle.ssh_page.proofs.FoundRowLemmas.{NoRow, Rowless, all_limits_none, also, class_none, each_none, empty_none, entry_cells_none, fault_none, findings_none, flag_none, head_of_section_none, held_none, host_cells_none, if_none, limits_cell_none, number-read, revoked_cells_none, rights_cell_none, row_end_none, said, setting_none, table_end_none, unknown_none}
use Rattle.ssh_page.proofs.LimitLemmas.{Limits, rights_limits, unknown_limits, words_limits}
use Rattle.ssh_page.proofs.PrintableLemmas.{decimal-printable, escaped-printable}
use Rattle.ssh_page.proofs.SearchLemmas.{Search, Lacks, behind_piece, no-mark, past, past-text}

-- ---- what a search passes over

abbrev ends_print : ℕ → Bool
ends_print b = b == mark piece.RightsCell || b == mark piece.Fingerprint

or-none : (a b : Bool) → (a || b) ≡ false → (a ≡ false) × (b ≡ false)
or-none true b h = absurd (true≢false h)
or-none false b h = (refl, h)

or-neither : (a b : Bool) → a ≡ false → b ≡ false → (a || b) ≡ false
or-neither a b h k = ap (λ c. c || b) h ∙ k

-- the search for a fingerprint
abbrev print_search : Search (List ℕ)
print_search = record {
  of = print_in;
  stops = ends_print;
  passes = λ b rest h.
      let neither = or-none (b == mark piece.RightsCell) (b == mark piece.Fingerprint) h in
      ap (λ is. cond is [] (cond (b == mark piece.Fingerprint) (front_text rest) (print_in rest))) neither.0
      ∙ ap (λ is. cond is (front_text rest) (print_in rest)) neither.1;
  reads_on = λ b h. or-neither (b == mark piece.RightsCell) (b == mark piece.Fingerprint) (no-mark piece.RightsCell b h) (no-mark piece.Fingerprint b h);
}

-- the search for rows
abbrev row_search : Search (List KeyRowSeen)
row_search = record {
  of = rows_in;
  stops = λ b. b == mark piece.Row;
  passes = λ b rest h. ap (λ is. cond is (option_to_list (key_row rest)) [] ++ rows_in rest) h;
  reads_on = no-mark piece.Row;
}

code-no-row : (mark piece.Code == mark piece.Row) ≡ false
unfolding mark
code-no-row = refl

code-end-no-row : (mark piece.CodeEnd == mark piece.Row) ≡ false
unfolding mark
code-end-no-row = refl

lacks-row : (d : Document) → Rowless d → Lacks (λ b. b == mark piece.Row) d
lacks-row nothing h = tt
lacks-row (put p) h = h
lacks-row (say text) h = tt
lacks-row (tell text) h = (code-no-row, code-end-no-row)
lacks-row (copied text) h = (code-no-row, code-end-no-row)
lacks-row (count n) h = tt
lacks-row (a & b) h = (lacks-row a h.0, lacks-row b h.1)

rows-past : (d : Document) → IsOfBytes d → NoRow d → (rest : List ℕ) → rows_in (marks d ++ rest) ≡ rows_in rest
rows-past d are h rest = past row_search d are (lacks-row d h.by) rest

-- ---- text in front of a piece

in-front : (text : List ℕ) (b : ℕ) (rest : List ℕ) → are_printable text ≡ true → is_printable b ≡ false → front_text (text ++ b ∷ rest) ≡ text
in-front [] b rest h ends = ap (λ is. cond is (b ∷ front_text rest) []) ends
in-front (c ∷ text) b rest h ends =
    let both = and_parts (is_printable c) (are_printable text) h in
    ap (λ is. cond is (c ∷ front_text (text ++ b ∷ rest)) []) both.0 ∙ ap (λ l. c ∷ l) (in-front text b rest both.1 ends)

number-front : (n b : ℕ) (rest : List ℕ) → n < 2 ^ 64 → is_printable b ≡ false → number_of (front_text (decimal n ++ b ∷ rest)) ≡ n
number-front n b rest small ends = ap number_of (in-front (decimal n) b rest (decimal-printable n) ends) ∙ number-read n small

-- ---- the numbers of a row

regrouped : (f l m y : List ℕ) (a b c d : ℕ)
    → (((((((a ∷ []) ++ f) ++ b ∷ []) ++ l) ++ c ∷ []) ++ m) ++ d ∷ []) ++ y ≡ a ∷ (f ++ b ∷ (l ++ c ∷ (m ++ d ∷ y)))
regrouped f l m y a b c d = simp append_assoc

-- A front of a row, without its first piece: it tells the place, and the cell of the key is behind it.
record Front (d : Document) (place : RowPlace) : Type 0 where
  place_is : (rest : List ℕ) → row_place (marks d ++ rest) ≡ place
  cell_is : (rest : List ℕ) → behind piece.KeyCell (marks d ++ rest) ≡ rest

numbers_front : (place : RowPlace) → AreNumbers place → Front (row_numbers place) place
unfolding row_numbers mark
numbers_front place few =
    let f = decimal place.file in
    let l = decimal place.line in
    let text = λ (p : Piece) (t rest : List ℕ) (are : are_printable t ≡ true). past-text (behind_piece p) t rest are in
    let plain = λ (n : ℕ). decimal-printable n in
    let same = λ (y : List ℕ). regrouped f l l y (mark piece.FileId) (mark piece.LineId) (mark piece.RowNumber) (mark piece.KeyCell) in
    let behind-line = λ (y : List ℕ). l ++ mark piece.RowNumber ∷ (l ++ mark piece.KeyCell ∷ y) in
    record {
      place_is = λ y.
          ap row_place (same y)
          ∙ ap₂ (λ (a b : ℕ). record { file = a; line = b }) (number-front place.file (mark piece.LineId) (behind-line y) few.0 refl)
          (ap (λ m. number_of (front_text m)) (text piece.LineId f (mark piece.LineId ∷ behind-line y) (plain place.file)) ∙ number-front place.line (mark piece.RowNumber) (l ++ mark piece.KeyCell ∷ y) few.1 refl);
      cell_is = λ y.
          ap (behind piece.KeyCell) (same y) ∙ text piece.KeyCell f (mark piece.LineId ∷ behind-line y) (plain place.file)
          ∙ text piece.KeyCell l (mark piece.RowNumber ∷ (l ++ mark piece.KeyCell ∷ y)) (plain place.line) ∙ text piece.KeyCell l (mark piece.KeyCell ∷ y) (plain place.line);
    }

-- the pieces behind which the numbers and the cell stand
record LacksNumbers (d : Document) : Type 0 where
  file : Lacks (λ b. b == mark piece.FileId) d
  line : Lacks (λ b. b == mark piece.LineId) d
  cell : Lacks (λ b. b == mark piece.KeyCell) d

also_lacks : {a b : Document} → LacksNumbers a → LacksNumbers b → LacksNumbers (a & b)
also_lacks h k = record { file = (h.file, k.file); line = (h.line, k.line); cell = (h.cell, k.cell) }

front_after : (d : Document) (place : RowPlace) → IsOfBytes d → LacksNumbers d → AreNumbers place → Front (d & row_numbers place) place
front_after d place are lacks few =
    let own = numbers_front place few in
    let n = row_numbers place in
    let over = λ (p : Piece) (h : Lacks (λ b. b == mark p) d) (rest : List ℕ). ap (behind p) (append_assoc (marks d) (marks n) rest) ∙ past (behind_piece p) d are h (marks n ++ rest) in
    record {
      place_is = λ rest.
          ap₂ (λ (a b : List ℕ). record { file = number_of (front_text a); line = number_of (front_text b) }) (over piece.FileId lacks.file rest) (over piece.LineId lacks.line rest)
          ∙ own.place_is rest;
      cell_is = λ rest. over piece.KeyCell lacks.cell rest ∙ own.cell_is rest;
    }

class-piece-lacks : (u : Urgency) → LacksNumbers (put (class_piece u))
unfolding mark
class-piece-lacks urgencies.Today = record { file = refl; line = refl; cell = refl }
class-piece-lacks urgencies.Soon = record { file = refl; line = refl; cell = refl }
class-piece-lacks urgencies.TidyUp = record { file = refl; line = refl; cell = refl }
class-piece-lacks urgencies.Policy = record { file = refl; line = refl; cell = refl }

class-lacks : (c : Code) → LacksNumbers (class_of c)
unfolding class_of
class-lacks c = also_lacks (class-piece-lacks (how_soon c)) (record { file = tt; line = tt; cell = tt })

classes-lack : {F : Type 0} (row : F → FindingRow) (found : List F) → LacksNumbers (row_classes row found)
classes-lack row [] = record { file = tt; line = tt; cell = tt }
classes-lack row (f ∷ found) = also_lacks (class-lacks (row f).code) (classes-lack row found)

authority-lacks : (holds : Bool) → LacksNumbers (put_if holds piece.AuthorityClass)
unfolding mark
authority-lacks true = record { file = refl; line = refl; cell = refl }
authority-lacks false = record { file = tt; line = tt; cell = tt }

unreadable-lacks : LacksNumbers (put piece.UnreadableClass)
unfolding mark
unreadable-lacks = record { file = refl; line = refl; cell = refl }

-- ---- the cell of a key

-- the comment at its front, and its fingerprint, wherever the next cell follows
record Cell (d : Document) (name print : List ℕ) : Type 0 where
  name_is : (rest : List ℕ) → cell_comment (marks d ++ mark piece.RightsCell ∷ rest) ≡ name
  print_is : (rest : List ℕ) → print_in (marks d ++ mark piece.RightsCell ∷ rest) ≡ print
  rights_are : (rest : List ℕ) → behind piece.RightsCell (marks d ++ mark piece.RightsCell ∷ rest) ≡ rest

-- the cell of the rights is behind it
abbrev LacksRights : Document → Type 0
LacksRights d = Lacks (λ b. b == mark piece.RightsCell) d

rights-here : (rest : List ℕ) → behind piece.RightsCell (mark piece.RightsCell ∷ rest) ≡ rest
unfolding mark
rights-here rest = refl

rights-behind : (d : Document) → IsOfBytes d → LacksRights d → (rest : List ℕ) → behind piece.RightsCell (marks d ++ mark piece.RightsCell ∷ rest) ≡ rest
rights-behind d are lacks rest = past (behind_piece piece.RightsCell) d are lacks (mark piece.RightsCell ∷ rest) ∙ rights-here rest

no-print : (rest : List ℕ) → print_in (mark piece.RightsCell ∷ rest) ≡ []
unfolding mark
no-print rest = refl

no-name : (rest : List ℕ) → cell_comment (mark piece.RightsCell ∷ rest) ≡ []
unfolding mark
no-name rest = refl

-- a fingerprint in it
record HasPrint (d : Document) (print : List ℕ) : Type 0 where
  by : (rest : List ℕ) → print_in (marks d ++ rest) ≡ print

print_after : {d e : Document} {print : List ℕ} → IsOfBytes d → Lacks ends_print d → HasPrint e print → HasPrint (d & e) print
print_after {d} {e} {print} are lacks h = record {
  by = λ rest. ap print_in (append_assoc (marks d) (marks e) rest) ∙ past print_search d are lacks (marks e ++ rest) ∙ h.by rest;
}

print-regrouped : (t y : List ℕ) (a b : ℕ) → (((a ∷ []) ++ t) ++ b ∷ []) ++ y ≡ a ∷ (t ++ b ∷ y)
print-regrouped t y a b = simp append_assoc

print_of : (print : List ℕ) → IsOfBytes (fingerprint_part print) → HasPrint (fingerprint_part print) (escaped_text print)
unfolding fingerprint_part mark
print_of print are = record {
  by = λ rest.
      ap print_in (print-regrouped (escaped_text print) rest (mark piece.Fingerprint) (mark piece.FingerprintEnd))
      ∙ in-front (escaped_text print) (mark piece.FingerprintEnd) rest (escaped-printable print are.0.1) refl;
}

bits-lack : (bits : Option ℕ) → Lacks ends_print (bits_part bits)
bits-lack None = tt
bits-lack (Some n) = (tt, tt)

type-lacks : (kind : KeyKind) (bits : Option ℕ) → Lacks ends_print (put piece.KeyType & say (key_name_of kind) & bits_part bits & put piece.KeyTypeEnd)
unfolding mark
type-lacks kind bits = (((refl, tt), bits-lack bits), refl)

key_print : (kind : KeyKind) (bits : Option ℕ) (print : List ℕ) → IsOfBytes (key_part kind bits print) → HasPrint (key_part kind bits print) (escaped_text print)
unfolding key_part
key_print kind bits print are = print_after are.0 (type-lacks kind bits) (print_of print are.1)

comment-lacks : (text : List ℕ) → Lacks ends_print (comment_part text)
unfolding mark
comment-lacks [] = refl
comment-lacks (c ∷ cs) = (refl, refl)

comment-name : (text rest : List ℕ) → IsOfBytes (comment_part text) → cell_comment (marks (comment_part text) ++ rest) ≡ escaped_text text
unfolding mark
comment-name [] rest are = refl
comment-name (c ∷ cs) rest are =
    let text = escaped_text (c ∷ cs) in
    ap front_text (append_assoc text (mark piece.CodeEnd ∷ []) rest) ∙ in-front text (mark piece.CodeEnd) rest (escaped-printable (c ∷ cs) are) refl

comment-lacks-rights : (text : List ℕ) → LacksRights (comment_part text)
unfolding mark
comment-lacks-rights [] = refl
comment-lacks-rights (c ∷ cs) = (refl, refl)

bits-lack-rights : (bits : Option ℕ) → LacksRights (bits_part bits)
bits-lack-rights None = tt
bits-lack-rights (Some n) = (tt, tt)

print-lacks-rights : (print : List ℕ) → LacksRights (fingerprint_part print)
unfolding fingerprint_part mark
print-lacks-rights print = ((refl, tt), refl)

key-lacks-rights : (kind : KeyKind) (bits : Option ℕ) (print : List ℕ) → LacksRights (key_part kind bits print)
unfolding key_part mark
key-lacks-rights kind bits print = ((((refl, tt), bits-lack-rights bits), refl), print-lacks-rights print)

held-lacks-rights : (held : Option HeldKey) → LacksRights (held_part held)
held-lacks-rights None = tt
held-lacks-rights (Some held) = key-lacks-rights held.kind held.bits held.fingerprint

comment_cell : (text : List ℕ) (kind : KeyKind) (bits : Option ℕ) (print : List ℕ) → IsOfBytes (comment_part text & key_part kind bits print)
    → Cell (comment_part text & key_part kind bits print) (escaped_text text) (escaped_text print)
comment_cell text kind bits print are =
    let key = key_part kind bits print in
    let whole : HasPrint (comment_part text & key) (escaped_text print) = print_after are.0 (comment-lacks text) (key_print kind bits print are.1) in
    record {
      name_is = λ rest.
          ap cell_comment (append_assoc (marks (comment_part text)) (marks key) (mark piece.RightsCell ∷ rest)) ∙ comment-name text (marks key ++ mark piece.RightsCell ∷ rest) are.0;
      print_is = λ rest. whole.by (mark piece.RightsCell ∷ rest);
      rights_are = rights-behind (comment_part text & key) are (comment-lacks-rights text, key-lacks-rights kind bits print);
    }

-- words of the program are no comment
word-name : (text rest : List ℕ) → are_printable text ≡ true → cell_comment rest ≡ [] → cell_comment (text ++ rest) ≡ []
word-name [] rest h none = none
word-name (b ∷ text) rest h none =
    let both = and_parts (is_printable b) (are_printable text) h in
    ap (λ is. cond is (front_text (text ++ rest)) []) (no-mark piece.Code b both.0)

-- no comment stands at its front
record Nameless (d : Document) : Type 0 where
  by : (rest : List ℕ) → cell_comment rest ≡ [] → cell_comment (marks d ++ rest) ≡ []

word_nameless : (word : List ℕ) (d : Document) → IsOfBytes (say word) → Nameless d → Nameless (say word & d)
word_nameless word d are h = record {
  by = λ rest none.
      ap cell_comment (append_assoc (escaped_text word) (marks d) rest)
      ∙ word-name (escaped_text word) (marks d ++ rest) (escaped-printable word are) (h.by rest none);
}

held_nameless : (held : Option HeldKey) → Nameless (held_part held)
unfolding key_part mark
held_nameless None = record { by = λ rest none. none }
held_nameless (Some held) = record { by = λ rest none. refl }

print_nameless : (print : List ℕ) → Nameless (fingerprint_part print)
unfolding fingerprint_part mark
print_nameless print = record { by = λ rest none. refl }

word_cell : (word print : List ℕ) → IsOfBytes (say word & fingerprint_part print) → Cell (say word & fingerprint_part print) [] (escaped_text print)
word_cell word print are =
    let own = word_nameless word (fingerprint_part print) are.0 (print_nameless print) in
    let whole : HasPrint (say word & fingerprint_part print) (escaped_text print) = print_after are.0 tt (print_of print are.1) in
    record {
      name_is = λ rest. own.by (mark piece.RightsCell ∷ rest) (no-name rest);
      print_is = λ rest. whole.by (mark piece.RightsCell ∷ rest);
      rights_are = rights-behind (say word & fingerprint_part print) are (tt, print-lacks-rights print);
    }

-- the fingerprint of a recovered key; nothing if there is none
abbrev held_print : Option HeldKey → List ℕ
held_print None = []
held_print (Some held) = escaped_text held.fingerprint

held_print_is : (word : List ℕ) (held : Option HeldKey) → IsOfBytes (say word & held_part held) → (rest : List ℕ)
    → print_in (marks (say word & held_part held) ++ mark piece.RightsCell ∷ rest) ≡ held_print held
held_print_is word None are rest =
    ap print_in (append_assoc (escaped_text word) [] (mark piece.RightsCell ∷ rest))
    ∙ past-text print_search (escaped_text word) (mark piece.RightsCell ∷ rest) (escaped-printable word are.0) ∙ no-print rest
held_print_is word (Some held) are rest =
    let whole : HasPrint (say word & key_part held.kind held.bits held.fingerprint) (escaped_text held.fingerprint) = print_after are.0 tt (key_print held.kind held.bits held.fingerprint are.1) in
    whole.by (mark piece.RightsCell ∷ rest)

held_cell : (word : List ℕ) (held : Option HeldKey) → IsOfBytes (say word & held_part held) → Cell (say word & held_part held) [] (held_print held)
held_cell word held are =
    let own = word_nameless word (held_part held) are.0 (held_nameless held) in
    record {
      name_is = λ rest. own.by (mark piece.RightsCell ∷ rest) (no-name rest);
      print_is = held_print_is word held are;
      rights_are = rights-behind (say word & held_part held) are (tt, held-lacks-rights held);
    }

-- ---- a row

-- a part begins with another
record Begins (d e : Document) : Type 0 where
  by : (rest : List ℕ) → (more : List ℕ) × (marks d ++ rest ≡ marks e ++ more)

more : {d e : Document} → Begins d e → (b : Document) → Begins (d & b) e
more {d} {e} h b = record {
  by = λ rest. let found = h.by (marks b ++ rest) in (found.0, append_assoc (marks d) (marks b) rest ∙ found.1);
}

entry-regrouped : (a k q l m y : List ℕ) → (((a ++ (k ++ q)) ++ l) ++ m) ++ y ≡ ((a ++ k) ++ ((q ++ l) ++ m)) ++ y
entry-regrouped a k q l m y = simp append_assoc

host-regrouped : (a k q l y : List ℕ) → ((a ++ (k ++ q)) ++ l) ++ y ≡ ((a ++ k) ++ (q ++ l)) ++ y
host-regrouped a k q l y = simp append_assoc

revoked-regrouped : (a k q l y : List ℕ) → (a ++ ((k ++ q) ++ l)) ++ y ≡ ((a ++ k) ++ (q ++ l)) ++ y
revoked-regrouped a k q l y = simp append_assoc

unreadable-regrouped : (a b c d e y : List ℕ) → ((((a ++ b) ++ c) ++ d) ++ e) ++ y ≡ ((a ++ ((b ++ c) ++ d)) ++ e) ++ y
unreadable-regrouped a b c d e y = simp append_assoc

bare-regrouped : (a b c d e l y : List ℕ) → (((((a ++ b) ++ c) ++ d) ++ e) ++ l) ++ y ≡ ((a ++ ((b ++ c) ++ d)) ++ (e ++ l)) ++ y
bare-regrouped a b c d e l y = simp append_assoc

cells-regrouped : (f c t m : List ℕ) (r : ℕ) → ((f ++ (c ++ r ∷ [])) ++ t) ++ m ≡ f ++ (c ++ r ∷ (t ++ m))
cells-regrouped f c t m r = simp append_assoc

-- what is read of a row by its front, by the cell of its key and by those behind it
read_row : {d front cell tail : Document} {place : RowPlace} {name print : List ℕ} {limited : Bool} → Begins d (front & (cell & put piece.RightsCell) & tail) → Front front place
    → Cell cell name print → Limits tail limited → (rest : List ℕ) → key_row (marks d ++ rest) ≡ with_print place name limited (fingerprint print)
read_row {d} {front} {cell} {tail} {place} {name} {print} {limited} b f c l rest =
    let found = b.by rest in
    let rights = marks tail ++ found.0 in
    let cells = marks cell ++ mark piece.RightsCell ∷ rights in
    let is : marks d ++ rest ≡ marks front ++ cells = found.1 ∙ cells-regrouped (marks front) (marks cell) (marks tail) found.0 (mark piece.RightsCell) in
    ap key_row is ∙ ap₂ (λ (p : RowPlace) (m : List ℕ). row_by_cell p m) (f.place_is cells) (f.cell_is cells)
    ∙ ap₂ (λ (n t : List ℕ). with_print place n (is_limited (behind piece.RightsCell cells)) (fingerprint t)) (c.name_is rights) (c.print_is rights)
    ∙ ap (λ m. with_print place name (is_limited m) (fingerprint print)) (c.rights_are rights)
    ∙ ap (λ is. with_print place name is (fingerprint print)) (l.by found.0)

is-print : (print : List ℕ) → length print ≡ 43 → fingerprint print ≡ Some print
is-print print long = ap (λ b. cond b (Some print) None) (eq-eqb (length print) 43 long)

-- a row with these rows of a key: itself, or none
record Row (d : Document) (rows : List KeyRowSeen) : Type 0 where
  found : (rest : List ℕ) → option_to_list (key_row (marks d ++ rest)) ≡ rows

with_key : {d front cell tail : Document} {place : RowPlace} {name print : List ℕ} {limited : Bool} → Begins d (front & (cell & put piece.RightsCell) & tail) → Front front place
    → Cell cell name print → Limits tail limited → length print ≡ 43 → Row d (record { place = place; name = name; key = print; is_limited = limited } ∷ [])
with_key {d} {front} {cell} {tail} {place} {name} {print} {limited} b f c l long = record {
  found = λ rest. ap option_to_list (read_row b f c l rest) ∙ ap (λ o. option_to_list (with_print place name limited o)) (is-print print long);
}

with_held : {d front tail : Document} {word : List ℕ} {place : RowPlace} (held : Option HeldKey) → Begins d (front & (say word & held_part held & put piece.RightsCell) & tail)
    → Front front place → Limits tail false → IsOfBytes (say word & held_part held) → IsHeldPrint held → Row d (held_rows place held)
with_held {d} {front} {tail} {word} {place} None b f l are is = record {
  found = λ rest. ap option_to_list (read_row b f (held_cell word None are) l rest);
}
with_held {d} {front} {tail} {word} {place} (Some held) b f l are is = with_key b f (held_cell word (Some held) are) l is

-- the rows of a whole row: what is found behind its first piece, and no other
row_rows : (d : Document) (rows : List KeyRowSeen) → Row d rows → IsOfBytes d → NoRow d → (rest : List ℕ) → rows_in (mark piece.Row ∷ (marks d ++ rest)) ≡ rows ++ rows_in rest
unfolding mark
row_rows d rows h are none rest = ap₂ (λ (l m : List KeyRowSeen). l ++ m) (h.found rest) (rows-past d are none rest)

-- ---- what is no first piece of a row

class_none_all : {F : Type 0} (row : F → FindingRow) (found : List F) → NoRow (row_classes row found)
class_none_all row found = each_none (λ f. class_of (row f).code) (λ f. class_none (row f).code) found

authority_none : (holds : Bool) → NoRow (put_if holds piece.AuthorityClass)
unfolding mark
authority_none holds = if_none holds piece.AuthorityClass (record { by = refl })

unreadable_none : NoRow (put piece.UnreadableClass)
unfolding mark
unreadable_none = record { by = refl }

numbers_none : (place : RowPlace) → NoRow (row_numbers place)
unfolding row_numbers mark
numbers_none place = record { by = ((((((refl, tt), refl), tt), refl), tt), refl) }

numbers-are : (place : RowPlace) → IsOfBytes (row_numbers place)
unfolding row_numbers
numbers-are place = ((((((tt, tt), tt), tt), tt), tt), tt)

class-are : (c : Code) → IsOfBytes (class_of c)
unfolding class_of
class-are c = (tt, tt)

classes-are : {F : Type 0} (row : F → FindingRow) (found : List F) → IsOfBytes (row_classes row found)
classes-are row [] = tt
classes-are row (f ∷ found) = (class-are (row f).code, classes-are row found)

if-are : (holds : Bool) (p : Piece) → IsOfBytes (put_if holds p)
if-are true p = tt
if-are false p = tt

-- ---- the cells of a row

entry-begins : (before : Document) (f : Facts) → Begins (before & entry_cells f & put piece.LimitsCell & all_limits f)
    (before & (comment_part f.comment & key_part f.kind f.bits f.fingerprint & put piece.RightsCell) & (rights_part f.rights & put piece.LimitsCell & all_limits f))
unfolding entry_cells
entry-begins before f = record {
  by = λ rest.
      (rest, entry-regrouped (marks before) (marks (comment_part f.comment & key_part f.kind f.bits f.fingerprint & put piece.RightsCell)) (marks (rights_part f.rights)) (marks (put piece.LimitsCell)) (marks (all_limits f)) rest);
}

entry-cells-are : (f : Facts) → IsOfBytes (entry_cells f) → IsOfBytes (comment_part f.comment & key_part f.kind f.bits f.fingerprint)
unfolding entry_cells
entry-cells-are f are = are.0.0

host-begins : (before : Document) (f : HostFacts) → Begins (before & host_cells f & put piece.LimitsCell)
    (before & (comment_part f.comment & key_part f.kind f.bits f.fingerprint & put piece.RightsCell) & (say (role f.is_authority) & put piece.LimitsCell))
unfolding host_cells
host-begins before f = record {
  by = λ rest.
      (rest, host-regrouped (marks before) (marks (comment_part f.comment & key_part f.kind f.bits f.fingerprint & put piece.RightsCell)) (marks (say (role f.is_authority))) (marks (put piece.LimitsCell)) rest);
}

host-cells-are : (f : HostFacts) → IsOfBytes (host_cells f) → IsOfBytes (comment_part f.comment & key_part f.kind f.bits f.fingerprint)
unfolding host_cells
host-cells-are f are = are.0.0

host-role-are : (f : HostFacts) → IsOfBytes (host_cells f) → IsOfBytes (say (role f.is_authority))
unfolding host_cells
host-role-are f are = are.1

revoked-begins : (before : Document) (print : List ℕ) → Begins (before & revoked_cells print)
    (before & (say (codes "revoked") & fingerprint_part print & put piece.RightsCell) & (say (codes "revoked") & put piece.LimitsCell))
unfolding revoked_cells
revoked-begins before print = record {
  by = λ rest.
      (rest, revoked-regrouped (marks before) (marks (say (codes "revoked") & fingerprint_part print & put piece.RightsCell)) (marks (say (codes "revoked"))) (marks (put piece.LimitsCell)) rest);
}

revoked-cells-are : (print : List ℕ) → IsOfBytes (revoked_cells print) → IsOfBytes (say (codes "revoked") & fingerprint_part print)
unfolding revoked_cells
revoked-cells-are print are = are.0.0.0

revoked-word-are : (print : List ℕ) → IsOfBytes (revoked_cells print) → IsOfBytes (say (codes "revoked"))
unfolding revoked_cells
revoked-word-are print are = are.0.1

unreadable-begins : (a b c d e : Document) → Begins (a & b & c & d & e) (a & (b & c & d) & e)
unreadable-begins a b c d e = record { by = λ rest. (rest, unreadable-regrouped (marks a) (marks b) (marks c) (marks d) (marks e) rest) }

bare-begins : (a b c d e l : Document) → Begins (a & b & c & d & e & l) (a & (b & c & d) & (e & l))
bare-begins a b c d e l = record { by = λ rest. (rest, bare-regrouped (marks a) (marks b) (marks c) (marks d) (marks e) (marks l) rest) }

-- ---- rows

pub entry_keyed : (place : RowPlace) (f : Facts) (found : List Finding) → AreNumbers place → IsPrint f.fingerprint → IsOfBytes (entry_row place f found)
    → HasKeyRows (entry_row place f found) (row_of place f.comment f.fingerprint (not (is_unlimited f)) ∷ [])
unfolding entry_row
entry_keyed place f found few long (((((a, cells), x), limits), findings), y) rest =
    let classes = row_classes auth_row found & put_if f.is_authority piece.AuthorityClass in
    let before = classes & row_numbers place in
    let before-are : IsOfBytes before = ((classes-are auth_row found, if-are f.is_authority piece.AuthorityClass), numbers-are place) in
    let behind-row = before & entry_cells f & put piece.LimitsCell & all_limits f & row_findings place auth_row found & put piece.RowEnd in
    let starts = more (more (entry-begins before f) (row_findings place auth_row found)) (put piece.RowEnd) in
    let lacks = also_lacks (classes-lack auth_row found) (authority-lacks f.is_authority) in
    let own = with_key starts (front_after classes place before-are.0 lacks few) (comment_cell f.comment f.kind f.bits f.fingerprint (entry-cells-are f cells)) (rights_limits f) long in
    let none = also (also (also (also (also (also (also (class_none_all auth_row found) (authority_none f.is_authority)) (numbers_none place)) (entry_cells_none f)) limits_cell_none) (all_limits_none f)) (findings_none place auth_row found)) row_end_none in
    row_rows behind-row (row_of place f.comment f.fingerprint (not (is_unlimited f)) ∷ []) own (((((before-are, cells), x), limits), findings), y) none rest

pub unreadable_keyed : (place : RowPlace) (held : Option HeldKey) (found : List Finding) → AreNumbers place → IsHeldPrint held → IsOfBytes (unreadable_row place held found)
    → HasKeyRows (unreadable_row place held found) (held_rows place held)
unfolding unreadable_row
unreadable_keyed place held found few long (((((((a, words), key), x), y), z), findings), end) rest =
    let classes = row_classes auth_row found & put piece.UnreadableClass in
    let before = classes & row_numbers place in
    let before-are : IsOfBytes before = ((classes-are auth_row found, tt), numbers-are place) in
    let word = codes "unreadable" in
    let behind-row = before & say word & held_part held & put piece.RightsCell & put piece.RightsUnknown & put piece.LimitsCell & row_findings place auth_row found & put piece.RowEnd in
    let starts = more (more (more (unreadable-begins before (say word) (held_part held) (put piece.RightsCell) (put piece.RightsUnknown)) (put piece.LimitsCell)) (row_findings place auth_row found)) (put piece.RowEnd) in
    let lacks = also_lacks (classes-lack auth_row found) unreadable-lacks in
    let own = with_held held starts (front_after classes place before-are.0 lacks few) unknown_limits (words, key) long in
    let none = also (also (also (also (also (also (also (also (also (class_none_all auth_row found) unreadable_none) (numbers_none place)) (said word)) (held_none held)) rights_cell_none) unknown_none) limits_cell_none) (findings_none place auth_row found)) row_end_none in
    row_rows behind-row (held_rows place held) own (((((((before-are, words), key), x), y), z), findings), end) none rest

pub host_entry_keyed : (place : RowPlace) (f : HostFacts) (found : List HostFinding) → AreNumbers place → IsPrint f.fingerprint → IsOfBytes (host_entry_row place f found)
    → HasKeyRows (host_entry_row place f found) (row_of place f.comment f.fingerprint false ∷ [])
unfolding host_entry_row
host_entry_keyed place f found few long (((((a, cells), x), names), findings), y) rest =
    let classes = row_classes host_row found & put_if f.is_authority piece.AuthorityClass in
    let before = classes & row_numbers place in
    let before-are : IsOfBytes before = ((classes-are host_row found, if-are f.is_authority piece.AuthorityClass), numbers-are place) in
    let own-names = setting_part (codes "names ") (Some f.names) in
    let behind-row = before & host_cells f & put piece.LimitsCell & own-names & row_findings place host_row found & put piece.RowEnd in
    let starts = more (more (more (host-begins before f) own-names) (row_findings place host_row found)) (put piece.RowEnd) in
    let lacks = also_lacks (classes-lack host_row found) (authority-lacks f.is_authority) in
    let own = with_key starts (front_after classes place before-are.0 lacks few) (comment_cell f.comment f.kind f.bits f.fingerprint (host-cells-are f cells)) (words_limits (role f.is_authority) (host-role-are f cells)) long in
    let none = also (also (also (also (also (also (also (class_none_all host_row found) (authority_none f.is_authority)) (numbers_none place)) (host_cells_none f)) limits_cell_none) (setting_none (codes "names ") (Some f.names))) (findings_none place host_row found)) row_end_none in
    row_rows behind-row (row_of place f.comment f.fingerprint false ∷ []) own (((((before-are, cells), x), names), findings), y) none rest

pub revoked_keyed : (place : RowPlace) (print names : List ℕ) (found : List HostFinding) → AreNumbers place → IsPrint print → IsOfBytes (revoked_row place print names found)
    → HasKeyRows (revoked_row place print names found) (row_of place [] print false ∷ [])
unfolding revoked_row
revoked_keyed place print names found few long (((((a, cells), own-names), words), findings), y) rest =
    let classes = row_classes host_row found in
    let before = classes & row_numbers place in
    let before-are : IsOfBytes before = (classes-are host_row found, numbers-are place) in
    let listed = setting_part (codes "names ") (Some names) in
    let note = flag_part true (codes "in ssh it counts for these names alone") in
    let behind-row = before & revoked_cells print & listed & note & row_findings place host_row found & put piece.RowEnd in
    let starts = more (more (more (more (revoked-begins before print) listed) note) (row_findings place host_row found)) (put piece.RowEnd) in
    let own = with_key starts (front_after classes place before-are.0 (classes-lack host_row found) few) (word_cell (codes "revoked") print (revoked-cells-are print cells)) (words_limits (codes "revoked") (revoked-word-are print cells)) long in
    let none = also (also (also (also (also (also (class_none_all host_row found) (numbers_none place)) (revoked_cells_none print)) (setting_none (codes "names ") (Some names))) (flag_none true (codes "in ssh it counts for these names alone"))) (findings_none place host_row found)) row_end_none in
    row_rows behind-row (row_of place [] print false ∷ []) own (((((before-are, cells), own-names), words), findings), y) none rest

pub bare_keyed : (place : RowPlace) (is : List ℕ) (held : Option HeldKey) (found : List HostFinding) → AreNumbers place → IsHeldPrint held → IsOfBytes (bare_row place is held found)
    → HasKeyRows (bare_row place is held found) (held_rows place held)
unfolding bare_row
bare_keyed place is held found few long (((((((a, words), key), x), same), z), findings), end) rest =
    let classes = row_classes host_row found & put piece.UnreadableClass in
    let before = classes & row_numbers place in
    let before-are : IsOfBytes before = ((classes-are host_row found, tt), numbers-are place) in
    let behind-row = before & say is & held_part held & put piece.RightsCell & say is & put piece.LimitsCell & row_findings place host_row found & put piece.RowEnd in
    let starts = more (more (bare-begins before (say is) (held_part held) (put piece.RightsCell) (say is) (put piece.LimitsCell)) (row_findings place host_row found)) (put piece.RowEnd) in
    let lacks = also_lacks (classes-lack host_row found) unreadable-lacks in
    let own = with_held held starts (front_after classes place before-are.0 lacks few) (words_limits is same) (words, key) long in
    let none = also (also (also (also (also (also (also (also (also (class_none_all host_row found) unreadable_none) (numbers_none place)) (said is)) (held_none held)) rights_cell_none) (said is)) limits_cell_none) (findings_none place host_row found)) row_end_none in
    row_rows behind-row (held_rows place held) own (((((((before-are, words), key), x), same), z), findings), end) none rest

-- ---- sections

pub both_keyed : (a b : Document) (first second : List KeyRowSeen) → HasKeyRows a first → HasKeyRows b second → HasKeyRows (a & b) (first ++ second)
both_keyed a b first second h k rest =
    ap rows_in (append_assoc (marks a) (marks b) rest) ∙ h (marks b ++ rest) ∙ ap (λ l. first ++ l) (k rest) ∙ sym (append_assoc first second (rows_in rest))

pub section_keyed : (file : ℕ) (kind : FileKind) (f : FileSeen) (x : ClassesSeen) (rows : Document) (found : List KeyRowSeen) → IsOfBytes (section file kind f x rows)
    → HasKeyRows rows found → HasKeyRows (section file kind f x rows) found
section_keyed file kind f x rows found ((head, inner), end) h rest =
    let start = section_head file kind f x in
    ap rows_in (append_assoc (marks start ++ marks rows) (marks section_end) rest ∙ append_assoc (marks start) (marks rows) (marks section_end ++ rest))
    ∙ rows-past start head (head_of_section_none file kind f x) (marks rows ++ (marks section_end ++ rest)) ∙ h (marks section_end ++ rest)
    ∙ ap (λ l. found ++ l) (rows-past section_end tt table_end_none rest)

pub empty_keyed : (file : ℕ) (f : FileSeen) → IsOfBytes (empty_section file f) → HasKeyRows (empty_section file f) []
empty_keyed file f are rest = rows-past (empty_section file f) are (empty_none file f) rest

pub fault_keyed : (file : ℕ) (name word means : List ℕ) → IsOfBytes (fault_section file name word means) → HasKeyRows (fault_section file name word means) []
fault_keyed file name word means are rest = rows-past (fault_section file name word means) are (fault_none file name word means) rest
