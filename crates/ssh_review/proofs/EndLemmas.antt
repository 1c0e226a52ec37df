-- The end of a file and the total are one line each as JSON objects.
use Rattle.ssh_review.proofs.Imports.{◌≡◌, ℕ, pos, true, List, [], ◌∷◌, refl, codes, flat_map, Option, Some, None, Code, Asking, code_text, AreBytes, AreBytesIfAny, are_printable, is_line, Counts, FileFault, Unread, TooLong, Total, no_counts, fault_code}
use Rattle.ssh_review.proofs.DateTextLemmas.{date-printable}
use Rattle.ssh_review.proofs.FieldLemmas.{any-text-printable, count-printable, null-printable, number-printable, object-printable, said-printable, text-printable}
use Rattle.ssh_review.proofs.FoundLemmas.{found-printable}
use Rattle.ssh_review.proofs.PrintableLemmas.{ArePrintable, bytes-from_printable, hex-printable, join, line-from, rest-printable, string-printable, word}
use Rattle.ssh_review.proofs.WordLemmas.{code-printable as code_word-printable}
use Rattle.ssh_print.specs.AnswerText.{sentence}
use Rattle.ssh_print.specs.Table.{answers, bodies, certificates, faults, fields, findings, keys, lines, reasons, row_of, table}
use Rattle.ssh_review.specs.Asked.{Asked, asked_fields, program_field, total_head}
use Rattle.ssh_files.specs.declared.files.UnreadCause.{UnreadCause}
use Rattle.ssh_files.specs.declared.files.UnreadCause.TheVariants.{IsADirectory, NotFound, Other, PermissionDenied}
use Rattle.ssh_review.specs.Ends.{asked_by, cause_words}
use Rattle.ssh_review.specs.FaultCounts.{faults_object}
use Rattle.ssh_review.specs.declared.fault_counts.FaultCounts.{FaultCounts}
use Rattle.ssh_review.specs.Fields.{array_field, number_or_null}
use Rattle.ssh_review.specs.EndObjects.{code_element, counts_fields, end_head, end_object, fault_object, found_fields, line_fields, review_fields, total_counts, total_object, why_field}

head-printable : (name : List ℕ) → ArePrintable name → ArePrintable (end_head name)
unfolding end_head
head-printable name h =
    join h (said-printable (codes "what") refl (word (codes "end") refl))

lines-printable : (c : Counts) → ArePrintable (line_fields c)
unfolding line_fields
lines-printable c = join (number-printable (codes "lines") c.lines refl) (number-printable (codes "key_lines") c.keys refl)

finds-printable : (c : Counts) → ArePrintable (found_fields c)
unfolding found_fields
finds-printable c = join (number-printable (codes "unreadable") c.unreadable refl) (number-printable (codes "findings") c.findings refl)

counts-printable : (c : Counts) → ArePrintable (counts_fields c)
unfolding counts_fields
counts-printable c = join (lines-printable c) (finds-printable c)

pub end-line : (name : List ℕ) (counts : Counts) (digest : List ℕ) → ArePrintable name → AreBytes digest → is_line (end_object name counts digest) ≡ true
unfolding end_object
end-line name counts digest h k =
    let hex = said-printable (codes "sha256") refl (hex-printable digest k) in
    line-from (codes "}\n") (join (join (join (join (head-printable name h) (counts-printable counts)) hex) (null-printable (codes "fault") refl)) (null-printable (codes "why") refl)) refl

pub code-printable : (fault : FileFault) → ArePrintable (fault_code fault)
code-printable (Unread cause) = word (codes "A9") refl
code-printable TooLong = word (codes "A7") refl

pub words-printable : (cause : UnreadCause) → ArePrintable (cause_words cause)
words-printable NotFound = word (codes "not found") refl
words-printable PermissionDenied = word (codes "no permission") refl
words-printable IsADirectory = word (codes "a folder") refl
words-printable Other = word (codes "not readable") refl

why-printable : (fault : FileFault) → ArePrintable (why_field fault)
unfolding why_field
why-printable (Unread cause) = said-printable (codes "why") refl (words-printable cause)
why-printable TooLong = null-printable (codes "why") refl

pub fault-line : (name : List ℕ) (fault : FileFault) → ArePrintable name → is_line (fault_object name fault) ≡ true
unfolding fault_object
fault-line name fault h =
    let digest = null-printable (codes "sha256") refl in
    let code = said-printable (codes "fault") refl (code-printable fault) in
    line-from (codes "}\n") (join (join (join (join (head-printable name h) (counts-printable no_counts)) digest) code) (why-printable fault)) refl

-- ---- the total

program-printable : ArePrintable program_field
unfolding program_field row_of table answers reasons lines findings faults keys certificates fields bodies
program-printable = said-printable (codes "program") refl (word (sentence (codes "version")) refl)

pub asked-printable : (a : Asked) → AreBytesIfAny a.zone → ArePrintable (asked_fields a)
unfolding asked_fields
asked-printable a h =
    let now = number-printable (codes "now") a.now refl in
    let at = said-printable (codes "at") refl (date-printable (pos a.now)) in
    join (join now at) (any-text-printable (codes "zone") a.zone refl h)

elements-printable : (reported : List Code) → ArePrintable (flat_map code_element reported)
elements-printable [] = word [] refl
elements-printable (c ∷ reported) =
    let text = string-printable (code_text c) (bytes-from_printable (code_word-printable c)) in
    join (join (word (codes ",") refl) text) (elements-printable reported)

pub array-printable : (name elements : List ℕ) → are_printable name ≡ true → ArePrintable elements → ArePrintable (array_field name elements)
array-printable name elements h k =
    let named = join (join (word (codes ",\"") refl) (word name h)) (word (codes "\":") refl) in
    join (join (join named (word (codes "[") refl)) (rest-printable k)) (word (codes "]") refl)

review-printable : (kind : List ℕ) (asking : Asking) → AreBytes kind → ArePrintable (review_fields kind asking)
unfolding review_fields
review-printable kind asking h =
    let named = text-printable (codes "kind") kind refl h in
    let least = number-printable (codes "rsa_minimum") asking.rsa_minimum refl in
    join (join named least) (array-printable (codes "told") (flat_map code_element asking.reported) refl (elements-printable asking.reported))

faults-printable : (counts : FaultCounts) → ArePrintable (faults_object counts)
unfolding faults_object
faults-printable counts =
    let long = count-printable (codes "A7") counts.too_long refl in
    object-printable (codes "faults_by_code") _ refl (join long (count-printable (codes "A9") counts.unread refl))

distinct-printable : (keys : Option ℕ) → ArePrintable (number_or_null (codes "distinct_keys") keys)
distinct-printable None = null-printable (codes "distinct_keys") refl
distinct-printable (Some keys) = number-printable (codes "distinct_keys") keys refl

total-counts-printable : (t : Total) → ArePrintable (total_counts t)
unfolding total_counts
total-counts-printable t =
    let files = number-printable (codes "files") t.files refl in
    let faults = number-printable (codes "faults") t.faults refl in
    let by_code = join (join files faults) (faults-printable t.faults_by_code) in
    let keys = join (join by_code (lines-printable t.counts)) (distinct-printable t.distinct_keys) in
    join (join keys (finds-printable t.counts)) (found-printable t.counts.by_code)

pub total-line : (kind zone : List ℕ) (asking : Asking) (t : Total) → AreBytes kind → AreBytes zone → is_line (total_object kind zone asking t) ≡ true
unfolding total_object total_head
total-line kind zone asking t h k =
    let format = number-printable (codes "format") 2 refl in
    let head = join (join (word (codes "{\"what\":\"total\"") refl) format) program-printable in
    let asked = join (join head (review-printable kind asking h)) (asked-printable (asked_by zone asking) k) in
    line-from (codes "}\n") (join asked (total-counts-printable t)) refl
