-- What is printed of findings is of printable ASCII.
use Rattle.ssh_review.proofs.Imports.{◌≡◌, ◌∙◌, ◌+◌, ℕ, true, List, [], ◌∷◌, ◌++◌, refl, sym, append_assoc, codes, flat_map, LineCause, Ground, Finding, HostFinding, code_text, FindingRow, auth_row, host_row, Value, cause_text, detail_part, detail_with, finding_head, object_after_comma, row_detail, row_line, row_object, rows_end, rows_list, value_text, are_printable, is_line}
use Rattle.ssh_options.specs.declared.option_text.LineCause.TheVariants as cause
use Rattle.ssh_print.specs.Table.{answers, lines, reasons, row_of, table}
use Rattle.ssh_findings.specs.declared.finding.Finding.TheVariants as finding
use Rattle.ssh_findings.specs.declared.host_finding.HostFinding.TheVariants as host
use Rattle.ssh_findings.specs.declared.openssh.Ground.TheVariants as grounds
use Rattle.ssh_review.specs.Findings.{cells_end, code_object, row_words, words_after_semicolon, words_list}
use Rattle.ssh_findings.specs.declared.row.Value.TheVariants.{Nothing, Number, Cause}
use Rattle.ssh_review.proofs.FieldLemmas.{said-printable}
use Rattle.ssh_review.proofs.PrintableLemmas.{ArePrintable, bytes-from_printable, decimal-printable, join, line-from, string-printable, word}
use Rattle.ssh_review.proofs.RecordFieldLemmas.{AreFields, also, cell, empty-cell}
use Rattle.ssh_review.specs.Tables.{IsRow, header, tabs_in}
use Rattle.ssh_review.specs.declared.record_field.FieldForm.TheVariants.{Cell}
use Rattle.ssh_page.specs.declared.file.FileKind.{FileKind}
use Rattle.ssh_review.proofs.ShownLemmas.{AreShown, add, seen, show}
use Rattle.ssh_review.proofs.WordLemmas.{cause-printable, code-printable, ground-printable}

-- ---- the texts of a row

pub record HasPrintable (r : FindingRow) : Type 0 where
  pub detail : are_printable r.detail ≡ true
  pub before : are_printable r.before ≡ true
  pub after : are_printable r.after ≡ true

pub auth-texts : (f : Finding) → HasPrintable (auth_row f)
auth-texts (finding.Unreadable why) = record { detail = refl; before = refl; after = refl }
auth-texts (finding.SameKey line) = record { detail = refl; before = refl; after = refl }
auth-texts (finding.NeverDecides line) = record { detail = refl; before = refl; after = refl }
auth-texts (finding.GivesMore line) = record { detail = refl; before = refl; after = refl }
auth-texts (finding.ShortKey bits) = record { detail = refl; before = refl; after = refl }
auth-texts finding.Expired = record { detail = refl; before = refl; after = refl }
auth-texts finding.BadSources = record { detail = refl; before = refl; after = refl }
auth-texts finding.SourcesHere = record { detail = refl; before = refl; after = refl }
auth-texts finding.NoPrincipal = record { detail = refl; before = refl; after = refl }
auth-texts finding.PlainPrincipals = record { detail = refl; before = refl; after = refl }
auth-texts finding.EmptyPrincipal = record { detail = refl; before = refl; after = refl }
auth-texts finding.VerifyIgnored = record { detail = refl; before = refl; after = refl }
auth-texts finding.LocalTime = record { detail = refl; before = refl; after = refl }
auth-texts finding.ShortAddress = record { detail = refl; before = refl; after = refl }
auth-texts finding.ForcedButForwards = record { detail = refl; before = refl; after = refl }
auth-texts finding.AnyAddress = record { detail = refl; before = refl; after = refl }
auth-texts finding.AnyCommand = record { detail = refl; before = refl; after = refl }
auth-texts finding.NoExpiry = record { detail = refl; before = refl; after = refl }
auth-texts finding.AnyPrincipal = record { detail = refl; before = refl; after = refl }
auth-texts finding.NoComment = record { detail = refl; before = refl; after = refl }
auth-texts (finding.MayRefuse ground) = record { detail = (ground-printable ground).all; before = refl; after = refl }

refusal-texts : (ground : Ground) → HasPrintable (host_row (host.MayRefuse ground))
refusal-texts grounds.PermitOpen = record { detail = refl; before = refl; after = refl }
refusal-texts grounds.PermitListen = record { detail = refl; before = refl; after = refl }
refusal-texts grounds.Environment = record { detail = refl; before = refl; after = refl }
refusal-texts grounds.Tunnel = record { detail = refl; before = refl; after = refl }
refusal-texts grounds.Nul = record { detail = refl; before = refl; after = refl }
refusal-texts grounds.LongItem = record { detail = refl; before = refl; after = refl }
refusal-texts grounds.Rsa = record { detail = refl; before = refl; after = refl }

pub host-texts : (f : HostFinding) → HasPrintable (host_row f)
host-texts (host.Unreadable why) = record { detail = refl; before = refl; after = refl }
host-texts (host.ShortKey bits) = record { detail = refl; before = refl; after = refl }
host-texts host.MarkerTab = record { detail = refl; before = refl; after = refl }
host-texts host.RevocationTab = record { detail = refl; before = refl; after = refl }
host-texts host.RevocationType = record { detail = refl; before = refl; after = refl }
host-texts host.UnreadableRevocation = record { detail = refl; before = refl; after = refl }
host-texts (host.OtherKey line) = record { detail = refl; before = refl; after = refl }
host-texts (host.TrustedAndRevoked line) = record { detail = refl; before = refl; after = refl }
host-texts (host.RevokedSpelling line) = record { detail = refl; before = refl; after = refl }
host-texts (host.TrustedSpelling line) = record { detail = refl; before = refl; after = refl }
host-texts host.PatternHosts = record { detail = refl; before = refl; after = refl }
host-texts host.EveryHost = record { detail = refl; before = refl; after = refl }
host-texts host.NamesInClear = record { detail = refl; before = refl; after = refl }
host-texts (host.SameHostKey line) = record { detail = refl; before = refl; after = refl }
host-texts (host.MayRefuse ground) = refusal-texts ground

-- ---- the value

sentence-printable : (why : LineCause) → ArePrintable (cause_text why)
unfolding row_of table answers reasons lines
sentence-printable cause.TooLong = record { all = refl }
sentence-printable cause.OptionSyntax = record { all = refl }
sentence-printable cause.UnknownOption = record { all = refl }
sentence-printable cause.OptionValue = record { all = refl }
sentence-printable cause.RepeatedOption = record { all = refl }
sentence-printable cause.ExpiryText = record { all = refl }
sentence-printable cause.NoKey = record { all = refl }
sentence-printable cause.KeyType = record { all = refl }
sentence-printable cause.RetiredType = record { all = refl }
sentence-printable cause.Base64 = record { all = refl }
sentence-printable (cause.KeyBlob e) = record { all = refl }
sentence-printable cause.TypeMismatch = record { all = refl }
sentence-printable cause.CertificateOnLine = record { all = refl }
sentence-printable cause.Marker = record { all = refl }
sentence-printable cause.HashedName = record { all = refl }
sentence-printable cause.Names = record { all = refl }

value-printable : (v : Value) → ArePrintable (value_text v)
value-printable Nothing = word [] refl
value-printable (Number n) = decimal-printable n
value-printable (Cause why) = sentence-printable why

with-printable : (v : Value) (text : List ℕ) → are_printable text ≡ true → ArePrintable (detail_with v text)
with-printable Nothing text h = word text h
with-printable (Number n) text h = join (word text h) (decimal-printable n)
with-printable (Cause why) text h = join (word text h) (cause-printable why)

detail-printable : (r : FindingRow) → HasPrintable r → ArePrintable (row_detail r)
detail-printable r h = with-printable r.value r.detail h.detail

-- ---- as text

part-printable : (said : List ℕ) → ArePrintable said → ArePrintable (detail_part said)
part-printable [] h = record { all = refl }
part-printable (c ∷ cs) h = join (word (codes " ") refl) h

finding-head-printable : (code said : List ℕ) → ArePrintable code → ArePrintable said → ArePrintable (finding_head code said)
finding-head-printable code said h k =
    join (join (join (word (codes "    ") refl) h) (part-printable said k)) (word (codes ": ") refl)

line-shown : (r : FindingRow) → HasPrintable r → AreShown (row_line r)
line-shown r h =
    let head = finding-head-printable (code_text r.code) (row_detail r) (code-printable r.code) (detail-printable r h) in
    let sentence = join (join (word r.before h.before) (value-printable r.value)) (word r.after h.after) in
    add (seen (join head sentence)) (show (codes "\n") refl)

pub rows-shown : {F : Type 0} (row : F → FindingRow) → ((f : F) → HasPrintable (row f)) → (found : List F) → AreShown (flat_map (λ f. row_line (row f)) found)
rows-shown row h [] = show [] refl
rows-shown row h (f ∷ found) = add (line-shown (row f) (h f)) (rows-shown row h found)

-- ---- as JSON

object-printable : {code said : List ℕ} → ArePrintable code → ArePrintable said → ArePrintable (code_object code said)
unfolding code_object
object-printable {code} {said} h k =
    let reported = string-printable code (bytes-from_printable h) in
    join (join (join (word (codes "{\"code\":") refl) reported) (said-printable (codes "detail") refl k)) (word (codes "}") refl)

row-printable : (r : FindingRow) → HasPrintable r → ArePrintable (row_object r)
row-printable r h = object-printable (code-printable r.code) (detail-printable r h)

others-printable : {F : Type 0} (row : F → FindingRow) → ((f : F) → HasPrintable (row f)) → (found : List F) → ArePrintable (flat_map (object_after_comma row) found)
others-printable row h [] = word [] refl
others-printable row h (f ∷ found) = join (join (word (codes ",") refl) (row-printable (row f) (h f))) (others-printable row h found)

list-printable : {F : Type 0} (row : F → FindingRow) → ((f : F) → HasPrintable (row f)) → (found : List F) → ArePrintable (rows_list row found)
list-printable row h [] = word [] refl
list-printable row h (f ∷ found) = join (row-printable (row f) (h f)) (others-printable row h found)

pub rows-end-line : {F : Type 0} {a : List ℕ} (row : F → FindingRow) → ((f : F) → HasPrintable (row f)) → (found : List F) → ArePrintable a → is_line (a ++ rows_end row found) ≡ true
rows-end-line {F} {a} row h found k =
    let listed = join (word (codes ",\"findings\":[") refl) (list-printable row h found) in
    rw (← append_assoc a (codes ",\"findings\":[" ++ rows_list row found) (codes "]}\n")) (line-from (codes "]}\n") (join k listed) refl)

-- ---- in a cell

words-printable : (r : FindingRow) → HasPrintable r → ArePrintable (row_words r)
words-printable r h = join (code-printable r.code) (part-printable (row_detail r) (detail-printable r h))

other-words-printable : {F : Type 0} (row : F → FindingRow) → ((f : F) → HasPrintable (row f)) → (found : List F) → ArePrintable (flat_map (words_after_semicolon row) found)
other-words-printable row h [] = word [] refl
other-words-printable row h (f ∷ found) = join (join (word (codes "; ") refl) (words-printable (row f) (h f))) (other-words-printable row h found)

words-list-printable : {F : Type 0} (row : F → FindingRow) → ((f : F) → HasPrintable (row f)) → (found : List F) → ArePrintable (words_list row found)
words-list-printable row h [] = word [] refl
words-list-printable row h (f ∷ found) = join (words-printable (row f) (h f)) (other-words-printable row h found)

pub cells-end-row : {F : Type 0} {n : ℕ} {a : List ℕ} (kind : FileKind) (row : F → FindingRow) → ((f : F) → HasPrintable (row f)) → (found : List F) → AreFields Cell n a
    → n + 2 ≡ tabs_in (header kind) → IsRow kind (a ++ cells_end row found)
cells-end-row {F} {n} {a} kind row h found k e =
    let all = also k (also (cell (words-list-printable row h found)) empty-cell) in
    record {
      cells = a ++ (codes "\t" ++ words_list row found ++ codes "\t");
      parts = sym (append_assoc a (codes "\t" ++ words_list row found ++ codes "\t") (codes "\n"));
      shown = all.all;
      tabs = all.tabs ∙ e;
    }
