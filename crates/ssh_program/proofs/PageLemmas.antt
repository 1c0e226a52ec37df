-- The page of a review: what each file has on it, one after the other, and the whole.
use Rattle.ssh_program.proofs.Imports.{◌≡◌, map, ◌∙◌, ◌≤◌, ◌++◌, ℕ, Bool, List, [], ◌∷◌, length, Option, Some, None, Result, Ok, Err, refl, sym, ap, subst, inl, inr, IfOk, OnOk, lt-ltb, append_assoc, flat_map-append, Account, Asking, TellsFile, IfTells, SourceState, bytes_at, after_whole, FailsLoad, IsLeft, IsTooLong, KeepsOthers, within_limit, ReadError, left-none, left-end, no-end, over_limit, TooLong, ReviewKind, file_limit, Leads, leads_end, leads_next, WritesResponse}
use Rattle.std.specs.Prelude.{if◌then◌else◌}
use Rattle.ssh_files.specs.declared.read.ReadError.TheVariants as read
use Rattle.ssh_files.proofs.TurnLemmas.{leads_begin}
use Rattle.ssh_findings.specs.declared.code.Code.{Code}
use Rattle.ssh_page.specs.declared.file.FileKind.{FileKind}
use Rattle.ssh_page.specs.Documents.{Document, marks}
use Rattle.ssh_page.specs.Expanding.{mark_html, page}
use Rattle.ssh_page.specs.Files.{register_end, register_head}
use Rattle.ssh_page.specs.Pages.{lines_end, page_end, page_lines, whole_page}
use Rattle.ssh_page.specs.Questions.{QuestionSeen}
use Rattle.ssh_page.specs.declared.header.PageTotals.{PageTotals}
use Rattle.ssh_page.specs.declared.mend.CodeCount.{CodeCount}
use Rattle.ssh_print.specs.Responses.{Response as Shown}
use Rattle.ssh_files.specs.declared.files.UnreadCause.{UnreadCause}
use Rattle.ssh_files.specs.SourceState.{bytes_of, cause_at, given_at}
use Rattle.ssh_files.proofs.SourceLemmas.{given-all, given-none}
use Rattle.ssh_review.specs.declared.end.FileFault.{FileFault}
use Rattle.ssh_review.specs.declared.end.FileFault.TheVariants.{Unread}
use Rattle.ssh_review.specs.declared.end.Total.{Total}
use Rattle.ssh_review.specs.Ends.{total_words}
use Rattle.ssh_review.specs.DistinctKeys.{KeySet, key_count, keys_seen, with_keys}
use Rattle.ssh_review.proofs.DistinctLemmas.{keys-behind}
use Rattle.ssh_review.specs.FileNames.{NameSeen, shown_name}
use Rattle.ssh_review.specs.PageFiles.{unread_row, unread_section}
use Rattle.ssh_program.specs.declared.review_page.MadePage.{MadePage}
use Rattle.ssh_program.specs.declared.review.FileNoted.{FileNoted}
use Rattle.ssh_program.specs.PageReviews.{FileGiven, IsReported, PageMarks, PageSofar, PageReported, ReviewsPage, fault_noted, fault_read, given_bytes, given_kept, given_keys, given_noted, made_response, no_page, page_kept, page_response, page_rest, parts_response, row_by, section_by, telling_given, with_given, within}
use Rattle.ssh_program.specs.FileReviews.{file_kind}
use Rattle.ssh_program.specs.PageFronts.{codes_found, page_front, page_question, page_totals}
use Rattle.ssh_program.specs.Printing.{WritesAnswer}
use Rattle.ssh_program.specs.Totals.{with_counted}
use Rattle.ssh_program.proofs.FileLemmas.{both_in, kept-and-cause, within-false}

-- ---- one file

-- what was appended for a file, in one fact
reports-of : {E : Type 0} (res : Result FileNoted E) (A B : Type 0) (kept : FileNoted) → OnOk res A → OnOk res B → IfOk res (λ reported. reported ≡ kept) → IfOk res (λ reported. A × B × (reported ≡ kept))
reports-of (Ok reported) A B kept a b k = (a, b, k)
reports-of (Err e) A B kept a b k = tt

with-given : {E : Type 0} (res : Result FileNoted E) (G : FileGiven → Type 0) (T : FileGiven → FileNoted → Type 0) (given : FileGiven) → G given → IfOk res (T given) → IfOk res (λ reported. (f : FileGiven) × G f × T f reported)
with-given (Ok reported) G T given g h = (given, g, h)
with-given (Err e) G T given g h = tt

abbrev as-given : List ℕ → Result (List ℕ) FileFault → FileGiven
as-given name bytes = record { name = name; bytes = bytes }

within-is : (file : List ℕ) → length file ≤ file_limit → Ok file ≡ within file
within-is file few = ap (λ (b : Bool). if b then Err TooLong else Ok file) (sym (within-false (length file) few))

-- a file that was read
given-read : (name : NameSeen) (shown file bytes : List ℕ) (o t : Option SourceState) → shown ≡ shown_name name → length bytes ≤ file_limit → bytes ≡ file
    → IfTells o (λ s. (within_limit (bytes_at s name.path) ≡ Some file) × IsLeft s (after_whole s name.path) t) → IfTells o (λ s. KeepsOthers name.path s t)
    → IfTells o (λ s. TellsFile telling_given name s t (record { name = shown; bytes = Ok bytes }))
given-read name shown file bytes None t front few is loads keeps = tt
given-read name shown file bytes (Some s) t front few is loads keeps = λ counts.
    let load = loads counts in (
      keeps counts,
      inr (
        left-none s (after_whole s name.path) t load.1,
        left-end name.path s t load.1,
        ap (λ (n : List ℕ). as-given n (Ok bytes)) front
            ∙ ap (as-given (shown_name name)) (within-is bytes few ∙ (ap within is ∙ ap given_bytes (sym (given-all (given_at s name.path) file load.0)))),
      ),
    )

pub file-line_reports : {E : Type 0} (kind : FileKind) (number : ℕ) (keys : KeySet) (asking : Asking) (name : NameSeen) (shown file bytes : List ℕ) (o t : Option SourceState) (res : Result FileNoted E) (sections after register later : List ℕ)
    → shown ≡ shown_name name → length bytes ≤ file_limit → bytes ≡ file → IfTells o (λ s. (within_limit (bytes_at s name.path) ≡ Some file) × IsLeft s (after_whole s name.path) t) → IfTells o (λ s. KeepsOthers name.path s t)
    → OnOk res (after ≡ sections ++ marks (section_by kind number asking shown (Ok bytes))) → OnOk res (later ≡ register ++ marks (row_by kind number asking shown (Ok bytes)))
    → IfOk res (λ reported. reported ≡ given_noted kind keys asking (Ok bytes))
    → IfOk res (λ reported. (given : FileGiven) × IfTells o (λ s. TellsFile telling_given name s t given) × IsReported kind number keys asking given sections after register later reported)
file-line_reports kind number keys asking name shown file bytes o t res sections after register later front few is loads keeps section row kept =
    with-given res (λ given. IfTells o (λ s. TellsFile telling_given name s t given)) (λ given reported. IsReported kind number keys asking given sections after register later reported)
    (record { name = shown; bytes = Ok bytes }) (given-read name shown file bytes o t front few is loads keeps)
    (reports-of res (after ≡ sections ++ marks (section_by kind number asking shown (Ok bytes))) (later ≡ register ++ marks (row_by kind number asking shown (Ok bytes))) (given_noted kind keys asking (Ok bytes)) section row kept)

-- one that gives no bytes
too-long : (given : Result (List ℕ) UnreadCause) → IsTooLong (bytes_of given) → Err TooLong ≡ given_bytes given
too-long (Err cause) h = absurd h
too-long (Ok bytes) h = ap (λ (b : Bool). if b then Err TooLong else Ok bytes) (sym (lt-ltb file_limit (length bytes) h))

given-unread : (name : NameSeen) (shown : List ℕ) (o t : Option SourceState) (e : ReadError) (cause : UnreadCause) → shown ≡ shown_name name → (e ≡ read.Memory → ⊥) → IfTells o (λ s. FailsLoad name.path (bytes_at s name.path) s t e)
    → IfTells o (λ s. KeepsOthers name.path s t) → IfTells o (λ s. cause ≡ cause_at s name.path) → IfTells o (λ s. TellsFile telling_given name s t (record { name = shown; bytes = Err (fault_read e cause) }))
given-unread name shown o t read.Memory cause front some fails keeps why = absurd (some refl)
given-unread name shown o t read.TooLong cause front some fails keeps why =
    both_in _ _ _ o (λ s f k. (
      k,
      inr (
        f.1,
        no-end name.path s t k (over_limit (bytes_at s name.path) f.0),
        ap (λ (n : List ℕ). as-given n (Err TooLong)) front ∙ ap (as-given (shown_name name)) (too-long (given_at s name.path) f.0),
      ),
    )) fails keeps
given-unread name shown o t read.Missing cause front some fails keeps why =
    both_in _ _ _ o (λ s f k. (
      k.0,
      inr (
        f.1,
        no-end name.path s t k.0 (ap within_limit f.0),
        ap (λ (n : List ℕ). as-given n (Err (Unread cause))) front ∙ (ap (λ (c : UnreadCause). as-given (shown_name name) (Err (Unread c))) k.1
            ∙ ap (λ (g : Result (List ℕ) UnreadCause). as-given (shown_name name) (given_bytes g)) (sym (given-none (given_at s name.path) f.0))),
      ),
    )) fails (kept-and-cause name.path cause t o keeps why)
given-unread name shown o t read.Failed cause front some fails keeps why =
    both_in _ _ _ o (λ s f k. (
      k.0,
      inl (f, ap (λ (n : List ℕ). as-given n (Err (Unread cause))) front ∙ ap (λ (c : UnreadCause). as-given (shown_name name) (Err (Unread c))) k.1),
    )) fails (kept-and-cause name.path cause t o keeps why)

pub file-unread : {E : Type 0} (kind : FileKind) (number : ℕ) (keys : KeySet) (asking : Asking) (name : NameSeen) (shown : List ℕ) (o t : Option SourceState) (e : ReadError) (cause : UnreadCause) (res : Result FileNoted E) (sections after register later : List ℕ)
    → shown ≡ shown_name name → IfTells o (λ s. FailsLoad name.path (bytes_at s name.path) s t e) → IfTells o (λ s. KeepsOthers name.path s t) → IfTells o (λ s. cause ≡ cause_at s name.path)
    → OnOk res (e ≡ read.Memory → ⊥) → OnOk res (after ≡ sections ++ marks (unread_section number shown (fault_read e cause))) → OnOk res (later ≡ register ++ marks (unread_row number shown (fault_read e cause)))
    → IfOk res (λ reported. reported ≡ fault_noted keys (fault_read e cause))
    → IfOk res (λ reported. (given : FileGiven) × IfTells o (λ s. TellsFile telling_given name s t given) × IsReported kind number keys asking given sections after register later reported)
file-unread kind number keys asking name shown o t e cause (Ok reported) sections after register later front fails keeps why some section row kept =
    (as-given shown (Err (fault_read e cause)), given-unread name shown o t e cause front some fails keeps why, (section, row, kept))
file-unread kind number keys asking name shown o t e cause (Err x) sections after register later front fails keeps why some section row kept = tt

-- ---- all files

-- the files at the front tell this, in marked text
abbrev pub ReportedSoFar : ReviewKind → Asking → List NameSeen → List NameSeen → SourceState → Option SourceState → PageMarks → KeySet → Type 0
ReportedSoFar kind asking names left s now k keys = (sofar : PageSofar) × (k ≡ page_kept sofar) × (keys ≡ keys_seen sofar.keys) × Leads (with_given kind asking) telling_given no_page names s left now sofar

pub reports-first : (kind : ReviewKind) (asking : Asking) (names : List NameSeen) (o : Option SourceState) (k : PageMarks) (keys : KeySet) → k ≡ page_kept no_page → keys ≡ keys_seen []
    → IfTells o (λ s. ReportedSoFar kind asking names names s o k keys)
reports-first kind asking names None k keys is none = tt
reports-first kind asking names (Some s) k keys is none = λ counts. (no_page, is, none, leads_begin (with_given kind asking) telling_given no_page names (Some s) counts)

-- with one more file
keys-more : (kind : FileKind) (number : ℕ) (keys : KeySet) (asking : Asking) (sofar : PageSofar) (f : FileGiven) (sections after register later : List ℕ) (noted : FileNoted) → keys ≡ keys_seen sofar.keys
    → IsReported kind number keys asking f sections after register later noted → noted.keys ≡ keys_seen (sofar.keys ++ given_keys kind f.bytes)
keys-more kind number keys asking sofar f sections after register later noted seen (section, row, kept) =
    ap (λ (x : FileNoted). x.keys) kept ∙ (ap (λ (s : KeySet). with_keys s (given_keys kind f.bytes)) seen ∙ keys-behind sofar.keys (given_keys kind f.bytes))

kept-more : (kind : ReviewKind) (keys : KeySet) (asking : Asking) (sofar : PageSofar) (f : FileGiven) (k : PageMarks) (sections register : List ℕ) (noted : FileNoted) → k ≡ page_kept sofar → keys ≡ keys_seen sofar.keys
    → IsReported (file_kind kind) k.total.files keys asking f k.sections sections k.register register noted
    → record { sections = sections; register = register; total = with_counted k.total (key_count noted.keys) noted.reported.counts noted.reported.fault } ≡ page_kept (with_given kind asking sofar f)
kept-more kind keys asking sofar f k sections register noted is seen (section, row, kept) =
    let same : noted.keys ≡ keys_seen (sofar.keys ++ given_keys (file_kind kind) f.bytes) = keys-more (file_kind kind) k.total.files keys asking sofar f k.sections sections k.register register noted seen (section, row, kept) in
    let counted : noted.reported ≡ given_kept (file_kind kind) asking f.bytes = ap (λ (x : FileNoted). x.reported) kept in
    rw (same, section, row, counted, is) refl

pub reports-next : (kind : ReviewKind) (asking : Asking) (names : List NameSeen) (name : NameSeen) (left rest : List NameSeen) (o now next : Option SourceState) (k after : PageMarks) (keys : KeySet) (noted : FileNoted) (like : FileKind)
    → left ≡ name ∷ rest → IfTells o (λ s. ReportedSoFar kind asking names left s now k keys) → like ≡ file_kind kind
    → (given : FileGiven) × IfTells now (λ m. TellsFile telling_given name m next given) × IsReported like k.total.files keys asking given k.sections after.sections k.register after.register noted
    → after.total ≡ with_counted k.total (key_count noted.keys) noted.reported.counts noted.reported.fault
    → IfTells o (λ s. ReportedSoFar kind asking names rest s next after noted.keys)
reports-next kind asking names name left rest None now next k after keys noted like is h same_kind line_reports total = tt
reports-next kind asking names name left rest (Some s) now next k after keys noted like is h same_kind (given, file, line_reports) total = λ counts.
    let (sofar, same, seen, lead) = h counts in
    let reports = subst (λ (x : FileKind). IsReported x k.total.files keys asking given k.sections after.sections k.register after.register noted) same_kind line_reports in (
      with_given kind asking sofar given,
      ap (λ (t : Total). record { sections = after.sections; register = after.register; total = t }) total
          ∙ kept-more kind keys asking sofar given k after.sections after.register noted same seen reports,
      keys-more (file_kind kind) k.total.files keys asking sofar given k.sections after.sections k.register after.register noted seen reports,
      leads_next (with_given kind asking) telling_given no_page names name left rest (Some s) now next sofar given (with_given kind asking sofar given) is refl (λ _. lead) file counts,
    )

pub reports-last : (kind : ReviewKind) (asking : Asking) (names left : List NameSeen) (o now : Option SourceState) (k : PageMarks) (keys : KeySet) → left ≡ []
    → IfTells o (λ s. ReportedSoFar kind asking names left s now k keys) → IfTells o (λ s. PageReported kind asking names s now k)
reports-last kind asking names left None now k keys none h = tt
reports-last kind asking names left (Some s) now k keys none h = λ counts.
    let (sofar, same, seen, lead) = h counts in (
      sofar,
      same,
      leads_end (with_given kind asking) telling_given no_page names left (Some s) now sofar none (λ _. lead) counts,
    )

-- ---- the whole

-- the marked text of the whole page, in its two parts
parts-are : (title : List ℕ) (q : QuestionSeen) (t : PageTotals) (found : List CodeCount) (words : List ℕ) (names : List (List ℕ)) (sections register : Document)
    → marks (whole_page title q t found names sections register words) ≡ page_front title q t found (page_lines names sections) ++ (marks sections ++ page_rest (marks register) words)
parts-are title q t found words names sections register =
    let a = page_front title q t found (page_lines names sections) in
    let b = marks sections in
    let c = marks lines_end in
    let g = marks register_head in
    let r = marks register in
    let d = marks (register_end words) in
    let e = marks page_end in
    let rest : c ++ g ++ r ++ d ++ e ≡ c ++ ((g ++ r ++ d) ++ e) =
    ap (λ (x : List ℕ). x ++ d ++ e) (append_assoc c g r) ∙ (ap (λ (x : List ℕ). x ++ e) (append_assoc c (g ++ r) d) ∙ append_assoc c (g ++ r ++ d) e) in
    append_assoc (a ++ b ++ c) (g ++ r ++ d) e
    ∙ (append_assoc (a ++ b) c ((g ++ r ++ d) ++ e)
    ∙ (append_assoc a b (c ++ ((g ++ r ++ d) ++ e)) ∙ ap (λ (x : List ℕ). a ++ (b ++ x)) (sym rest)))

pub page-is : (failing : List Code) (title : List ℕ) (kind : ReviewKind) (rule : List ℕ) (asking : Asking) (names : List (List ℕ)) (p : PageSofar)
    → parts_response failing title kind rule asking names (page_kept p) ≡ page_response failing title kind rule asking names p
page-is failing title kind rule asking names p =
    let words = total_words rule asking p.total in
    let body = marks p.sections ++ page_rest (marks p.register) words in
    let q = page_question (file_kind kind) rule asking in
    let found = codes_found p.total.counts.by_code in
    let t = page_totals p.total found in
    let front = page_front title q t found (page_lines names p.sections) in
    let text : page front ++ page body ≡ page (marks (whole_page title q t found names p.sections p.register words)) =
    sym (flat_map-append mark_html front body) ∙ ap page (sym (parts-are title q t found words names p.sections p.register)) in
    ap (λ (x : List ℕ). record { status = (parts_response failing title kind rule asking names (page_kept p)).status; text = x }) text

pub page-made : (failing : List Code) (title rule : List ℕ) (kind : ReviewKind) (asking : Asking) (names : List NameSeen) (shown : List (List ℕ)) (o t : Option SourceState) (k : PageMarks) (m : MadePage)
    → shown ≡ map shown_name names → IfTells o (λ s. PageReported kind asking names s t k) → made_response m ≡ parts_response failing title kind rule asking shown k
    → IfTells o (λ s. ReviewsPage title kind failing rule asking names s t (made_response m))
page-made failing title rule kind asking names shown None t k m are line_reports is = tt
page-made failing title rule kind asking names shown (Some s) t k m are line_reports is = λ counts.
    let (sofar, same, files) = line_reports counts in
    let named : parts_response failing title kind rule asking shown k ≡ parts_response failing title kind rule asking (map shown_name names) k =
    ap (λ (n : List (List ℕ)). parts_response failing title kind rule asking n k) are in
    (sofar, files, is ∙ (named ∙ (ap (parts_response failing title kind rule asking (map shown_name names)) same ∙ page-is failing title kind rule asking (map shown_name names) sofar)))

-- what was made is written
pub page-written : (P : SourceState → Shown → Type 0) (o : Option SourceState) (r : Shown) (old new : Option Account) (status : ℕ) → IfTells o (λ s. P s r) → WritesResponse old new r status
    → IfTells o (λ s. WritesAnswer (P s) old new status)
page-written P None r old new status h writes = tt
page-written P (Some s) r old new status h writes = λ counts. (r, inl (h counts), writes)
