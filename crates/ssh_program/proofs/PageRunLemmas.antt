-- A run of `review --form html` that ends without a fault printed a page with the sections of all files.
use Rattle.ssh_program.proofs.Imports.{◌≡◌, map, ◌∙◌, ◌<◌, ◌≤◌, ◌+◌, ◌++◌, ℕ, Bool, true, false, List, [], ◌∷◌, length, Option, Some, None, Result, Ok, Err, ap, sym, refl, subst, inl, inr, arith, append-nil, append_assoc, flat_map-append, Row, TimeZone, IfTells, SourceState, bytes_at, most_failures, file_limit, TellsFile, TellsFiles, KeepsOthers, ReadsZone, Response, Account, WritesResponse, RespondsTo, source_of, ReviewCall, FormAsked, TooLong, if◌then◌else◌}
use Rattle.std.specs.Prelude.{nat_lt}
use Rattle.ssh_page.specs.Documents.{marks}
use Rattle.ssh_page.specs.Expanding.{mark_html, page}
use Rattle.ssh_page.specs.Pages.{page_lines}
use Rattle.ssh_review.proofs.PageListingLemmas.{host-row-listed, row-listed}
use Rattle.ssh_files.specs.declared.files.UnreadCause.{UnreadCause}
use Rattle.ssh_files.specs.SourceState.{bytes_of, cause_at, given_at}
use Rattle.ssh_review.specs.FileNames.{NameSeen, shown_name}
use Rattle.ssh_review.specs.declared.end.FileFault.{FileFault}
use Rattle.ssh_review.specs.declared.end.FileFault.TheVariants.{Unread}
use Rattle.ssh_review.specs.Ends.{total_words}
use Rattle.ssh_review.specs.PageFiles.{file_section}
use Rattle.ssh_program.specs.declared.review.ReviewKind.{ReviewKind}
use Rattle.ssh_program.specs.declared.review.ReviewKind.TheVariants.{Auth, Known}
use Rattle.ssh_program.specs.declared.subcommand.Subcommand.TheVariants as command
use Rattle.ssh_program.specs.KeyRuns.{AsksOfFiles}
use Rattle.ssh_program.specs.PageReviews.{FileGiven, PageSofar, ReviewsPage, given_bytes, given_kept, no_page, page_rest, section_by, telling_given, with_given}
use Rattle.ssh_program.specs.FileReviews.{file_kind}
use Rattle.ssh_program.specs.PageRuns.{AsksPage, FilesOnPage, PrintsSections, ShowsRows}
use Rattle.ssh_program.specs.PageFronts.{front_of}
use Rattle.ssh_program.specs.ReviewZones.{review_rule}
use Rattle.ssh_program.specs.Spelled.{PageAsked, ReviewsAs, review_spelled}
use Rattle.ssh_program.specs.Spelling.{given, names_needed}
use Rattle.ssh_program.specs.Totals.{counted, fault_count}
use Rattle.ssh_program.specs.declared.args.ArgName.TheVariants as option
use Rattle.ssh_program.proofs.FileRunLemmas.{asked-run, faultless, few-as, none-counted, review-faulty, review-names, some-faults}
use Rattle.ssh_program.proofs.GrantedRunLemmas.{Answered, status-of}
use Rattle.ssh_program.proofs.PageLemmas.{page-is}
use Rattle.ssh_program.proofs.ReviewFormLemmas.{asks-page}
use Rattle.ssh_program.proofs.SpelledBytes.{ok-same}

-- ---- one file

-- the file is there, and this is given of it
record GivenAs (name : NameSeen) (s : SourceState) (f : FileGiven) : Type 0 where
  file : List ℕ
  there : bytes_at s name.path ≡ Some file
  is : f ≡ record { name = shown_name name; bytes = Ok file }

some-fault : (fault : FileFault) → ◌≡◌ {A = Option FileFault} (Some fault) None → ⊥
some-fault fault h = cc

abbrev fault-of : ReviewKind → PageAsked → FileGiven → Option FileFault
fault-of kind asked f = (given_kept (file_kind kind) asked.asking f.bytes).fault

given-file : (kind : ReviewKind) (asked : PageAsked) (name : NameSeen) (file : List ℕ) (s : SourceState) (f : FileGiven) (long : Bool) → bytes_at s name.path ≡ Some file
    → f ≡ record { name = shown_name name; bytes = if long then Err TooLong else Ok file } → fault-of kind asked f ≡ None → GivenAs name s f
given-file kind asked name file s f true there is none = absurd (some-fault TooLong (sym (ap (fault-of kind asked) is) ∙ none))
given-file kind asked name file s f false there is none = record { file = file; there = there; is = is }

given-by : (kind : ReviewKind) (asked : PageAsked) (name : NameSeen) (s : SourceState) (f : FileGiven) (given : Result (List ℕ) UnreadCause) → given_at s name.path ≡ given
    → f ≡ record { name = shown_name name; bytes = given_bytes given } → fault-of kind asked f ≡ None → GivenAs name s f
given-by kind asked name s f (Err cause) there is none = absurd (some-fault (Unread cause) (sym (ap (fault-of kind asked) is) ∙ none))
given-by kind asked name s f (Ok file) there is none = given-file kind asked name file s f (nat_lt file_limit (length file)) (ap bytes_of there) is none

given-as : (kind : ReviewKind) (asked : PageAsked) (name : NameSeen) (s m : SourceState) (f : FileGiven) → TellsFile telling_given name s (Some m) f → fault-of kind asked f ≡ None → GivenAs name s f
given-as kind asked name s m f (keeps, inl (failed, is)) none = absurd (some-fault (Unread (cause_at s name.path)) (sym (ap (fault-of kind asked) is) ∙ none))
given-as kind asked name s m f (keeps, inr (unfailed, end, is)) none = given-by kind asked name s f (given_at s name.path) refl is none

few-failures : (name : NameSeen) (s m : SourceState) (f : FileGiven) → TellsFile telling_given name s (Some m) f → m.failures ≤ s.failures + 1
few-failures name s m f (keeps, inl (failed, is)) = let one : m.failures ≡ s.failures + 1 = failed.0 in omega (arith, one)
few-failures name s m f (keeps, inr (unfailed, end, is)) = let same : m.failures ≡ s.failures = unfailed in omega (arith, same)

-- ---- all files

-- each of the files was reviewed without a fault, and this is the marked text of their sections
abbrev EachShown : PageAsked → ℕ → List NameSeen → SourceState → List ℕ → Type 0
EachShown asked number [] s rest = rest ≡ []
EachShown asked number (name ∷ names) s rest =
    (file : List ℕ) × (bytes_at s name.path ≡ Some file)
    × ((m : SourceState) × (more : List ℕ) × KeepsOthers name.path s (Some m) × (rest ≡ marks (file_section (file_kind asked.kind) number asked.asking (shown_name name) file) ++ more)
    × EachShown asked (counted number 1) names m more)

-- the sections of these files follow those so far
record Shown (sofar reported : PageSofar) (rest : List ℕ) : Type 0 where
  sections : marks reported.sections ≡ marks sofar.sections ++ rest
  faultless : sofar.total.faults ≡ 0

each-shown : (asked : PageAsked) (sofar : PageSofar) (names : List NameSeen) (s : SourceState) (t : Option SourceState) (reported : PageSofar)
    → s.failures + length names < most_failures → TellsFiles (with_given asked.kind asked.asking) telling_given sofar names s t reported → reported.total.faults ≡ 0
    → (rest : List ℕ) × Shown sofar reported rest × EachShown asked sofar.total.files names s rest
each-shown asked sofar [] s t reported room (unfailed, is) none = (
  [],
  record {
    sections = ap (λ (x : PageSofar). marks x.sections) is ∙ sym (append-nil (marks sofar.sections));
    faultless = sym (ap (λ (x : PageSofar). x.total.faults) is) ∙ none;
  },
  refl,
)
each-shown asked sofar (name ∷ names) s t reported room (m, f, one, more) none =
    let few = few-failures name s m f one in
    let left : m.failures + length names < most_failures = omega (arith, room, few) in
    let next = with_given asked.kind asked.asking sofar f in
    let (rest, shown, each) = each-shown asked next names m t reported left (more (omega (arith, left))) none in
    let (before, here) = none-counted sofar.total.faults (fault_count (fault-of asked.kind asked f)) shown.faultless in
    let there = given-as asked.kind asked name s m f one (some-faults (fault-of asked.kind asked f) here) in
    let own = marks (file_section (file_kind asked.kind) sofar.total.files asked.asking (shown_name name) there.file) in
    let section : marks next.sections ≡ marks sofar.sections ++ own =
    ap (λ (x : FileGiven). marks sofar.sections ++ marks (section_by (file_kind asked.kind) sofar.total.files asked.asking x.name x.bytes)) there.is in (
      own ++ rest,
      record {
        sections = shown.sections ∙ (ap (λ (x : List ℕ). x ++ rest) section ∙ append_assoc (marks sofar.sections) own rest);
        faultless = before;
      },
      (there.file, there.there, (m, rest, one.0, refl, each)),
    )

shows-rows : (kind : ReviewKind) (asked : PageAsked) (number : ℕ) (file : List ℕ) → ShowsRows kind asked number file
shows-rows Auth asked number file = λ bytes claim vouched n rights reasons evidence h. row-listed asked.asking number file claim vouched n rights reasons evidence bytes h
shows-rows Known asked number file = λ bytes claim vouched n rights reasons evidence h. host-row-listed asked.asking number file claim vouched n rights reasons evidence bytes h

-- so each section is a part of the whole text
prints-sections : (asked : PageAsked) (number : ℕ) (text before after : List ℕ) (names : List NameSeen) (s : SourceState) (rest : List ℕ) → EachShown asked number names s rest
    → text ≡ before ++ (page rest ++ after) → PrintsSections asked number text names s
prints-sections asked number text before after [] s rest h is = tt
prints-sections asked number text before after (name ∷ names) s rest (file, there, (m, more, keeps, are, each)) is =
    let own = page (marks (file_section (file_kind asked.kind) number asked.asking (shown_name name) file)) in
    let both : page rest ≡ own ++ page more = ap page are ∙ flat_map-append mark_html (marks (file_section (file_kind asked.kind) number asked.asking (shown_name name) file)) more in
    let parts : text ≡ before ++ (own ++ (page more ++ after)) = is ∙ (ap (λ (x : List ℕ). before ++ (x ++ after)) both ∙ ap (λ (x : List ℕ). before ++ x) (append_assoc own (page more) after)) in
    let later : text ≡ (before ++ own) ++ (page more ++ after) = parts ∙ sym (append_assoc before own (page more ++ after)) in
    ((file, there, ((before, page more ++ after, parts), shows-rows asked.kind asked number file)), (m, keeps, prints-sections asked (counted number 1) text (before ++ own) after names m more each later))

-- ---- a response

page-of : (asked : PageAsked) (s : SourceState) (t : Option SourceState) (r : Response) → s.failures + length asked.names < most_failures
    → ReviewsPage asked.title asked.kind asked.failing asked.rule asked.asking asked.names s t r → r.status < 2 → PrintsSections asked 0 r.text asked.names s
page-of asked s t r room (reported, chain, is) few =
    let status = status-of r _ is in
    let none = faultless asked.failing reported.total (omega (arith, status, few)) in
    let (rest, shown, each) = each-shown asked no_page asked.names s t reported room chain none in
    let last = page_rest (marks reported.register) (total_words asked.rule asked.asking reported.total) in
    let names = map shown_name asked.names in
    let front = page (front_of asked.title (file_kind asked.kind) asked.rule asked.asking (page_lines names reported.sections) reported.total) in
    let body : page (marks reported.sections ++ last) ≡ page rest ++ page last = flat_map-append mark_html (marks reported.sections) last ∙ ap (λ (x : List ℕ). page x ++ page last) shown.sections in
    let whole : r.text ≡ front ++ (page rest ++ page last) =
    ap (λ (x : Response). x.text) is ∙ (sym (ap (λ (x : Response). x.text) (page-is asked.failing asked.title asked.kind asked.rule asked.asking names reported)) ∙ ap (λ (x : List ℕ). front ++ x) body) in
    prints-sections asked 0 r.text front (page last) asked.names s rest each whole

shown-in : (rows : List Row) (names : List (List ℕ)) (zone : Option TimeZone) (s : SourceState) (t : Option SourceState) (r : Response) → names_needed rows ≡ Ok names
    → s.failures + length names < most_failures → ReadsZone (review_rule rows) zone → AsksPage rows
    → (x : Result ReviewCall Response) → review_spelled rows zone ≡ x → RespondsTo (λ q. ReviewsAs q.form (given option.Key rows) q.kind q.failing q.rule q.asking q.names) x s t r → r.status < 2 → FilesOnPage rows s r
shown-in rows names zone s t r named room read page_asked (Err fault) spelled (unfailed, is) few =
    let two = review-faulty rows zone fault spelled in
    let same = status-of r fault is in
    absurd (omega (arith, two, same, few))
shown-in rows names zone s t r named room read page_asked (Ok q) spelled h few =
    let (words, needed, as_many) = review-names rows zone q spelled in
    let are = ok-same {A = List (List ℕ)} {B = Response} names words (sym named ∙ needed) in
    let (title, is, asked) = asks-page rows zone q page_asked spelled in
    let a : PageAsked = record { kind = q.kind; title = title; failing = q.failing; rule = q.rule; asking = q.asking; names = q.names } in
    record {
      zone = zone;
      read = read;
      asked = a;
      spelled = asked;
      sections = page-of a s t r (subst (λ (n : ℕ). s.failures + n < most_failures) (ap length are ∙ sym as_many) room)
          (subst (λ (x : FormAsked). ReviewsAs x (given option.Key rows) q.kind q.failing q.rule q.asking q.names s t r) is h) few;
    }

-- ---- a run

pub files_on_page_run : (words : List (List ℕ)) (o t : Option SourceState) (old new : Option Account) (status : ℕ) → IfTells o (Answered words t old new status)
    → IfTells o (λ s. (rows : List Row) (names : List (List ℕ)) → AsksOfFiles command.Review words s rows names → AsksPage rows → status < 2
    → (r : Response) × FilesOnPage rows (source_of words s) r × WritesResponse old new r status)
files_on_page_run words None t old new status h = tt
files_on_page_run words (Some s) t old new status h = λ room rows names asks page_asked is.
    let (r, answers, writes) = h room in
    let few = few-as old new r status writes is in
    let (zone, read, by) = asked-run command.Review words s t r rows asks.request answers few in
    (r, shown-in rows names zone (source_of words s) t r asks.named asks.room read page_asked (review_spelled rows zone) refl by few, writes)
