-- A run of `review` with `--key` that ends with status 1 found the key in one of the files, and one with status 0 in none.
use Rattle.ssh_program.proofs.Imports.{◌≡◌, map, ◌∙◌, ◌<◌, ◌≤◌, ◌+◌, ◌++◌, cond, ℕ, Bool, true, false, List, [], ◌∷◌, length, Option, Some, None, Result, Ok, Err, option_map, ap, subst, sym, refl, inl, inr, arith, nat_lt, Row, TimeZone, Response, no_file_response, IfTells, SourceState, bytes_at, most_failures, within_limit, ReadsZone, Account, WritesResponse, source_of, RespondsTo, file_limit, KeepsOthers, TellsFile, TellsFiles, ShowError, Offered, shown_offer_in}
use Rattle.std.proofs.lemmas.Bool.{ltb-false}
use Rattle.std.proofs.lemmas.List.{append-nil, append_assoc}
use Rattle.std.specs.Prelude.{◌||◌}
use Rattle.ssh_files.specs.FilesInTurn.{Telling}
use Rattle.ssh_keys.specs.Fingerprint.{digest_text_of}
use Rattle.ssh_print.specs.Showing.{show_fault_response}
use Rattle.ssh_print.specs.declared.showing.ShowError.TheVariants as show
use Rattle.ssh_review.proofs.KeyListingLemmas.{host-key-nowhere, host-key-stands, key-nowhere, key-stands}
use Rattle.ssh_review.specs.Forms.{first_lines, total_line}
use Rattle.ssh_review.specs.KeyReviews.{KeyReview, host_whole_key_review, key_fault_review, whole_key_review}
use Rattle.ssh_files.specs.declared.files.UnreadCause.{UnreadCause}
use Rattle.ssh_files.specs.SourceState.{bytes_of, cause_at, given_at}
use Rattle.ssh_review.specs.FileNames.{NameSeen, file_head}
use Rattle.ssh_review.specs.declared.end.FileFault.{FileFault}
use Rattle.ssh_review.specs.declared.end.FileFault.TheVariants.{TooLong, Unread}
use Rattle.ssh_review.specs.declared.end.Total.{Total}
use Rattle.ssh_program.specs.declared.args.ArgName.TheVariants as option
use Rattle.ssh_program.specs.declared.review.ReviewKind.{ReviewKind}
use Rattle.ssh_program.specs.declared.review.ReviewKind.TheVariants.{Auth, Known}
use Rattle.ssh_program.specs.declared.subcommand.Subcommand.TheVariants as command
use Rattle.ssh_program.specs.FileRuns.{IsPartOf}
use Rattle.ssh_program.specs.FingerprintValues.{fingerprint_bytes, is_fingerprint}
use Rattle.ssh_program.specs.KeyRuns.{AsksOfFiles, EachFile, SomeFile}
use Rattle.ssh_program.specs.FileReviews.{kind_name}
use Rattle.ssh_program.specs.KeySeeking.{KeyLines, SeeksBy, SeeksKey, SeeksKeyOfFile, fingerprint_or_fault, key_review_of, key_status, key_lines_before, or_key_fault, spelled_fingerprint, telling_key_review, with_key_file}
use Rattle.ssh_program.specs.KeyStanding.{AsksForKey, GivesBy, StandsIn, StandsNowhereIn, KeyNowhere, KeyWanted, KeyStanding, PrintsKeyReviews, whole_for_key}
use Rattle.ssh_program.specs.OfferPrints.{offer_print}
use Rattle.ssh_program.specs.ReviewZones.{review_rule}
use Rattle.ssh_program.specs.ReviewForms.{FormAsked}
use Rattle.ssh_program.specs.Spelled.{ReviewAsked, ReviewCall, ReviewsAs, in_lines, review_spelled}
use Rattle.ssh_program.specs.Spelling.{names_needed}
use Rattle.ssh_program.specs.Totals.{fault_count}
use Rattle.ssh_program.proofs.FileRunLemmas.{asked-run, none-counted, review-faulty, review-names, some-faults}
use Rattle.ssh_program.proofs.GrantedRunLemmas.{Answered, IsFaulty, ends-as, fault-faulty, none-faulty, or-faulty, status-of}
use Rattle.ssh_program.proofs.ReviewFormLemmas.{asks-key}
use Rattle.ssh_program.proofs.SpelledBytes.{ok-same}

-- ---- one file

-- a review without a fault is that of all lines
without-fault : (kind : ReviewKind) (wanted : List ℕ) (asked : ReviewAsked) (name file : List ℕ) → (key_review_of wanted kind asked.form asked.asking name file).file.fault ≡ None
    → key_review_of wanted kind asked.form asked.asking name file ≡ whole_for_key kind wanted asked.form asked.asking name file
without-fault Auth wanted asked name file h = by (nat_lt file_limit (length file)) h
  where
    by : (long : Bool) → (cond long (key_fault_review asked.form name TooLong) (whole_key_review wanted asked.form asked.asking name file)).file.fault ≡ None
        → cond long (key_fault_review asked.form name TooLong) (whole_key_review wanted asked.form asked.asking name file) ≡ whole_key_review wanted asked.form asked.asking name file
    by true e = cc
    by false e = refl
without-fault Known wanted asked name file h = by (nat_lt file_limit (length file)) h
  where
    by : (long : Bool) → (cond long (key_fault_review asked.form name TooLong) (host_whole_key_review wanted asked.form asked.asking name file)).file.fault ≡ None
        → cond long (key_fault_review asked.form name TooLong) (host_whole_key_review wanted asked.form asked.asking name file) ≡ host_whole_key_review wanted asked.form asked.asking name file
    by true e = cc
    by false e = refl

-- the file is there, and its review for the key is this
record WantedAs (asked : ReviewAsked) (wanted : List ℕ) (name : NameSeen) (s : SourceState) (first : KeyReview) : Type 0 where
  file : List ℕ
  there : bytes_at s name.path ≡ Some file
  is : first ≡ whole_for_key asked.kind wanted asked.form asked.asking (file_head asked.form name) file

abbrev telling : ReviewAsked → List ℕ → Telling NameSeen KeyReview
telling asked wanted = telling_key_review wanted asked.kind asked.form asked.asking

no-fault : (fault : FileFault) → ◌≡◌ {A = Option FileFault} (Some fault) None → ⊥
no-fault fault e = cc

wanted-by : (asked : ReviewAsked) (wanted : List ℕ) (name : NameSeen) (s : SourceState) (first : KeyReview) (given : Result (List ℕ) UnreadCause) → given_at s name.path ≡ given
    → first ≡ (telling asked wanted).of_bytes name given → first.file.fault ≡ None → WantedAs asked wanted name s first
wanted-by asked wanted name s first (Err cause) there is whole = absurd (no-fault (Unread cause) (sym (ap (λ (x : KeyReview). x.file.fault) is) ∙ whole))
wanted-by asked wanted name s first (Ok file) there is whole = record {
  file = file;
  there = ap bytes_of there;
  is = is ∙ without-fault asked.kind wanted asked (file_head asked.form name) file (sym (ap (λ (x : KeyReview). x.file.fault) is) ∙ whole);
}

wanted-as : (asked : ReviewAsked) (wanted : List ℕ) (name : NameSeen) (s m : SourceState) (first : KeyReview) → TellsFile (telling asked wanted) name s (Some m) first → first.file.fault ≡ None → WantedAs asked wanted name s first
wanted-as asked wanted name s m first (keeps, inl (failed, is)) whole = absurd (no-fault (Unread (cause_at s name.path)) (sym (ap (λ (x : KeyReview). x.file.fault) is) ∙ whole))
wanted-as asked wanted name s m first (keeps, inr (unfailed, end, is)) whole = wanted-by asked wanted name s first (given_at s name.path) refl is whole

few-failures : (asked : ReviewAsked) (wanted : List ℕ) (name : NameSeen) (s m : SourceState) (first : KeyReview) → TellsFile (telling asked wanted) name s (Some m) first → m.failures ≤ s.failures + 1
few-failures asked wanted name s m first (keeps, inl (failed, is)) = let one : m.failures ≡ s.failures + 1 = failed.0 in omega (arith, one)
few-failures asked wanted name s m first (keeps, inr (unfailed, end, is)) = let same : m.failures ≡ s.failures = unfailed in omega (arith, same)

holds : (kind : ReviewKind) (wanted : List ℕ) (asked : ReviewAsked) (name file : List ℕ) → (whole_for_key kind wanted asked.form asked.asking name file).stands ≡ true → StandsIn kind wanted file
holds Auth wanted asked name file h = key-stands wanted asked.form asked.asking name file h
holds Known wanted asked name file h = host-key-stands wanted asked.form asked.asking name file h

holds-none : (kind : ReviewKind) (wanted : List ℕ) (asked : ReviewAsked) (name file : List ℕ) → (whole_for_key kind wanted asked.form asked.asking name file).stands ≡ false → StandsNowhereIn kind wanted file
holds-none Auth wanted asked name file h = key-nowhere wanted asked.form asked.asking name file h
holds-none Known wanted asked name file h = host-key-nowhere wanted asked.form asked.asking name file h

-- ---- all files

-- the text of these files follows what was printed so far, and the key stands so far or in one of them
record Printed (sofar reported : KeyLines) (rest : List ℕ) (stands : Bool) : Type 0 where
  text : reported.lines.text ≡ sofar.lines.text ++ rest
  standing : reported.stands ≡ (sofar.stands || stands)
  faultless : sofar.lines.total.faults ≡ 0

-- each of the files was reviewed without a fault, this text is printed of them, and the key stands in one of them or not
abbrev EachWanted : ReviewAsked → List ℕ → List NameSeen → SourceState → List ℕ → Bool → Type 0
EachWanted asked wanted [] s rest stands = (rest ≡ []) × (stands ≡ false)
EachWanted asked wanted (name ∷ names) s rest stands =
    (first : KeyReview) × WantedAs asked wanted name s first
    × ((m : SourceState) × (more : List ℕ) × (others : Bool) × KeepsOthers name.path s (Some m) × (rest ≡ first.file.text ++ more) × (stands ≡ (first.stands || others))
    × EachWanted asked wanted names m more others)

or-none : (b : Bool) → b ≡ (b || false)
or-none true = refl
or-none false = refl

or-assoc : (a b c : Bool) → ((a || b) || c) ≡ (a || (b || c))
or-assoc true b c = refl
or-assoc false b c = refl

each-wanted : (asked : ReviewAsked) (wanted : List ℕ) (sofar : KeyLines) (names : List NameSeen) (s : SourceState) (t : Option SourceState) (reported : KeyLines)
    → s.failures + length names < most_failures → TellsFiles with_key_file (telling asked wanted) sofar names s t reported → reported.lines.total.faults ≡ 0
    → (rest : List ℕ) × (stands : Bool) × Printed sofar reported rest stands × EachWanted asked wanted names s rest stands
each-wanted asked wanted sofar [] s t reported room (unfailed, is) none = (
  [],
  false,
  record {
    text = ap (λ (x : KeyLines). x.lines.text) is ∙ sym (append-nil sofar.lines.text);
    standing = ap (λ (x : KeyLines). x.stands) is ∙ or-none sofar.stands;
    faultless = sym (ap (λ (x : KeyLines). x.lines.total.faults) is) ∙ none;
  },
  (refl, refl),
)
each-wanted asked wanted sofar (name ∷ names) s t reported room (m, first, one, more) none =
    let few = few-failures asked wanted name s m first one in
    let left : m.failures + length names < most_failures = omega (arith, room, few) in
    let (rest, others, printed, each) = each-wanted asked wanted (with_key_file sofar first) names m t reported left (more (omega (arith, left))) none in
    let (before, here) = none-counted sofar.lines.total.faults (fault_count first.file.fault) printed.faultless in
    let whole = some-faults first.file.fault here in (
      first.file.text ++ rest,
      first.stands || others,
      record {
        text = printed.text ∙ append_assoc sofar.lines.text first.file.text rest;
        standing = printed.standing ∙ or-assoc sofar.stands first.stands others;
        faultless = before;
      },
      (first, wanted-as asked wanted name s m first one whole, (m, rest, others, one.0, refl, refl, each)),
    )

prints-each : (asked : ReviewAsked) (wanted text before after : List ℕ) (names : List NameSeen) (s : SourceState) (rest : List ℕ) (stands : Bool) → EachWanted asked wanted names s rest stands
    → text ≡ before ++ (rest ++ after) → PrintsKeyReviews asked wanted text names s
prints-each asked wanted text before after [] s rest stands h is = tt
prints-each asked wanted text before after (name ∷ names) s rest stands (first, found, (m, more, others, keeps, are, standing, each)) is =
    let parts : text ≡ before ++ (first.file.text ++ (more ++ after)) = is ∙ ap (λ (x : List ℕ). before ++ (x ++ after)) are ∙ ap (λ (x : List ℕ). before ++ x) (append_assoc first.file.text more after) in
    let later : text ≡ (before ++ first.file.text) ++ (more ++ after) = parts ∙ sym (append_assoc before first.file.text (more ++ after)) in
    let part = subst (λ (x : KeyReview). IsPartOf x.file.text text) found.is (before, more ++ after, parts) in
    ((found.file, found.there, part), (m, keeps, prints-each asked wanted text (before ++ first.file.text) after names m more others each later))

none-of : (a b : Bool) → false ≡ (a || b) → (a ≡ false) × (b ≡ false)
none-of true b h = cc
none-of false b h = (refl, sym h)

nowhere-in : (asked : ReviewAsked) (wanted : List ℕ) (names : List NameSeen) (s : SourceState) (rest : List ℕ) (stands : Bool) → EachWanted asked wanted names s rest stands → stands ≡ false
    → EachFile (StandsNowhereIn asked.kind wanted) (map (λ name. name.path) names) s
nowhere-in asked wanted [] s rest stands h none = tt
nowhere-in asked wanted (name ∷ names) s rest stands (first, found, (m, more, others, keeps, are, standing, each)) none =
    let (here, later) = none-of first.stands others (sym none ∙ standing) in
    let not_here = sym (ap (λ (x : KeyReview). x.stands) found.is) ∙ here in
    ((found.file, found.there, holds-none asked.kind wanted asked (file_head asked.form name) found.file not_here), (m, keeps, nowhere-in asked wanted names m more others each later))

stands-in : (asked : ReviewAsked) (wanted : List ℕ) (names : List NameSeen) (s : SourceState) (rest : List ℕ) (stands : Bool) → EachWanted asked wanted names s rest stands → stands ≡ true
    → SomeFile (StandsIn asked.kind wanted) (map (λ name. name.path) names) s
stands-in asked wanted [] s rest stands h some = (let no : true ≡ false = sym some ∙ h.1 in cc)
stands-in asked wanted (name ∷ names) s rest stands (first, found, (m, more, others, keeps, are, standing, each)) some =
    by first.stands refl (sym standing ∙ some) (stands-in asked wanted names m more others each)
  where
    by : (b : Bool) → first.stands ≡ b → (b || others) ≡ true → (others ≡ true → SomeFile (StandsIn asked.kind wanted) (map (λ name. name.path) names) m) → SomeFile (StandsIn asked.kind wanted) (map (λ name. name.path) (name ∷ names)) s
    by true is e later = inl (found.file, found.there, holds asked.kind wanted asked (file_head asked.form name) found.file (sym (ap (λ (x : KeyReview). x.stands) found.is) ∙ is))
    by false is e later = inr (m, keeps, later e)

-- ---- a response

status-faultless : (total : Total) (stands : Bool) → key_status total stands < 2 → total.faults ≡ 0
status-faultless total stands few = by (nat_lt 0 total.faults) refl few
  where
    by : (some : Bool) → nat_lt 0 total.faults ≡ some → cond some 2 (cond stands 1 0) < 2 → total.faults ≡ 0
    by true is few = absurd (omega (arith, few))
    by false is few = let none = ltb-false 0 total.faults is in omega (arith, none)

status-nowhere : (total : Total) (stands : Bool) → key_status total stands ≡ 0 → stands ≡ false
status-nowhere total stands h = by (nat_lt 0 total.faults) stands h
  where
    by : (some stands : Bool) → ◌≡◌ {A = ℕ} (cond some 2 (cond stands 1 0)) 0 → stands ≡ false
    by true stands e = absurd (omega (arith, e))
    by false true e = absurd (omega (arith, e))
    by false false e = refl

status-stands : (total : Total) (stands : Bool) → key_status total stands ≡ 1 → stands ≡ true
status-stands total stands h = by (nat_lt 0 total.faults) stands h
  where
    by : (some stands : Bool) → ◌≡◌ {A = ℕ} (cond some 2 (cond stands 1 0)) 1 → stands ≡ true
    by true stands e = absurd (omega (arith, e))
    by false true e = refl
    by false false e = absurd (omega (arith, e))

-- what the files come to, by the status
record Found (asked : ReviewAsked) (wanted : List ℕ) (s : SourceState) (r : Response) : Type 0 where
  reviews : PrintsKeyReviews asked wanted r.text asked.names s
  nowhere : r.status ≡ 0 → EachFile (StandsNowhereIn asked.kind wanted) (map (λ name. name.path) asked.names) s
  stands : r.status ≡ 1 → SomeFile (StandsIn asked.kind wanted) (map (λ name. name.path) asked.names) s

found-of : (asked : ReviewAsked) (wanted : List ℕ) (s : SourceState) (t : Option SourceState) (r : Response) → s.failures + length asked.names < most_failures
    → SeeksKey asked.kind asked.form asked.rule asked.asking asked.names wanted s t r → r.status < 2 → Found asked wanted s r
found-of asked wanted s t r room (inr (reported, front, is)) few = let two : r.status ≡ 2 = status-of r _ is in absurd (omega (arith, two, few))
found-of asked wanted s t r room (inl (reported, chain, is)) few =
    let status = status-of r _ is in
    let none = status-faultless reported.lines.total reported.stands (omega (arith, status, few)) in
    let (rest, stands, printed, each) = each-wanted asked wanted (key_lines_before asked.form) asked.names s t reported room chain none in
    let whole : r.text ≡ first_lines asked.form ++ (rest ++ total_line asked.form (kind_name asked.kind) asked.rule asked.asking reported.lines.total) = ap (λ (x : Response). x.text) is ∙ ap (λ (x : List ℕ). x ++ total_line asked.form (kind_name asked.kind) asked.rule asked.asking reported.lines.total) printed.text ∙ append_assoc (first_lines asked.form) rest (total_line asked.form (kind_name asked.kind) asked.rule asked.asking reported.lines.total) in
    let standing : reported.stands ≡ stands = printed.standing in
    record {
      reviews = prints-each asked wanted r.text (first_lines asked.form) (total_line asked.form (kind_name asked.kind) asked.rule asked.asking reported.lines.total) asked.names s rest stands each whole;
      nowhere = λ done. nowhere-in asked wanted asked.names s rest stands each (sym standing ∙ status-nowhere reported.lines.total reported.stands (sym status ∙ done));
      stands = λ done. stands-in asked wanted asked.names s rest stands each (sym standing ∙ status-stands reported.lines.total reported.stands (sym status ∙ done));
    }

-- ---- the key

-- the fingerprint that the value gives, and what the files come to then
record GivenKey (asked : ReviewAsked) (key : List ℕ) (s : SourceState) (r : Response) : Type 0 where
  fingerprint : List ℕ
  left : SourceState
  gives : GivesBy (is_fingerprint key) key s fingerprint left
  found : Found asked fingerprint left r

print-faulty : (read : Result Offered ShowError) → IsFaulty (or_key_fault read)
print-faulty (Ok offer) = none-faulty (offer_print offer)
print-faulty (Err (show.Line cause)) = or-faulty None (show_fault_response (show.Line cause)) refl
print-faulty (Err (show.Cert e)) = or-faulty None (show_fault_response (show.Cert e)) refl
print-faulty (Err (show.Body e)) = or-faulty None (show_fault_response (show.Body e)) refl
print-faulty (Err show.Memory) = or-faulty None (show_fault_response show.Memory) refl

file-faulty : (key : List ℕ) (bytes : Option (List ℕ)) → IsFaulty (fingerprint_or_fault key bytes)
file-faulty key None = or-faulty None (no_file_response key) refl
file-faulty key (Some file) = print-faulty (shown_offer_in file)

spelled-faulty : (key : List ℕ) → IsFaulty (spelled_fingerprint key)
spelled-faulty key = fault-faulty option.Key (option_map digest_text_of (fingerprint_bytes key))

by-spelled : (asked : ReviewAsked) (key : List ℕ) (s : SourceState) (t : Option SourceState) (r : Response) → is_fingerprint key ≡ true → s.failures + length asked.names < most_failures
    → (wanted : Result (List ℕ) Response) → spelled_fingerprint key ≡ wanted → RespondsTo (SeeksKey asked.kind asked.form asked.rule asked.asking asked.names) wanted s t r → r.status < 2 → GivenKey asked key s r
by-spelled asked key s t r is room (Err fault) spelled (unfailed, same) few =
    let two = spelled-faulty key fault spelled in
    let reported = status-of r fault same in
    absurd (omega (arith, two, reported, few))
by-spelled asked key s t r is room (Ok wanted) spelled h few = record {
  fingerprint = wanted;
  left = s;
  gives = subst (λ (b : Bool). GivesBy b key s wanted s) (sym is) (spelled, refl);
  found = found-of asked wanted s t r room h few;
}

of-file : (asked : ReviewAsked) (key : List ℕ) (s m : SourceState) (t : Option SourceState) (r : Response) → is_fingerprint key ≡ false → m.failures + length asked.names < most_failures → KeepsOthers key s (Some m)
    → (wanted : Result (List ℕ) Response) → fingerprint_or_fault key (within_limit (bytes_at s key)) ≡ wanted → RespondsTo (SeeksKey asked.kind asked.form asked.rule asked.asking asked.names) wanted m t r → r.status < 2
    → GivenKey asked key s r
of-file asked key s m t r is room keeps (Err fault) printed (unfailed, same) few =
    let two = file-faulty key (within_limit (bytes_at s key)) fault printed in
    let reported = status-of r fault same in
    absurd (omega (arith, two, reported, few))
of-file asked key s m t r is room keeps (Ok wanted) printed h few = record {
  fingerprint = wanted;
  left = m;
  gives = subst (λ (b : Bool). GivesBy b key s wanted m) (sym is) (printed, keeps);
  found = found-of asked wanted m t r room h few;
}

by-file : (asked : ReviewAsked) (key : List ℕ) (s : SourceState) (t : Option SourceState) (r : Response) → is_fingerprint key ≡ false → s.failures + length asked.names < most_failures
    → SeeksKeyOfFile asked.kind asked.form asked.rule asked.asking asked.names key s t r → r.status < 2 → GivenKey asked key s r
by-file asked key s t r is room (inl (failed, same)) few = let two = status-of r _ same in absurd (omega (arith, two, few))
by-file asked key s t r is room (inr (m, keeps, none, end, h)) few =
    let same : m.failures ≡ s.failures = none in
    of-file asked key s m t r is (omega (arith, room, same)) keeps (fingerprint_or_fault key (within_limit (bytes_at s key))) refl h few

given-by : (asked : ReviewAsked) (key : List ℕ) (s : SourceState) (t : Option SourceState) (r : Response) (spelled : Bool) → is_fingerprint key ≡ spelled → s.failures + length asked.names < most_failures
    → SeeksBy spelled asked.kind asked.form asked.rule asked.asking asked.names key s t r → r.status < 2 → GivenKey asked key s r
given-by asked key s t r true is room h few = by-spelled asked key s t r is room (spelled_fingerprint key) refl h few
given-by asked key s t r false is room h few = by-file asked key s t r is room h few

-- ---- a run

-- what the options ask, and what came of it
record WantedRun (rows : List Row) (key : List ℕ) (s : SourceState) (r : Response) : Type 0 where
  zone : Option TimeZone
  read : ReadsZone (review_rule rows) zone
  asked : ReviewAsked
  spelled : review_spelled rows zone ≡ Ok (in_lines asked)
  given_key : GivenKey asked key s r

wanted-in : (rows : List Row) (names : List (List ℕ)) (key : List ℕ) (zone : Option TimeZone) (s : SourceState) (t : Option SourceState) (r : Response) → names_needed rows ≡ Ok names
    → s.failures + length names < most_failures → ReadsZone (review_rule rows) zone → AsksForKey rows key
    → (x : Result ReviewCall Response) → review_spelled rows zone ≡ x → RespondsTo (λ q. ReviewsAs q.form (Some key) q.kind q.failing q.rule q.asking q.names) x s t r → r.status < 2 → WantedRun rows key s r
wanted-in rows names key zone s t r named room read for_key (Err fault) spelled (unfailed, is) few =
    let two = review-faulty rows zone fault spelled in
    let same = status-of r fault is in
    absurd (omega (arith, two, same, few))
wanted-in rows names key zone s t r named room read for_key (Ok q) spelled h few =
    let (words, needed, as_many) = review-names rows zone q spelled in
    let are = ok-same {A = List (List ℕ)} {B = Response} names words (sym named ∙ needed) in
    let (show, form, is, asked) = asks-key rows zone q key for_key spelled in
    let a : ReviewAsked = record { kind = q.kind; show = show; form = form; failing = q.failing; rule = q.rule; asking = q.asking; names = q.names } in
    record {
      zone = zone;
      read = read;
      asked = a;
      spelled = asked;
      given_key = given-by a key s t r (is_fingerprint key) refl (subst (λ (n : ℕ). s.failures + n < most_failures) (ap length are ∙ sym as_many) room)
          (subst (λ (x : FormAsked). ReviewsAs x (Some key) q.kind q.failing q.rule q.asking q.names s t r) is h) few;
    }

reported-of : (rows : List Row) (key : List ℕ) (s : SourceState) (r : Response) → WantedRun rows key s r → KeyWanted rows key s r
reported-of rows key s r h = record {
  zone = h.zone;
  read = h.read;
  asked = h.asked;
  spelled = h.spelled;
  fingerprint = h.given_key.fingerprint;
  left = h.given_key.left;
  gives = h.given_key.gives;
  reviews = h.given_key.found.reviews;
}

pub key_nowhere_run : (words : List (List ℕ)) (o t : Option SourceState) (old new : Option Account) (status : ℕ) → IfTells o (Answered words t old new status)
    → IfTells o (λ s. (rows : List Row) (names : List (List ℕ)) (key : List ℕ) → AsksOfFiles command.Review words s rows names → AsksForKey rows key → status ≡ 0
    → (r : Response) × KeyNowhere rows key (source_of words s) r × WritesResponse old new r status)
unfolding reported-of wanted-in
key_nowhere_run words None t old new status h = tt
key_nowhere_run words (Some s) t old new status h = λ room rows names key asks for_key is.
    let (r, answers, writes) = h room in
    let done = ends-as 0 (omega arith) old new r status writes is in
    let few : r.status < 2 = omega (arith, done) in
    let (zone, read, by) = asked-run command.Review words s t r rows asks.request answers few in
    let run = wanted-in rows names key zone (source_of words s) t r asks.named asks.room read for_key (review_spelled rows zone) refl
    (subst (λ (k : Option (List ℕ)). RespondsTo (λ q. ReviewsAs q.form k q.kind q.failing q.rule q.asking q.names) (review_spelled rows zone) (source_of words s) t r) for_key by) few in
    (r, record { wanted = reported-of rows key (source_of words s) r run; nowhere = run.given_key.found.nowhere done }, writes)

pub key_standing_run : (words : List (List ℕ)) (o t : Option SourceState) (old new : Option Account) (status : ℕ) → IfTells o (Answered words t old new status)
    → IfTells o (λ s. (rows : List Row) (names : List (List ℕ)) (key : List ℕ) → AsksOfFiles command.Review words s rows names → AsksForKey rows key → status ≡ 1
    → (r : Response) × KeyStanding rows key (source_of words s) r × WritesResponse old new r status)
unfolding reported-of wanted-in
key_standing_run words None t old new status h = tt
key_standing_run words (Some s) t old new status h = λ room rows names key asks for_key is.
    let (r, answers, writes) = h room in
    let done = ends-as 1 (omega arith) old new r status writes is in
    let few : r.status < 2 = omega (arith, done) in
    let (zone, read, by) = asked-run command.Review words s t r rows asks.request answers few in
    let run = wanted-in rows names key zone (source_of words s) t r asks.named asks.room read for_key (review_spelled rows zone) refl
    (subst (λ (k : Option (List ℕ)). RespondsTo (λ q. ReviewsAs q.form k q.kind q.failing q.rule q.asking q.names) (review_spelled rows zone) (source_of words s) t r) for_key by) few in
    (r, record { wanted = reported-of rows key (source_of words s) r run; stands = run.given_key.found.stands done }, writes)
