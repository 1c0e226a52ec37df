-- A run of `rewrite`, `readable`, `hash` or `review` that ends without a fault printed a file that keeps the decisions, or those
-- of the entries that are kept, or the reviews of all files.
use Rattle.ssh_program.proofs.Imports.{◌≡◌, ◌<◌, ◌≤◌, ◌+◌, ◌++◌, ◌∙◌, ◌^◌, cond, ℕ, zero, suc, Bool, true, false, List, [], ◌∷◌, length, take, drop, ◌*◌, ◌/◌, ◌%◌, Option, Some, None, Result, Ok, Err, ap, subst, sym, refl, inl, inr, arith, nat_lt, Row, TimeZone, Response, no_file_response, IfTells, SourceState, bytes_at, most_failures, within_limit, number_below, ReadsZone, Account, WritesResponse, Answers, RespondsBy, source_of, RespondsTo, needed, or_fault, value, value_or, file_limit, after_whole, salts_or_fault, salts_in, KeepsOthers, TellsFile, TellsFiles}
use Rattle.std.proofs.lemmas.Bool.{ltb-false}
use Rattle.std.proofs.lemmas.List.{append-nil, append_assoc, length-take-le, length-drop}
use Rattle.std.specs.List.{AllByRecursion}
use Rattle.std.specs.Prelude.{◌==◌, if◌then◌else◌}
use Rattle.std.specs.Option.{ok_or}
use Rattle.std.specs.Simd.{first_chunks}
use Rattle.ssh_entries.proofs.ByteLemmas.{IsBytes-from_all}
use Rattle.ssh_entries.specs.Names.{IsTwentyBytes}
use Rattle.ssh_findings.specs.Codes.{codes_in, default_codes}
use Rattle.ssh_offers.specs.FirstRefusal.{AreBytes}
use Rattle.ssh_rewriting.specs.Answer.{as_hash_error, hashed, rewritten}
use Rattle.ssh_rewriting.specs.CanonicalFile.{canonical_auth_file, canonical_known_file}
use Rattle.ssh_rewriting.specs.declared.hash.HashError.{HashError}
use Rattle.ssh_rewriting.specs.declared.hash.HashError.TheVariants as hashing
use Rattle.ssh_rewriting.specs.declared.rewrite.RewriteError.{RewriteError}
use Rattle.ssh_rewriting.specs.declared.rewrite.RewriteError.TheVariants as rewriting
use Rattle.ssh_trust.specs.Answer.{host_answer, login_answer}
use Rattle.ssh_files.specs.FilesInTurn.{Telling}
use Rattle.ssh_files.specs.Salts.{salts_of}
use Rattle.ssh_review.proofs.GrantLemmas.{hashed-adds_none, hashed-unreadable_revocation, hashed-keeps, hashed-premises, hashed-revoked}
use Rattle.ssh_review.proofs.HostListingLemmas.{trusted}
use Rattle.ssh_review.proofs.ListingLemmas.{listed}
use Rattle.ssh_review.proofs.ReadableDecisionLemmas.{readable-answers, readable-grants}
use Rattle.ssh_review.proofs.RewritingLemmas.{host-rewritten, login-rewritten}
use Rattle.ssh_review.specs.HostReviews.{host_whole_review, known_review}
use Rattle.ssh_review.specs.Readable.{readable_file}
use Rattle.ssh_review.specs.Reviews.{Review, auth_review, fault_review, whole_review}
use Rattle.ssh_files.specs.declared.files.UnreadCause.{UnreadCause}
use Rattle.ssh_files.specs.SourceState.{bytes_of, cause_at, given_at}
use Rattle.ssh_review.specs.FileNames.{NameSeen, file_head}
use Rattle.ssh_program.specs.Namings.{names_asked}
use Rattle.ssh_program.proofs.NamingLemmas.{listed-faulty, listed-many}
use Rattle.ssh_review.specs.declared.end.FileFault.{FileFault}
use Rattle.ssh_review.specs.declared.end.FileFault.TheVariants.{TooLong, Unread}
use Rattle.ssh_review.specs.declared.end.Total.{Total}
use Rattle.ssh_review.specs.Forms.{first_lines, total_line}
use Rattle.ssh_review.specs.ShownRecords.{shown_auth_review, shown_known_review}
use Rattle.ssh_review.specs.declared.show.Show.{Show}
use Rattle.ssh_review.specs.declared.show.Show.TheVariants.{All}
use Rattle.ssh_review.proofs.ShownRecordLemmas.{shown-all-auth, shown-all-known}
use Rattle.ssh_print.specs.Responses.{usage_response}
use Rattle.clap.specs.Words.{Text as Word}
use Rattle.ssh_program.specs.declared.args.ArgName.TheVariants as option
use Rattle.ssh_program.specs.declared.review.ReviewKind.{ReviewKind}
use Rattle.ssh_program.specs.declared.review.ReviewKind.TheVariants.{Auth, Known}
use Rattle.ssh_program.specs.declared.rewriting.NewFile.{NewFile}
use Rattle.ssh_program.specs.declared.rewriting.NewFile.TheVariants.{CanonicalAuth, CanonicalKnown, ReadableAuth}
use Rattle.ssh_program.specs.declared.subcommand.Subcommand.{Subcommand}
use Rattle.ssh_program.specs.declared.subcommand.Subcommand.TheVariants as command
use Rattle.ssh_program.specs.FileReviews.{FileReport, Lines, ReviewsFiles, kind_name, lines_before, review_of, telling_review, report_of, with_file}
use Rattle.ssh_program.specs.FileRuns.{AnswersHosts, AnswersKept, AnswersLogins, AsksLines, AsksNoKey, AsksWith, FileHashed, FileReadable, FileRewritten, FilesReviewed, GrantsKept, IsPartOf, KeepsGrants, PrintsReview, PrintsReviews, ShowsAll}
use Rattle.ssh_program.specs.Hashings.{Hashes, hashed_over}
use Rattle.ssh_program.specs.KeyRuns.{AsksOfFiles}
use Rattle.ssh_program.specs.Rewritings.{RewritesFile, new_file, new_response, rewrite_kind, rewrite_over}
use Rattle.ssh_findings.specs.declared.code.Code.{Code}
use Rattle.ssh_program.specs.ReviewFails.{are_reported, failing_asked, failing_by, fails_by}
use Rattle.ssh_program.specs.ReviewZones.{review_rule}
use Rattle.ssh_program.specs.ReviewForms.{FormAsked, asks_page, review_form}
use Rattle.ssh_program.specs.Spelled.{ReviewAsked, ReviewCall, ReviewsAs, review_kind_of, review_spelled, usual_minimum}
use Rattle.ssh_program.specs.Spelling.{given, names_needed, names_given}
use Rattle.ssh_program.specs.Totals.{counted, fault_count, total_status}
use Rattle.ssh_program.proofs.GrantedRunLemmas.{Answered, IsFaulty, ends-as, fault-faulty, needed-faulty, none-faulty, optional-faulty, or-faulty, responds-to, status-of, step-faulty, value-faulty}
use Rattle.ssh_program.proofs.ReviewFormLemmas.{asks-lines, form-faulty}
use Rattle.ssh_program.proofs.SpelledBytes.{ok-same, step-any, step-gives}

-- ---- `rewrite`

-- the new file was made, and was printed
record Made (made : Result (List ℕ) HashError) (r : Response) : Type 0 where
  new : List ℕ
  is : made ≡ Ok new
  printed : r.text ≡ new

made-by : (made : Result (List ℕ) HashError) (r : Response) → r ≡ new_response made → r.status ≡ 0 → Made made r
made-by (Ok new) r is done = record { new = new; is = refl; printed = ap (λ (x : Response). x.text) is }
made-by (Err hashing.TooLong) r is done = let two = status-of r _ is in absurd (omega (arith, two, done))
made-by (Err hashing.TooFewSalts) r is done = let two = status-of r _ is in absurd (omega (arith, two, done))
made-by (Err hashing.Memory) r is done = let two = status-of r _ is in absurd (omega (arith, two, done))

-- the file is there, and the new file of its bytes was printed
record MadeOf (made : List ℕ → Result (List ℕ) HashError) (bytes : Option (List ℕ)) (r : Response) : Type 0 where
  file : List ℕ
  there : bytes ≡ Some file
  written : Made (made file) r

made-over : (made : List ℕ → Result (List ℕ) HashError) (bytes : Option (List ℕ)) (r : Response) → r ≡ rewrite_over made bytes → r.status ≡ 0 → MadeOf made bytes r
made-over made None r is done = let two = status-of r _ is in absurd (omega (arith, two, done))
made-over made (Some file) r is done = record { file = file; there = refl; written = made-by (made file) r is done }

made-of : (made : List ℕ → Result (List ℕ) HashError) (name : List ℕ) (s : SourceState) (t : Option SourceState) (r : Response)
    → RewritesFile made name s t r → r.status ≡ 0 → MadeOf made (bytes_at s name) r
made-of made name s t r (inl (unfailed, is)) done = made-over made (bytes_at s name) r is done
made-of made name s t r (inr (failed, is)) done = let two = status-of r _ is in absurd (omega (arith, two, done))

as-made : (x : Result (List ℕ) RewriteError) (new : List ℕ) → as_hash_error x ≡ Ok new → x ≡ Ok new
as-made (Ok y) new h = cc
as-made (Err e) new h = cc

answers-logins : (file text : List ℕ) (new : List ℕ) → as_hash_error (rewritten file (canonical_auth_file file)) ≡ Ok new → text ≡ new → AnswersLogins file text
answers-logins file text new made is bytes claim vouched =
    let (old, now) = login-rewritten file new claim vouched bytes (as-made (rewritten file (canonical_auth_file file)) new made) in
    ap (λ (x : List ℕ). login_answer x claim vouched) is ∙ now ∙ sym old

answers-hosts : (file text : List ℕ) (new : List ℕ) → as_hash_error (rewritten file (canonical_known_file file)) ≡ Ok new → text ≡ new → AnswersHosts file text
answers-hosts file text new made is bytes claim vouched =
    let (old, now) = host-rewritten file new claim vouched bytes (as-made (rewritten file (canonical_known_file file)) new made) in
    ap (λ (x : List ℕ). host_answer x claim vouched) is ∙ now ∙ sym old

rewritten-as : (rows : List Row) (s : SourceState) (r : Response) (kind : NewFile) (name : List ℕ) → value rewrite_kind option.Kind rows ≡ Ok kind → needed option.File rows ≡ Ok name
    → MadeOf (new_file kind) (bytes_at s name) r → FileRewritten rows s r
rewritten-as rows s r kind name is named m = record {
  name = name;
  named = named;
  file = m.file;
  there = m.there;
  logins = λ auth. answers-logins m.file r.text m.written.new (subst (λ (k : NewFile). new_file k m.file ≡ Ok m.written.new) (ok-same {A = NewFile} {B = Response} kind CanonicalAuth (sym is ∙ auth)) m.written.is) m.written.printed;
  hosts = λ known. answers-hosts m.file r.text m.written.new (subst (λ (k : NewFile). new_file k m.file ≡ Ok m.written.new) (ok-same {A = NewFile} {B = Response} kind CanonicalKnown (sym is ∙ known)) m.written.is) m.written.printed;
}

rewritten-named : (rows : List Row) (s : SourceState) (t : Option SourceState) (r : Response) (kind : NewFile) → value rewrite_kind option.Kind rows ≡ Ok kind
    → (name : Result (List ℕ) Response) → needed option.File rows ≡ name → RespondsTo (RewritesFile (new_file kind)) name s t r → r.status ≡ 0 → FileRewritten rows s r
rewritten-named rows s t r kind is (Err fault) named (unfailed, same) done =
    let two = needed-faulty option.File rows fault named in
    let reported = status-of r fault same in
    absurd (omega (arith, two, reported, done))
rewritten-named rows s t r kind is (Ok name) named h done = rewritten-as rows s r kind name is named (made-of (new_file kind) name s t r h done)

rewritten-by : (rows : List Row) (s : SourceState) (t : Option SourceState) (r : Response) (kind : Result NewFile Response) → value rewrite_kind option.Kind rows ≡ kind
    → RespondsTo (λ k. RespondsTo (RewritesFile (new_file k)) (needed option.File rows)) kind s t r → r.status ≡ 0 → FileRewritten rows s r
rewritten-by rows s t r (Err fault) is (unfailed, same) done =
    let two = value-faulty rewrite_kind option.Kind rows fault is in
    let reported = status-of r fault same in
    absurd (omega (arith, two, reported, done))
rewritten-by rows s t r (Ok kind) is h done = rewritten-named rows s t r kind is (needed option.File rows) refl h done

-- ---- `readable`

is-made : (file made new : List ℕ) → rewritten file made ≡ Ok new → new ≡ made
is-made file made new h = by (nat_lt file_limit (length file)) (nat_lt file_limit (length made)) h
  where
    by : (a b : Bool) → ◌≡◌ {A = Result (List ℕ) RewriteError} (cond a (Err rewriting.TooLong) (cond b (Err rewriting.TooLong) (Ok made))) (Ok new) → new ≡ made
    by true b e = cc
    by false true e = cc
    by false false e = cc

readable-text : (file text new : List ℕ) → as_hash_error (rewritten file (readable_file file)) ≡ Ok new → text ≡ new → text ≡ readable_file file
readable-text file text new made is = is ∙ is-made file (readable_file file) new (as-made (rewritten file (readable_file file)) new made)

readable-as : (rows : List Row) (s : SourceState) (r : Response) (name : List ℕ) → needed option.File rows ≡ Ok name
    → MadeOf (new_file ReadableAuth) (bytes_at s name) r → FileReadable rows s r
readable-as rows s r name named m =
    let is = readable-text m.file r.text m.written.new m.written.is m.written.printed in
    record {
      name = name;
      named = named;
      file = m.file;
      there = m.there;
      answers = subst (AnswersKept m.file) (sym is) (λ bytes claim vouched. readable-answers m.file claim vouched bytes);
      grants = subst (GrantsKept m.file) (sym is) (λ bytes claim vouched n rights reasons evidence. readable-grants m.file claim vouched n rights reasons evidence bytes);
    }

readable-named : (rows : List Row) (s : SourceState) (t : Option SourceState) (r : Response) (name : Result (List ℕ) Response) → needed option.File rows ≡ name
    → RespondsTo (RewritesFile (new_file ReadableAuth)) name s t r → r.status ≡ 0 → FileReadable rows s r
readable-named rows s t r (Err fault) named (unfailed, same) done =
    let two = needed-faulty option.File rows fault named in
    let reported = status-of r fault same in
    absurd (omega (arith, two, reported, done))
readable-named rows s t r (Ok name) named h done = readable-as rows s r name named (made-of (new_file ReadableAuth) name s t r h done)

-- ---- `hash`

are-twenty : (k : ℕ) (bytes : List ℕ) → AreBytes bytes → k * 20 ≤ length bytes → AllByRecursion IsTwentyBytes (first_chunks 20 k bytes)
are-twenty zero bytes h few = tt
are-twenty (suc k) bytes h few = (
  record { count = length-take-le 20 bytes (omega (arith, few)); bytes = IsBytes-from_all (take 20 bytes) (bytes-taken 20 bytes h) },
  let rest = length-drop 20 bytes in
      are-twenty k (drop 20 bytes) (bytes-dropped 20 bytes h) (omega (arith, few, rest)),
)
  where
    bytes-taken : (n : ℕ) (bytes : List ℕ) → AreBytes bytes → AreBytes (take n bytes)
    bytes-taken zero bytes h = tt
    bytes-taken (suc n) [] h = tt
    bytes-taken (suc n) (b ∷ bytes) h = (h.0, bytes-taken n bytes h.1)

    bytes-dropped : (n : ℕ) (bytes : List ℕ) → AreBytes bytes → AreBytes (drop n bytes)
    bytes-dropped zero bytes h = h
    bytes-dropped (suc n) [] h = tt
    bytes-dropped (suc n) (b ∷ bytes) h = bytes-dropped n bytes h.1

div-le : (n : ℕ) → (n / 20) * 20 ≤ n
div-le n = omega arith

salts-twenty : (bytes : List ℕ) (salts : List (List ℕ)) → AreBytes bytes → salts_of bytes ≡ Some salts → AllByRecursion IsTwentyBytes salts
salts-twenty bytes salts h is = by (length bytes % 20 == 0) is
  where
    by : (whole : Bool) → cond whole (Some (first_chunks 20 (length bytes / 20) bytes)) None ≡ Some salts → AllByRecursion IsTwentyBytes salts
    by true e =
        let same : first_chunks 20 (length bytes / 20) bytes ≡ salts = cc in
        subst (λ (x : List (List ℕ)). AllByRecursion IsTwentyBytes x) same (are-twenty (length bytes / 20) bytes h (div-le (length bytes)))
    by false e = cc

keeps-grants : (file text new : List ℕ) (salts : List (List ℕ)) → AreBytes file → AllByRecursion IsTwentyBytes salts → hashed file salts ≡ Ok new → text ≡ new → KeepsGrants file salts text
keeps-grants file text new salts bytes twenty made is =
    let (says, enough) = hashed-premises file new salts bytes twenty made in
    subst (KeepsGrants file salts) (sym is) (record {
      keeps = λ claim vouched. hashed-keeps file new salts claim vouched says enough;
      adds_none = λ claim vouched. hashed-adds_none file new salts claim vouched says;
      revoked = λ claim vouched. hashed-revoked file new salts claim vouched says;
      unreadable = λ claim vouched. hashed-unreadable_revocation file new salts claim vouched says;
    })

-- the salts of the file of this name
record Salted (name : List ℕ) (s : SourceState) (salts : List (List ℕ)) : Type 0 where
  salt_bytes : List ℕ
  there : within_limit (bytes_at s name) ≡ Some salt_bytes
  are : salts_of salt_bytes ≡ Some salts

salted-by : (name : List ℕ) (s : SourceState) (salts : List (List ℕ)) (bytes : Option (List ℕ)) → within_limit (bytes_at s name) ≡ bytes → salts_or_fault name bytes ≡ Ok salts → Salted name s salts
salted-by name s salts None is h = cc
salted-by name s salts (Some bytes) is h = record { salt_bytes = bytes; there = is; are = or-some (salts_of bytes) h }
  where
    or-some : (o : Option (List (List ℕ))) → ok_or o (no_file_response name) ≡ Ok salts → o ≡ Some salts
    or-some None e = cc
    or-some (Some x) e = cc

hashed-as : (rows : List Row) (s : SourceState) (r : Response) (name salts_name : List ℕ) (salts : List (List ℕ)) → needed option.File rows ≡ Ok name → needed option.Salts rows ≡ Ok salts_name
    → Salted salts_name s salts → MadeOf (λ file. hashed file salts) (bytes_at (after_whole s salts_name) name) r → FileHashed rows s r
hashed-as rows s r name salts_name salts named salts_named salted m = record {
  name = name;
  named = named;
  salts_name = salts_name;
  salts_named = salts_named;
  salt_bytes = salted.salt_bytes;
  salts_there = salted.there;
  salts = salts;
  are_salts = salted.are;
  file = m.file;
  there = m.there;
  grants = λ salt_bytes bytes. keeps-grants m.file r.text m.written.new salts bytes (salts-twenty salted.salt_bytes salts salt_bytes salted.are) m.written.is m.written.printed;
}

hashed-in : (rows : List Row) (s : SourceState) (r : Response) (name salts_name : List ℕ) → needed option.File rows ≡ Ok name → needed option.Salts rows ≡ Ok salts_name
    → (salts : Result (List (List ℕ)) Response) → salts_in salts_name s ≡ salts → r ≡ hashed_over name (after_whole s salts_name) salts → r.status ≡ 0 → FileHashed rows s r
hashed-in rows s r name salts_name named salts_named (Err fault) is same done =
    let two = salts-faulty salts_name (within_limit (bytes_at s salts_name)) fault is in
    let reported = status-of r fault same in
    absurd (omega (arith, two, reported, done))
  where
    salts-faulty : (name : List ℕ) (bytes : Option (List ℕ)) → IsFaulty (salts_or_fault name bytes)
    salts-faulty name None = or-faulty None (no_file_response name) refl
    salts-faulty name (Some bytes) = or-faulty (salts_of bytes) (no_file_response name) refl
hashed-in rows s r name salts_name named salts_named (Ok salts) is same done =
    hashed-as rows s r name salts_name salts named salts_named (salted-by salts_name s salts (within_limit (bytes_at s salts_name)) refl is)
    (made-over (λ file. hashed file salts) (bytes_at (after_whole s salts_name) name) r same done)

hashed-by : (rows : List Row) (s : SourceState) (t : Option SourceState) (r : Response) (name salts_name : List ℕ) → needed option.File rows ≡ Ok name → needed option.Salts rows ≡ Ok salts_name
    → Hashes name salts_name s t r → r.status ≡ 0 → FileHashed rows s r
hashed-by rows s t r name salts_name named salts_named (inl (unfailed, is)) done = hashed-in rows s r name salts_name named salts_named (salts_in salts_name s) refl is done
hashed-by rows s t r name salts_name named salts_named (inr (inl (is, failed))) done = let two = status-of r _ failed in absurd (omega (arith, two, done))
hashed-by rows s t r name salts_name named salts_named (inr (inr (salts, reported, fault))) done = let two = status-of r _ fault.1 in absurd (omega (arith, two, done))

hashed-salts : (rows : List Row) (s : SourceState) (t : Option SourceState) (r : Response) (name : List ℕ) → needed option.File rows ≡ Ok name
    → (salts : Result (List ℕ) Response) → needed option.Salts rows ≡ salts → RespondsTo (Hashes name) salts s t r → r.status ≡ 0 → FileHashed rows s r
hashed-salts rows s t r name named (Err fault) is (unfailed, same) done =
    let two = needed-faulty option.Salts rows fault is in
    let reported = status-of r fault same in
    absurd (omega (arith, two, reported, done))
hashed-salts rows s t r name named (Ok salts_name) is h done = hashed-by rows s t r name salts_name named is h done

hashed-file : (rows : List Row) (s : SourceState) (t : Option SourceState) (r : Response) (name : Result (List ℕ) Response) → needed option.File rows ≡ name
    → RespondsTo (λ trust. RespondsTo (Hashes trust) (needed option.Salts rows)) name s t r → r.status ≡ 0 → FileHashed rows s r
hashed-file rows s t r (Err fault) is (unfailed, same) done =
    let two = needed-faulty option.File rows fault is in
    let reported = status-of r fault same in
    absurd (omega (arith, two, reported, done))
hashed-file rows s t r (Ok name) is h done = hashed-salts rows s t r name is (needed option.Salts rows) refl h done

-- ---- `review`: one file

pub none-counted : (a b : ℕ) → counted a b ≡ 0 → (a ≡ 0) × (b ≡ 0)
none-counted a b h = (omega (arith, h), omega (arith, h))

pub some-faults : (f : Option FileFault) → fault_count f ≡ 0 → f ≡ None
some-faults None h = refl
some-faults (Some f) h = absurd (omega (arith, h))

-- a review without a fault is that of all lines
auth-whole : (asked : ReviewAsked) (name file : List ℕ) → (auth_review asked.form asked.asking name file).fault ≡ None
    → (auth_review asked.form asked.asking name file).text ≡ (whole_review asked.form asked.asking name file).text
auth-whole asked name file h = by (nat_lt file_limit (length file)) h
  where
    by : (long : Bool) → (cond long (fault_review asked.form name TooLong) (whole_review asked.form asked.asking name file)).fault ≡ None
        → (cond long (fault_review asked.form name TooLong) (whole_review asked.form asked.asking name file)).text ≡ (whole_review asked.form asked.asking name file).text
    by true e = cc
    by false e = refl

known-whole : (asked : ReviewAsked) (name file : List ℕ) → (known_review asked.form asked.asking name file).fault ≡ None
    → (known_review asked.form asked.asking name file).text ≡ (host_whole_review asked.form asked.asking name file).text
known-whole asked name file h = by (nat_lt file_limit (length file)) h
  where
    by : (long : Bool) → (cond long (fault_review asked.form name TooLong) (host_whole_review asked.form asked.asking name file)).fault ≡ None
        → (cond long (fault_review asked.form name TooLong) (host_whole_review asked.form asked.asking name file)).text ≡ (host_whole_review asked.form asked.asking name file).text
    by true e = cc
    by false e = refl

prints : (kind : ReviewKind) (asked : ReviewAsked) (name text file : List ℕ) → asked.show ≡ All → (review_of kind asked.show asked.form asked.asking name file).fault ≡ None
    → IsPartOf (review_of kind asked.show asked.form asked.asking name file).text text → PrintsReview kind asked name text file
prints Auth asked name text file all h part = (
  let same : review_of Auth asked.show asked.form asked.asking name file ≡ auth_review asked.form asked.asking name file = ap (λ (x : Show). shown_auth_review x asked.form asked.asking name file) all ∙ shown-all-auth asked.form asked.asking name file in
      subst (λ (x : List ℕ). IsPartOf x text) (auth-whole asked name file (sym (ap (λ (x : Review). x.fault) same) ∙ h)) (subst (λ (x : Review). IsPartOf x.text text) same part),
  λ bytes claim vouched n rights reasons evidence. listed asked.form asked.asking name file claim vouched n rights reasons evidence bytes,
)
prints Known asked name text file all h part = (
  let same : review_of Known asked.show asked.form asked.asking name file ≡ known_review asked.form asked.asking name file = ap (λ (x : Show). shown_known_review x asked.form asked.asking name file) all ∙ shown-all-known asked.form asked.asking name file in
      subst (λ (x : List ℕ). IsPartOf x text) (known-whole asked name file (sym (ap (λ (x : Review). x.fault) same) ∙ h)) (subst (λ (x : Review). IsPartOf x.text text) same part),
  λ bytes claim vouched n rights reasons evidence. trusted asked.form asked.asking name file claim vouched n rights reasons evidence bytes,
)

-- the file is there, and its review is this
record ReviewedAs (asked : ReviewAsked) (name : NameSeen) (s : SourceState) (first : FileReport) : Type 0 where
  file : List ℕ
  there : bytes_at s name.path ≡ Some file
  is : first ≡ report_of asked.kind asked.show asked.form asked.asking (file_head asked.form name) file

abbrev telling : ReviewAsked → Telling NameSeen FileReport
telling asked = telling_review asked.kind asked.show asked.form asked.asking

some-fault : (fault : FileFault) → ◌≡◌ {A = Option FileFault} (Some fault) None → ⊥
some-fault fault h = cc

reviewed-by : (asked : ReviewAsked) (name : NameSeen) (s : SourceState) (first : FileReport) (given : Result (List ℕ) UnreadCause) → given_at s name.path ≡ given
    → first ≡ (telling asked).of_bytes name given → first.fault ≡ None → ReviewedAs asked name s first
reviewed-by asked name s first (Err cause) there is whole = absurd (some-fault (Unread cause) (sym (ap (λ (x : FileReport). x.fault) is) ∙ whole))
reviewed-by asked name s first (Ok file) there is whole = record { file = file; there = ap bytes_of there; is = is }

reviewed-as : (asked : ReviewAsked) (name : NameSeen) (s m : SourceState) (first : FileReport) → TellsFile (telling asked) name s (Some m) first → first.fault ≡ None → ReviewedAs asked name s first
reviewed-as asked name s m first (keeps, inl (failed, is)) whole = absurd (some-fault (Unread (cause_at s name.path)) (sym (ap (λ (x : FileReport). x.fault) is) ∙ whole))
reviewed-as asked name s m first (keeps, inr (unfailed, end, is)) whole = reviewed-by asked name s first (given_at s name.path) refl is whole

few-failures : (asked : ReviewAsked) (name : NameSeen) (s m : SourceState) (first : FileReport) → TellsFile (telling asked) name s (Some m) first → m.failures ≤ s.failures + 1
few-failures asked name s m first (keeps, inl (failed, is)) = let one : m.failures ≡ s.failures + 1 = failed.0 in omega (arith, one)
few-failures asked name s m first (keeps, inr (unfailed, end, is)) = let same : m.failures ≡ s.failures = unfailed in omega (arith, same)

-- ---- all files

-- the text of these files follows what was printed so far
record Printed (sofar reported : Lines) (rest : List ℕ) : Type 0 where
  text : reported.text ≡ sofar.text ++ rest
  faultless : sofar.total.faults ≡ 0

-- each of the files was reviewed without a fault, and this text is printed of them
abbrev EachReviewed : ReviewAsked → List NameSeen → SourceState → List ℕ → Type 0
EachReviewed asked [] s rest = rest ≡ []
EachReviewed asked (name ∷ names) s rest =
    (first : FileReport) × ReviewedAs asked name s first × (first.fault ≡ None)
    × ((m : SourceState) × (more : List ℕ) × KeepsOthers name.path s (Some m) × (rest ≡ first.text ++ more) × EachReviewed asked names m more)

each-reviewed : (asked : ReviewAsked) (sofar : Lines) (names : List NameSeen) (s : SourceState) (t : Option SourceState) (reported : Lines)
    → s.failures + length names < most_failures → TellsFiles with_file (telling asked) sofar names s t reported → reported.total.faults ≡ 0
    → (rest : List ℕ) × Printed sofar reported rest × EachReviewed asked names s rest
each-reviewed asked sofar [] s t reported room (unfailed, is) none =
    ([], record { text = ap (λ (x : Lines). x.text) is ∙ sym (append-nil sofar.text); faultless = sym (ap (λ (x : Lines). x.total.faults) is) ∙ none }, refl)
each-reviewed asked sofar (name ∷ names) s t reported room (m, first, one, more) none =
    let few = few-failures asked name s m first one in
    let left : m.failures + length names < most_failures = omega (arith, room, few) in
    let (rest, printed, each) = each-reviewed asked (with_file sofar first) names m t reported left (more (omega (arith, left))) none in
    let (before, here) = none-counted sofar.total.faults (fault_count first.fault) printed.faultless in
    let whole = some-faults first.fault here in (
      first.text ++ rest,
      record { text = printed.text ∙ append_assoc sofar.text first.text rest; faultless = before },
      (first, reviewed-as asked name s m first one whole, whole, (m, rest, one.0, refl, each)),
    )

-- so each review is a part of the whole text
prints-each : (asked : ReviewAsked) (text before : List ℕ) (after : List ℕ) (names : List NameSeen) (s : SourceState) (rest : List ℕ) → asked.show ≡ All → EachReviewed asked names s rest
    → text ≡ before ++ (rest ++ after) → PrintsReviews asked text names s
prints-each asked text before after [] s rest all h is = tt
prints-each asked text before after (name ∷ names) s rest all (first, reviewed, whole, (m, more, keeps, are, each)) is =
    let parts : text ≡ before ++ (first.text ++ (more ++ after)) = is ∙ ap (λ (x : List ℕ). before ++ (x ++ after)) are ∙ ap (λ (x : List ℕ). before ++ x) (append_assoc first.text more after) in
    let later : text ≡ (before ++ first.text) ++ (more ++ after) = parts ∙ sym (append_assoc before first.text (more ++ after)) in
    let fault = sym (ap (λ (x : FileReport). x.fault) reviewed.is) ∙ whole in
    let part = subst (λ (x : FileReport). IsPartOf x.text text) reviewed.is (before, more ++ after, parts) in
    ((reviewed.file, reviewed.there, prints asked.kind asked (file_head asked.form name) text reviewed.file all fault part), (m, keeps, prints-each asked text (before ++ first.text) after names m more all each later))

-- ---- what the options spell

reported-faulty : (codes : List Code) (reported : Bool) → IsFaulty (if reported then Ok codes else Err usage_response)
reported-faulty codes true = none-faulty codes
reported-faulty codes false = or-faulty {A = List Code} None usage_response refl

failing-by-faulty : (reported : List Code) (text key : Option Word) → IsFaulty (failing_by reported text key)
failing-by-faulty reported None key = none-faulty reported
failing-by-faulty reported (Some text) (Some key) = or-faulty {A = List Code} None usage_response refl
failing-by-faulty reported (Some text) None =
    step-faulty _ _ (fault-faulty option.FailOn (codes_in text)) (λ codes. reported-faulty codes (are_reported reported codes))

failing-faulty : (reported : List Code) (rows : List Row) → IsFaulty (failing_asked reported rows)
failing-faulty reported rows = failing-by-faulty reported (given option.FailOn rows) (given option.Key rows)

pub review-faulty : (rows : List Row) (zone : Option TimeZone) → IsFaulty (review_spelled rows zone)
unfolding review_spelled
review-faulty rows zone =
    step-faulty _ _ (value-faulty review_kind_of option.Kind rows) (λ kind.
    step-faulty _ _ (value-faulty (number_below (2 ^ 64)) option.Now rows) (λ now.
    step-faulty _ _ (fault-faulty option.Zone zone) (λ zone.
    step-faulty _ _ (optional-faulty usual_minimum (number_below (2 ^ 32)) option.RsaMinimum rows) (λ rsa_minimum.
    step-faulty _ _ (optional-faulty default_codes codes_in option.Findings rows) (λ reported.
    step-faulty _ _ (form-faulty kind rows) (λ form.
    step-faulty _ _ (failing-faulty reported rows) (λ failing.
    step-faulty _ _ (or-faulty (names_given rows) _ refl) (λ words.
    step-faulty _ _ (listed-faulty rows words) (λ names. none-faulty _)))))))))

-- each word names a file
abbrev pub IsNamed : List Row → ReviewCall → Type 0
IsNamed rows a = (words : List (List ℕ)) × (names_needed rows ≡ Ok words) × (length a.names ≡ length words)

pub review-names : (rows : List Row) (zone : Option TimeZone) (a : ReviewCall) → review_spelled rows zone ≡ Ok a → IsNamed rows a
unfolding review_spelled
review-names rows zone =
    step-any (IsNamed rows) (value review_kind_of option.Kind rows) _ (λ kind.
    step-any (IsNamed rows) (value (number_below (2 ^ 64)) option.Now rows) _ (λ now.
    step-any (IsNamed rows) (or_fault option.Zone zone) _ (λ zone.
    step-any (IsNamed rows) (value_or usual_minimum (number_below (2 ^ 32)) option.RsaMinimum rows) _ (λ rsa_minimum.
    step-any (IsNamed rows) (value_or default_codes codes_in option.Findings rows) _ (λ reported.
    step-any (IsNamed rows) (review_form kind rows) _ (λ form.
    step-any (IsNamed rows) (failing_asked reported rows) _ (λ failing.
    step-gives (λ words. names_needed rows ≡ Ok words) (IsNamed rows) (names_needed rows) _ (λ words h. h) (λ words is.
    step-gives (λ names. length names ≡ length words) (IsNamed rows) (names_asked rows words) _ (listed-many rows words) (λ names many.
    λ a h. subst (IsNamed rows) (ok-same {A = ReviewCall} {B = Response} _ a h) (words, is, many))))))))))

-- ---- a response to `review`

pub faultless : (failing : List Code) (total : Total) → total_status failing total < 2 → total.faults ≡ 0
faultless failing total few = by (nat_lt 0 total.faults) refl few
  where
    by : (some : Bool) → nat_lt 0 total.faults ≡ some → cond some 2 (cond (fails_by failing total.counts.by_code) 1 0) < 2 → total.faults ≡ 0
    by true is few = absurd (omega (arith, few))
    by false is few = let none = ltb-false 0 total.faults is in omega (arith, none)

review-of : (asked : ReviewAsked) (s : SourceState) (t : Option SourceState) (r : Response) → s.failures + length asked.names < most_failures → asked.show ≡ All
    → ReviewsFiles asked.kind asked.show asked.failing asked.form asked.rule asked.asking asked.names s t r → r.status < 2 → PrintsReviews asked r.text asked.names s
review-of asked s t r room all (inr (reported, front, is)) few = let two : r.status ≡ 2 = status-of r _ is in absurd (omega (arith, two, few))
review-of asked s t r room all (inl (reported, chain, is)) few =
    let status = status-of r _ is in
    let none = faultless asked.failing reported.total (omega (arith, status, few)) in
    let (rest, printed, each) = each-reviewed asked (lines_before asked.form) asked.names s t reported room chain none in
    let whole : r.text ≡ first_lines asked.form ++ (rest ++ total_line asked.form (kind_name asked.kind) asked.rule asked.asking reported.total) = ap (λ (x : Response). x.text) is ∙ ap (λ (x : List ℕ). x ++ total_line asked.form (kind_name asked.kind) asked.rule asked.asking reported.total) printed.text ∙ append_assoc (first_lines asked.form) rest (total_line asked.form (kind_name asked.kind) asked.rule asked.asking reported.total) in
    prints-each asked r.text (first_lines asked.form) (total_line asked.form (kind_name asked.kind) asked.rule asked.asking reported.total) asked.names s rest all each whole

reviewed-in : (rows : List Row) (names : List (List ℕ)) (zone : Option TimeZone) (s : SourceState) (t : Option SourceState) (r : Response) → names_needed rows ≡ Ok names
    → s.failures + length names < most_failures → ReadsZone (review_rule rows) zone → asks_page rows ≡ false → ShowsAll rows
    → (x : Result ReviewCall Response) → review_spelled rows zone ≡ x → RespondsTo (λ q. ReviewsAs q.form None q.kind q.failing q.rule q.asking q.names) x s t r → r.status < 2 → FilesReviewed rows s r
reviewed-in rows names zone s t r named room read lines shows (Err fault) spelled (unfailed, is) few =
    let two = review-faulty rows zone fault spelled in
    let same = status-of r fault is in
    absurd (omega (arith, two, same, few))
reviewed-in rows names zone s t r named room read lines shows (Ok q) spelled h few =
    let (words, needed, as_many) = review-names rows zone q spelled in
    let are = ok-same {A = List (List ℕ)} {B = Response} names words (sym named ∙ needed) in
    let (show, form, is, shown, asked) = asks-lines rows zone q lines spelled in
    let all = ok-same {A = Show} {B = Response} show All (sym shown ∙ shows) in
    let a : ReviewAsked = record { kind = q.kind; show = show; form = form; failing = q.failing; rule = q.rule; asking = q.asking; names = q.names } in
    record {
      zone = zone;
      read = read;
      asked = a;
      spelled = asked;
      reviews = review-of a s t r (subst (λ (n : ℕ). s.failures + n < most_failures) (ap length are ∙ sym as_many) room) all
          (subst (λ (x : FormAsked). ReviewsAs x None q.kind q.failing q.rule q.asking q.names s t r) is h) few;
    }

-- ---- a run

pub asked-run : (subcommand : Subcommand) (words : List (List ℕ)) (s : SourceState) (t : Option SourceState) (r : Response) (rows : List Row) → AsksWith subcommand words s rows
    → Answers words s t r → r.status < 2 → RespondsBy (Some (record { subcommand = subcommand; rows = rows })) (source_of words s) t r
asked-run subcommand words s t r rows asks = responds-to words (Some (record { subcommand = subcommand; rows = rows })) s t r asks

pub file_rewritten_run : (words : List (List ℕ)) (o t : Option SourceState) (old new : Option Account) (status : ℕ) → IfTells o (Answered words t old new status)
    → IfTells o (λ s. (rows : List Row) → AsksWith command.Rewrite words s rows → status ≡ 0 → (r : Response) × FileRewritten rows (source_of words s) r × WritesResponse old new r status)
file_rewritten_run words None t old new status h = tt
file_rewritten_run words (Some s) t old new status h = λ room rows asks is.
    let (r, answers, writes) = h room in
    let done = ends-as 0 (omega arith) old new r status writes is in
    let by = asked-run command.Rewrite words s t r rows asks answers (omega (arith, done)) in
    (r, rewritten-by rows (source_of words s) t r (value rewrite_kind option.Kind rows) refl by done, writes)

pub file_readable_run : (words : List (List ℕ)) (o t : Option SourceState) (old new : Option Account) (status : ℕ) → IfTells o (Answered words t old new status)
    → IfTells o (λ s. (rows : List Row) → AsksWith command.Readable words s rows → status ≡ 0 → (r : Response) × FileReadable rows (source_of words s) r × WritesResponse old new r status)
file_readable_run words None t old new status h = tt
file_readable_run words (Some s) t old new status h = λ room rows asks is.
    let (r, answers, writes) = h room in
    let done = ends-as 0 (omega arith) old new r status writes is in
    let by = asked-run command.Readable words s t r rows asks answers (omega (arith, done)) in
    (r, readable-named rows (source_of words s) t r (needed option.File rows) refl by done, writes)

pub file_hashed_run : (words : List (List ℕ)) (o t : Option SourceState) (old new : Option Account) (status : ℕ) → IfTells o (Answered words t old new status)
    → IfTells o (λ s. (rows : List Row) → AsksWith command.Hash words s rows → status ≡ 0 → (r : Response) × FileHashed rows (source_of words s) r × WritesResponse old new r status)
file_hashed_run words None t old new status h = tt
file_hashed_run words (Some s) t old new status h = λ room rows asks is.
    let (r, answers, writes) = h room in
    let done = ends-as 0 (omega arith) old new r status writes is in
    let by = asked-run command.Hash words s t r rows asks answers (omega (arith, done)) in
    (r, hashed-file rows (source_of words s) t r (needed option.File rows) refl by done, writes)

pub few-as : (old new : Option Account) (r : Response) (status : ℕ) → WritesResponse old new r status → status < 2 → r.status < 2
few-as old new r status (inl (taken, same)) few = omega (arith, same, few)
few-as old new r status (inr (broken, two)) few = absurd (omega (arith, two, few))

pub files_reviewed_run : (words : List (List ℕ)) (o t : Option SourceState) (old new : Option Account) (status : ℕ) → IfTells o (Answered words t old new status)
    → IfTells o (λ s. (rows : List Row) (names : List (List ℕ)) → AsksOfFiles command.Review words s rows names → AsksNoKey rows → AsksLines rows → ShowsAll rows → status < 2
    → (r : Response) × FilesReviewed rows (source_of words s) r × WritesResponse old new r status)
files_reviewed_run words None t old new status h = tt
files_reviewed_run words (Some s) t old new status h = λ room rows names asks no_key lines shows is.
    let (r, answers, writes) = h room in
    let few = few-as old new r status writes is in
    let (zone, read, by) = asked-run command.Review words s t r rows asks.request answers few in
    let whole = subst (λ (k : Option (List ℕ)). RespondsTo (λ q. ReviewsAs q.form k q.kind q.failing q.rule q.asking q.names) (review_spelled rows zone) (source_of words s) t r) no_key by in
    (r, reviewed-in rows names zone (source_of words s) t r asks.named asks.room read lines shows (review_spelled rows zone) refl whole few, writes)
