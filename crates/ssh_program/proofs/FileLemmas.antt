-- From what a file gives to its review, whose text is written.
use Rattle.ssh_program.proofs.Imports.{◌≡◌, ◌∙◌, ◌≤◌, ◌++◌, ℕ, Bool, true, false, List, [], length, Option, Some, None, Result, Ok, Err, refl, sym, ap, subst, inl, inr, arith, lt-ltb, ltb-true, Account, Asking, TellsFile, IfTells, SourceState, bytes_at, after_whole, FailsLoad, IsLeft, IsTooLong, KeepsOthers, within_limit, ReadError, left-none, left-end, no-end, over_limit, TooLong, Form, AsLines, fault_review, ReviewKind, Auth, Known, review_of, telling_review, file_limit, lines_of}
use Rattle.std.specs.Prelude.{OnOk, nat_lt, if◌then◌else◌}
use Rattle.sha2.specs.Sha256.{sha256}
use Rattle.ssh_files.specs.declared.read.ReadError.TheVariants as read
use Rattle.ssh_text.specs.Text.{numbered}
use Rattle.ssh_review.specs.Forms.{end_line}
use Rattle.ssh_review.specs.HostLines.{host_counts_of}
use Rattle.ssh_review.specs.Lines.{counts_of}
use Rattle.ssh_review.specs.ShownRecords.{host_shown_whole_review, shown_end, shown_records, shown_whole_review}
use Rattle.ssh_review.specs.LineReports.{host_line_reports_of, line_reports_of}
use Rattle.ssh_review.specs.declared.show.Show.{Show}
use Rattle.ssh_review.specs.FileNames.{NameSeen, file_head}
use Rattle.ssh_files.specs.declared.files.UnreadCause.{UnreadCause}
use Rattle.ssh_files.specs.SourceState.{bytes_of, cause_at, given_at}
use Rattle.ssh_files.proofs.SourceLemmas.{given-all, given-none}
use Rattle.ssh_review.specs.declared.end.FileFault.TheVariants.{Unread}
use Rattle.ssh_program.specs.declared.streaming.FileReported.{FileReported}
use Rattle.ssh_program.specs.declared.streaming.Stop.{Stop}
use Rattle.ssh_program.specs.declared.streaming.Stop.TheVariants as stop
use Rattle.ssh_review.specs.DistinctKeys.{KeySet, file_keys, key_count, keys_seen, with_keys}
use Rattle.ssh_review.proofs.DistinctLemmas.{keys-behind}
use Rattle.ssh_review.specs.declared.end.Total.{Total}
use Rattle.ssh_program.specs.Totals.{with_counted}
use Rattle.ssh_program.specs.declared.review.FileNoted.{FileNoted}
use Rattle.ssh_program.specs.FileReviews.{FileReport, Lines, TextPut, TextWritten, UnreadPut, fault_report, file_kept, file_kind, keys_within, review_kept, report_of, report_if_read, with_file, with_noted}
use Rattle.ssh_program.proofs.PutLemmas.{nothing-reported, put-kept, put-noted, text-reported}
use Rattle.ssh_program.proofs.WrittenText.{nothing_taken}

-- ---- a file within the limit

pub within-false : (n : ℕ) → n ≤ file_limit → nat_lt file_limit n ≡ false
within-false n h = go (nat_lt file_limit n) refl
  where
    go : (b : Bool) → nat_lt file_limit n ≡ b → nat_lt file_limit n ≡ false
    go true e = absurd (omega (arith, ltb-true file_limit n e, h))
    go false e = e

pub auth-put : (show : Show) (form : Form) (asking : Asking) (name file : List ℕ) (old new : Option Account) (r : Result FileReported Stop) → length file ≤ file_limit
    → TextPut (shown_records show (line_reports_of (AsLines form) asking name [] (numbered 1 (lines_of file))) ++ shown_end show (end_line form name (counts_of asking [] (numbered 1 (lines_of file))) (sha256 file)))
    (record { counts = counts_of asking [] (numbered 1 (lines_of file)); stands = false; fault = None }) old new r
    → TextPut (review_of Auth show form asking name file).text (review_kept (review_of Auth show form asking name file)) old new r
unfolding shown_whole_review
auth-put show form asking name file old new r few h =
    subst (λ (b : Bool). TextPut (if b then fault_review form name TooLong else shown_whole_review show form asking name file).text (review_kept (if b then fault_review form name TooLong else shown_whole_review show form asking name file)) old new r)
    (sym (within-false (length file) few)) h

pub known-put : (show : Show) (form : Form) (asking : Asking) (name file : List ℕ) (old new : Option Account) (r : Result FileReported Stop) → length file ≤ file_limit
    → TextPut (shown_records show (host_line_reports_of (AsLines form) asking name [] (numbered 1 (lines_of file))) ++ shown_end show (end_line form name (host_counts_of asking [] (numbered 1 (lines_of file))) (sha256 file)))
    (record { counts = host_counts_of asking [] (numbered 1 (lines_of file)); stands = false; fault = None }) old new r
    → TextPut (review_of Known show form asking name file).text (review_kept (review_of Known show form asking name file)) old new r
unfolding host_shown_whole_review
known-put show form asking name file old new r few h =
    subst (λ (b : Bool). TextPut (if b then fault_review form name TooLong else host_shown_whole_review show form asking name file).text (review_kept (if b then fault_review form name TooLong else host_shown_whole_review show form asking name file)) old new r)
    (sym (within-false (length file) few)) h

-- the keys of a file within the limit are noted
pub put-with_keys : (kind : ReviewKind) (show : Show) (form : Form) (asking : Asking) (name file : List ℕ) (earlier keys : KeySet) (old new : Option Account) (r : Result FileReported Stop) (noted : Result FileNoted Stop)
    → length file ≤ file_limit → OnOk r (keys ≡ with_keys earlier (file_keys (file_kind kind) file)) → TextPut (review_of kind show form asking name file).text (review_kept (review_of kind show form asking name file)) old new r
    → noted ≡ with_noted r keys → TextPut (report_of kind show form asking name file).text (file_kept earlier (report_of kind show form asking name file)) old new noted
put-with_keys kind show form asking name file earlier keys old new r noted few seen put made =
    let x = review_of kind show form asking name file in
    let own : file_keys (file_kind kind) file ≡ keys_within (file_kind kind) file = ap (λ (b : Bool). if b then [] else file_keys (file_kind kind) file) (sym (within-false (length file) few)) in
    subst (λ (n : Result FileNoted Stop). TextPut x.text (file_kept earlier (report_of kind show form asking name file)) old new n) (sym made)
    (put-kept x.text (review_kept x) keys (with_keys earlier (keys_within (file_kind kind) file)) old new r
    (subst (λ (l : List (List ℕ)). OnOk r (keys ≡ with_keys earlier l)) own seen) put)

-- ---- a file that was read

file-reported : (kind : ReviewKind) (show : Show) (form : Form) (asking : Asking) (name : NameSeen) (head file bytes : List ℕ) (o t : Option SourceState) → head ≡ file_head form name → bytes ≡ file
    → IfTells o (λ s. (within_limit (bytes_at s name.path) ≡ Some file) × IsLeft s (after_whole s name.path) t) → IfTells o (λ s. KeepsOthers name.path s t)
    → IfTells o (λ s. TellsFile (telling_review kind show form asking) name s t (report_of kind show form asking head bytes))
file-reported kind show form asking name head file bytes None t front is loads keeps = tt
file-reported kind show form asking name head file bytes (Some s) t front is loads keeps = λ counts.
    let load = loads counts in (
      keeps counts,
      inr (
        left-none s (after_whole s name.path) t load.1,
        left-end name.path s t load.1,
        ap (λ (h : List ℕ). report_of kind show form asking h bytes) front ∙ (ap (report_of kind show form asking (file_head form name)) is
            ∙ ap (report_if_read kind show form asking (file_head form name)) (sym (given-all (given_at s name.path) file load.0))),
      ),
    )

pub file_reviewed : (kind : ReviewKind) (show : Show) (form : Form) (asking : Asking) (name : NameSeen) (head file bytes : List ℕ) (keys : KeySet) (o t : Option SourceState) (old new : Option Account) (r : Result FileNoted Stop) → head ≡ file_head form name → bytes ≡ file
    → IfTells o (λ s. (within_limit (bytes_at s name.path) ≡ Some file) × IsLeft s (after_whole s name.path) t) → IfTells o (λ s. KeepsOthers name.path s t)
    → TextPut (report_of kind show form asking head bytes).text (file_kept keys (report_of kind show form asking head bytes)) old new r
    → TextWritten (telling_review kind show form asking) (λ x. x.text) (file_kept keys) name o t old new r
file_reviewed kind show form asking name head file bytes keys o t old new r front is loads keeps put =
    text-reported (telling_review kind show form asking) (λ x. x.text) (file_kept keys) name o t old new r (report_of kind show form asking head bytes) (file-reported kind show form asking name head file bytes o t front is loads keeps) put

-- ---- one that gives no bytes

pub both_in : (P Q R : SourceState → Type 0) (o : Option SourceState) → ((s : SourceState) → P s → Q s → R s) → IfTells o P → IfTells o Q → IfTells o R
both_in P Q R None f p q = tt
both_in P Q R (Some s) f p q = λ counts. f s (p counts) (q counts)

-- the other files are as they were, and this is why the file is not read
pub kept-and-cause : (name : List ℕ) (cause : UnreadCause) (t o : Option SourceState) → IfTells o (λ s. KeepsOthers name s t) → IfTells o (λ s. cause ≡ cause_at s name)
    → IfTells o (λ s. KeepsOthers name s t × (cause ≡ cause_at s name))
kept-and-cause name cause t None keeps why = tt
kept-and-cause name cause t (Some s) keeps why = λ counts. (keeps counts, why counts)

too-long : (kind : ReviewKind) (show : Show) (form : Form) (asking : Asking) (name : List ℕ) (given : Result (List ℕ) UnreadCause) → IsTooLong (bytes_of given) → report_if_read kind show form asking name given ≡ fault_report form name TooLong
too-long kind show form asking name (Err cause) h = absurd h
too-long Auth show form asking name (Ok bytes) h = rw (lt-ltb file_limit (length bytes) h) refl
too-long Known show form asking name (Ok bytes) h = rw (lt-ltb file_limit (length bytes) h) refl

pub file_unread : (kind : ReviewKind) (show : Show) (form : Form) (asking : Asking) (name : NameSeen) (head : List ℕ) (o t : Option SourceState) (e : ReadError) (cause : UnreadCause) (keys : KeySet) (old new : Option Account) (r : Result FileReported Stop)
    → head ≡ file_head form name → IfTells o (λ s. FailsLoad name.path (bytes_at s name.path) s t e) → IfTells o (λ s. KeepsOthers name.path s t) → IfTells o (λ s. cause ≡ cause_at s name.path) → UnreadPut form head e cause old new r
    → TextWritten (telling_review kind show form asking) (λ x. x.text) (file_kept keys) name o t old new (with_noted r keys)
file_unread kind show form asking name head o t read.Memory cause keys old new r front fails keeps why (is, same) =
    subst (λ (x : Result FileReported Stop). TextWritten (telling_review kind show form asking) (λ x. x.text) (file_kept keys) name o t old new (with_noted x keys)) (sym is)
    (nothing-reported (telling_review kind show form asking) (λ x. x.text) (file_kept keys) name o t old new (same ∙ nothing_taken old))
file_unread kind show form asking name head o t read.TooLong cause keys old new r front fails keeps why put =
    text-reported (telling_review kind show form asking) (λ x. x.text) (file_kept keys) name o t old new (with_noted r keys) (fault_report form head TooLong)
    (both_in _ _ _ o (λ s f k. (
      k,
      inr (
        f.1,
        no-end name.path s t k (over_limit (bytes_at s name.path) f.0),
        ap (λ (h : List ℕ). fault_report form h TooLong) front ∙ sym (too-long kind show form asking (file_head form name) (given_at s name.path) f.0),
      ),
    )) fails keeps) (put-noted (fault_review form head TooLong).text (review_kept (fault_review form head TooLong)) keys old new r put)
file_unread kind show form asking name head o t read.Missing cause keys old new r front fails keeps why put =
    text-reported (telling_review kind show form asking) (λ x. x.text) (file_kept keys) name o t old new (with_noted r keys) (fault_report form head (Unread cause))
    (both_in _ _ _ o (λ s f k. (
      k.0,
      inr (
        f.1,
        no-end name.path s t k.0 (ap within_limit f.0),
        ap (λ (h : List ℕ). fault_report form h (Unread cause)) front ∙ (ap (λ (c : UnreadCause). fault_report form (file_head form name) (Unread c)) k.1
            ∙ ap (report_if_read kind show form asking (file_head form name)) (sym (given-none (given_at s name.path) f.0))),
      ),
    )) fails (kept-and-cause name.path cause t o keeps why)) (put-noted (fault_review form head (Unread cause)).text (review_kept (fault_review form head (Unread cause))) keys old new r put)
file_unread kind show form asking name head o t read.Failed cause keys old new r front fails keeps why put =
    text-reported (telling_review kind show form asking) (λ x. x.text) (file_kept keys) name o t old new (with_noted r keys) (fault_report form head (Unread cause))
    (both_in _ _ _ o (λ s f k. (
      k.0,
      inl (f, ap (λ (h : List ℕ). fault_report form h (Unread cause)) front ∙ ap (λ (c : UnreadCause). fault_report form (file_head form name) (Unread c)) k.1),
    )) fails (kept-and-cause name.path cause t o keeps why)) (put-noted (fault_review form head (Unread cause)).text (review_kept (fault_review form head (Unread cause))) keys old new r put)

-- nothing of it is written where memory for its head could not be allocated
pub nothing_put : (kind : ReviewKind) (show : Show) (form : Form) (asking : Asking) (name : NameSeen) (keys : KeySet) (o : Option SourceState) (a : Option Account)
    → TextWritten (telling_review kind show form asking) (λ x. x.text) (file_kept keys) name o o a a (Err stop.Memory)
nothing_put kind show form asking name keys o a = nothing-reported (telling_review kind show form asking) (λ x. x.text) (file_kept keys) name o o a a (nothing_taken a)

-- ---- the total with one more file

-- what the loop over the files keeps
pub record SofarKept : Type 0 where
  pub total : Total
  pub keys : KeySet

abbrev pub sofar_kept : Lines → SofarKept
sofar_kept l = record { total = l.total; keys = keys_seen l.keys }

pub noted-more : (sofar : Lines) (f : FileReport) (k : SofarKept) (after : Total) (noted : FileNoted) (count : Option ℕ) → k ≡ sofar_kept sofar → noted ≡ file_kept k.keys f
    → count ≡ key_count noted.keys → after ≡ with_counted k.total count noted.reported.counts noted.reported.fault
    → record { total = after; keys = noted.keys } ≡ sofar_kept (with_file sofar f)
noted-more sofar f k after noted count is same counted made =
    let seen : noted.keys ≡ keys_seen (sofar.keys ++ f.keys) =
    ap (λ (x : FileNoted). x.keys) same ∙ (ap (λ (p : SofarKept). with_keys p.keys f.keys) is ∙ keys-behind sofar.keys f.keys) in
    let reported : noted.reported ≡ record { counts = f.counts; stands = false; fault = f.fault } = ap (λ (x : FileNoted). x.reported) same in
    rw (made, counted, seen, reported, is) refl
