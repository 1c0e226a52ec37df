-- From what a file gives to its review for one key, whose text is written, from the key's file to the fingerprint, and from both to the response.
use Rattle.ssh_program.proofs.Imports.{◌≡◌, ◌∙◌, ◌<◌, ◌≤◌, ◌++◌, [], ℕ, Bool, true, false, List, length, Option, Some, None, Result, Ok, Err, refl, sym, ap, subst, inl, inr, IfOk, lt-ltb, Asking, TellsFile, IfTells, SourceState, bytes_at, most_failures, after_whole, top_line, FailsLoad, IsLeft, IsTooLong, KeepsOthers, NoReadFailed, ReadToEnd, within_limit, ReadError, left-none, left-end, no-end, over_limit, TooLong, Form, AsLines, ReviewKind, Auth, Known, file_limit, ShowError, IsFaultOf, Offered, line-offered, shown_offer_in, Account, Alike, files_same, end-same, file-alike, keeps-same, none-failed, one-failed, RespondsTo}
use Rattle.ssh_files.specs.declared.read.ReadError.TheVariants as fault
use Rattle.ssh_print.specs.Responses.{Response as Shown}
use Rattle.ssh_review.specs.KeyReviews.{host_whole_key_review, key_fault_review, whole_key_review}
use Rattle.std.specs.Prelude.{if◌then◌else◌}
use Rattle.sha2.specs.Sha256.{sha256}
use Rattle.ssh_text.specs.Text.{lines_of, numbered}
use Rattle.ssh_review.specs.Forms.{end_line}
use Rattle.ssh_review.specs.HostKeyRecords.{host_key_counts_of, host_key_records_of}
use Rattle.ssh_review.specs.KeyRecords.{key_counts_of, key_records_of}
use Rattle.ssh_review.specs.FileNames.{NameSeen, file_head}
use Rattle.ssh_files.specs.declared.files.UnreadCause.{UnreadCause}
use Rattle.ssh_files.specs.SourceState.{bytes_of, cause_at, given_at}
use Rattle.ssh_files.proofs.SourceLemmas.{given-all, given-none}
use Rattle.ssh_review.specs.declared.end.FileFault.TheVariants.{Unread}
use Rattle.ssh_review.specs.declared.show.Show.{Show}
use Rattle.ssh_findings.specs.declared.code.Code.{Code}
use Rattle.ssh_program.specs.declared.streaming.FileReported.{FileReported}
use Rattle.ssh_program.specs.declared.streaming.Stop.{Stop}
use Rattle.ssh_program.specs.declared.streaming.Stop.TheVariants as stop
use Rattle.ssh_program.specs.FileReviews.{TextPut, TextWritten, UnreadPut, lines_before, telling_review, with_file}
use Rattle.ssh_program.specs.FingerprintValues.{is_fingerprint}
use Rattle.ssh_program.specs.KeySeeking.{ReviewsFor, SeeksBy, SeeksKey, SeeksKeyOfFile, fingerprint_or_fault, key_review_kept, key_review_of, key_review_over, key_lines_before, or_key_fault, spelled_fingerprint, telling_key_review, with_key_file}
use Rattle.ssh_program.specs.Printing.{WritesAnswer}
use Rattle.ssh_program.proofs.AnsweredLemmas.{spelled_same}
use Rattle.ssh_program.proofs.FileLemmas.{both_in, kept-and-cause, within-false}
use Rattle.ssh_program.proofs.PutLemmas.{nothing-reported, text-reported}
use Rattle.ssh_program.proofs.StreamLemmas.{ends_same, writes_as}
use Rattle.ssh_program.proofs.WrittenText.{nothing_taken}

-- ---- a file within the limit

pub auth-key-put : (wanted : List ℕ) (form : Form) (asking : Asking) (name file : List ℕ) (old new : Option Account) (r : Result FileReported Stop) → length file ≤ file_limit
    → TextPut (key_records_of wanted (AsLines form) asking name [] (numbered 1 (lines_of file)) ++ end_line form name (key_counts_of wanted asking [] (numbered 1 (lines_of file))).counts (sha256 file))
    (record { counts = (key_counts_of wanted asking [] (numbered 1 (lines_of file))).counts; stands = (key_counts_of wanted asking [] (numbered 1 (lines_of file))).stands; fault = None }) old new r
    → TextPut (key_review_of wanted Auth form asking name file).file.text (key_review_kept (key_review_of wanted Auth form asking name file)) old new r
unfolding whole_key_review
auth-key-put wanted form asking name file old new r few h =
    subst (λ (b : Bool). TextPut (if b then key_fault_review form name TooLong else whole_key_review wanted form asking name file).file.text (key_review_kept (if b then key_fault_review form name TooLong else whole_key_review wanted form asking name file)) old new r)
    (sym (within-false (length file) few)) h

pub known-key-put : (wanted : List ℕ) (form : Form) (asking : Asking) (name file : List ℕ) (old new : Option Account) (r : Result FileReported Stop) → length file ≤ file_limit
    → TextPut (host_key_records_of wanted (AsLines form) asking name [] (numbered 1 (lines_of file)) ++ end_line form name (host_key_counts_of wanted asking [] (numbered 1 (lines_of file))).counts (sha256 file))
    (record { counts = (host_key_counts_of wanted asking [] (numbered 1 (lines_of file))).counts; stands = (host_key_counts_of wanted asking [] (numbered 1 (lines_of file))).stands; fault = None }) old new r
    → TextPut (key_review_of wanted Known form asking name file).file.text (key_review_kept (key_review_of wanted Known form asking name file)) old new r
unfolding host_whole_key_review
known-key-put wanted form asking name file old new r few h =
    subst (λ (b : Bool). TextPut (if b then key_fault_review form name TooLong else host_whole_key_review wanted form asking name file).file.text (key_review_kept (if b then key_fault_review form name TooLong else host_whole_key_review wanted form asking name file)) old new r)
    (sym (within-false (length file) few)) h

-- ---- a file that was read

key-file-reported : (wanted : List ℕ) (kind : ReviewKind) (form : Form) (asking : Asking) (name : NameSeen) (head file bytes : List ℕ) (o t : Option SourceState) → head ≡ file_head form name → bytes ≡ file
    → IfTells o (λ s. (within_limit (bytes_at s name.path) ≡ Some file) × IsLeft s (after_whole s name.path) t) → IfTells o (λ s. KeepsOthers name.path s t)
    → IfTells o (λ s. TellsFile (telling_key_review wanted kind form asking) name s t (key_review_of wanted kind form asking head bytes))
key-file-reported wanted kind form asking name head file bytes None t front is loads keeps = tt
key-file-reported wanted kind form asking name head file bytes (Some s) t front is loads keeps = λ counts.
    let load = loads counts in (
      keeps counts,
      inr (
        left-none s (after_whole s name.path) t load.1,
        left-end name.path s t load.1,
        ap (λ (h : List ℕ). key_review_of wanted kind form asking h bytes) front ∙ (ap (key_review_of wanted kind form asking (file_head form name)) is
            ∙ ap (key_review_over wanted kind form asking (file_head form name)) (sym (given-all (given_at s name.path) file load.0))),
      ),
    )

pub key_file_reviewed : (wanted : List ℕ) (kind : ReviewKind) (form : Form) (asking : Asking) (name : NameSeen) (head file bytes : List ℕ) (o t : Option SourceState) (old new : Option Account) (r : Result FileReported Stop) → head ≡ file_head form name → bytes ≡ file
    → IfTells o (λ s. (within_limit (bytes_at s name.path) ≡ Some file) × IsLeft s (after_whole s name.path) t) → IfTells o (λ s. KeepsOthers name.path s t)
    → TextPut (key_review_of wanted kind form asking head bytes).file.text (key_review_kept (key_review_of wanted kind form asking head bytes)) old new r
    → TextWritten (telling_key_review wanted kind form asking) (λ x. x.file.text) key_review_kept name o t old new r
key_file_reviewed wanted kind form asking name head file bytes o t old new r front is loads keeps put =
    text-reported (telling_key_review wanted kind form asking) (λ x. x.file.text) key_review_kept name o t old new r (key_review_of wanted kind form asking head bytes)
    (key-file-reported wanted kind form asking name head file bytes o t front is loads keeps) put

-- ---- one that gives no bytes

too-long : (wanted : List ℕ) (kind : ReviewKind) (form : Form) (asking : Asking) (name : List ℕ) (given : Result (List ℕ) UnreadCause) → IsTooLong (bytes_of given) → key_review_over wanted kind form asking name given ≡ key_fault_review form name TooLong
too-long wanted kind form asking name (Err cause) h = absurd h
too-long wanted Auth form asking name (Ok bytes) h = rw (lt-ltb file_limit (length bytes) h) refl
too-long wanted Known form asking name (Ok bytes) h = rw (lt-ltb file_limit (length bytes) h) refl

pub key_file_unread : (wanted : List ℕ) (kind : ReviewKind) (form : Form) (asking : Asking) (name : NameSeen) (head : List ℕ) (o t : Option SourceState) (e : ReadError) (cause : UnreadCause) (old new : Option Account) (r : Result FileReported Stop)
    → head ≡ file_head form name → IfTells o (λ s. FailsLoad name.path (bytes_at s name.path) s t e) → IfTells o (λ s. KeepsOthers name.path s t) → IfTells o (λ s. cause ≡ cause_at s name.path) → UnreadPut form head e cause old new r
    → TextWritten (telling_key_review wanted kind form asking) (λ x. x.file.text) key_review_kept name o t old new r
key_file_unread wanted kind form asking name head o t fault.Memory cause old new r front fails keeps why (is, same) =
    subst (λ (x : Result FileReported Stop). TextWritten (telling_key_review wanted kind form asking) (λ x. x.file.text) key_review_kept name o t old new x) (sym is)
    (nothing-reported (telling_key_review wanted kind form asking) (λ x. x.file.text) key_review_kept name o t old new (same ∙ nothing_taken old))
key_file_unread wanted kind form asking name head o t fault.TooLong cause old new r front fails keeps why put =
    text-reported (telling_key_review wanted kind form asking) (λ x. x.file.text) key_review_kept name o t old new r (key_fault_review form head TooLong)
    (both_in _ _ _ o (λ s f k. (
      k,
      inr (
        f.1,
        no-end name.path s t k (over_limit (bytes_at s name.path) f.0),
        ap (λ (h : List ℕ). key_fault_review form h TooLong) front ∙ sym (too-long wanted kind form asking (file_head form name) (given_at s name.path) f.0),
      ),
    )) fails keeps) put
key_file_unread wanted kind form asking name head o t fault.Missing cause old new r front fails keeps why put =
    text-reported (telling_key_review wanted kind form asking) (λ x. x.file.text) key_review_kept name o t old new r (key_fault_review form head (Unread cause))
    (both_in _ _ _ o (λ s f k. (
      k.0,
      inr (
        f.1,
        no-end name.path s t k.0 (ap within_limit f.0),
        ap (λ (h : List ℕ). key_fault_review form h (Unread cause)) front ∙ (ap (λ (c : UnreadCause). key_fault_review form (file_head form name) (Unread c)) k.1
            ∙ ap (key_review_over wanted kind form asking (file_head form name)) (sym (given-none (given_at s name.path) f.0))),
      ),
    )) fails (kept-and-cause name.path cause t o keeps why)) put
key_file_unread wanted kind form asking name head o t fault.Failed cause old new r front fails keeps why put =
    text-reported (telling_key_review wanted kind form asking) (λ x. x.file.text) key_review_kept name o t old new r (key_fault_review form head (Unread cause))
    (both_in _ _ _ o (λ s f k. (
      k.0,
      inl (f, ap (λ (h : List ℕ). key_fault_review form h (Unread cause)) front ∙ ap (λ (c : UnreadCause). key_fault_review form (file_head form name) (Unread c)) k.1),
    )) fails (kept-and-cause name.path cause t o keeps why)) put

-- nothing of it is written where memory for its head could not be allocated
pub key_nothing_put : (wanted : List ℕ) (kind : ReviewKind) (form : Form) (asking : Asking) (name : NameSeen) (o : Option SourceState) (a : Option Account)
    → TextWritten (telling_key_review wanted kind form asking) (λ x. x.file.text) key_review_kept name o o a a (Err stop.Memory)
key_nothing_put wanted kind form asking name o a = nothing-reported (telling_key_review wanted kind form asking) (λ x. x.file.text) key_review_kept name o o a a (nothing_taken a)

-- ---- the key's file

seeks-by : (kind : ReviewKind) (form : Form) (rule : List ℕ) (asking : Asking) (names : List NameSeen) (key : List ℕ) (s m : SourceState) (t : Option SourceState) (o : Option (List ℕ)) (r : Shown) → within_limit (bytes_at s key) ≡ o
    → KeepsOthers key s (Some m) → NoReadFailed s (Some m) → ReadToEnd key s (Some m) → RespondsTo (SeeksKey kind form rule asking names) (fingerprint_or_fault key o) m t r
    → SeeksKeyOfFile kind form rule asking names key s t r
seeks-by kind form rule asking names key s m t o r is keeps none end h =
    inr (m, keeps, none, end, subst (λ (x : Option (List ℕ)). RespondsTo (SeeksKey kind form rule asking names) (fingerprint_or_fault key x) m t r) (sym is) h)

-- one of which the first line was read
pub key_file_wanted : (kind : ReviewKind) (form : Form) (rule : List ℕ) (asking : Asking) (names : List NameSeen) (key line read : List ℕ) (o u t : Option SourceState) (old new : Option Account) (status : ℕ) → read ≡ line
    → IfTells o (λ s. ((file : List ℕ) × (within_limit (bytes_at s key) ≡ Some file) × (line ≡ top_line file)) × IsLeft s (after_whole s key) u)
    → IfTells o (λ s. KeepsOthers key s u)
    → IfTells u (λ m. WritesAnswer (RespondsTo (SeeksKey kind form rule asking names) (or_key_fault (shown_offer_in read)) m t) old new status)
    → IfTells o (λ s. WritesAnswer (SeeksKeyOfFile kind form rule asking names key s t) old new status)
key_file_wanted kind form rule asking names key line read None u t old new status is loads keeps h = tt
key_file_wanted kind form rule asking names key line read (Some s) None t old new status is loads keeps h = λ counts. absurd ((loads counts).1)
key_file_wanted kind form rule asking names key line read (Some s) (Some m) t old new status is loads keeps h = λ counts.
    let load = loads counts in
    let file = load.0.0 in
    let none : m.failures ≡ s.failures = left-none s (after_whole s key) (Some m) load.1 in
    let tells : m.failures < most_failures = subst (λ (n : ℕ). n < most_failures) (sym none) counts in
    let same : shown_offer_in read ≡ shown_offer_in file = ap shown_offer_in (is ∙ load.0.2) ∙ line-offered file in
    writes_as (RespondsTo (SeeksKey kind form rule asking names) (or_key_fault (shown_offer_in read)) m t) (SeeksKeyOfFile kind form rule asking names key s t) old new status
    (λ r seeks.
    seeks-by kind form rule asking names key s m t (Some file) r load.0.1 (keeps counts) none (left-end key s (Some m) load.1)
    (subst (λ (x : Result Offered ShowError). RespondsTo (SeeksKey kind form rule asking names) (or_key_fault x) m t r) same seeks)) (h tells)

unkeyed : (kind : ReviewKind) (form : Form) (rule : List ℕ) (asking : Asking) (names : List NameSeen) (key : List ℕ) (s : SourceState) (t : Option SourceState) (e : ReadError) (r : Shown) → FailsLoad key (bytes_at s key) s t e → KeepsOthers key s t
    → IsFaultOf key e r → SeeksKeyOfFile kind form rule asking names key s t r
unkeyed kind form rule asking names key s None fault.Missing r fails keeps is = absurd keeps
unkeyed kind form rule asking names key s None fault.TooLong r fails keeps is = absurd keeps
unkeyed kind form rule asking names key s (Some m) fault.Missing r fails keeps is =
    seeks-by kind form rule asking names key s m (Some m) None r (ap within_limit fails.0) keeps fails.1 (no-end key s (Some m) keeps (ap within_limit fails.0)) (refl, is)
unkeyed kind form rule asking names key s (Some m) fault.TooLong r fails keeps is =
    seeks-by kind form rule asking names key s m (Some m) None r (over_limit (bytes_at s key) fails.0) keeps fails.1 (no-end key s (Some m) keeps (over_limit (bytes_at s key) fails.0)) (refl, is)
unkeyed kind form rule asking names key s t fault.Failed r fails keeps is = inl (fails, is)
unkeyed kind form rule asking names key s t fault.Memory r fails keeps is = absurd is

-- one whose bytes could not be had
pub key_file_unwanted : {R E : Type 0} (view : R → Shown) (kind : ReviewKind) (form : Form) (rule : List ℕ) (asking : Asking) (names : List NameSeen) (key : List ℕ) (o t : Option SourceState) (e : ReadError) (res : Result R E)
    → IfTells o (λ s. FailsLoad key (bytes_at s key) s t e) → IfTells o (λ s. KeepsOthers key s t) → IfOk res (λ r. IsFaultOf key e (view r))
    → IfTells o (λ s. IfOk res (λ r. SeeksKeyOfFile kind form rule asking names key s t (view r)))
key_file_unwanted view kind form rule asking names key None t e res fails keeps is = tt
key_file_unwanted view kind form rule asking names key (Some s) t e (Err x) fails keeps is = λ counts. tt
key_file_unwanted view kind form rule asking names key (Some s) t e (Ok r) fails keeps is = λ counts. unkeyed kind form rule asking names key s t e (view r) (fails counts) (keeps counts) is

-- ---- sources that are alike have the same reviews

seeks-same : (kind : ReviewKind) (form : Form) (rule : List ℕ) (asking : Asking) (names : List NameSeen) (wanted : List ℕ) (a b : SourceState) (u : Option SourceState) (r : Shown) → Alike a b
    → SeeksKey kind form rule asking names wanted a u r → SeeksKey kind form rule asking names wanted b u r
seeks-same kind form rule asking names wanted a b u r e (inl (reported, h, is)) = inl (reported, files_same with_key_file (telling_key_review wanted kind form asking) (key_lines_before form) names a b u reported e h, is)
seeks-same kind form rule asking names wanted a b u r e (inr early) = inr (ends_same with_key_file (telling_key_review wanted kind form asking) (key_lines_before form) (λ reported. reported.lines.text) (λ x. x.file.text) names a b r e early)

file-same : (kind : ReviewKind) (form : Form) (rule : List ℕ) (asking : Asking) (names : List NameSeen) (key : List ℕ) (a b : SourceState) (u : Option SourceState) (r : Shown) → Alike a b
    → SeeksKeyOfFile kind form rule asking names key a u r → SeeksKeyOfFile kind form rule asking names key b u r
file-same kind form rule asking names key a b u r e (inl h) = inl (one-failed a b u key e h.0, h.1)
file-same kind form rule asking names key a b u r e (inr (m, keeps, none, end, h)) = inr (
  m,
  keeps-same key a b (Some m) e keeps,
  none-failed b a (Some m) e.failures none,
  end-same key a b (Some m) e end,
  subst (λ (o : Option (List ℕ)). RespondsTo (SeeksKey kind form rule asking names) (fingerprint_or_fault key (within_limit o)) m u r) (file-alike a b key e) h,
)

by-same : (spelled : Bool) (kind : ReviewKind) (form : Form) (rule : List ℕ) (asking : Asking) (names : List NameSeen) (key : List ℕ) (a b : SourceState) (u : Option SourceState) (r : Shown) → Alike a b
    → SeeksBy spelled kind form rule asking names key a u r → SeeksBy spelled kind form rule asking names key b u r
by-same true kind form rule asking names key a b u r e h =
    spelled_same (SeeksKey kind form rule asking names) (spelled_fingerprint key) a b u r e (λ wanted. seeks-same kind form rule asking names wanted a b u r e) h
by-same false kind form rule asking names key a b u r e h = file-same kind form rule asking names key a b u r e h

pub reviews_for_same : (key : Option (List ℕ)) (kind : ReviewKind) (show : Show) (failing : List Code) (form : Form) (rule : List ℕ) (asking : Asking) (names : List NameSeen) (a b : SourceState) (u : Option SourceState) (r : Shown) → Alike a b
    → ReviewsFor key kind show failing form rule asking names a u r → ReviewsFor key kind show failing form rule asking names b u r
reviews_for_same None kind show failing form rule asking names a b u r e (inl (reported, h, is)) = inl (reported, files_same with_file (telling_review kind show form asking) (lines_before form) names a b u reported e h, is)
reviews_for_same None kind show failing form rule asking names a b u r e (inr early) = inr (ends_same with_file (telling_review kind show form asking) (lines_before form) (λ reported. reported.text) (λ x. x.text) names a b r e early)
reviews_for_same (Some key) kind show failing form rule asking names a b u r e h = by-same (is_fingerprint key) kind form rule asking names key a b u r e h
