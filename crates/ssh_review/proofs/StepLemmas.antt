-- One more line of an authorized_keys file: what is left to be reported then, and what is stored.
use Rattle.ssh_review.proofs.Imports.{◌≡◌, ◌∙◌, ℕ, ◌+◌, ◌≤◌, Bool, List, [], ◌∷◌, ◌++◌, length, refl, sym, ap, subst, append_assoc, arith, TooLong, auth_review, fault_review, AuthLine, auth_line, Asking, Held, Counts, Form, RecordForm, AsLines, AreBytes, lines_of, numbered, file_limit, RemembersEntries, bytes_kept, keys_kept, counts_of, held_by_line, held_lines, line_counts, line_record, line_bytes, lines_bytes}
use Rattle.ssh_findings.specs.declared.earlier.Earlier.{Earlier}
use Rattle.ssh_review.specs.KeyRecords.{holds_key, key_counts, key_counts_of, key_record, key_records_of}
use Rattle.std.specs.Prelude.{if◌then◌else◌}
use Rattle.ssh_review.specs.KeyReviews.{KeyReview, auth_key_review, key_fault_review, reviewed_by, whole_key_review}
use Rattle.ssh_review.specs.Reviews.{Review, whole_review}
use Rattle.ssh_review.specs.Making.{AreCounts, IsWrittenInLines, AreWholeLines, AuthKeyTells, AuthTells}
use Rattle.ssh_review.specs.ShownRecords.{shown_records}
use Rattle.ssh_review.specs.LineReports.{LineReport, key_line_reports_of, line_report, line_reports_of, of_all}
use Rattle.ssh_review.specs.declared.key_review.KeyCounts.{KeyCounts}
use Rattle.ssh_review.specs.declared.show.Show.TheVariants.{All}
use Rattle.ssh_review.specs.declared.records.ForKey.{ForKey}
use Rattle.ssh_review.proofs.KeyReviewLemmas.{few-lines, key-within}
use Rattle.ssh_review.proofs.LineLemmas.{all-within, lines-few}
use Rattle.ssh_review.proofs.LineEndLemmas.{record-lines, if-lines, lines-on}
use Rattle.ssh_review.proofs.MakingLemmas.{few-counts, within-false}
use Rattle.ssh_review.proofs.MemoryLemmas.{file-long}
use Rattle.ssh_review.proofs.ShownRecordLemmas.{all-shown}

-- ---- all keys

pub auth-next : (form : RecordForm) (asking : Asking) (name file : List ℕ) (number : ℕ) (line : List ℕ) (lines : List (ℕ × List ℕ)) (said : AuthLine) (old new : Earlier) (before after : List ℕ) (line_reports : List LineReport) (reported : Counts)
    → said ≡ auth_line line → AuthTells old form asking name file ((number, line) ∷ lines) line_reports
    → ((held : List Held) → RemembersEntries old held → after ≡ before ++ line_record form asking name held (number, line) said)
    → ((held : List Held) → RemembersEntries old held → reported ≡ line_counts asking held said)
    → ((held : List Held) → RemembersEntries old held → RemembersEntries new (held ++ held_by_line asking (number, said)))
    → bytes_kept new ≤ bytes_kept old + line_bytes asking said → keys_kept new ≤ keys_kept old + reported.keys
    → (own : List ℕ) × (more : List LineReport) × (line_reports ≡ line_report own (of_all reported) ∷ more) × AuthTells new form asking name file lines more × (after ≡ before ++ own) × (IsWrittenInLines form → AreWholeLines before → AreWholeLines after)
auth-next form asking name file number line lines said old new before after line_reports reported says h written counted stores bytes keys =
    let left = h.held ++ held_by_line asking (number, auth_line line) in
    let own = line_record form asking name h.held (number, line) said in
    let more = line_reports_of form asking name left lines in
    let counts = counts_of asking left lines in
    let own_bytes : line_bytes asking said ≡ line_bytes asking (auth_line line) = ap (line_bytes asking) says in
    let is : reported ≡ line_counts asking h.held (auth_line line) = counted h.held h.stored ∙ ap (line_counts asking h.held) says in
    let own_keys : reported.keys ≡ (line_counts asking h.held (auth_line line)).keys = ap (λ (c : Counts). c.keys) is in
    let all_bytes : bytes_kept old + (line_bytes asking (auth_line line) + lines_bytes asking lines) ≤ lines_bytes asking (numbered 1 (lines_of file)) = h.bytes in
    let file_bytes : bytes_kept old + (line_bytes asking (auth_line line) + lines_bytes asking lines) ≤ length file = h.file_bytes in
    let file_keys : keys_kept old + ((line_counts asking h.held (auth_line line)).keys + counts.keys) ≤ length file = h.file_keys in (
      own,
      more,
      h.are_reports ∙ (ap (λ (s : AuthLine). line_report (line_record form asking name h.held (number, line) s) (of_all (line_counts asking h.held (auth_line line))) ∷ more) (sym says)
          ∙ ap (λ (c : Counts). line_report own (of_all c) ∷ more) (sym is)),
      record {
        held = left;
        stored = subst (λ (s : AuthLine). RemembersEntries new (h.held ++ held_by_line asking (number, s))) says (stores h.held h.stored);
        are_reports = refl;
        kept = append_assoc h.held (held_by_line asking (number, auth_line line)) (held_lines asking lines) ∙ h.kept;
        bytes = omega (arith, bytes, own_bytes, all_bytes);
        file_bytes = omega (arith, bytes, own_bytes, file_bytes);
        file_keys = omega (arith, keys, own_keys, file_keys);
      },
      written h.held h.stored,
      λ are. lines-on before own after (written h.held h.stored) (record-lines form asking name h.held number line said are),
    )

-- before the first line
pub auth-first : (form : RecordForm) (asking : Asking) (name file : List ℕ) (earlier : Earlier) → AreBytes file → RemembersEntries earlier [] → bytes_kept earlier ≡ 0 → keys_kept earlier ≡ 0
    → AuthTells earlier form asking name file (numbered 1 (lines_of file)) (line_reports_of form asking name [] (numbered 1 (lines_of file)))
auth-first form asking name file earlier are stands none no_keys = record {
  held = [];
  stored = stands;
  are_reports = refl;
  kept = refl;
  bytes = omega (arith, none);
  file_bytes = omega (arith, none, file-long asking file are);
  file_keys = omega (arith, no_keys, (all-within asking [] 1 (lines_of file)).keys, lines-few file);
}

pub auth-fits : (asking : Asking) (file : List ℕ) → length file ≤ file_limit → AreCounts (counts_of asking [] (numbered 1 (lines_of file)))
auth-fits asking file h = few-counts _ (length (lines_of file)) (all-within asking [] 1 (lines_of file)) (few-lines file h)

-- the whole text is that of the review
pub auth-whole : (form : Form) (asking : Asking) (name file : List ℕ) (r : Review) → length file ≤ file_limit
    → r ≡ (reviewed_by form name file (shown_records All (line_reports_of (AsLines form) asking name [] (numbered 1 (lines_of file)))) (of_all (counts_of asking [] (numbered 1 (lines_of file))))).file
    → r ≡ auth_review form asking name file
unfolding whole_review
auth-whole form asking name file r few is =
    is ∙ ap (λ (t : List ℕ). (reviewed_by form name file t (of_all (counts_of asking [] (numbered 1 (lines_of file))))).file) (all-shown (AsLines form) asking name [] (numbered 1 (lines_of file)))
    ∙ ap (λ (b : Bool). if b then fault_review form name TooLong else whole_review form asking name file) (sym (within-false (length file) few))

-- ---- one key

pub auth-key-next : (form : RecordForm) (asking : Asking) (name file : List ℕ) (number : ℕ) (line : List ℕ) (lines : List (ℕ × List ℕ)) (said : AuthLine) (old new : ForKey Earlier) (before after : List ℕ) (line_reports : List LineReport) (reported : KeyCounts)
    → new.wanted.now ≡ old.wanted.now → said ≡ auth_line line → AuthKeyTells old form asking name file ((number, line) ∷ lines) line_reports
    → ((held : List Held) → RemembersEntries old.earlier held → after ≡ before ++ key_record old.wanted.now form asking name held (number, line) said)
    → ((held : List Held) → RemembersEntries old.earlier held → reported ≡ key_counts old.wanted.now asking held line said)
    → ((held : List Held) → RemembersEntries old.earlier held → RemembersEntries new.earlier (held ++ held_by_line asking (number, said)))
    → (own : List ℕ) × (more : List LineReport) × (line_reports ≡ line_report own reported ∷ more) × AuthKeyTells new form asking name file lines more × (after ≡ before ++ own) × (IsWrittenInLines form → AreWholeLines before → AreWholeLines after)
auth-key-next form asking name file number line lines said old new before after line_reports reported same says h written counted stores =
    let wanted = old.wanted.now in
    let left = h.held ++ held_by_line asking (number, auth_line line) in
    let own = key_record wanted form asking name h.held (number, line) said in
    let more = key_line_reports_of wanted form asking name left lines in
    let is : reported ≡ key_counts wanted asking h.held line (auth_line line) = counted h.held h.stored ∙ ap (key_counts wanted asking h.held line) says in (
      own,
      more,
      h.are_reports ∙ (ap (λ (s : AuthLine). line_report (key_record wanted form asking name h.held (number, line) s) (key_counts wanted asking h.held line (auth_line line)) ∷ more) (sym says)
          ∙ ap (λ (c : KeyCounts). line_report own c ∷ more) (sym is)),
      record {
        held = left;
        stored = subst (λ (s : AuthLine). RemembersEntries new.earlier (h.held ++ held_by_line asking (number, s))) says (stores h.held h.stored);
        are_reports = ap (λ (k : List ℕ). key_line_reports_of k form asking name left lines) (sym same);
      },
      written h.held h.stored,
      λ are. lines-on before own after (written h.held h.stored) (if-lines (holds_key old.wanted.now line said) (line_record form asking name h.held (number, line) said) (record-lines form asking name h.held number line said are)),
    )

pub auth-key-fits : (wanted : List ℕ) (asking : Asking) (file : List ℕ) → length file ≤ file_limit → AreCounts (key_counts_of wanted asking [] (numbered 1 (lines_of file))).counts
auth-key-fits wanted asking file h = few-counts _ (length (lines_of file)) (key-within wanted asking [] 1 (lines_of file)) (few-lines file h)

pub auth-key-whole : (wanted : List ℕ) (form : Form) (asking : Asking) (name file : List ℕ) (r : KeyReview) → length file ≤ file_limit
    → r ≡ reviewed_by form name file (key_records_of wanted (AsLines form) asking name [] (numbered 1 (lines_of file))) (key_counts_of wanted asking [] (numbered 1 (lines_of file)))
    → r ≡ auth_key_review wanted form asking name file
unfolding whole_key_review
auth-key-whole wanted form asking name file r few is =
    is ∙ ap (λ (b : Bool). if b then key_fault_review form name TooLong else whole_key_review wanted form asking name file) (sym (within-false (length file) few))
