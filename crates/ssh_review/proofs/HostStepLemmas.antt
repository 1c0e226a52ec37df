-- One more line of a known_hosts file: what is left to be reported then, and what is stored.
use Rattle.ssh_review.proofs.Imports.{◌≡◌, ◌∙◌, ℕ, ◌+◌, ◌≤◌, List, [], ◌∷◌, ◌++◌, length, refl, sym, ap, subst, append_assoc, arith, Bool, TooLong, fault_review, known_review, KnownLine, known_line, Asking, HostLine, Counts, Form, RecordForm, AsLines, AreBytes, lines_of, numbered, file_limit, RemembersLines, host_bytes_kept, kept_sum, host_counts_of, host_kept_lines, host_kept_of, host_line_counts, host_line_record, host_line_bytes, host_line_sum, over_lines}
use Rattle.ssh_findings.specs.declared.host_earlier.EarlierHosts.{EarlierHosts}
use Rattle.ssh_review.specs.HostKeyRecords.{host_holds_key, host_key_counts, host_key_counts_of, host_key_record, host_key_records_of}
use Rattle.std.specs.Prelude.{if◌then◌else◌}
use Rattle.ssh_review.specs.HostReviews.{host_whole_review}
use Rattle.ssh_review.specs.KeyReviews.{KeyReview, host_whole_key_review, key_fault_review, known_key_review, reviewed_by}
use Rattle.ssh_review.specs.Reviews.{Review}
use Rattle.ssh_review.specs.Making.{AreCounts, IsWrittenInLines, AreWholeLines, KnownKeyTells, KnownTells}
use Rattle.ssh_review.specs.ShownRecords.{shown_records}
use Rattle.ssh_review.specs.LineReports.{LineReport, host_key_line_reports_of, host_line_reports_of, line_report, of_all}
use Rattle.ssh_review.specs.declared.key_review.KeyCounts.{KeyCounts}
use Rattle.ssh_review.specs.declared.show.Show.TheVariants.{All}
use Rattle.ssh_review.specs.declared.records.ForKey.{ForKey}
use Rattle.ssh_review.proofs.CountLemmas.{all-within}
use Rattle.ssh_review.proofs.HostMemoryLemmas.{file-bytes, file-keys, file-texts}
use Rattle.ssh_review.proofs.KeyReviewLemmas.{few-lines, host-key-within}
use Rattle.ssh_review.proofs.LineEndLemmas.{host-record-lines, if-lines, lines-on}
use Rattle.ssh_review.proofs.MakingLemmas.{few-counts, within-false}
use Rattle.ssh_review.proofs.ShownRecordLemmas.{hosts-all-shown}

-- ---- all keys

-- what is stored with what the lines that are left add
over-step : (count : List ℕ → KnownLine → ℕ) (line : List ℕ) (said : KnownLine) (lines : List (ℕ × List ℕ)) (number before after most : ℕ)
    → said ≡ known_line line → after ≤ before + count line said
    → before + over_lines count ((number, line) ∷ lines) ≤ most → after + over_lines count lines ≤ most
over-step count line said lines number before after most says more h =
    let own : count line said ≡ count line (known_line line) = ap (count line) says in
    let all : before + (count line (known_line line) + over_lines count lines) ≤ most = h in
    omega (arith, own, more, all)

pub known-next : (form : RecordForm) (asking : Asking) (name file : List ℕ) (number : ℕ) (line : List ℕ) (lines : List (ℕ × List ℕ)) (said : KnownLine) (old new : EarlierHosts) (before after : List ℕ) (line_reports : List LineReport) (reported : Counts)
    → said ≡ known_line line → KnownTells old form asking name file ((number, line) ∷ lines) line_reports
    → ((hosts : List HostLine) → RemembersLines old hosts → after ≡ before ++ host_line_record form asking name hosts number line said)
    → ((hosts : List HostLine) → RemembersLines old hosts → reported ≡ host_line_counts asking hosts line said)
    → ((hosts : List HostLine) → RemembersLines old hosts → RemembersLines new (hosts ++ host_kept_of number line said))
    → host_bytes_kept new ≤ host_bytes_kept old + host_line_bytes line said
    → ((weight : List ℕ → ℕ) → kept_sum weight new ≤ kept_sum weight old + host_line_sum weight line said)
    → (own : List ℕ) × (more : List LineReport) × (line_reports ≡ line_report own (of_all reported) ∷ more) × KnownTells new form asking name file lines more × (after ≡ before ++ own) × (IsWrittenInLines form → AreWholeLines before → AreWholeLines after)
known-next form asking name file number line lines said old new before after line_reports reported says h written counted stores bytes sum =
    let left = h.before ++ host_kept_of number line (known_line line) in
    let own = host_line_record form asking name h.before number line said in
    let more = host_line_reports_of form asking name left lines in
    let is : reported ≡ host_line_counts asking h.before line (known_line line) = counted h.before h.stored ∙ ap (host_line_counts asking h.before line) says in (
      own,
      more,
      h.are_reports ∙ (ap (λ (s : KnownLine). line_report (host_line_record form asking name h.before number line s) (of_all (host_line_counts asking h.before line (known_line line))) ∷ more) (sym says)
          ∙ ap (λ (c : Counts). line_report own (of_all c) ∷ more) (sym is)),
      record {
        before = left;
        stored = subst (λ (s : KnownLine). RemembersLines new (h.before ++ host_kept_of number line s)) says (stores h.before h.stored);
        are_reports = refl;
        kept = append_assoc h.before (host_kept_of number line (known_line line)) (host_kept_lines lines) ∙ h.kept;
        bytes = over-step host_line_bytes line said lines number (host_bytes_kept old) (host_bytes_kept new) _ says bytes h.bytes;
        file_texts = over-step (host_line_sum (λ text. length text)) line said lines number (kept_sum (λ text. length text) old) (kept_sum (λ text. length text) new) _ says (sum (λ text. length text)) h.file_texts;
        file_keys = over-step (host_line_sum (λ text. 1)) line said lines number (kept_sum (λ text. 1) old) (kept_sum (λ text. 1) new) _ says (sum (λ text. 1)) h.file_keys;
        file_bytes = over-step host_line_bytes line said lines number (host_bytes_kept old) (host_bytes_kept new) _ says bytes h.file_bytes;
      },
      written h.before h.stored,
      λ are. lines-on before own after (written h.before h.stored) (host-record-lines form asking name h.before number line said are),
    )

-- before the first line
pub known-first : (form : RecordForm) (asking : Asking) (name file : List ℕ) (earlier : EarlierHosts) → AreBytes file → RemembersLines earlier [] → host_bytes_kept earlier ≡ 0
    → ((weight : List ℕ → ℕ) → kept_sum weight earlier ≡ 0)
    → KnownTells earlier form asking name file (numbered 1 (lines_of file)) (host_line_reports_of form asking name [] (numbered 1 (lines_of file)))
known-first form asking name file earlier are stands none nothing = record {
  before = [];
  stored = stands;
  are_reports = refl;
  kept = refl;
  bytes = omega (arith, none);
  file_texts = omega (arith, nothing (λ text. length text), file-texts file are);
  file_keys = omega (arith, nothing (λ text. 1), file-keys file are);
  file_bytes = omega (arith, none, file-bytes file are);
}

pub known-fits : (asking : Asking) (file : List ℕ) → length file ≤ file_limit → AreCounts (host_counts_of asking [] (numbered 1 (lines_of file)))
known-fits asking file h = few-counts _ (length (lines_of file)) (all-within asking [] 1 (lines_of file)) (few-lines file h)

-- the whole text is that of the review
pub known-whole : (form : Form) (asking : Asking) (name file : List ℕ) (r : Review) → length file ≤ file_limit
    → r ≡ (reviewed_by form name file (shown_records All (host_line_reports_of (AsLines form) asking name [] (numbered 1 (lines_of file)))) (of_all (host_counts_of asking [] (numbered 1 (lines_of file))))).file
    → r ≡ known_review form asking name file
unfolding host_whole_review
known-whole form asking name file r few is =
    is ∙ ap (λ (t : List ℕ). (reviewed_by form name file t (of_all (host_counts_of asking [] (numbered 1 (lines_of file))))).file) (hosts-all-shown (AsLines form) asking name [] (numbered 1 (lines_of file)))
    ∙ ap (λ (b : Bool). if b then fault_review form name TooLong else host_whole_review form asking name file) (sym (within-false (length file) few))

-- ---- one key

pub known-key-next : (form : RecordForm) (asking : Asking) (name file : List ℕ) (number : ℕ) (line : List ℕ) (lines : List (ℕ × List ℕ)) (said : KnownLine) (old new : ForKey EarlierHosts) (before after : List ℕ) (line_reports : List LineReport) (reported : KeyCounts)
    → new.wanted.now ≡ old.wanted.now → said ≡ known_line line → KnownKeyTells old form asking name file ((number, line) ∷ lines) line_reports
    → ((hosts : List HostLine) → RemembersLines old.earlier hosts → after ≡ before ++ host_key_record old.wanted.now form asking name hosts number line said)
    → ((hosts : List HostLine) → RemembersLines old.earlier hosts → reported ≡ host_key_counts old.wanted.now asking hosts line said)
    → ((hosts : List HostLine) → RemembersLines old.earlier hosts → RemembersLines new.earlier (hosts ++ host_kept_of number line said))
    → (own : List ℕ) × (more : List LineReport) × (line_reports ≡ line_report own reported ∷ more) × KnownKeyTells new form asking name file lines more × (after ≡ before ++ own) × (IsWrittenInLines form → AreWholeLines before → AreWholeLines after)
known-key-next form asking name file number line lines said old new before after line_reports reported same says h written counted stores =
    let wanted = old.wanted.now in
    let left = h.before ++ host_kept_of number line (known_line line) in
    let own = host_key_record wanted form asking name h.before number line said in
    let more = host_key_line_reports_of wanted form asking name left lines in
    let is : reported ≡ host_key_counts wanted asking h.before line (known_line line) = counted h.before h.stored ∙ ap (host_key_counts wanted asking h.before line) says in (
      own,
      more,
      h.are_reports ∙ (ap (λ (s : KnownLine). line_report (host_key_record wanted form asking name h.before number line s) (host_key_counts wanted asking h.before line (known_line line)) ∷ more) (sym says)
          ∙ ap (λ (c : KeyCounts). line_report own c ∷ more) (sym is)),
      record {
        before = left;
        stored = subst (λ (s : KnownLine). RemembersLines new.earlier (h.before ++ host_kept_of number line s)) says (stores h.before h.stored);
        are_reports = ap (λ (k : List ℕ). host_key_line_reports_of k form asking name left lines) (sym same);
      },
      written h.before h.stored,
      λ are. lines-on before own after (written h.before h.stored) (if-lines (host_holds_key old.wanted.now line said) (host_line_record form asking name h.before number line said) (host-record-lines form asking name h.before number line said are)),
    )

pub known-key-fits : (wanted : List ℕ) (asking : Asking) (file : List ℕ) → length file ≤ file_limit → AreCounts (host_key_counts_of wanted asking [] (numbered 1 (lines_of file))).counts
known-key-fits wanted asking file h = few-counts _ (length (lines_of file)) (host-key-within wanted asking [] 1 (lines_of file)) (few-lines file h)

pub known-key-whole : (wanted : List ℕ) (form : Form) (asking : Asking) (name file : List ℕ) (r : KeyReview) → length file ≤ file_limit
    → r ≡ reviewed_by form name file (host_key_records_of wanted (AsLines form) asking name [] (numbered 1 (lines_of file))) (host_key_counts_of wanted asking [] (numbered 1 (lines_of file)))
    → r ≡ known_key_review wanted form asking name file
unfolding host_whole_key_review
known-key-whole wanted form asking name file r few is =
    is ∙ ap (λ (b : Bool). if b then key_fault_review form name TooLong else host_whole_key_review wanted form asking name file) (sym (within-false (length file) few))
