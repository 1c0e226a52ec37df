-- A review whose records are made a few at a time (this project's rule): what is left of it, and what is stored meanwhile.
use Rattle.std.specs.Prelude.{◌≡◌, ◌≤◌, ◌<◌, ◌+◌, ◌*◌, ◌^◌, ◌⊎◌, ◌++◌, ◌∷◌, [], ℕ, List, length}
use Rattle.ssh_text.specs.Text.{line_limit, lines_of, numbered}
use Rattle.ssh_findings.specs.Asking.{Asking}
use Rattle.ssh_findings.specs.CodeCounts.{number_of}
use Rattle.ssh_findings.specs.Earlier.{Held}
use Rattle.ssh_findings.specs.HostFindingsMemory.{host_bytes_kept, text_bytes_kept, texts_kept}
use Rattle.ssh_findings.specs.HostLines.{HostLine}
use Rattle.ssh_findings.specs.Keeping.{RemembersEntries}
use Rattle.ssh_findings.specs.Memory.{bytes_kept, keys_kept}
use Rattle.ssh_findings.specs.StandsFor.{RemembersLines}
use Rattle.ssh_findings.specs.declared.code.Code.{Code}
use Rattle.ssh_findings.specs.declared.earlier.Earlier.{Earlier}
use Rattle.ssh_findings.specs.declared.host_earlier.EarlierHosts.{EarlierHosts}
use Rattle.ssh_review.specs.declared.end.Counts.{Counts}
use Rattle.ssh_review.specs.declared.key_review.KeyCounts.{KeyCounts}
use Rattle.ssh_review.specs.declared.records.ForKey.{ForKey}
use Rattle.ssh_review.specs.declared.records.RecordForm.{RecordForm}
use Rattle.ssh_review.specs.declared.records.RecordForm.TheVariants.{AsLines, AsRow}
use Rattle.ssh_review.specs.declared.records.Records.{Records}
use Rattle.ssh_review.specs.declared.show.Show.{Show}
use Rattle.std.specs.List.{flat_map}
use Rattle.ssh_review.specs.DistinctKeys.{KeySet, with_keys}
use Rattle.ssh_review.specs.HostLines.{host_kept_lines}
use Rattle.ssh_review.specs.HostMemory.{host_line_bytes, host_line_spelling, host_line_sum, over_lines}
use Rattle.ssh_review.specs.KeyRecords.{plus_key}
use Rattle.ssh_review.specs.Lines.{counts_of, held_lines}
use Rattle.ssh_review.specs.Memory.{lines_bytes}
use Rattle.ssh_review.specs.ShownRecords.{shown_records}
use Rattle.ssh_review.specs.LineReports.{LineReport, host_key_line_reports_of, host_line_reports_of, key_line_reports_of, line_reports_of, report_counts}

-- each count fits into 64 bits
pub record AreCounts (counts : Counts) : Type 0 where
  pub lines : counts.lines < 2 ^ 64
  pub keys : counts.keys < 2 ^ 64
  pub unreadable : counts.unreadable < 2 ^ 64
  pub findings : counts.findings < 2 ^ 64
  pub by_code : (c : Code) → number_of counts.by_code c < 2 ^ 64

-- the last byte is an LF
abbrev pub EndsLine : List ℕ → Type 0
EndsLine text = (before : List ℕ) × (text ≡ before ++ 10 ∷ [])

-- records of this form are lines
abbrev pub IsWrittenInLines : RecordForm → Type 0
IsWrittenInLines (AsLines form) = Unit {0}
IsWrittenInLines (AsRow file) = ⊥

-- no line is cut off
abbrev pub AreWholeLines : List ℕ → Type 0
AreWholeLines text = (text ≡ []) ⊎ EndsLine text

-- ---- what the lines that are left tell, each with its number, after those of the same file whose records were made

-- Of an authorized_keys file: their records and counts. What is stored then, with what these lines add, is no more than the
-- file.
pub record AuthTells (earlier : Earlier) (form : RecordForm) (asking : Asking) (name file : List ℕ) (lines : List (ℕ × List ℕ)) (line_reports : List LineReport) : Type 0 where
  -- the entries before
  pub held : List Held
  pub stored : RemembersEntries earlier held
  pub are_reports : line_reports ≡ line_reports_of form asking name held lines
  -- with those of these lines they are the entries of the file
  pub kept : held ++ held_lines asking lines ≡ held_lines asking (numbered 1 (lines_of file))
  -- of an entry at most its key blob and its forced command are stored
  pub bytes : bytes_kept earlier + lines_bytes asking lines ≤ lines_bytes asking (numbered 1 (lines_of file))
  pub file_bytes : bytes_kept earlier + lines_bytes asking lines ≤ length file
  pub file_keys : keys_kept earlier + (counts_of asking held lines).keys ≤ length file

-- The same of a known_hosts file. Only of a revocation with another encoding of its key, the key's own blob is stored too.
pub record KnownTells (earlier : EarlierHosts) (form : RecordForm) (asking : Asking) (name file : List ℕ) (lines : List (ℕ × List ℕ)) (line_reports : List LineReport) : Type 0 where
  pub before : List HostLine
  pub stored : RemembersLines earlier before
  pub are_reports : line_reports ≡ host_line_reports_of form asking name before lines
  pub kept : before ++ host_kept_lines lines ≡ host_kept_lines (numbered 1 (lines_of file))
  -- of an entry at most its blob and its plain names are stored; here the blob is counted for each name too
  pub bytes : host_bytes_kept earlier + over_lines host_line_bytes lines ≤ over_lines host_line_bytes (numbered 1 (lines_of file))
  pub file_texts : text_bytes_kept earlier + over_lines (host_line_sum (λ text. length text)) lines ≤ length file + over_lines host_line_spelling (numbered 1 (lines_of file))
  pub file_keys : texts_kept earlier + over_lines (host_line_sum (λ text. 1)) lines ≤ length file
  pub file_bytes : host_bytes_kept earlier + over_lines host_line_bytes lines ≤ line_limit * length file + over_lines host_line_spelling (numbered 1 (lines_of file))

-- the records of those that hold one key, and their counts
pub record AuthKeyTells (x : ForKey Earlier) (form : RecordForm) (asking : Asking) (name file : List ℕ) (lines : List (ℕ × List ℕ)) (line_reports : List LineReport) : Type 0 where
  pub held : List Held
  pub stored : RemembersEntries x.earlier held
  pub are_reports : line_reports ≡ key_line_reports_of x.wanted.now form asking name held lines

pub record KnownKeyTells (x : ForKey EarlierHosts) (form : RecordForm) (asking : Asking) (name file : List ℕ) (lines : List (ℕ × List ℕ)) (line_reports : List LineReport) : Type 0 where
  pub before : List HostLine
  pub stored : RemembersLines x.earlier before
  pub are_reports : line_reports ≡ host_key_line_reports_of x.wanted.now form asking name before lines

-- ---- the review

-- the lines that are left, each with its number
abbrev pub lines_left : {S : Type 0} → Records S → List (ℕ × List ℕ)
lines_left r = numbered (r.lines).0 (lines_of (r.lines).1)

-- This text is left of the review of a file, where these records are shown, by what its lines tell; and these are the counts
-- of the whole file.
pub record HasLeft {S : Type 0} (tells : S → RecordForm → Asking → List ℕ → List ℕ → List (ℕ × List ℕ) → List LineReport → Type 0) (show : Show) (form : RecordForm) (asking : Asking) (name file text : List ℕ) (all : KeyCounts) (r : Records S) : Type 0 where
  pub more : List LineReport
  pub left : tells r.earlier form asking name file (lines_left r) more
  pub are_records : text ≡ shown_records show more
  pub sum : all ≡ plus_key r.reported (report_counts more)
  pub fits : AreCounts all.counts

-- with the keys of the lines whose records are not made yet
abbrev pub keys_left : {S : Type 0} → (List ℕ → List (List ℕ)) → Records S → KeySet → KeySet
keys_left keys_on r keys = with_keys keys (flat_map (λ line. keys_on line.1) (lines_left r))

-- From one state of a review to a later one: whatever text was left, what was appended to this is its front, in whole lines if
-- the records are lines, and the rest of it is left.
abbrev pub MakesFront : {S : Type 0} → (S → RecordForm → Asking → List ℕ → List ℕ → List (ℕ × List ℕ) → List LineReport → Type 0) → Show → RecordForm → Asking → List ℕ → Records S → Records S → List ℕ → List ℕ → Type 0
MakesFront tells show form asking name old new before after = (file text : List ℕ) (all : KeyCounts) → HasLeft tells show form asking name file text all old
    → (rest : List ℕ) × HasLeft tells show form asking name file rest all new × (after ++ rest ≡ before ++ text) × (IsWrittenInLines form → AreWholeLines before → AreWholeLines after)

-- nothing is left, and the counts are those of the whole file
abbrev pub IsAllMade : {S : Type 0} → (S → RecordForm → Asking → List ℕ → List ℕ → List (ℕ × List ℕ) → List LineReport → Type 0) → Show → RecordForm → Asking → List ℕ → Records S → Type 0
IsAllMade tells show form asking name r = (file text : List ℕ) (all : KeyCounts) → HasLeft tells show form asking name file text all r → (text ≡ []) × (r.reported ≡ all)
