-- Records that are made one after the other: what was appended is the front of what was left.
use Rattle.ssh_review.proofs.Imports.{◌≡◌, ◌∙◌, ℕ, ◌+◌, ◌≤◌, ◌<◌, ◌^◌, Bool, true, false, ◌||◌, List, [], ◌∷◌, ◌++◌, refl, sym, ap, subst, append_assoc, append-nil, add_assoc, arith, file_limit, ltb-true, nat_lt, Asking, Code, Counts, Form, RecordForm, no_counts, plus}
use Rattle.ssh_review.specs.KeyRecords.{no_key_counts, plus_key, plus_key_within}
use Rattle.std.proofs.Math.Nat.{min-eq_left}
use Rattle.ssh_findings.proofs.CodeCountLemmas.{codes-assoc, codes-none, codes-within, none-codes, number-plus}
use Rattle.ssh_findings.specs.CodeCounts.{number_of, plus_codes, sum_within}
use Rattle.ssh_findings.specs.declared.code_counts.CodeCounts.{CodeCounts}
use Rattle.std.specs.Prelude.{if◌then◌else◌, length, take}
use Rattle.ssh_review.specs.Counting.{plus_within}
use Rattle.ssh_review.specs.KeyReviews.{reviewed_by}
use Rattle.ssh_review.specs.Making.{AreCounts, IsWrittenInLines, AreWholeLines, HasLeft, IsAllMade, MakesFront, lines_left}
use Rattle.ssh_review.specs.DistinctKeys.{KeySet, with_keys}
use Rattle.ssh_review.proofs.DistinctLemmas.{with-both}
use Rattle.std.specs.List.{flat_map}
use Rattle.ssh_review.specs.declared.key_review.KeyCounts.{KeyCounts}
use Rattle.ssh_review.specs.declared.records.Records.{Records}
use Rattle.ssh_review.specs.declared.show.Show.{Show}
use Rattle.ssh_review.specs.ShownRecords.{is_shown, shown_records}
use Rattle.ssh_review.specs.LineReports.{LineReport, line_report, report_counts}
use Rattle.std.proofs.Math.Seq.{take-append_seam}
use Rattle.ssh_review.proofs.LineLemmas.{Within}

-- ---- sums

pub plus-assoc : (a b c : Counts) → plus (plus a b) c ≡ plus a (plus b c)
plus-assoc a b c =
    rw (
      add_assoc a.lines b.lines c.lines,
      add_assoc a.keys b.keys c.keys,
      add_assoc a.unreadable b.unreadable c.unreadable,
      add_assoc a.findings b.findings c.findings,
      codes-assoc a.by_code b.by_code c.by_code,
    ) refl

or-assoc : (a b c : Bool) → ((a || b) || c) ≡ (a || (b || c))
or-assoc true b c = refl
or-assoc false b c = refl

or-false : (a : Bool) → (a || false) ≡ a
or-false true = refl
or-false false = refl

abbrev made : Counts → Bool → KeyCounts
made counts stands = record { counts = counts; stands = stands }

plus-key-assoc : (a b c : KeyCounts) → plus_key (plus_key a b) c ≡ plus_key a (plus_key b c)
plus-key-assoc a b c =
    ap (λ (x : Counts). made x ((a.stands || b.stands) || c.stands)) (plus-assoc a.counts b.counts c.counts)
    ∙ ap (λ (x : Bool). made (plus a.counts (plus b.counts c.counts)) x) (or-assoc a.stands b.stands c.stands)

plus-none : (a : Counts) → plus a no_counts ≡ a
plus-none a =
    let lines : a.lines + 0 ≡ a.lines = omega arith in
    let keys : a.keys + 0 ≡ a.keys = omega arith in
    let unreadable : a.unreadable + 0 ≡ a.unreadable = omega arith in
    let findings : a.findings + 0 ≡ a.findings = omega arith in
    rw (lines, keys, unreadable, findings, codes-none a.by_code) refl

plus-key-none : (a : KeyCounts) → plus_key a no_key_counts ≡ a
plus-key-none a = ap (λ (x : Counts). made x (a.stands || false)) (plus-none a.counts) ∙ ap (λ (x : Bool). made a.counts x) (or-false a.stands)

none-plus : (a : Counts) → a ≡ plus no_counts a
none-plus a =
    let lines : 0 + a.lines ≡ a.lines = omega arith in
    let keys : 0 + a.keys ≡ a.keys = omega arith in
    let unreadable : 0 + a.unreadable ≡ a.unreadable = omega arith in
    let findings : 0 + a.findings ≡ a.findings = omega arith in
    rw (lines, keys, unreadable, findings, none-codes a.by_code) refl

none-plus-key : (a : KeyCounts) → a ≡ plus_key no_key_counts a
none-plus-key a = ap (λ (x : Counts). made x a.stands) (none-plus a.counts)

-- a part of a sum that fits
part-few : (before reported rest : CodeCounts) (c : Code) → number_of (plus_codes before (plus_codes reported rest)) c < 2 ^ 64 → number_of (plus_codes before reported) c < 2 ^ 64
part-few before reported rest c h =
    omega (arith, h, number-plus before reported c, number-plus before (plus_codes reported rest) c, number-plus reported rest c)

pub part-fits : (before reported rest all : KeyCounts) → AreCounts all.counts → all ≡ plus_key before (plus_key reported rest) → AreCounts (plus before.counts reported.counts)
part-fits before reported rest all fits is =
    let lines : all.counts.lines ≡ before.counts.lines + (reported.counts.lines + rest.counts.lines) = ap (λ (k : KeyCounts). k.counts.lines) is in
    let keys : all.counts.keys ≡ before.counts.keys + (reported.counts.keys + rest.counts.keys) = ap (λ (k : KeyCounts). k.counts.keys) is in
    let unreadable : all.counts.unreadable ≡ before.counts.unreadable + (reported.counts.unreadable + rest.counts.unreadable) = ap (λ (k : KeyCounts). k.counts.unreadable) is in
    let findings : all.counts.findings ≡ before.counts.findings + (reported.counts.findings + rest.counts.findings) = ap (λ (k : KeyCounts). k.counts.findings) is in
    record {
      lines = omega (arith, lines, fits.lines);
      keys = omega (arith, keys, fits.keys);
      unreadable = omega (arith, unreadable, fits.unreadable);
      findings = omega (arith, findings, fits.findings);
      by_code = λ c. part-few before.counts.by_code reported.counts.by_code rest.counts.by_code c (subst (λ n. n < 2 ^ 64) (ap (λ (k : KeyCounts). number_of k.counts.by_code c) is) (fits.by_code c));
    }

-- a sum that fits is not cut off
within-same : (a b : Counts) → AreCounts (plus a b) → plus_within a b ≡ plus a b
within-same a b h =
    let lines : sum_within a.lines b.lines ≡ a.lines + b.lines = min-eq_left (omega (arith, h.lines)) in
    let keys : sum_within a.keys b.keys ≡ a.keys + b.keys = min-eq_left (omega (arith, h.keys)) in
    let unreadable : sum_within a.unreadable b.unreadable ≡ a.unreadable + b.unreadable = min-eq_left (omega (arith, h.unreadable)) in
    let findings : sum_within a.findings b.findings ≡ a.findings + b.findings = min-eq_left (omega (arith, h.findings)) in
    rw (lines, keys, unreadable, findings, codes-within a.by_code b.by_code h.by_code) refl

key-within-same : (a b : KeyCounts) → AreCounts (plus a.counts b.counts) → plus_key_within a b ≡ plus_key a b
key-within-same a b h = ap (λ (x : Counts). made x (a.stands || b.stands)) (within-same a.counts b.counts h)

-- the counts of a file within the limit fit
pub few-counts : (counts : Counts) (n : ℕ) → Within counts n → n ≤ file_limit → AreCounts counts
few-counts counts n w h = record {
  lines = omega (arith, w.lines);
  keys = omega (arith, w.keys);
  unreadable = omega (arith, w.unreadable);
  findings = omega (arith, w.findings);
  by_code = λ c. omega (arith, w.by_code c);
}

-- such a file is not too long
pub within-false : (n : ℕ) → n ≤ file_limit → nat_lt file_limit n ≡ false
within-false n h = go (nat_lt file_limit n) refl
  where
    go : (b : Bool) → nat_lt file_limit n ≡ b → nat_lt file_limit n ≡ false
    go true e = absurd (omega (arith, ltb-true file_limit n e, h))
    go false e = e

-- ---- what is shown

-- what was appended stays where it is shown
shown-left : (shown : Bool) (before own made after : List ℕ) → made ≡ before ++ own → (shown ≡ true → after ≡ made) → (shown ≡ false → after ≡ take (length before) made)
    → after ≡ before ++ (if shown then own else [])
shown-left true before own made after is kept left = kept refl ∙ is
shown-left false before own made after is kept left = left refl ∙ (ap (take (length before)) is ∙ (take-append_seam before own ∙ sym (append-nil before)))

lines-left : (shown : Bool) (before own made after : List ℕ) → made ≡ before ++ own → after ≡ before ++ (if shown then own else []) → (AreWholeLines before → AreWholeLines made)
    → AreWholeLines before → AreWholeLines after
lines-left true before own made after is left whole lines = subst AreWholeLines (is ∙ sym left) (whole lines)
lines-left false before own made after is left whole lines = subst AreWholeLines (sym (left ∙ append-nil before)) lines

-- ---- steps

-- nothing was appended
pub nothing-made : {S : Type 0} (tells : S → RecordForm → Asking → List ℕ → List ℕ → List (ℕ × List ℕ) → List LineReport → Type 0) (show : Show) (form : RecordForm) (asking : Asking) (name : List ℕ) (r : Records S) (out : List ℕ)
    → MakesFront tells show form asking name r r out out
nothing-made tells show form asking name r out file text all w = (text, w, refl, λ are lines. lines)

-- one step after another
pub made-on : {S : Type 0} (tells : S → RecordForm → Asking → List ℕ → List ℕ → List (ℕ × List ℕ) → List LineReport → Type 0) (show : Show) (form : RecordForm) (asking : Asking) (name : List ℕ) (old mid new : Records S) (before between after : List ℕ)
    → MakesFront tells show form asking name old mid before between → MakesFront tells show form asking name mid new between after → MakesFront tells show form asking name old new before after
made-on tells show form asking name old mid new before between after p q file text all w =
    let h = p file text all w in
    let k = q file h.0 all h.1 in
    (k.0, k.1, k.2 ∙ h.2, λ are lines. k.3 are (h.3 are lines))

-- no line was left
pub none-made : {S : Type 0} (tells : S → RecordForm → Asking → List ℕ → List ℕ → List (ℕ × List ℕ) → List LineReport → Type 0) (show : Show) (form : RecordForm) (asking : Asking) (name : List ℕ) (old new : Records S) (out : List ℕ)
    → lines_left old ≡ [] → lines_left new ≡ [] → new.earlier ≡ old.earlier → new.reported ≡ old.reported → MakesFront tells show form asking name old new out out
none-made {S = S} tells show form asking name old new out was is same counted file text all w = (
  text,
  record {
    more = w.more;
    left =
        subst (λ (x : S). tells x form asking name file (lines_left new) w.more) (sym same)
        (subst (λ (l : List (ℕ × List ℕ)). tells old.earlier form asking name file l w.more) (was ∙ sym is) w.left);
    are_records = w.are_records;
    sum = w.sum ∙ ap (λ k. plus_key k (report_counts w.more)) (sym counted);
    fits = w.fits;
  },
  refl,
  λ are lines. lines,
)

-- the record of one line was, and stays if it is shown
pub next-made : {S : Type 0} (tells : S → RecordForm → Asking → List ℕ → List ℕ → List (ℕ × List ℕ) → List LineReport → Type 0) (show : Show) (form : RecordForm) (asking : Asking) (name : List ℕ) (old new : Records S) (item : ℕ × List ℕ) (before made after : List ℕ) (reported : KeyCounts)
    → lines_left old ≡ item ∷ lines_left new
    → ((file : List ℕ) (lines : List (ℕ × List ℕ)) (line_reports : List LineReport) → tells old.earlier form asking name file (item ∷ lines) line_reports
    → (own : List ℕ) × (more : List LineReport) × (line_reports ≡ line_report own reported ∷ more) × tells new.earlier form asking name file lines more × (made ≡ before ++ own) × (IsWrittenInLines form → AreWholeLines before → AreWholeLines made))
    → (is_shown show reported.counts ≡ true → after ≡ made) → (is_shown show reported.counts ≡ false → after ≡ take (length before) made)
    → new.reported ≡ plus_key_within old.reported reported
    → MakesFront tells show form asking name old new before after
next-made tells show form asking name old new item before made after reported steps goes kept left adds file text all w =
    let (own, more, line_reports, tells_more, is, whole) = goes file (lines_left new) w.more (subst (λ (l : List (ℕ × List ℕ)). tells old.earlier form asking name file l w.more) steps w.left) in
    let sums : all ≡ plus_key old.reported (plus_key reported (report_counts more)) = w.sum ∙ ap (λ (t : List LineReport). plus_key old.reported (report_counts t)) line_reports in
    let added : new.reported ≡ plus_key old.reported reported = adds ∙ key-within-same old.reported reported (part-fits old.reported reported (report_counts more) all w.fits sums) in
    let shown = is_shown show reported.counts in
    let parts : text ≡ (if shown then own else []) ++ shown_records show more = w.are_records ∙ ap (shown_records show) line_reports in
    let stays : after ≡ before ++ (if shown then own else []) = shown-left shown before own made after is kept left in (
      shown_records show more,
      record {
        more = more;
        left = tells_more;
        are_records = refl;
        sum = sums ∙ (sym (plus-key-assoc old.reported reported (report_counts more)) ∙ ap (λ k. plus_key k (report_counts more)) (sym added));
        fits = w.fits;
      },
      ap (λ t. t ++ shown_records show more) stays ∙ (append_assoc before (if shown then own else []) (shown_records show more) ∙ ap (λ t. before ++ t) (sym parts)),
      λ are. lines-left shown before own made after is stays (whole are),
    )

-- where no line is left, all is made
pub all-made : {S : Type 0} (tells : S → RecordForm → Asking → List ℕ → List ℕ → List (ℕ × List ℕ) → List LineReport → Type 0) (show : Show) (form : RecordForm) (asking : Asking) (name : List ℕ) (r : Records S)
    → ((x : S) (form : RecordForm) (asking : Asking) (name file : List ℕ) (line_reports : List LineReport) → tells x form asking name file [] line_reports → line_reports ≡ [])
    → lines_left r ≡ [] → IsAllMade tells show form asking name r
all-made tells show form asking name r ends none file text all w =
    let h = ends r.earlier form asking name file w.more (subst (λ (l : List (ℕ × List ℕ)). tells r.earlier form asking name file l w.more) none w.left) in
    (w.are_records ∙ ap (shown_records show) h, sym (w.sum ∙ (ap (λ (t : List LineReport). plus_key r.reported (report_counts t)) h ∙ plus-key-none r.reported)))

-- before the first line
pub first-left : {S : Type 0} (tells : S → RecordForm → Asking → List ℕ → List ℕ → List (ℕ × List ℕ) → List LineReport → Type 0) (show : Show) (form : RecordForm) (asking : Asking) (name file text : List ℕ) (all : KeyCounts) (earlier : S) (lines : List (ℕ × List ℕ)) (line_reports : List LineReport) (r : Records S)
    → r.earlier ≡ earlier → lines_left r ≡ lines → r.reported ≡ no_key_counts → AreCounts all.counts → tells earlier form asking name file lines line_reports
    → text ≡ shown_records show line_reports → all ≡ report_counts line_reports → HasLeft tells show form asking name file text all r
first-left {S = S} tells show form asking name file text all earlier lines line_reports r same is none fits h are sums = record {
  more = line_reports;
  left =
      subst (λ (x : S). tells x form asking name file (lines_left r) line_reports) (sym same)
      (subst (λ (l : List (ℕ × List ℕ)). tells earlier form asking name file l line_reports) (sym is) h);
  are_records = are;
  sum = sums ∙ (none-plus-key (report_counts line_reports) ∙ ap (λ (k : KeyCounts). plus_key k (report_counts line_reports)) (sym none));
  fits = fits;
}

-- all of it was appended
pub all-appended : {S : Type 0} (tells : S → RecordForm → Asking → List ℕ → List ℕ → List (ℕ × List ℕ) → List LineReport → Type 0) (show : Show) (form : RecordForm) (asking : Asking) (name file text before after : List ℕ) (all : KeyCounts) (old new : Records S)
    → MakesFront tells show form asking name old new before after → IsAllMade tells show form asking name new → HasLeft tells show form asking name file text all old
    → (after ≡ before ++ text) × (new.reported ≡ all)
all-appended tells show form asking name file text before after all old new p over w =
    let h = p file text all w in
    let e = over file h.0 all h.1 in
    (sym (append-nil after) ∙ (ap (λ l. after ++ l) (sym e.0) ∙ h.2), e.1)

-- and the end of the file
pub whole-made : (form : Form) (name file text made : List ℕ) (all reported : KeyCounts) → made ≡ text → reported ≡ all → reviewed_by form name file made reported ≡ reviewed_by form name file text all
whole-made form name file text made all reported is counted = ap (λ (t : List ℕ). reviewed_by form name file t reported) is ∙ ap (reviewed_by form name file text) counted

-- ---- the keys that are noted

abbrev pub keys_of : (List ℕ → List (List ℕ)) → KeySet → List (ℕ × List ℕ) → KeySet
keys_of keys_on keys lines = with_keys keys (flat_map (λ line. keys_on line.1) lines)

pub keys-next : (keys_on : List ℕ → List (List ℕ)) (line : ℕ × List ℕ) (left rest : List (ℕ × List ℕ)) (before after : KeySet) → left ≡ line ∷ rest
    → after ≡ with_keys before (keys_on line.1) → keys_of keys_on after rest ≡ keys_of keys_on before left
keys-next keys_on line left rest before after steps noted =
    ap (λ (s : KeySet). keys_of keys_on s rest) noted
    ∙ (with-both before (keys_on line.1) (flat_map (λ (line : ℕ × List ℕ). keys_on line.1) rest)
    ∙ ap (keys_of keys_on before) (sym steps))

pub keys-same : (keys_on : List ℕ → List (List ℕ)) (old new : List (ℕ × List ℕ)) (keys : KeySet) → old ≡ [] → new ≡ [] → keys_of keys_on keys new ≡ keys_of keys_on keys old
keys-same keys_on old new keys before after = ap (keys_of keys_on keys) (after ∙ sym before)

pub keys-over : (keys_on : List ℕ → List (List ℕ)) (left : List (ℕ × List ℕ)) (keys all : KeySet) → left ≡ [] → keys_of keys_on keys left ≡ all → keys ≡ all
keys-over keys_on left keys all none h = ap (keys_of keys_on keys) (sym none) ∙ h
