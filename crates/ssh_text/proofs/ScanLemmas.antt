-- The state of a scanner, call by call.
use Rattle.ssh_text.proofs.Imports.{◌≡◌, ℕ, suc, ◌+◌, ◌-◌, ◌<◌, ◌≤◌, ◌^◌, ◌↔◌, IsTrue, not, zero, Bool, true, false, if◌then◌else◌, inl, inr, List, [], ◌∷◌, ◌++◌, length, refl, sym, ap, ◌∙◌, arith, append_assoc, append-nil, length-append, lines_of, line_limit, Kept, KeepsLine, kept_count, Scan, IsScan, open_count, lines_begun, StandsFor, HasNoNewline, unfinished, with_newlines, IsLastLine}
use Rattle.ssh_text.proofs.LineLemmas.{lines_of-last}
use Rattle.ssh_text.proofs.NewlineLemmas.{AreFree, AreFree-push, with_newlines-push, lines_of-after, lines_of-whole, unfinished-after, free-append, length-push, get-last}

abbrev pub ended_by : Bool → List ℕ → List ℕ
ended_by b line = if b then line ++ 10 ∷ [] else line

-- more bytes of the line that the scanner is in
pub stands-append : (s : Scan) (new : Kept) (bytes part : List ℕ) → s.ended ≡ false → HasNoNewline part
    → ((line : List ℕ) → KeepsLine s.kept line → KeepsLine new (line ++ part)) → StandsFor s bytes
    → StandsFor (record { used = s.used + length part; lines = s.lines; kept = new; ended = false; ready = false }) (bytes ++ part)
stands-append s new bytes part e free k h = record {
  before = h.before;
  line = h.line ++ part;
  cut = h.cut;
  free = free-append h.line part h.free free;
  whole =
      ap (λ b. b ++ part) (h.whole ∙ ap (λ b. with_newlines h.before ++ ended_by b h.line) e)
      ∙ append_assoc (with_newlines h.before) h.line part;
  used = ap (λ n. n + length part) h.used ∙ sym (length-append bytes part);
  lines = h.lines;
  kept = k h.line h.kept;
  ready = λ f. cc;
}

-- bytes of the next line
pub stands-begin : (s : Scan) (new : Kept) (bytes part : List ℕ) → s.ended ≡ true → HasNoNewline part
    → KeepsLine new part → StandsFor s bytes
    → StandsFor (record { used = s.used + length part; lines = s.lines + 1; kept = new; ended = false; ready = false }) (bytes ++ part)
stands-begin s new bytes part e free k h = record {
  before = h.before ++ h.line ∷ [];
  line = part;
  cut = AreFree-push h.before h.line h.cut h.free;
  free = free;
  whole =
      ap (λ b. b ++ part)
      (h.whole ∙ ap (λ b. with_newlines h.before ++ ended_by b h.line) e ∙ sym (with_newlines-push h.before h.line));
  used = ap (λ n. n + length part) h.used ∙ sym (length-append bytes part);
  lines = ap (λ n. n + 1) h.lines ∙ sym (length-push h.before h.line);
  kept = k;
  ready = λ f. cc;
}

-- the invariant where bytes of the next line, or more bytes of the same line, were used
pub counted-begin : (s : Scan) (new : Kept) (n : ℕ) → IsScan s → s.ended ≡ true → s.used + n < 2 ^ 64 → length new.bytes ≤ line_limit → kept_count new ≤ n
    → IsScan (record { used = s.used + n; lines = s.lines + 1; kept = new; ended = false; ready = false })
counted-begin s new n i e fits bounded few =
    let one : open_count s ≡ 1 = ap (λ b. if b then 1 else kept_count s.kept) e in
    let lines = i.counted in
    record { bounded = bounded; fits = fits; counted = omega arith; some = λ f. cc }

pub counted-append : (s : Scan) (new : Kept) (n : ℕ) → IsScan s → s.ended ≡ false → s.used + n < 2 ^ 64 → length new.bytes ≤ line_limit → kept_count new ≤ kept_count s.kept + n
    → IsScan (record { used = s.used + n; lines = s.lines; kept = new; ended = false; ready = false })
counted-append s new n i e fits bounded few =
    let one : open_count s ≡ kept_count s.kept = ap (λ b. if b then 1 else kept_count s.kept) e in
    let lines = i.counted in
    record { bounded = bounded; fits = fits; counted = omega arith; some = λ f. cc }

-- what is left after the last LF
pub unfinished-open : (s : Scan) (bytes : List ℕ) (h : StandsFor s bytes) → s.ended ≡ false → unfinished bytes ≡ h.line
unfinished-open s bytes h e =
    ap unfinished (h.whole ∙ ap (λ b. with_newlines h.before ++ ended_by b h.line) e) ∙ unfinished-after h.before h.line h.free

pub unfinished-ended : (s : Scan) (bytes : List ℕ) → StandsFor s bytes → s.ended ≡ true → unfinished bytes ≡ []
unfinished-ended s bytes h e =
    let whole : bytes ≡ with_newlines (h.before ++ h.line ∷ []) ++ [] =
    h.whole ∙ ap (λ b. with_newlines h.before ++ ended_by b h.line) e
    ∙ sym (with_newlines-push h.before h.line) ∙ sym (append-nil (with_newlines (h.before ++ h.line ∷ []))) in
    ap unfinished whole ∙ unfinished-after (h.before ++ h.line ∷ []) [] tt

-- the lines where the scanner's line is one
lines-ready : (s : Scan) (bytes : List ℕ) (h : StandsFor s bytes) (b : Bool) → s.ended ≡ b → (b ≡ false → 0 < length h.line)
    → lines_of bytes ≡ h.before ++ h.line ∷ []
lines-ready s bytes h true e some =
    ap lines_of (h.whole ∙ ap (λ b. with_newlines h.before ++ ended_by b h.line) e ∙ sym (with_newlines-push h.before h.line))
    ∙ lines_of-whole (h.before ++ h.line ∷ []) (AreFree-push h.before h.line h.cut h.free)
lines-ready s bytes h false e some =
    ap lines_of (h.whole ∙ ap (λ b. with_newlines h.before ++ ended_by b h.line) e)
    ∙ lines_of-after h.before h.line h.cut
    ∙ ap (λ ls. h.before ++ ls) (lines_of-last h.line h.free (λ f. let n : length h.line ≡ 0 = ap (λ l. length l) f in let p = some refl in absurd (omega arith)))

ready-some : (s : Scan) (bytes : List ℕ) (h : StandsFor s bytes) → s.ready ≡ true → s.ended ≡ false → 0 < length h.line
ready-some s bytes h r e =
    elim (h.ready r) [
      | inl f ↦ let g : true ≡ false = sym f ∙ e in absurd cc
      | inr p ↦ p
    ]

pub at-last : (bytes : List ℕ) (n : ℕ) (before : List (List ℕ)) (line : List ℕ) → lines_of bytes ≡ before ++ line ∷ [] → n ≡ length before
    → IsLastLine bytes (n + 1) line
at-last bytes n before line e m =
    let one : n + 1 - 1 ≡ length before = omega arith in
    record {
      at = (omega arith, rw (one, e) (get-last before line));
      last = rw (e, length-push before line, m) refl;
    }

-- the line that is ready is the last one
pub ready-last : (s : Scan) (bytes : List ℕ) (h : StandsFor s bytes) → s.ready ≡ true → IsLastLine bytes (s.lines + 1) h.line
ready-last s bytes h r =
    at-last bytes s.lines h.before h.line
    (lines-ready s bytes h s.ended refl (λ e. ready-some s bytes h r e)) h.lines

pub not-empty : (b : Bool) (n : ℕ) → IsTrue b ↔ (n ≡ 0) → IsTrue (not b) ↔ (0 < n)
not-empty true n h = ((λ f. cc), (λ p. let z = h.0 refl in absurd (omega arith)))
not-empty false zero h = ((λ f. let g : false ≡ true = h.1 refl in cc), (λ p. refl))
not-empty false (suc n) h = ((λ f. omega arith), (λ p. refl))

-- ---- a line that is passed over

-- where no line is unfinished, the lines that were begun are all of them
record Begun (s : Scan) (bytes : List ℕ) : Type 0 where
  lines : List (List ℕ)
  cut : AreFree lines
  whole : bytes ≡ with_newlines lines
  count : lines_begun s ≡ length lines

no-bytes : (line : List ℕ) → length line ≡ 0 → line ≡ []
no-bytes [] e = refl
no-bytes (c ∷ cs) e = absurd (omega arith)

begun : (s : Scan) (bytes : List ℕ) (h : StandsFor s bytes) → length (unfinished bytes) ≡ 0 → (b : Bool) → s.ended ≡ b → Begun s bytes
begun s bytes h e true t = record {
  lines = h.before ++ h.line ∷ [];
  cut = AreFree-push h.before h.line h.cut h.free;
  whole = h.whole ∙ ap (λ b. with_newlines h.before ++ ended_by b h.line) t ∙ sym (with_newlines-push h.before h.line);
  count = ap (λ b. if b then s.lines + 1 else s.lines) t ∙ ap (λ n. n + 1) h.lines ∙ sym (length-push h.before h.line);
}
begun s bytes h e false t =
    let none : h.line ≡ [] = no-bytes h.line (sym (ap (λ l. length l) (unfinished-open s bytes h t)) ∙ e) in
    record {
      lines = h.before;
      cut = h.cut;
      whole =
          h.whole ∙ ap (λ b. with_newlines h.before ++ ended_by b h.line) t
          ∙ ap (λ l. with_newlines h.before ++ l) none ∙ append-nil (with_newlines h.before);
      count = ap (λ b. if b then s.lines + 1 else s.lines) t ∙ h.lines;
    }

passed : (s : Scan) (bytes line : List ℕ) (b : Begun s bytes) → bytes ++ (line ++ 10 ∷ []) ≡ with_newlines (b.lines ++ line ∷ [])
passed s bytes line b = ap (λ x. x ++ (line ++ 10 ∷ [])) b.whole ∙ sym (with_newlines-push b.lines line)

pub passed-line : (s : Scan) (bytes line : List ℕ) (n : ℕ) → n ≡ lines_begun s → HasNoNewline line → StandsFor s bytes
    → length (unfinished bytes) ≡ 0 → IsLastLine (bytes ++ (line ++ 10 ∷ [])) (n + 1) line
passed-line s bytes line n m free h e =
    let b = begun s bytes h e s.ended refl in
    at-last (bytes ++ (line ++ 10 ∷ [])) n b.lines line
    (ap lines_of (passed s bytes line b) ∙ lines_of-whole (b.lines ++ line ∷ []) (AreFree-push b.lines line b.cut free)) (m ∙ b.count)

pub stands-passed : (s : Scan) (new : Kept) (bytes line : List ℕ) (n : ℕ) → n ≡ lines_begun s → HasNoNewline line → KeepsLine new [] → StandsFor s bytes
    → length (unfinished bytes) ≡ 0
    → StandsFor (record { used = s.used + (length line + 1); lines = n + 1; kept = new; ended = false; ready = false }) (bytes ++ (line ++ 10 ∷ []))
stands-passed s new bytes line n m free k h e =
    let b = begun s bytes h e s.ended refl in
    let long : length (line ++ 10 ∷ []) ≡ length line + 1 = length-push line 10 in
    record {
      before = b.lines ++ line ∷ [];
      line = [];
      cut = AreFree-push b.lines line b.cut free;
      free = tt;
      whole = passed s bytes line b ∙ sym (append-nil (with_newlines (b.lines ++ line ∷ [])));
      used = ap (λ n. n + (length line + 1)) h.used ∙ ap (λ n. length bytes + n) (sym long) ∙ sym (length-append bytes (line ++ 10 ∷ []));
      lines = ap (λ n. n + 1) (m ∙ b.count) ∙ sym (length-push b.lines line);
      kept = k;
      ready = λ f. cc;
    }
