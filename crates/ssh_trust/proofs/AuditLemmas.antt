-- What an audit has read, whatever it searches for: no piece, one more line, or a piece without one.
use Rattle.ssh_trust.proofs.Imports.{◌≡◌, ℕ, zero, suc, ◌+◌, ◌<◌, ◌≤◌, true, false, List, [], ◌∷◌, ◌++◌, length, take, drop, append_assoc, refl, sym, ap, subst, ◌∙◌, arith, length-append, take_all, take-append-drop, take-add, Line, Whole, TooLong, file_limit, line_len, lines_of, numbered, IsLastLine, IsReadyLine, has_newline, up_to_newline, unfinished, whole_lines, adds-none, adds-one, ends-none, ends-one, Pieces, HasRead, HasTaken, Search, IsHandedLine, HasFound}
use Rattle.ssh_trust.specs.Scan.{after_lines}
use Rattle.ssh_trust.specs.Turns.{least_over, most_over}
use Rattle.ssh_trust.proofs.CandidateLemmas.{AreBytes, bytes-append}
use Rattle.ssh_trust.proofs.ScanLemmas.{after_lines-push}
use Rattle.ssh_trust.proofs.TurnLemmas.{least_over-push, most_over-push}

-- ---- what was found

-- before any line
pub found-none-yet : {C T S : Type 0} (claimed : T → C) (nothing : S) (add : C → S → ℕ × List ℕ → S) (most : C → List ℕ → ℕ) (least : C → S → ℕ × List ℕ → ℕ) (claim : C) (search : Search T S)
    → claimed search.matcher ≡ claim → search.state ≡ nothing → search.steps ≡ 0 → HasFound claimed nothing add most least claim [] search
unfolding after_lines most_over least_over
found-none-yet claimed nothing add most least claim search asked state none = record {
  matcher = asked;
  state = state;
  few = omega (arith, none);
  enough = omega (arith, none);
}

-- one more line
pub found-push : {C T S : Type 0} (claimed : T → C) (nothing : S) (add : C → S → ℕ × List ℕ → S) (most : C → List ℕ → ℕ) (least : C → S → ℕ × List ℕ → ℕ) (claim : C) (old new : Search T S)
    (lines : List (ℕ × List ℕ)) (x : ℕ × List ℕ) (taken : ℕ) → HasFound claimed nothing add most least claim lines old
    → new.matcher ≡ old.matcher → new.state ≡ add (claimed old.matcher) old.state x → new.steps ≤ old.steps + taken → old.steps ≤ new.steps → taken ≤ new.steps
    → taken ≤ most (claimed old.matcher) x.1 → least (claimed old.matcher) old.state x ≤ taken → HasFound claimed nothing add most least claim (lines ++ x ∷ []) new
found-push {S = S} claimed nothing add most least claim old new lines x taken h same more sum grown one few enough =
    let above : taken ≤ most claim x.1 = subst (λ c. taken ≤ most c x.1) h.matcher few in
    let below : least claim (after_lines (add claim) nothing lines) x ≤ taken =
    subst (λ s. least claim s x ≤ taken) h.state (subst (λ c. least c old.state x ≤ taken) h.matcher enough) in
    record {
      matcher = ap claimed same ∙ h.matcher;
      state =
          more ∙ ap (λ c. add c old.state x) h.matcher ∙ ap (λ (s : S). add claim s x) h.state
          ∙ sym (after_lines-push (add claim) nothing lines x);
      few = omega (arith, sum, above, h.few, most_over-push (most claim) lines x);
      enough = omega (arith, grown, one, below, h.enough, least_over-push (add claim) (least claim) nothing lines x);
    }

-- no piece yet
pub stands-new : {T S : Type 0} (Found : List (ℕ × List ℕ) → Search T S → Type 0) (audit : Pieces T S) → HasRead Found audit [] → audit.failed ≡ false → HasTaken Found audit []
stands-new Found audit read sound = record {
  read = read;
  octets = tt;
  short = omega arith;
  sound = sound;
}

-- ---- lines and pieces

-- a line that is ready is the last one, with its text
pub record Ready (bytes : List ℕ) (number : ℕ) (line : Line) : Type 0 where
  pub text : List ℕ
  pub last : IsLastLine bytes number text
  pub is : IsHandedLine line text

pub ready : (bytes : List ℕ) (number : ℕ) (line : Line) → IsReadyLine bytes (number, line) → Ready bytes number line
ready bytes number (Whole text) h = record { text = text.now; last = h.0; is = refl }
ready bytes number TooLong h = record { text = h.0; last = h.1; is = h.2 }

-- the lines that were found, with one more
pub found-line : {T : Type 0} (Found : List (ℕ × List ℕ) → T → Type 0) (old new : T) (used piece part : List ℕ) (number : ℕ) (line : List ℕ)
    → part ≡ up_to_newline piece → has_newline piece ≡ true → IsLastLine (used ++ part) number line
    → ((lines : List (ℕ × List ℕ)) → Found lines old → Found (lines ++ (number, line) ∷ []) new)
    → Found (numbered 1 (whole_lines used)) old → Found (numbered 1 (whole_lines (used ++ part))) new
found-line Found old new used piece part number line p e last more h =
    let at : IsLastLine (used ++ up_to_newline piece) number line = subst (λ s. IsLastLine (used ++ s) number line) p last in
    let lines = sym (adds-one used piece number line e at) ∙ ap (λ s. numbered 1 (whole_lines (used ++ s))) (sym p) in
    subst (λ ls. Found ls new) lines (more _ h)

-- a piece without an LF
pub found-part : {T : Type 0} (Found : List (ℕ × List ℕ) → T → Type 0) (now : T) (used piece part : List ℕ)
    → part ≡ piece → has_newline piece ≡ false
    → Found (numbered 1 (whole_lines used)) now → Found (numbered 1 (whole_lines (used ++ part))) now
found-part Found now used piece part p e h =
    let lines = ap (λ ls. numbered 1 ls) (sym (adds-none used piece e)) ∙ ap (λ s. numbered 1 (whole_lines (used ++ s))) (sym p) in
    subst (λ ls. Found ls now) lines h

-- at the end: the line that lacks its LF
pub found-last : {T : Type 0} (Found : List (ℕ × List ℕ) → T → Type 0) (old new : T) (used : List ℕ) (number : ℕ) (line : List ℕ)
    → 0 < length (unfinished used) → IsLastLine used number line
    → ((lines : List (ℕ × List ℕ)) → Found lines old → Found (lines ++ (number, line) ∷ []) new)
    → Found (numbered 1 (whole_lines used)) old → Found (numbered 1 (lines_of used)) new
found-last Found old new used number line some last more h =
    subst (λ ls. Found ls new) (sym (ends-one used number line some last)) (more _ h)

no-bytes : (bytes : List ℕ) → (0 < length bytes → ⊥) → bytes ≡ []
no-bytes [] h = refl
no-bytes (c ∷ cs) h = absurd (h (omega arith))

-- or nothing
pub found-none : {T : Type 0} (Found : List (ℕ × List ℕ) → T → Type 0) (now : T) (used : List ℕ) → (0 < length (unfinished used) → ⊥)
    → Found (numbered 1 (whole_lines used)) now → Found (numbered 1 (lines_of used)) now
found-none Found now used none h =
    subst (λ ls. Found (numbered 1 ls) now) (sym (ends-none used (no-bytes (unfinished used) none))) h

-- the part of a piece that was taken, and the next one
pub parts-add : (used piece : List ℕ) (n m : ℕ) → used ++ take (n + m) piece ≡ used ++ take n piece ++ take m (drop n piece)
parts-add used piece n m = ap (λ s. used ++ s) (take-add n m piece) ∙ sym (append_assoc used (take n piece) (take m (drop n piece)))

pub parts-all : (used piece : List ℕ) (n m : ℕ) → m ≡ length (drop n piece) → used ++ piece ≡ used ++ take n piece ++ take m (drop n piece)
parts-all used piece n m e =
    let all : take m (drop n piece) ≡ drop n piece = take_all m (drop n piece) (omega arith) in
    ap (λ s. used ++ s) (sym (take-append-drop n piece)) ∙ sym (append_assoc used (take n piece) (drop n piece))
    ∙ ap (λ s. used ++ take n piece ++ s) (sym all)

take-length : (k : ℕ) (piece : List ℕ) → take (length (take k piece)) piece ≡ take k piece
take-length zero piece = refl
take-length (suc k) [] = refl
take-length (suc k) (c ∷ cs) = ap (λ s. c ∷ s) (take-length k cs)

-- a line and its LF, as the part of the piece that they are
pub part-of : (text piece : List ℕ) → text ++ 10 ∷ [] ≡ up_to_newline piece → take (length text + 1) piece ≡ up_to_newline piece
part-of text piece e =
    let n : length text + 1 ≡ length (up_to_newline piece) = sym (length-append text (10 ∷ [])) ∙ ap (λ s. length s) e in
    ap (λ k. take k piece) n ∙ take-length (line_len piece + 1) piece

-- a piece that was taken
pub taken-more : {T S : Type 0} (Found : List (ℕ × List ℕ) → Search T S → Type 0) (old new : Pieces T S) (bytes piece : List ℕ)
    → HasTaken Found old bytes → AreBytes piece → old.scanner.used + length piece ≤ file_limit → new.failed ≡ false
    → HasRead Found new (bytes ++ piece) → HasTaken Found new (bytes ++ piece)
taken-more Found old new bytes piece h are short sound read =
    let used = h.read.scanned.used in
    let long = length-append bytes piece in
    record { read = read; octets = bytes-append bytes piece h.octets are; short = omega (arith, short); sound = sound }
