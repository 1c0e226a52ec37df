-- A text that is written as it is made, and the review that it is of.
use Rattle.ssh_program.proofs.Imports.{◌≡◌, ◌∙◌, ◌<◌, ◌⊎◌, ◌++◌, ℕ, List, [], ◌∷◌, Option, None, Result, Ok, Err, OnOk, ap, sym, subst, refl, inl, inr, length, arith, append_assoc, append-nil, length-append, Account, Breaks, TakesAll, TakesUpTo, Asking, IfTells, SourceState, TellsFile, Form, RecordForm, AsLines}
use Rattle.ssh_files.specs.FilesInTurn.{Telling}
use Rattle.ssh_review.proofs.ShownRecordLemmas.{no-records}
use Rattle.ssh_review.specs.EndObjects.{end_object}
use Rattle.ssh_review.specs.Forms.{end_line}
use Rattle.ssh_review.specs.Making.{AreWholeLines, HasLeft, IsAllMade, MakesFront}
use Rattle.ssh_review.specs.declared.end.Counts.{Counts}
use Rattle.ssh_review.specs.declared.end.Form.TheVariants.{Json, Line, Text}
use Rattle.ssh_review.specs.declared.key_review.KeyCounts.{KeyCounts}
use Rattle.ssh_review.specs.declared.records.Records.{Records}
use Rattle.ssh_review.specs.declared.show.Show.{Show}
use Rattle.ssh_review.specs.declared.show.Show.TheVariants.{All, Found, Totals}
use Rattle.ssh_review.specs.ShownRecords.{shown_end, shown_records}
use Rattle.ssh_review.specs.LineReports.{LineReport}
use Rattle.ssh_program.specs.declared.streaming.FileReported.{FileReported}
use Rattle.ssh_program.specs.declared.streaming.Stop.{Stop}
use Rattle.ssh_program.specs.declared.streaming.Stop.TheVariants as stop
use Rattle.ssh_program.specs.FileReviews.{IsCutAt, TextPut, TextWritten, with_noted}
use Rattle.ssh_review.specs.DistinctKeys.{KeySet}
use Rattle.ssh_program.proofs.WrittenText.{at_last, both_taken, broken_on, nothing_taken, taken_on}

-- ---- an end is not empty, where it is shown

longer : (front text : List ℕ) → 0 < length text → 0 < length (front ++ text)
longer front text some = omega (arith, length-append front text, some)

end-some : (form : Form) (name : List ℕ) (counts : Counts) (digest : List ℕ) → 0 < length (end_line form name counts digest)
unfolding end_object
end-some Text name counts digest = longer _ (10 ∷ []) (omega arith)
end-some Json name counts digest = longer _ (125 ∷ 10 ∷ []) (omega arith)
end-some (Line kind) name counts digest = longer _ (10 ∷ []) (omega arith)

-- ---- records that are written as they are made

-- what was taken of the text of a review, in whole lines, and what is left of the review
abbrev pub PutSoFar : {S : Type 0} → (S → RecordForm → Asking → List ℕ → List ℕ → List (ℕ × List ℕ) → List LineReport → Type 0) → Show → Form → Asking → List ℕ → Records S → Records S → Option Account → Option Account → Type 0
PutSoFar tells show form asking name begun now old p = (file text : List ℕ) (all : KeyCounts) → HasLeft tells show (AsLines form) asking name file text all begun
    → (front : List ℕ) × (rest : List ℕ) × HasLeft tells show (AsLines form) asking name file rest all now × (text ≡ front ++ rest) × AreWholeLines front × TakesAll old p front

pub put-first : {S : Type 0} (tells : S → RecordForm → Asking → List ℕ → List ℕ → List (ℕ × List ℕ) → List LineReport → Type 0) (show : Show) (form : Form) (asking : Asking) (name : List ℕ) (r : Records S) (a : Option Account)
    → PutSoFar tells show form asking name r r a a
put-first tells show form asking name r a file text all w = ([], text, w, refl, inl refl, nothing_taken a)

both-lines : (a b : List ℕ) → AreWholeLines a → AreWholeLines b → AreWholeLines (a ++ b)
both-lines a b w (inl none) = rw (none, append-nil a) w
both-lines a b w (inr (before, is)) = inr (a ++ before, ap (λ t. a ++ t) is ∙ sym (append_assoc a before (10 ∷ [])))

-- more records were made and taken
pub put-more : {S : Type 0} (tells : S → RecordForm → Asking → List ℕ → List ℕ → List (ℕ × List ℕ) → List LineReport → Type 0) (show : Show) (form : Form) (asking : Asking) (name : List ℕ) (begun now next : Records S) (old p q : Option Account) (out : List ℕ)
    → PutSoFar tells show form asking name begun now old p → MakesFront tells show (AsLines form) asking name now next [] out → TakesAll p q out → PutSoFar tells show form asking name begun next old q
put-more tells show form asking name begun now next old p q out so makes taken file text all w =
    let (front, rest, left, parts, lines, took) = so file text all w in
    let (after, later, made, whole) = makes file rest all left in (
      front ++ out,
      after,
      later,
      parts ∙ (ap (λ t. front ++ t) (sym made) ∙ sym (append_assoc front out after)),
      both-lines front out lines (whole tt (inl refl)),
      both_taken old p q front out took taken,
    )

-- of a text with another behind it
up-to : (old p : Option Account) (text front rest end : List ℕ) → text ≡ front ++ rest → TakesAll old p front → TakesUpTo old p (text ++ end) (rest ++ end)
up-to old p text front rest end parts took = record { front = front; parts = ap (λ t. t ++ end) parts ∙ append_assoc front rest end; reported = took }

-- what was taken is nothing, or lines at the front of a text with an end behind it
nil-front : (front rest : List ℕ) → front ++ rest ≡ [] → front ≡ []
nil-front [] rest e = refl
nil-front (b ∷ front) rest e = cc

cut : (front rest text end : List ℕ) → 0 < length end → text ≡ front ++ rest → AreWholeLines front → IsCutAt front (text ++ end)
cut front rest text end some parts lines = record {
  rest = rest ++ end;
  parts = ap (λ t. t ++ end) parts ∙ append_assoc front rest end;
  proper = longer rest end some;
  lines = lines;
}

front-of : (show : Show) (line_reports : List LineReport) (front rest text end : List ℕ) → 0 < length end → text ≡ shown_records show line_reports → text ≡ front ++ rest → AreWholeLines front
    → (front ≡ []) ⊎ IsCutAt front (text ++ shown_end show end)
front-of All line_reports front rest text end some are parts lines = inr (cut front rest text end some parts lines)
front-of Found line_reports front rest text end some are parts lines = inr (cut front rest text end some parts lines)
front-of Totals line_reports front rest text end some are parts lines = inl (nil-front front rest (sym parts ∙ (are ∙ no-records line_reports)))

-- memory could not be allocated
pub put-refused : {S K : Type 0} (tells : S → RecordForm → Asking → List ℕ → List ℕ → List (ℕ × List ℕ) → List LineReport → Type 0) (show : Show) (form : Form) (asking : Asking) (name file text digest : List ℕ) (all : KeyCounts) (kept : K) (begun now : Records S) (old p : Option Account)
    → PutSoFar tells show form asking name begun now old p → HasLeft tells show (AsLines form) asking name file text all begun → TextPut (text ++ shown_end show (end_line form name all.counts digest)) kept old p (Err stop.Memory)
put-refused tells show form asking name file text digest all kept begun now old p so w =
    let (front, rest, left, parts, lines, took) = so file text all w in
    (front, front-of show w.more front rest text (end_line form name all.counts digest) (end-some form name all.counts digest) w.are_records parts lines, took)

-- nothing was written
pub put-nothing : {K : Type 0} (text : List ℕ) (kept : K) (a : Option Account) → TextPut text kept a a (Err stop.Memory)
put-nothing text kept a = ([], inl refl, nothing_taken a)

-- a write failed in the records
pub put-broken : {S : Type 0} (tells : S → RecordForm → Asking → List ℕ → List ℕ → List (ℕ × List ℕ) → List LineReport → Type 0) (show : Show) (form : Form) (asking : Asking) (name file text end : List ℕ) (all : KeyCounts) (begun now next : Records S) (old p q : Option Account) (out : List ℕ)
    → PutSoFar tells show form asking name begun now old p → MakesFront tells show (AsLines form) asking name now next [] out → Breaks p q out → HasLeft tells show (AsLines form) asking name file text all begun → Breaks old q (text ++ end)
put-broken tells show form asking name file text end all begun now next old p q out so makes breaks w =
    let (front, rest, left, parts, lines, took) = so file text all w in
    let (after, later, made, whole) = makes file rest all left in
    broken_on old p q (text ++ end) (rest ++ end) out (after ++ end) (up-to old p text front rest end parts took) (ap (λ t. t ++ end) (sym made) ∙ append_assoc out after end) breaks

-- the last records with the end of the file are what is left
last-is : {S : Type 0} (tells : S → RecordForm → Asking → List ℕ → List ℕ → List (ℕ × List ℕ) → List LineReport → Type 0) (show : Show) (form : Form) (asking : Asking) (name file rest digest : List ℕ) (all : KeyCounts) (now next : Records S) (out last : List ℕ)
    → MakesFront tells show (AsLines form) asking name now next [] out → IsAllMade tells show (AsLines form) asking name next → last ≡ out ++ shown_end show (end_line form name next.reported.counts digest) → HasLeft tells show (AsLines form) asking name file rest all now
    → last ≡ rest ++ shown_end show (end_line form name all.counts digest)
last-is tells show form asking name file rest digest all now next out last makes over is w =
    let k = makes file rest all w in
    let e = over file k.0 all k.1 in
    let same : out ≡ rest = sym (append-nil out) ∙ (ap (λ l. out ++ l) (sym e.0) ∙ k.2) in
    is ∙ (ap (λ (reported : KeyCounts). out ++ shown_end show (end_line form name reported.counts digest)) e.1 ∙ ap (λ l. l ++ shown_end show (end_line form name all.counts digest)) same)

pub put-last-broken : {S : Type 0} (tells : S → RecordForm → Asking → List ℕ → List ℕ → List (ℕ × List ℕ) → List LineReport → Type 0) (show : Show) (form : Form) (asking : Asking) (name file text digest : List ℕ) (all : KeyCounts) (begun now next : Records S) (old p q : Option Account) (out last : List ℕ)
    → PutSoFar tells show form asking name begun now old p → MakesFront tells show (AsLines form) asking name now next [] out → IsAllMade tells show (AsLines form) asking name next → last ≡ out ++ shown_end show (end_line form name next.reported.counts digest)
    → Breaks p q last → HasLeft tells show (AsLines form) asking name file text all begun → Breaks old q (text ++ shown_end show (end_line form name all.counts digest))
put-last-broken tells show form asking name file text digest all begun now next old p q out last so makes over is breaks w =
    let (front, rest, left, parts, lines, took) = so file text all w in
    let end = shown_end show (end_line form name all.counts digest) in
    broken_on old p q (text ++ end) (rest ++ end) last [] (up-to old p text front rest end parts took)
    (sym (last-is tells show form asking name file rest digest all now next out last makes over is left) ∙ sym (append-nil last)) breaks

pub put-all : {S : Type 0} (tells : S → RecordForm → Asking → List ℕ → List ℕ → List (ℕ × List ℕ) → List LineReport → Type 0) (show : Show) (form : Form) (asking : Asking) (name file text digest : List ℕ) (all : KeyCounts) (begun now next : Records S) (old p q : Option Account) (out last : List ℕ)
    → PutSoFar tells show form asking name begun now old p → MakesFront tells show (AsLines form) asking name now next [] out → IsAllMade tells show (AsLines form) asking name next → last ≡ out ++ shown_end show (end_line form name next.reported.counts digest)
    → TakesAll p q last → HasLeft tells show (AsLines form) asking name file text all begun
    → TextPut {K = FileReported} (text ++ shown_end show (end_line form name all.counts digest)) (record { counts = all.counts; stands = all.stands; fault = None }) old q (Ok (record { counts = next.reported.counts; stands = next.reported.stands; fault = None }))
put-all tells show form asking name file text digest all begun now next old p q out last so makes over is taken w =
    let (front, rest, left, parts, lines, took) = so file text all w in
    let k = makes file rest all left in
    let e = over file k.0 all k.1 in
    let end = shown_end show (end_line form name all.counts digest) in (
      at_last old q (text ++ end) (taken_on old p q (text ++ end) (rest ++ end) last [] (up-to old p text front rest end parts took)
          (sym (last-is tells show form asking name file rest digest all now next out last makes over is left) ∙ sym (append-nil last)) taken),
      ap (λ (reported : KeyCounts). record { counts = reported.counts; stands = reported.stands; fault = None }) e.1,
    )

-- ---- of a file

-- the text was written that the file tells
pub text-reported : {N A K : Type 0} (tells : Telling N A) (text_of : A → List ℕ) (of : A → K) (name : N) (o t : Option SourceState) (old new : Option Account) (r : Result K Stop) (reported : A)
    → IfTells o (λ s. TellsFile tells name s t reported) → TextPut (text_of reported) (of reported) old new r → TextWritten tells text_of of name o t old new r
text-reported tells text_of of name o t old new (Ok k) reported file (taken, is) = (reported, file, taken, is)
text-reported tells text_of of name o t old new (Err stop.Memory) reported file (part, inl none, taken) = (part, taken, inl none)
text-reported tells text_of of name o t old new (Err stop.Memory) reported file (part, inr is_front, taken) = (part, taken, inr (reported, file, is_front))
text-reported tells text_of of name o t old new (Err stop.Write) reported file breaks = (reported, file, breaks)

-- what is kept of a text with these keys
pub put-noted : (text : List ℕ) (kept : FileReported) (keys : KeySet) (old new : Option Account) (r : Result FileReported Stop) → TextPut text kept old new r
    → TextPut text (record { reported = kept; keys = keys }) old new (with_noted r keys)
put-noted text kept keys old new (Ok k) (taken, is) = (taken, ap (λ (x : FileReported). record { reported = x; keys = keys }) is)
put-noted text kept keys old new (Err stop.Memory) put = put
put-noted text kept keys old new (Err stop.Write) put = put

-- the same, where the keys are these if all was taken
pub put-kept : (text : List ℕ) (kept : FileReported) (keys seen : KeySet) (old new : Option Account) (r : Result FileReported Stop) → OnOk r (keys ≡ seen) → TextPut text kept old new r
    → TextPut text (record { reported = kept; keys = seen }) old new (with_noted r keys)
put-kept text kept keys seen old new (Ok k) same put =
    subst (λ (s : KeySet). TextPut text (record { reported = kept; keys = s }) old new (with_noted (Ok k) keys)) same (put-noted text kept keys old new (Ok k) put)
put-kept text kept keys seen old new (Err stop.Memory) same put = put
put-kept text kept keys seen old new (Err stop.Write) same put = put

-- nothing was
pub nothing-reported : {N A K : Type 0} (tells : Telling N A) (text_of : A → List ℕ) (of : A → K) (name : N) (o t : Option SourceState) (old new : Option Account) → TakesAll old new []
    → TextWritten tells text_of of name o t old new (Err stop.Memory)
nothing-reported tells text_of of name o t old new none = ([], none, inl refl)
