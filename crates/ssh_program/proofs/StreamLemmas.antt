-- Texts that are written one after the other, and the answers that were written.
use Rattle.ssh_program.proofs.Imports.{◌≡◌, ◌<◌, ◌⊎◌, ◌∙◌, ◌++◌, ℕ, most_failures, List, [], ◌∷◌, Option, Some, None, Result, Ok, Err, ap, sym, refl, subst, inl, inr, IfOk, append-nil, append_assoc, IfTells, SourceState, TellsFile, TellsFiles, Alike, Leads, files_same, leads_end, leads_next, Account, Breaks, TakesAll, WritesResponse, CommandError, Usage, Value, IsReportedAs, IfAnswered, response}
use Rattle.ssh_files.proofs.TurnLemmas.{leads_begin}
use Rattle.ssh_files.specs.FilesInTurn.{Telling}
use Rattle.ssh_print.specs.declared.response.Response.{Response as Printed}
use Rattle.ssh_print.specs.Responses.{Response as Shown, out_of_memory}
use Rattle.ssh_program.specs.declared.command.CommandError.TheVariants.{Memory}
use Rattle.ssh_program.specs.declared.streaming.Stop.{Stop}
use Rattle.ssh_program.specs.declared.streaming.Stop.TheVariants as stop
use Rattle.ssh_program.specs.FileReviews.{BeforePut, EndsEarly, FailedIfStopped, IsCutAt, IsFrontOf, IsFrontOfNext, TellsFront, TextWritten, TextsWritten, WritesFront}
use Rattle.ssh_review.specs.Forms.{first_lines}
use Rattle.ssh_review.specs.declared.end.Form.{Form}
use Rattle.ssh_program.specs.Printing.{WritesAnswer, behind}
use Rattle.ssh_program.specs.Writing.{IfWritten, IsMade}
use Rattle.ssh_program.proofs.WrittenText.{both_taken, first_broken, second_broken}

-- ---- answers that were written

-- an answer of one kind is one of another
pub writes_as : (P Q : Shown → Type 0) (old new : Option Account) (status : ℕ) → ((r : Shown) → P r → Q r) → WritesAnswer P old new status → WritesAnswer Q old new status
writes_as P Q old new status f (r, inl is, writes) = (r, inl (f r is), writes)
writes_as P Q old new status f (r, inr memory, writes) = (r, inr memory, writes)

-- the same where the source states its bytes
pub writes_in : (P Q : SourceState → Shown → Type 0) (o : Option SourceState) (old new : Option Account) (status : ℕ) → ((s : SourceState) (r : Shown) → P s r → Q s r)
    → IfTells o (λ s. WritesAnswer (P s) old new status) → IfTells o (λ s. WritesAnswer (Q s) old new status)
writes_in P Q None old new status f h = tt
writes_in P Q (Some s) old new status f h = λ counts. writes_as (P s) (Q s) old new status (f s) (h counts)

-- that memory could not be allocated is an answer of each kind
pub writes_memory : (P : SourceState → Shown → Type 0) (o : Option SourceState) (old new : Option Account) (status : ℕ) → WritesResponse old new out_of_memory status
    → IfTells o (λ s. WritesAnswer (P s) old new status)
writes_memory P None old new status writes = tt
writes_memory P (Some s) old new status writes = λ counts. (out_of_memory, inr refl, writes)

-- a response behind a text that was taken
pub written_behind : (old mid new : Option Account) (text : List ℕ) (r : Shown) (status : ℕ) → TakesAll old mid text → WritesResponse mid new r status → WritesResponse old new (behind text r) status
written_behind old mid new text r status taken (inl (all, same)) = inl (both_taken old mid new text r.text taken all, same)
written_behind old mid new text r status taken (inr (breaks, two)) = inr (second_broken old mid new text r.text taken breaks, two)

-- ---- what was made in memory

made-as : {E : Type 0} (P : Shown → Type 0) (made : Result Printed E) (old new : Option Account) (status : ℕ) → IfOk made (λ r. P (response r))
    → (r : Shown) × IsMade made r × WritesResponse old new r status → WritesAnswer P old new status
made-as P (Ok x) old new status h (r, is, writes) = (r, inl (subst P (sym is) h), writes)
made-as P (Err e) old new status h (r, is, writes) = (r, inr is, writes)

-- what was made is written
pub writes_made : {E : Type 0} (P : SourceState → Shown → Type 0) (o : Option SourceState) (made : Result Printed E) (old new : Option Account) (status : ℕ)
    → IfTells o (λ s. IfOk made (λ r. P s (response r))) → (r : Shown) × IsMade made r × WritesResponse old new r status → IfTells o (λ s. WritesAnswer (P s) old new status)
writes_made P None made old new status h writes = tt
writes_made P (Some s) made old new status h writes = λ counts. made-as (P s) made old new status (h counts) writes

-- the response to a request is written
pub writes_response : (P : SourceState → Shown → Type 0) (o : Option SourceState) (r : Printed) (old new : Option Account) (status : ℕ) → IfTells o (λ s. IfAnswered (Ok r) (P s))
    → WritesResponse old new (response r) status → IfTells o (λ s. WritesAnswer (P s) old new status)
writes_response P None r old new status h writes = tt
writes_response P (Some s) r old new status h writes = λ counts. (response r, inl (h counts), writes)

fault-as : {E : Type 0} (P : Shown → Type 0) (fault : CommandError) (made : Result Printed E) (old new : Option Account) (status : ℕ) → IfAnswered (Err fault) P
    → IfOk made (λ r. IsReportedAs fault (response r)) → (r : Shown) × IsMade made r × WritesResponse old new r status → WritesAnswer P old new status
fault-as P fault (Err e) old new status h reported (r, is, writes) = (r, inr is, writes)
fault-as P Usage (Ok x) old new status h reported (r, is, writes) = (r, inl (subst P (sym (is ∙ reported)) h), writes)
fault-as P (Value o) (Ok x) old new status h reported (r, is, writes) = (r, inl (subst P (sym (is ∙ reported)) h), writes)
fault-as P Memory (Ok x) old new status h reported writes = absurd reported

-- the response to an error is written
pub writes_fault : {E : Type 0} (P : SourceState → Shown → Type 0) (o : Option SourceState) (fault : CommandError) (made : Result Printed E) (old new : Option Account) (status : ℕ)
    → IfTells o (λ s. IfAnswered (Err fault) (P s)) → IfOk made (λ r. IsReportedAs fault (response r)) → (r : Shown) × IsMade made r × WritesResponse old new r status
    → IfTells o (λ s. WritesAnswer (P s) old new status)
writes_fault P None fault made old new status h reported writes = tt
writes_fault P (Some s) fault made old new status h reported writes = λ counts. fault-as (P s) fault made old new status (h counts) reported writes

unwritten : (old new : Option Account) (fault : CommandError) (P : Shown → Type 0) → IfWritten old new (Err fault) P → IfAnswered (Err fault) P
unwritten old new Usage P h = h
unwritten old new (Value o) P h = h
unwritten old new Memory P h = tt

-- the same of options that have an error, where nothing was written before
pub writes_error : {E : Type 0} (P : SourceState → Shown → Type 0) (o : Option SourceState) (fault : CommandError) (made : Result Printed E) (old mid new : Option Account) (status : ℕ)
    → IfTells o (λ s. IfWritten old mid (Err fault) (P s)) → mid ≡ old → IfOk made (λ r. IsReportedAs fault (response r)) → (r : Shown) × IsMade made r × WritesResponse mid new r status
    → IfTells o (λ s. WritesAnswer (P s) old new status)
writes_error P None fault made old mid new status h same reported writes = tt
writes_error {E = E} P (Some s) fault made old mid new status h same reported writes = λ counts.
    fault-as (P s) fault made old new status (unwritten old mid fault (P s) (h counts)) reported
    (subst (λ (a : Option Account). (r : Shown) × IsMade made r × WritesResponse a new r status) same writes)

-- ---- files in turn

-- the files at the front were read, and this is what they tell, whichever files are behind them
pub record ReadSoFar {N A B : Type 0} (with : B → A → B) (tells : Telling N A) (start : B) (names left : List N) (s : SourceState) (now : Option SourceState) (sofar : B) : Type 0 where
  pub front : List N
  pub parts : names ≡ front ++ left
  pub leads : (unread : List N) → Leads with tells start (front ++ unread) s unread now sofar

-- at first none was read, and nothing was taken
pub read_first : {N A B : Type 0} (with : B → A → B) (tells : Telling N A) (start : B) (names : List N) (o : Option SourceState)
    → IfTells o (λ s. ReadSoFar with tells start names names s o start)
read_first with tells start names None = tt
read_first with tells start names (Some s) = λ counts. record {
  front = [];
  parts = refl;
  leads = λ unread. leads_begin with tells start unread (Some s) counts;
}

read-more : {N A B : Type 0} (with : B → A → B) (tells : Telling N A) (start : B) (names : List N) (name : N) (left rest : List N) (s : SourceState)
    (now next : Option SourceState) (sofar : B) (reported : A) (new : B) → s.failures < most_failures → left ≡ name ∷ rest → new ≡ with sofar reported
    → ReadSoFar with tells start names left s now sofar → IfTells now (λ m. TellsFile tells name m next reported) → ReadSoFar with tells start names rest s next new
read-more {N = N} with tells start names name left rest s now next sofar reported new counts is made w file = record {
  front = w.front ++ name ∷ [];
  parts = w.parts ∙ (ap (λ (l : List N). w.front ++ l) is ∙ sym (append_assoc w.front (name ∷ []) rest));
  leads = λ unread.
      subst (λ (l : List N). Leads with tells start l s unread next new) (sym (append_assoc w.front (name ∷ []) unread))
      (leads_next with tells start (w.front ++ name ∷ unread) name (name ∷ unread) unread (Some s) now next sofar reported new refl made (λ _. w.leads (name ∷ unread)) file counts);
}

read-all : {N A B : Type 0} (with : B → A → B) (tells : Telling N A) (start : B) (names left : List N) (s : SourceState) (now : Option SourceState) (sofar : B) → s.failures < most_failures
    → (w : ReadSoFar with tells start names left s now sofar) → TellsFiles with tells start w.front s now sofar
read-all {N = N} with tells start names left s now sofar counts w =
    subst (λ (l : List N). TellsFiles with tells start l s now sofar) (append-nil w.front)
    (leads_end with tells start (w.front ++ []) [] (Some s) now sofar refl (λ _. w.leads []) counts)

front-reported : {N A B : Type 0} (with : B → A → B) (tells : Telling N A) (start : B) (names left : List N) (s : SourceState) (now : Option SourceState) (sofar : B) → s.failures < most_failures
    → ReadSoFar with tells start names left s now sofar → TellsFront with tells start names s sofar
front-reported with tells start names left s now sofar counts w = record {
  front = w.front;
  unread = left;
  parts = w.parts;
  left = now;
  chain = read-all with tells start names left s now sofar counts w;
}

-- ---- texts that were written while the files were read

-- the files at the front were read, the texts of what they tell were taken, and this is kept of it
abbrev pub WrittenSoFar : {N A B K : Type 0} → (B → A → B) → Telling N A → B → (B → List ℕ) → (B → K) → List N → List N → SourceState → Option SourceState → Option Account → Option Account → K → Type 0
WrittenSoFar with tells start text kept names left s now old new k = (sofar : _) × (k ≡ kept sofar) × ReadSoFar with tells start names left s now sofar × TakesAll old new (text sofar)

-- less may be kept of it
pub kept_part : {N A B K L : Type 0} (with : B → A → B) (tells : Telling N A) (start : B) (text : B → List ℕ) (kept : B → K) (part : K → L) (names left : List N) (o now : Option SourceState) (old new : Option Account) (k : K)
    → IfTells o (λ s. WrittenSoFar with tells start text kept names left s now old new k) → IfTells o (λ s. WrittenSoFar with tells start text (λ sofar. part (kept sofar)) names left s now old new (part k))
kept_part with tells start text kept part names left None now old new k h = tt
kept_part with tells start text kept part names left (Some s) now old new k h = λ counts.
    let (sofar, same, read, all) = h counts in
    (sofar, ap part same, read, all)

pub written_first : {N A B K : Type 0} (with : B → A → B) (tells : Telling N A) (start : B) (text : B → List ℕ) (kept : B → K) (names : List N) (o : Option SourceState) (old new : Option Account) → TakesAll old new (text start)
    → IfTells o (λ s. WrittenSoFar with tells start text kept names names s o old new (kept start))
written_first with tells start text kept names None old new taken = tt
written_first with tells start text kept names (Some s) old new taken = λ counts. (start, refl, read_first with tells start names (Some s) counts, taken)

-- a write failed in what stands before the first file
pub before_stopped : {N A B K : Type 0} (L : Type 0) (with : B → A → B) (tells : Telling N A) (form : Form) (start : B) (text : B → List ℕ) (text_of : A → List ℕ) (kept : B → K) (names : List N)
    (o t : Option SourceState) (old new : Option Account) (e : Stop) → text start ≡ first_lines form → BeforePut {K = L} form old new (Err e)
    → IfTells o (λ s. TextsWritten with tells start text text_of kept names s t old new (Err e))
before_stopped L with tells form start text text_of kept names o t old new stop.Memory is put = absurd put
before_stopped L with tells form start text text_of kept names None t old new stop.Write is put = tt
before_stopped L with tells form start text text_of kept names (Some s) t old new stop.Write is put = λ counts.
    (start, front-reported with tells start names names s (Some s) start counts (read_first with tells start names (Some s) counts), subst (λ (l : List ℕ). Breaks old new l) (sym is) put)

-- the next file was read, and its text was taken
pub written_next : {N A B K : Type 0} (with : B → A → B) (tells : Telling N A) (start : B) (text : B → List ℕ) (kept : B → K) (names : List N) (name : N) (left rest : List N) (o now next : Option SourceState)
    (old mid new : Option Account) (k after : K) (reported : A) (part : List ℕ) → left ≡ name ∷ rest → ((sofar : B) → k ≡ kept sofar → after ≡ kept (with sofar reported)) → ((sofar : B) → text (with sofar reported) ≡ text sofar ++ part)
    → IfTells o (λ s. WrittenSoFar with tells start text kept names left s now old mid k) → IfTells now (λ m. TellsFile tells name m next reported) → TakesAll mid new part
    → IfTells o (λ s. WrittenSoFar with tells start text kept names rest s next old new after)
written_next with tells start text kept names name left rest None now next old mid new k after reported part is keeps grown h file taken = tt
written_next with tells start text kept names name left rest (Some s) now next old mid new k after reported part is keeps grown h file taken = λ counts.
    let (sofar, same, read, all) = h counts in (
      with sofar reported,
      keeps sofar same,
      read-more with tells start names name left rest s now next sofar reported (with sofar reported) counts is refl read file,
      subst (λ (l : List ℕ). TakesAll old new l) (sym (grown sofar)) (both_taken old mid new (text sofar) part all taken),
    )

-- all were
pub written_last : {N A B K : Type 0} (with : B → A → B) (tells : Telling N A) (start : B) (text : B → List ℕ) (text_of : A → List ℕ) (kept : B → K) (names left : List N) (o now : Option SourceState)
    (old new : Option Account) (k : K) → left ≡ [] → IfTells o (λ s. WrittenSoFar with tells start text kept names left s now old new k)
    → IfTells o (λ s. TextsWritten with tells start text text_of kept names s now old new (Ok k))
written_last {N = N} with tells start text text_of kept names left None now old new k none h = tt
written_last {N = N} with tells start text text_of kept names left (Some s) now old new k none h = λ counts.
    let (sofar, same, read, all) = h counts in
    let whole : names ≡ read.front = read.parts ∙ (ap (λ (l : List N). read.front ++ l) none ∙ append-nil read.front) in
    (sofar, subst (λ (l : List N). TellsFiles with tells start l s now sofar) (sym whole) (read-all with tells start names left s now sofar counts read), all, same)

-- a front of the text of the next file, or nothing
abbrev pub Within : {N A : Type 0} → Telling N A → (A → List ℕ) → N → Option SourceState → Option SourceState → List ℕ → Type 0
Within tells text_of name now next part = (part ≡ []) ⊎ ((reported : _) × IfTells now (λ m. TellsFile tells name m next reported) × IsCutAt part (text_of reported))

front-reported-of : {N A : Type 0} (tells : Telling N A) (text_of : A → List ℕ) (name : N) (now next : Option SourceState) (part : List ℕ) (reported : A) → IsCutAt part (text_of reported)
    → IfTells now (λ m. TellsFile tells name m next reported) → IfTells now (λ m. IsFrontOf tells text_of name m part)
front-reported-of tells text_of name None next part reported cut file = tt
front-reported-of tells text_of name (Some m) next part reported cut file = λ counts. (next, reported, file counts, cut)

next-within : {N A : Type 0} (tells : Telling N A) (text_of : A → List ℕ) (name : N) (left rest : List N) (now next : Option SourceState) (part : List ℕ) → left ≡ name ∷ rest
    → Within tells text_of name now next part → (part ≡ []) ⊎ IsFrontOfNext tells text_of left now part
next-within {N = N} tells text_of name left rest now next part is (inl none) = inl none
next-within {N = N} tells text_of name left rest now next part is (inr (reported, file, cut)) =
    inr (subst (λ (l : List N). IsFrontOfNext tells text_of l now part) (sym is) (front-reported-of tells text_of name now next part reported cut file))

-- memory could not be allocated for the next, or for all of its text
pub written_until : {N A B K : Type 0} (with : B → A → B) (tells : Telling N A) (start : B) (text : B → List ℕ) (text_of : A → List ℕ) (kept : B → K) (names : List N) (name : N) (left rest : List N) (o now next t : Option SourceState)
    (old mid new : Option Account) (k : K) (part : List ℕ) → left ≡ name ∷ rest → IfTells o (λ s. WrittenSoFar with tells start text kept names left s now old mid k) → TakesAll mid new part → Within tells text_of name now next part
    → IfTells o (λ s. TextsWritten with tells start text text_of kept names s t old new (Err stop.Memory))
unfolding front-reported
written_until with tells start text text_of kept names name left rest None now next t old mid new k part is h taken within = tt
written_until with tells start text text_of kept names name left rest (Some s) now next t old mid new k part is h taken within = λ counts.
    let (sofar, same, read, all) = h counts in (
      text sofar ++ part,
      record {
        reported = sofar;
        files = front-reported with tells start names left s now sofar counts read;
        part = part;
        next = next-within tells text_of name left rest now next part is within;
        parts = refl;
      },
      both_taken old mid new (text sofar) part all taken,
    )

-- the next file was read, and a write failed in its text
pub written_into : {N A B K : Type 0} (with : B → A → B) (tells : Telling N A) (start : B) (text : B → List ℕ) (text_of : A → List ℕ) (kept : B → K) (names : List N) (name : N) (left rest : List N)
    (o now next t : Option SourceState) (old mid new : Option Account) (k : K) (reported : A) (part : List ℕ) → left ≡ name ∷ rest → ((sofar : B) → text (with sofar reported) ≡ text sofar ++ part)
    → IfTells o (λ s. WrittenSoFar with tells start text kept names left s now old mid k) → IfTells now (λ m. TellsFile tells name m next reported) → Breaks mid new part
    → IfTells o (λ s. TextsWritten with tells start text text_of kept names s t old new (Err stop.Write))
written_into with tells start text text_of kept names name left rest None now next t old mid new k reported part is grown h file breaks = tt
written_into with tells start text text_of kept names name left rest (Some s) now next t old mid new k reported part is grown h file breaks = λ counts.
    let (sofar, same, read, all) = h counts in
    let later = read-more with tells start names name left rest s now next sofar reported (with sofar reported) counts is refl read file in (
      with sofar reported,
      front-reported with tells start names rest s next (with sofar reported) counts later,
      subst (λ (l : List ℕ). Breaks old new l) (sym (grown sofar)) (second_broken old mid new (text sofar) part all breaks),
    )

-- what came of writing the text of the next
pub written_stopped : {N A B K L : Type 0} (with : B → A → B) (tells : Telling N A) (start : B) (text : B → List ℕ) (text_of : A → List ℕ) (kept : B → K) (of : A → L) (names : List N) (name : N) (left rest : List N)
    (o now next : Option SourceState) (old mid new : Option Account) (k : K) (e : Stop) → left ≡ name ∷ rest → ((sofar : B) (reported : A) → text (with sofar reported) ≡ text sofar ++ text_of reported)
    → IfTells o (λ s. WrittenSoFar with tells start text kept names left s now old mid k) → TextWritten tells text_of of name now next mid new (Err e)
    → IfTells o (λ s. TextsWritten with tells start text text_of kept names s next old new (Err e))
written_stopped with tells start text text_of kept of names name left rest o now next old mid new k stop.Memory is grown h (part, taken, within) =
    written_until with tells start text text_of kept names name left rest o now next next old mid new k part is h taken within
written_stopped with tells start text text_of kept of names name left rest o now next old mid new k stop.Write is grown h (reported, file, breaks) =
    written_into with tells start text text_of kept names name left rest o now next next old mid new k reported (text_of reported) is (λ sofar. grown sofar reported) h file breaks

pub written_reported : {N A B K L : Type 0} (with : B → A → B) (tells : Telling N A) (start : B) (text : B → List ℕ) (text_of : A → List ℕ) (kept : B → K) (of : A → L) (names : List N) (name : N) (left rest : List N)
    (o now next : Option SourceState) (old mid new : Option Account) (k after : K) (x : L) → left ≡ name ∷ rest → ((sofar : B) (reported : A) → text (with sofar reported) ≡ text sofar ++ text_of reported)
    → ((sofar : B) (reported : A) → k ≡ kept sofar → x ≡ of reported → after ≡ kept (with sofar reported))
    → IfTells o (λ s. WrittenSoFar with tells start text kept names left s now old mid k) → TextWritten tells text_of of name now next mid new (Ok x)
    → IfTells o (λ s. WrittenSoFar with tells start text kept names rest s next old new after)
written_reported with tells start text text_of kept of names name left rest o now next old mid new k after x is grown keeps h (reported, file, taken, same) =
    written_next with tells start text kept names name left rest o now next old mid new k after reported (text_of reported) is (λ sofar s. keeps sofar reported s same) (λ sofar. grown sofar reported) h file taken

-- no write has failed, but where one did
pub failed_stop : (K L : Type 0) (e : Stop) (new : Option Account) → FailedIfStopped {K = K} (Err e) new → FailedIfStopped {K = L} (Err e) new
failed_stop K L stop.Memory new h = h
failed_stop K L stop.Write new h = h

-- ---- the answer

-- all that the files tell is answered, or the answer ends early
abbrev pub TellsInTurn : {N A B : Type 0} → (B → A → B) → Telling N A → B → (B → List ℕ) → (A → List ℕ) → (B → Shown) → List N → SourceState → Option SourceState → Shown → Type 0
TellsInTurn with tells start text text_of answer names s t r = ((reported : _) × TellsFiles with tells start names s t reported × (r ≡ answer reported)) ⊎ EndsEarly with tells start text text_of names s r

-- the texts of files at the front are written, and nothing of the next
front-written : {N A B : Type 0} (with : B → A → B) (tells : Telling N A) (start : B) (text : B → List ℕ) (text_of : A → List ℕ) (names : List N) (s : SourceState) (reported : B) → TellsFront with tells start names s reported
    → WritesFront with tells start text text_of names s (text reported)
front-written with tells start text text_of names s reported front = record { reported = reported; files = front; part = []; next = inl refl; parts = sym (append-nil (text reported)) }

-- memory could not be allocated before the first file was read
pub first_stopped : {N A B K : Type 0} (with : B → A → B) (tells : Telling N A) (start : B) (text : B → List ℕ) (text_of : A → List ℕ) (kept : B → K) (names : List N) (o t : Option SourceState)
    (old new : Option Account) → TakesAll old new (text start) → IfTells o (λ s. TextsWritten with tells start text text_of kept names s t old new (Err stop.Memory))
first_stopped with tells start text text_of kept names None t old new taken = tt
first_stopped with tells start text text_of kept names (Some s) t old new taken = λ counts.
    (text start, front-written with tells start text text_of names s start (front-reported with tells start names names s (Some s) start counts (read_first with tells start names (Some s) counts)), taken)

-- a fault of memory behind the texts
pub stopped_by_memory : {N A B K : Type 0} (with : B → A → B) (tells : Telling N A) (start : B) (text : B → List ℕ) (text_of : A → List ℕ) (kept : B → K) (answer : B → Shown) (names : List N) (o t : Option SourceState)
    (old mid new : Option Account) (status : ℕ) → IfTells o (λ s. TextsWritten with tells start text text_of kept names s t old mid (Err stop.Memory)) → WritesResponse mid new out_of_memory status
    → IfTells o (λ s. WritesAnswer (TellsInTurn with tells start text text_of answer names s t) old new status)
stopped_by_memory with tells start text text_of kept answer names None t old mid new status h writes = tt
stopped_by_memory with tells start text text_of kept answer names (Some s) t old mid new status h writes = λ counts.
    let (written, front, taken) = h counts in
    (behind written out_of_memory, inl (inr (written, front, refl)), written_behind old mid new written out_of_memory status taken writes)

-- a write that failed in the texts
pub stopped_by_write : {N A B K : Type 0} (with : B → A → B) (tells : Telling N A) (start : B) (text : B → List ℕ) (text_of : A → List ℕ) (kept : B → K) (answer : B → Shown) (names : List N) (o t : Option SourceState)
    (old new : Option Account) → IfTells o (λ s. TextsWritten with tells start text text_of kept names s t old new (Err stop.Write))
    → IfTells o (λ s. WritesAnswer (TellsInTurn with tells start text text_of answer names s t) old new 2)
stopped_by_write with tells start text text_of kept answer names None t old new h = tt
stopped_by_write with tells start text text_of kept answer names (Some s) t old new h = λ counts.
    let (reported, front, breaks) = h counts in
    (behind (text reported) out_of_memory, inl (inr (text reported, front-written with tells start text text_of names s reported front, refl)), inr (first_broken old new (text reported) (out_of_memory).text breaks, refl))

all-in-turn : {N A B : Type 0} (with : B → A → B) (tells : Telling N A) (start : B) (text : B → List ℕ) (text_of : A → List ℕ) (answer : B → Shown) (names : List N) (s : SourceState) (t : Option SourceState)
    (old mid new : Option Account) (reported : B) (last : Shown) (status : ℕ) → answer reported ≡ behind (text reported) last → TellsFiles with tells start names s t reported → TakesAll old mid (text reported)
    → WritesAnswer (λ r. r ≡ last) mid new status → WritesAnswer (TellsInTurn with tells start text text_of answer names s t) old new status
all-in-turn with tells start text text_of answer names s t old mid new reported last status made chain taken (r, inl is, writes) =
    (behind (text reported) r, inl (inl (reported, chain, ap (behind (text reported)) is ∙ sym made)), written_behind old mid new (text reported) r status taken writes)
all-in-turn with tells start text text_of answer names s t old mid new reported last status made chain taken (r, inr memory, writes) = (
  behind (text reported) r,
  inl (inr (text reported, front-written with tells start text text_of names s reported (record { front = names; unread = []; parts = sym (append-nil names); left = t; chain = chain }), ap (behind (text reported)) memory)),
  written_behind old mid new (text reported) r status taken writes,
)

-- the last line behind the texts of all files
pub all_written : {N A B K : Type 0} (with : B → A → B) (tells : Telling N A) (start : B) (text : B → List ℕ) (text_of : A → List ℕ) (kept : B → K) (answer : B → Shown) (last : K → Shown) (names : List N)
    (o t : Option SourceState) (old mid new : Option Account) (k : K) (status : ℕ) → ((reported : B) → answer reported ≡ behind (text reported) (last (kept reported)))
    → IfTells o (λ s. TextsWritten with tells start text text_of kept names s t old mid (Ok k)) → WritesAnswer (λ r. r ≡ last k) mid new status
    → IfTells o (λ s. WritesAnswer (TellsInTurn with tells start text text_of answer names s t) old new status)
all_written with tells start text text_of kept answer last names None t old mid new k status made h writes = tt
all_written with tells start text text_of kept answer last names (Some s) t old mid new k status made h writes = λ counts.
    let (reported, chain, taken, is) = h counts in
    all-in-turn with tells start text text_of answer names s t old mid new reported (last k) status (made reported ∙ ap (λ x. behind (text reported) (last x)) (sym is)) chain taken writes

-- sources that are alike have the same answers
pub ends_same : {N A B : Type 0} (with : B → A → B) (tells : Telling N A) (start : B) (text : B → List ℕ) (text_of : A → List ℕ) (names : List N) (a b : SourceState) (r : Shown) → Alike a b
    → EndsEarly with tells start text text_of names a r → EndsEarly with tells start text text_of names b r
ends_same with tells start text text_of names a b r e (written, w, is) = (
  written,
  record {
    reported = w.reported;
    files = record { front = w.files.front; unread = w.files.unread; parts = w.files.parts; left = w.files.left; chain = files_same with tells start w.files.front a b w.files.left w.reported e w.files.chain };
    part = w.part;
    next = w.next;
    parts = w.parts;
  },
  is,
)
