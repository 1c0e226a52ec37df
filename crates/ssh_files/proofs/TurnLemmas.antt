-- Files in turn: what is reported so far leads to what all of them tell.
use Rattle.ssh_files.proofs.Imports.{◌≡◌, ◌∙◌, ℕ, List, [], ◌∷◌, Option, Some, None, refl, sym, ap, subst, inl, inr, IfTells, SourceState, Telling, TellsFile, TellsFiles}
use Rattle.ssh_files.proofs.SourceLemmas.{Alike, end-same, given-alike, keeps-same, none-failed, one-failed}
use Rattle.ssh_files.specs.SourceState.{cause_of}
use Rattle.ssh_files.specs.declared.files.UnreadCause.{UnreadCause}
use Rattle.std.specs.Prelude.{Result}

-- what the rest of the files comes to from now on, all of them come to
abbrev pub Leads : {N A B : Type 0} → (B → A → B) → Telling N A → B → List N → SourceState → List N → Option SourceState → B → Type 0
Leads with tells start names s rest now sofar =
    (t : Option SourceState) (reported : _) → IfTells now (λ m. TellsFiles with tells sofar rest m t reported) → TellsFiles with tells start names s t reported

pub leads_begin : {N A B : Type 0} (with : B → A → B) (tells : Telling N A) (start : B) (names : List N) (o : Option SourceState)
    → IfTells o (λ s. Leads with tells start names s names o start)
leads_begin with tells start names None = tt
leads_begin with tells start names (Some s) = λ counts t reported h. h counts

pub leads_next : {N A B : Type 0} (with : B → A → B) (tells : Telling N A) (start : B) (names : List N) (name : N) (left rest : List N)
    (o now next : Option SourceState) (sofar : B) (reported : A) (new : B) → left ≡ name ∷ rest → new ≡ with sofar reported
    → IfTells o (λ s. Leads with tells start names s left now sofar) → IfTells now (λ m. TellsFile tells name m next reported)
    → IfTells o (λ s. Leads with tells start names s rest next new)
leads_next with tells start names name left rest None now next sofar reported new is made lead h = tt
leads_next {N = N} with tells start names name left rest (Some s) now next sofar reported new is made lead h = λ counts t all more.
    lead counts t all
    (subst (λ (l : List N). IfTells now (λ m. TellsFiles with tells sofar l m t all)) (sym is)
    (inner now next t all h (subst (λ b. IfTells next (λ n. TellsFiles with tells b rest n t all)) made more)))
  where
    inner : (now next t : Option SourceState) (all : _) → IfTells now (λ m. TellsFile tells name m next reported)
        → IfTells next (λ n. TellsFiles with tells (with sofar reported) rest n t all) → IfTells now (λ m. TellsFiles with tells sofar (name ∷ rest) m t all)
    inner None next t all one more = tt
    inner (Some m) None t all one more = λ c. absurd ((one c).0)
    inner (Some m) (Some n) t all one more = λ c. (n, reported, one c, more)

ends : {N A B : Type 0} (with : B → A → B) (tells : Telling N A) (sofar : B) (now : Option SourceState) → IfTells now (λ m. TellsFiles with tells sofar [] m now sofar)
ends with tells sofar None = tt
ends with tells sofar (Some m) = λ counts. (refl, refl)

pub leads_end : {N A B : Type 0} (with : B → A → B) (tells : Telling N A) (start : B) (names left : List N) (o now : Option SourceState) (sofar : B) → left ≡ []
    → IfTells o (λ s. Leads with tells start names s left now sofar) → IfTells o (λ s. TellsFiles with tells start names s now sofar)
leads_end with tells start names left None now sofar is lead = tt
leads_end {N = N} with tells start names left (Some s) now sofar is lead = λ counts.
    lead counts now sofar
    (subst (λ (l : List N). IfTells now (λ m. TellsFiles with tells sofar l m now sofar)) (sym is) (ends with tells sofar now))

-- ---- sources that are alike tell the same

pub file_same : {N A : Type 0} (tells : Telling N A) (name : N) (a b : SourceState) (t : Option SourceState) (reported : A) → Alike a b
    → TellsFile tells name a t reported → TellsFile tells name b t reported
file_same tells name a b t reported e (keeps, inl (failed, is)) = (keeps-same (tells.path name) a b t e keeps, inl (one-failed a b t (tells.path name) e failed, is ∙ ap (λ (given : Result (List ℕ) UnreadCause). tells.of_fault name (cause_of given)) (given-alike a b (tells.path name) e)))
file_same tells name a b t reported e (keeps, inr (none, end, is)) =
    (keeps-same (tells.path name) a b t e keeps, inr (none-failed b a t e.failures none, end-same (tells.path name) a b t e end, is ∙ ap (tells.of_bytes name) (given-alike a b (tells.path name) e)))

pub files_same : {N A B : Type 0} (with : B → A → B) (tells : Telling N A) (sofar : B) (names : List N) (a b : SourceState) (t : Option SourceState) (reported : B) → Alike a b
    → TellsFiles with tells sofar names a t reported → TellsFiles with tells sofar names b t reported
files_same with tells sofar [] a b t reported e h = (none-failed b a t e.failures h.0, h.1)
files_same with tells sofar (name ∷ names) a b t reported e (m, first, one, more) = (m, first, file_same tells name a b (Some m) first e one, more)
