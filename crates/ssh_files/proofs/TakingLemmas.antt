-- A file whose bytes a keeper is taking.
use Rattle.ssh_files.proofs.Imports.{◌≡◌, ◌∙◌, ◌++◌, ◌+◌, ◌≤◌, ℕ, Bool, true, false, cond, nat_lt, List, length, take, Option, Some, None, Result, Ok, Err, refl, sym, ap, subst, append_assoc, length-append, length-take-le, take_all, ltb-false, file_limit, Loads, LoadsPart, within_limit, ReadError, Chosen, IfTells, ReadsKnown, SourceState, choosing, left_of, left_with, named_file, nothing, standard_input}
use Rattle.ssh_files.proofs.Reading.{IsReading}
use Rattle.ssh_files.specs.Loading.{KeepsOthers}
use Rattle.ssh_files.specs.SourceState.{dash, open_file}
use Rattle.ssh_files.specs.declared.files.UnreadCause.{UnreadCause}
use Rattle.std.proofs.Common.{bytes_eq, []}

-- it took so many bytes, and what is left are the others
abbrev pub IsTaking : (List ℕ → Type 0) → ℕ → SourceState → List ℕ → Option SourceState → Type 0
IsTaking took count s name t = (got : List ℕ) × took got × (length got ≡ count) × IsReading s name got t

-- what is left of a file takes the place of what was left before
left-again : (c : Chosen) (s : SourceState) (x y : List ℕ) → s.chosen ≡ c → left_with (left_with c s x).chosen (left_with c s x) y ≡ left_with c s y
left-again nothing s x y e = ap (λ k. left_with k s y) e
left-again standard_input s x y e = ap (λ k. left_with k (record s { input = x }) y) e
left-again (named_file name old) s x y e = refl

reading-more : (s t u : SourceState) (name got piece : List ℕ) → IsReading s name got (Some t) → left_of t ≡ piece ++ left_of u → u ≡ left_with t.chosen t (left_of u)
    → IsReading s name (got ++ piece) (Some u)
reading-more s t u name got piece (bytes, is) left next = (
  bytes ∙ ap (λ l. Some l) (ap (λ l. got ++ l) left ∙ sym (append_assoc got piece (left_of u))),
  next ∙ (ap (λ z. left_with z.chosen z (left_of u)) is ∙ left-again (choosing s name).chosen (choosing s name) (left_of t) (left_of u) refl),
)

-- a piece that the keeper took
pub taking_more : {E : Type 0} (old new : List ℕ → Type 0) (o now next : Option SourceState) (r : Result ℕ E) (name buf : List ℕ) (count n : ℕ)
    → ((bytes : List ℕ) → old bytes → new (bytes ++ take n buf)) → n ≤ length buf → r ≡ Ok n → ReadsKnown now next r buf
    → IfTells o (λ s. IsTaking old count s name now) → IfTells o (λ s. IsTaking new (count + n) s name next)
taking_more old new None now next r name buf count n takes short is reads h = tt
taking_more old new (Some s) None next r name buf count n takes short is reads h = λ counts. absurd ((h counts).3)
taking_more old new (Some s) (Some t) None r name buf count n takes short is reads h = absurd reads
taking_more {E} old new (Some s) (Some t) (Some u) r name buf count n takes short is reads h = λ counts.
    let (got, took, size, reading) = h counts in
    let read = subst (λ (x : Result ℕ E). ReadsKnown (Some t) (Some u) x buf) is reads in
    let len : length (got ++ take n buf) ≡ count + n = length-append got (take n buf) ∙ (ap (λ k. k + length (take n buf)) size ∙ ap (λ k. count + k) (length-take-le n buf short)) in
    (got ++ take n buf, takes got took, len, reading-more s t u name got (take n buf) reading read.0 read.1)

-- ---- whole files

within-by : (b : Bool) (bytes file : List ℕ) → cond b None (Some bytes) ≡ Some file → (b ≡ false) × (bytes ≡ file)
within-by true bytes file h = cc
within-by false bytes file h = (refl, cc)

-- a file within the limit is its own front
within-all : (bytes : Option (List ℕ)) (file got : List ℕ) → within_limit bytes ≡ Some file → got ≡ take file_limit file → within_limit bytes ≡ Some got
within-all None file got h e = cc
within-all (Some bytes) file got h e =
    let within = within-by (nat_lt file_limit (length bytes)) bytes file h in
    let short : length bytes ≤ file_limit = ltb-false file_limit (length bytes) within.0 in
    h ∙ ap (λ b. Some b) (sym (e ∙ take_all file_limit file (subst (λ b. length b ≤ file_limit) within.1 short)))

pub whole_loaded : {V : Type 0} (view : V → List ℕ) (name : List ℕ) (bytes : SourceState → Option (List ℕ)) (left : SourceState → SourceState) (o t : Option SourceState) (r : Result V ReadError)
    → IfTells o (λ s. LoadsPart (λ file v. view v ≡ take file_limit file) name (bytes s) (left s) s t r)
    → IfTells o (λ s. Loads view name (bytes s) (left s) s t r)
whole_loaded view name bytes left None t r h = tt
whole_loaded view name bytes left (Some s) t (Err e) h = h
whole_loaded view name bytes left (Some s) t (Ok v) h = λ counts.
    let ((file, is, part), rest) = h counts in
    (within-all (bytes s) file (view v) is part, rest)

-- ---- what a reading leaves

pub keeps-choice : (s : SourceState) (name : List ℕ) → KeepsOthers name s (Some (choosing s name))
keeps-choice s name = ((refl, λ d. refl), ([], refl))

named-kept : (c : Chosen) (s : SourceState) (left : List ℕ) → (left_with c s left).named ≡ s.named
named-kept nothing s left = refl
named-kept standard_input s left = refl
named-kept (named_file name bytes) s left = refl

input-kept : (c : Chosen) (s : SourceState) (left : List ℕ) → (c ≡ standard_input → ⊥) → (left_with c s left).input ≡ s.input
input-kept nothing s left other = refl
input-kept standard_input s left other = absurd (other refl)
input-kept (named_file name bytes) s left other = refl

opened : (name : List ℕ) (given : Result (List ℕ) UnreadCause) → open_file name given ≡ standard_input → ⊥
opened name (Err cause) h = cc
opened name (Ok bytes) h = cc

not-input : (s : SourceState) (name : List ℕ) (b : Bool) → bytes_eq name dash ≡ b → b ≡ false → (choosing s name).chosen ≡ standard_input → ⊥
not-input s name true e h c = cc
not-input s name false e h c = opened name (s.named name) (rw e at c)

keeps-by : (b : Bool) (s t : SourceState) (name got : List ℕ) → bytes_eq name dash ≡ b → IsReading s name got (Some t) → KeepsOthers name s (Some t)
keeps-by true s t name got e (bytes, is) =
    let whole : s.input ≡ got ++ left_of t = some-same (rw e at bytes) in
    let left : t.input ≡ left_of t = ap (λ (x : SourceState). x.input) (rw e at is) in
    let named : t.named ≡ s.named = ap (λ (x : SourceState). x.named) is ∙ named-kept (choosing s name).chosen (choosing s name) (left_of t) in
    ((named, λ d. absurd (true-false (sym e ∙ d))), (got, whole ∙ ap (λ (x : List ℕ). got ++ x) (sym left)))
  where
    some-same : {a b : List ℕ} → ◌≡◌ {A = Option (List ℕ)} (Some a) (Some b) → a ≡ b
    some-same h = cc

    true-false : true ≡ false → ⊥
    true-false h = cc
keeps-by false s t name got e (bytes, is) =
    let named : t.named ≡ s.named = ap (λ (x : SourceState). x.named) is ∙ named-kept (choosing s name).chosen (choosing s name) (left_of t) in
    let input : t.input ≡ s.input = ap (λ (x : SourceState). x.input) is ∙ input-kept (choosing s name).chosen (choosing s name) (left_of t) (not-input s name (bytes_eq name dash) refl e) in
    ((named, λ d. input), ([], sym input))

pub keeps-reading : (s t : SourceState) (name got : List ℕ) → IsReading s name got (Some t) → KeepsOthers name s (Some t)
keeps-reading s t name got h = keeps-by (bytes_eq name dash) s t name got refl h

-- a file that a keeper is taking
pub keeps-taking : (took : List ℕ → Type 0) (count : ℕ) (o : Option SourceState) (name : List ℕ) (now : Option SourceState)
    → IfTells o (λ s. IsTaking took count s name now) → IfTells o (λ s. KeepsOthers name s now)
keeps-taking took count None name now h = tt
keeps-taking took count (Some s) name None h = λ counts. absurd ((h counts).3)
keeps-taking took count (Some s) name (Some t) h = λ counts. let (got, kept, size, reading) = h counts in keeps-reading s t name got reading

-- the next read of it, which may fail
pub keeps-read : {E : Type 0} (took : List ℕ → Type 0) (count : ℕ) (o now next : Option SourceState) (r : Result ℕ E) (name buf : List ℕ)
    → IfTells o (λ s. IsTaking took count s name now) → ReadsKnown now next r buf → IfTells o (λ s. KeepsOthers name s next)
keeps-read took count None now next r name buf h reads = tt
keeps-read took count (Some s) None next r name buf h reads = λ counts. absurd ((h counts).3)
keeps-read took count (Some s) (Some t) None r name buf h reads = absurd reads
keeps-read took count (Some s) (Some t) (Some u) (Ok n) name buf h reads = λ counts.
    let (got, kept, size, reading) = h counts in
    keeps-reading s u name (got ++ take n buf) (reading-more s t u name got (take n buf) reading reads.0 reads.1)
keeps-read took count (Some s) (Some t) (Some u) (Err e) name buf h reads = λ counts.
    let (got, kept, size, reading) = h counts in
    let keeps = keeps-reading s t name got reading in
    let named : u.named ≡ t.named = ap (λ (x : SourceState). x.named) reads in
    let input : u.input ≡ t.input = ap (λ (x : SourceState). x.input) reads in
    ((named ∙ keeps.0.0, λ d. input ∙ keeps.0.1 d), (keeps.1.0, keeps.1.1 ∙ ap (λ (x : List ℕ). keeps.1.0 ++ x) (sym input)))
