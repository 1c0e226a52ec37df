-- Sources with the same files, the same input and the same counts tell the same, and what reads that did not fail leave.
use Rattle.ssh_files.specs.Loading.{ReadToEnd}
use Rattle.ssh_files.specs.SourceState.{bytes_of, cause_at, cause_of, given_at}
use Rattle.ssh_files.specs.declared.files.UnreadCause.{UnreadCause}
use Rattle.std.specs.Prelude.{Err, IfSome, Ok, Result, if◌then◌else◌}
use Rattle.std.proofs.Common.{is_some}
use Rattle.ssh_files.proofs.Imports.{◌≡◌, ◌∙◌, ◌+◌, ℕ, Bool, true, false, cond, List, [], length, Option, Some, None, refl, sym, ap, nat_lt, bytes_eq, lt-ltb, IfTells, SourceState, bytes_at, dash, next_choice, after_whole, KeepsOthers, NoReadFailed, OneReadFailed, IsLeft, IsTooLong, within_limit, file_limit}

-- ---- the same but for what is chosen

pub record Alike (a b : SourceState) : Type 0 where
  pub named : a.named ≡ b.named
  pub input : a.input ≡ b.input
  pub failures : a.failures ≡ b.failures
  pub choices : a.choices ≡ b.choices

pub alike-same : (s : SourceState) → Alike s s
alike-same s = record { named = refl; input = refl; failures = refl; choices = refl }

pub file-alike : (a b : SourceState) (name : List ℕ) → Alike a b → bytes_at a name ≡ bytes_at b name
file-alike a b name h = rw (h.named, h.input) refl

pub given-alike : (a b : SourceState) (name : List ℕ) → Alike a b → given_at a name ≡ given_at b name
given-alike a b name h = rw (h.named, h.input) refl

pub whole-alike : (a b : SourceState) (name : List ℕ) → Alike a b → Alike (after_whole a name) (after_whole b name)
whole-alike a b name h = record {
  named = h.named;
  input = ap (λ i. cond (bytes_eq name dash) [] i) h.input;
  failures = h.failures;
  choices = ap next_choice h.choices;
}

-- ---- why a file is not read

-- a reading of the file does not change it
cause-kept : (name : List ℕ) (s t : SourceState) (b : Bool) → t.named ≡ s.named → cause_of (if b then Ok t.input else t.named name) ≡ cause_of (if b then Ok s.input else s.named name)
cause-kept name s t true same = refl
cause-kept name s t false same = ap (λ (f : List ℕ → Result (List ℕ) UnreadCause). cause_of (f name)) same

pub cause-before : (name : List ℕ) (cause : UnreadCause) (o t : Option SourceState) → IfTells o (λ s. KeepsOthers name s t) → IfSome t (λ u. cause ≡ cause_at u name) → IfTells o (λ s. cause ≡ cause_at s name)
cause-before name cause None t keeps is = tt
cause-before name cause (Some s) None keeps is = λ counts. absurd (keeps counts)
cause-before name cause (Some s) (Some u) keeps is = λ counts. is ∙ cause-kept name s u (bytes_eq name dash) (keeps counts).0.0

pub given-none : (given : Result (List ℕ) UnreadCause) → bytes_of given ≡ None → given ≡ Err (cause_of given)
given-none (Err cause) h = refl
given-none (Ok bytes) h = cc

-- ---- failed reads, and those that did not fail

pub none-failed : (s t : SourceState) (u : Option SourceState) → t.failures ≡ s.failures → NoReadFailed t u → NoReadFailed s u
none-failed s t None e h = h
none-failed s t (Some x) e h = h ∙ e

pub one-failed : (a b : SourceState) (u : Option SourceState) (name : List ℕ) → Alike a b → OneReadFailed a u name → OneReadFailed b u name
one-failed a b None name e h = h
one-failed a b (Some x) name e h = (h.0 ∙ ap (λ n. n + 1) e.failures, h.1, h.2 ∙ ap next_choice e.choices)

pub keeps-same : (name : List ℕ) (a b : SourceState) (u : Option SourceState) → Alike a b → KeepsOthers name a u → KeepsOthers name b u
keeps-same name a b None e h = h
keeps-same name a b (Some u) e h = ((h.0.0 ∙ e.named, λ d. h.0.1 d ∙ e.input), (h.1.0, sym e.input ∙ h.1.1))

pub end-same : (name : List ℕ) (a b : SourceState) (u : Option SourceState) → Alike a b → ReadToEnd name a u → ReadToEnd name b u
end-same name a b None e h = h
end-same name a b (Some u) e h = λ some.
    h (ap (λ (x : Option (List ℕ)). is_some (within_limit x)) (file-alike a b name e) ∙ some) ∙ (whole-alike a b name e).input

-- what was left after a whole file is its end
pub left-end : (name : List ℕ) (s : SourceState) (t : Option SourceState) → IsLeft s (after_whole s name) t → ReadToEnd name s t
left-end name s None h = h
left-end name s (Some t) h = λ some. h.1

-- a file that gives no bytes within the limit has no end to be read to
pub no-end : (name : List ℕ) (s : SourceState) (t : Option SourceState) → KeepsOthers name s t → within_limit (bytes_at s name) ≡ None → ReadToEnd name s t
no-end name s None keeps none = keeps
no-end name s (Some t) keeps none = λ some. cc (rw none at some)

-- what was left is the source after the reading, but for what is chosen
pub left-alike : (s rest t : SourceState) → rest.failures ≡ s.failures → IsLeft s rest (Some t) → Alike t rest
left-alike s rest t e h = record { named = h.0; input = h.1; failures = h.2 ∙ sym e; choices = h.3 }

pub left-none : (s rest : SourceState) (t : Option SourceState) → IsLeft s rest t → NoReadFailed s t
left-none s rest None h = h
left-none s rest (Some t) h = h.2

-- ---- whole files

-- a file past the limit gives no bytes
pub over_limit : (bytes : Option (List ℕ)) → IsTooLong bytes → within_limit bytes ≡ None
over_limit None h = absurd h
over_limit (Some bytes) h = rw (lt-ltb file_limit (length bytes) h) refl

short-by : (b : Bool) (bytes file : List ℕ) → cond b None (Some bytes) ≡ Some file → bytes ≡ file
short-by true bytes file h = cc
short-by false bytes file h = cc

-- the bytes that were read are the file's
pub read-all : (bytes : Option (List ℕ)) (file : List ℕ) → within_limit bytes ≡ Some file → bytes ≡ Some file
read-all None file h = cc
read-all (Some bytes) file h = ap (λ b. Some b) (short-by (nat_lt file_limit (length bytes)) bytes file h)

pub given-all : (given : Result (List ℕ) UnreadCause) (file : List ℕ) → within_limit (bytes_of given) ≡ Some file → given ≡ Ok file
given-all (Err cause) file h = cc
given-all (Ok bytes) file h = ap (λ b. Ok b) (short-by (nat_lt file_limit (length bytes)) bytes file h)
