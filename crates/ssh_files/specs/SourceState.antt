-- What a source of files holds, and how `choose` and `read_chosen` change it.
use Rattle.std.specs.Prelude.{◌≡◌, ◌++◌, ◌+◌, ◌%◌, ◌^◌, ◌<◌, ℕ, List, [], ◌∷◌, Option, Some, None, Result, Ok, Err, length, min, take, if◌then◌else◌, MatchResult, ⊤}
use Rattle.std.specs.Str.{bytes_eq}
use Rattle.ssh_files.specs.declared.files.UnreadCause.{UnreadCause}
use Rattle.ssh_files.specs.declared.files.UnreadCause.TheVariants.{NotFound, Other}

-- the file that the next reads give
pub data Chosen : Type 0 where
  nothing : Chosen
  standard_input : Chosen
  -- a file: its name, and what is left of it
  named_file : List ℕ → List ℕ → Chosen

pub record SourceState : Type 0 where
  -- the bytes of the file of a name, or why there are none
  pub named : List ℕ → Result (List ℕ) UnreadCause
  -- what is left of standard input
  pub input : List ℕ
  pub chosen : Chosen
  -- how many times a file was chosen, modulo 2 ^ 64
  pub choices : ℕ
  -- how many reads have failed, up to `most_failures`
  pub failures : ℕ
  -- the name of the file whose read failed last
  pub failed : Option (List ℕ)

-- the largest count of failed reads
abbrev pub most_failures : ℕ
most_failures = 18446744073709551615

-- the name of standard input
abbrev pub dash : List ℕ
dash = 45 ∷ []

abbrev pub open_file : List ℕ → Result (List ℕ) UnreadCause → Chosen
open_file name (Err cause) = nothing
open_file name (Ok bytes) = named_file name bytes

-- the bytes that reads of the name give, or why there are none
abbrev pub given_at : SourceState → List ℕ → Result (List ℕ) UnreadCause
given_at s name = if bytes_eq name dash then Ok s.input else s.named name

-- these bytes, or there is no such file
abbrev pub found_or_none : Option (List ℕ) → Result (List ℕ) UnreadCause
found_or_none (Some bytes) = Ok bytes
found_or_none None = Err NotFound

abbrev pub bytes_of : Result (List ℕ) UnreadCause → Option (List ℕ)
bytes_of (Ok bytes) = Some bytes
bytes_of (Err cause) = None

abbrev pub bytes_at : SourceState → List ℕ → Option (List ℕ)
bytes_at s name = bytes_of (given_at s name)

-- why the file of this name is not read; of one that is there no more is known
abbrev pub cause_of : Result (List ℕ) UnreadCause → UnreadCause
cause_of (Ok bytes) = Other
cause_of (Err cause) = cause

abbrev pub cause_at : SourceState → List ℕ → UnreadCause
cause_at s name = cause_of (given_at s name)

-- the count of choices after one more
abbrev pub next_choice : ℕ → ℕ
next_choice n = (n + 1) % 2 ^ 64

-- the file of this name, from its start, or standard input from where it was
abbrev pub choosing : SourceState → List ℕ → SourceState
choosing s name = record s {
  chosen = if bytes_eq name dash then standard_input else open_file name (s.named name);
  choices = next_choice s.choices;
}

abbrev pub left_in : Chosen → List ℕ → List ℕ
left_in nothing input = []
left_in standard_input input = input
left_in (named_file name bytes) input = bytes

-- what reads of the chosen file have yet to give
abbrev pub left_of : SourceState → List ℕ
left_of s = left_in s.chosen s.input

-- the chosen file is left with these bytes
abbrev pub left_with : Chosen → SourceState → List ℕ → SourceState
left_with nothing s bytes = s
left_with standard_input s bytes = record s { input = bytes }
left_with (named_file name old) s bytes = record s { chosen = named_file name bytes }

-- the name of the chosen file
abbrev pub name_of : Chosen → Option (List ℕ)
name_of nothing = None
name_of standard_input = Some dash
name_of (named_file name bytes) = Some name

-- after one more failed read of the chosen file
abbrev pub with_failure : SourceState → SourceState
with_failure s = record s { failures = min (s.failures + 1) most_failures; failed = name_of s.chosen }

-- A read gave the n bytes at the front of `buf` and took them off the chosen file, none only at its end; or it failed,
-- and was counted. It fails where nothing is chosen.
abbrev pub ReadsPiece : {E : Type 0} → SourceState → SourceState → Result ℕ E → List ℕ → Type 0
ReadsPiece old new r buf = MatchResult r
    (λ n. (left_of old ≡ take n buf ++ left_of new) × (new ≡ left_with old.chosen old (left_of new))
    × (n ≡ 0 → 0 < length buf → left_of new ≡ []) × (old.chosen ≡ nothing → ⊥))
    (λ _. new ≡ with_failure old)

-- the same for a source whose contract may state nothing, and then goes on stating nothing
abbrev pub ReadsKnown : {E : Type 0} → Option SourceState → Option SourceState → Result ℕ E → List ℕ → Type 0
ReadsKnown None None r buf = ⊤
ReadsKnown None (Some t) r buf = ⊥
ReadsKnown (Some s) None r buf = ⊥
ReadsKnown (Some s) (Some t) r buf = ReadsPiece s t r buf

abbrev pub ChoosesKnown : Option SourceState → Option SourceState → List ℕ → Type 0
ChoosesKnown None new name = ⊤
ChoosesKnown (Some s) new name = new ≡ Some (choosing s name)

-- a property of a source whose contract states what it holds, and that can count one more failed read
abbrev pub IfTells : Option SourceState → (SourceState → Type 0) → Type 0
IfTells None P = ⊤
IfTells (Some s) P = s.failures < most_failures → P s
