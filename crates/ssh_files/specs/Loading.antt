-- What reading a file answers.
use Rattle.std.specs.Prelude.{◌≡◌, ◌++◌, ◌+◌, ℕ, true, false, is_some, List, Option, Some, None, Result, Ok, Err, length, nat_lt, if◌then◌else◌, ◌<◌}
use Rattle.std.specs.Str.{bytes_eq}
use Rattle.ssh_text.specs.Text.{file_limit, line_limit}
use Rattle.ssh_files.specs.SourceState.{SourceState, bytes_at, dash, next_choice}
use Rattle.ssh_files.specs.Parts.{first_line, after_line, after_whole}
use Rattle.ssh_files.specs.declared.read.ReadError.{ReadError}
use Rattle.ssh_files.specs.declared.read.ReadError.TheVariants as fault

-- ---- failed reads

-- one read failed between the two, of the file of this name, and no other file was chosen
abbrev pub OneReadFailed : SourceState → Option SourceState → List ℕ → Type 0
OneReadFailed s None name = ⊥
OneReadFailed s (Some t) name = (t.failures ≡ s.failures + 1) × (t.failed ≡ Some name) × (t.choices ≡ next_choice s.choices)

-- no read failed between the two
abbrev pub NoReadFailed : SourceState → Option SourceState → Type 0
NoReadFailed s None = ⊥
NoReadFailed s (Some t) = t.failures ≡ s.failures

-- one read failed, of standard input, of which no more than a front of its first line had been read
abbrev pub LineReadFailed : SourceState → Option SourceState → Type 0
LineReadFailed s None = ⊥
LineReadFailed s (Some t) = OneReadFailed s (Some t) dash × ((front : List ℕ) × (s.input ≡ front ++ t.input) × (first_line s ≡ front ++ first_line t))

-- ---- files

-- there is a byte to keep: where there is none, no memory is taken
abbrev pub HoldsBytes : Option (List ℕ) → Type 0
HoldsBytes None = ⊥
HoldsBytes (Some bytes) = 0 < length bytes

-- the bytes of a file, where there are no more than it may have
abbrev pub within_limit : Option (List ℕ) → Option (List ℕ)
within_limit None = None
within_limit (Some bytes) = if nat_lt file_limit (length bytes) then None else Some bytes

-- the source has the files and the input of `rest`, as many were chosen, and no read has failed since s
abbrev pub IsLeft : SourceState → SourceState → Option SourceState → Type 0
IsLeft s rest None = ⊥
IsLeft s rest (Some t) = (t.named ≡ rest.named) × (t.input ≡ rest.input) × (t.failures ≡ s.failures) × (t.choices ≡ rest.choices)

abbrev pub IsTooLong : Option (List ℕ) → Type 0
IsTooLong None = ⊥
IsTooLong (Some bytes) = file_limit < length bytes

-- why a reading of these bytes of the file of this name gives none; a file that is missing or empty is reported whatever memory
-- does
abbrev pub FailsLoad : List ℕ → Option (List ℕ) → SourceState → Option SourceState → ReadError → Type 0
FailsLoad name bytes s t fault.Missing = (bytes ≡ None) × NoReadFailed s t
FailsLoad name bytes s t fault.TooLong = IsTooLong bytes × NoReadFailed s t
FailsLoad name bytes s t fault.Failed = OneReadFailed s t name
FailsLoad name bytes s t fault.Memory = HoldsBytes bytes

-- what a reading of these bytes of the file of this name answers, where `rest` is left; the bytes that it gives are seen by `view`
abbrev pub Loads : {V : Type 0} → (V → List ℕ) → List ℕ → Option (List ℕ) → SourceState → SourceState → Option SourceState → Result V ReadError → Type 0
Loads view name bytes rest s t (Ok v) = (within_limit bytes ≡ Some (view v)) × IsLeft s rest t
Loads view name bytes rest s t (Err e) = FailsLoad name bytes s t e

-- What a reading answers of which only a part is kept: that part of the bytes, of which there are no more than there may
-- be; or why there is none, as where they are all kept.
abbrev pub LoadsPart : {V : Type 0} → (List ℕ → V → Type 0) → List ℕ → Option (List ℕ) → SourceState → SourceState → Option SourceState → Result V ReadError → Type 0
LoadsPart IsPart name bytes rest s t (Ok v) = ((file : List ℕ) × (within_limit bytes ≡ Some file) × IsPart file v) × IsLeft s rest t
LoadsPart IsPart name bytes rest s t (Err e) = FailsLoad name bytes s t e

-- the end of a text
abbrev pub IsRestOf : List ℕ → List ℕ → Type 0
IsRestOf rest text = (front : List ℕ) × (text ≡ front ++ rest)

-- what a reading of the file of this name leaves of all other files: the named ones, and of another than standard input that too
abbrev pub KeepsFiles : List ℕ → SourceState → Option SourceState → Type 0
KeepsFiles name s None = ⊥
KeepsFiles name s (Some t) = (t.named ≡ s.named) × (bytes_eq name dash ≡ false → t.input ≡ s.input)

-- the same, and what it leaves of standard input is a rest of what was there
abbrev pub KeepsOthers : List ℕ → SourceState → Option SourceState → Type 0
KeepsOthers name s None = ⊥
KeepsOthers name s (Some t) = KeepsFiles name s (Some t) × IsRestOf t.input s.input

-- a file that is there and within the limit was read to its end: of standard input nothing is left
abbrev pub ReadToEnd : List ℕ → SourceState → Option SourceState → Type 0
ReadToEnd name s None = ⊥
ReadToEnd name s (Some t) = is_some (within_limit (bytes_at s name)) ≡ true → t.input ≡ (after_whole s name).input

-- ---- the first line of standard input

-- why the first line of standard input was not read; an empty one is reported whatever memory does
abbrev pub FailsLine : SourceState → Option SourceState → ReadError → Type 0
FailsLine s t fault.Missing = ⊥
FailsLine s t fault.TooLong = (line_limit < length (first_line s)) × NoReadFailed s t
FailsLine s t fault.Failed = LineReadFailed s t
FailsLine s t fault.Memory = 0 < length (first_line s)

-- what a reading of the first line of standard input answers
abbrev pub LoadsLine : {V : Type 0} → (V → List ℕ) → SourceState → Option SourceState → Result V ReadError → Type 0
LoadsLine view s t (Ok v) = (first_line s ≡ view v) × IsLeft s (after_line s) t
LoadsLine view s t (Err e) = FailsLine s t e
