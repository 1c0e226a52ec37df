-- A file of lines that keep what they say, each on one line, says the same; where each stands for itself, so does the file.
use Rattle.ssh_rewriting.proofs.Imports.{◌≡◌, ℕ, ◌+◌, ◌≤◌, inl, inr, List, [], ◌∷◌, ◌++◌, length, length-append, map, refl, sym, ap, subst, ◌∙◌, arith, AllByRecursion, AreBytes, AreBytes-front, AreBytes-back, lines_of, AreLines, HasNoNewline, with_newlines, lines_of-are, lines_of-whole, file_with}

-- what is written in place of a line
pub record IsKept {A : Type 0} (read : List ℕ → A) (written : List ℕ → List ℕ) (line : List ℕ) : Type 0 where
  pub says : read (written line) ≡ read line
  pub none : HasNoNewline (written line)
  pub twice : written (written line) ≡ written line
  pub no_longer : length (written line) ≤ length line

-- a line of a file
abbrev pub IsGood : List ℕ → Type 0
IsGood line = HasNoNewline line × AreBytes line

abbrev pub AreGood : List (List ℕ) → Type 0
AreGood lines = AllByRecursion IsGood lines

abbrev pub KeepsLines : {A : Type 0} → (List ℕ → A) → (List ℕ → List ℕ) → Type 0
KeepsLines read written = (line : List ℕ) → IsGood line → IsKept read written line

all-says : {A : Type 0} (read : List ℕ → A) (written : List ℕ → List ℕ) → KeepsLines read written
    → (lines : List (List ℕ)) → AreGood lines → map read (map written lines) ≡ map read lines
all-says read written kept [] g = refl
all-says read written kept (line ∷ lines) g =
    ap (λ l. l ∷ map read (map written lines)) ((kept line g.0).says) ∙ ap (λ ls. read line ∷ ls) (all-says read written kept lines g.1)

all-twice : {A : Type 0} (read : List ℕ → A) (written : List ℕ → List ℕ) → KeepsLines read written
    → (lines : List (List ℕ)) → AreGood lines → map written (map written lines) ≡ map written lines
all-twice read written kept [] g = refl
all-twice read written kept (line ∷ lines) g =
    ap (λ l. l ∷ map written (map written lines)) ((kept line g.0).twice) ∙ ap (λ ls. written line ∷ ls) (all-twice read written kept lines g.1)

all-none : {A : Type 0} (read : List ℕ → A) (written : List ℕ → List ℕ) → KeepsLines read written
    → (lines : List (List ℕ)) → AreGood lines → AllByRecursion HasNoNewline (map written lines)
all-none read written kept [] g = tt
all-none read written kept (line ∷ lines) g = ((kept line g.0).none, all-none read written kept lines g.1)

good-lines : (lines : List (List ℕ)) (file : List ℕ) → AreLines lines file → AreBytes file → AreGood lines
good-lines [] file h b = tt
good-lines (line ∷ lines) file (none, inl (rest, whole, more)) b =
    let cut = subst AreBytes whole b in
    ((none, AreBytes-front line (10 ∷ rest) cut), good-lines lines rest more (AreBytes-back line (10 ∷ rest) cut).1)
good-lines (line ∷ lines) file (none, inr (last, whole, some)) b =
    let Good : List (List ℕ) → Type 0 = λ ls. AreGood ls in
    ((none, subst AreBytes whole b), subst Good (sym last) tt)

pub good : (file : List ℕ) → AreBytes file → AreGood (lines_of file)
good file b = good-lines (lines_of file) file (lines_of-are file) b

new-lines : {A : Type 0} (read : List ℕ → A) (written : List ℕ → List ℕ) → KeepsLines read written
    → (file : List ℕ) → AreBytes file → lines_of (file_with written file) ≡ map written (lines_of file)
new-lines read written kept file b = lines_of-whole (map written (lines_of file)) (all-none read written kept (lines_of file) (good file b))

-- Written once more it is itself.
pub file-twice : {A : Type 0} (read : List ℕ → A) (written : List ℕ → List ℕ) → KeepsLines read written
    → (file : List ℕ) → AreBytes file → file_with written (file_with written file) ≡ file_with written file
file-twice read written kept file b =
    ap (λ ls. with_newlines (map written ls)) (new-lines read written kept file b)
    ∙ ap with_newlines (all-twice read written kept (lines_of file) (good file b))

-- It says what the file says.
pub file-says : {A : Type 0} (read : List ℕ → A) (written : List ℕ → List ℕ) → KeepsLines read written
    → (file : List ℕ) → AreBytes file → map read (lines_of (file_with written file)) ≡ map read (lines_of file)
file-says read written kept file b =
    ap (λ ls. map read ls) (new-lines read written kept file b) ∙ all-says read written kept (lines_of file) (good file b)

lines-length : {A : Type 0} (read : List ℕ → A) (written : List ℕ → List ℕ) → KeepsLines read written
    → (lines : List (List ℕ)) (file : List ℕ) → AreLines lines file → AreGood lines → length (with_newlines (map written lines)) ≤ length file + 1
lines-length read written kept [] file h g = omega arith
lines-length read written kept (line ∷ lines) file (none, inl (rest, whole, more)) g =
    let one = (kept line g.0).no_longer in
    let others = lines-length read written kept lines rest more g.1 in
    let new : length (written line ++ 10 ∷ with_newlines (map written lines)) ≡ length (written line) + length (10 ∷ with_newlines (map written lines)) =
    length-append (written line) (10 ∷ with_newlines (map written lines)) in
    let old : length file ≡ length line + length (10 ∷ rest) = ap length whole ∙ length-append line (10 ∷ rest) in
    omega arith
lines-length read written kept (line ∷ lines) file (none, inr (last, whole, some)) g =
    let one = (kept line g.0).no_longer in
    let W : List (List ℕ) → List ℕ = λ ls. written line ++ 10 ∷ with_newlines (map written ls) in
    let new : length (W lines) ≡ length (written line) + 1 = ap (λ ls. length (W ls)) last ∙ length-append (written line) (10 ∷ []) in
    let old : length file ≡ length line = ap length whole in
    omega arith

-- It has at most one byte more, the LF of a last line that has none.
pub file-length : {A : Type 0} (read : List ℕ → A) (written : List ℕ → List ℕ) → KeepsLines read written
    → (file : List ℕ) → AreBytes file → length (file_with written file) ≤ length file + 1
file-length read written kept file b = lines-length read written kept (lines_of file) file (lines_of-are file) (good file b)
