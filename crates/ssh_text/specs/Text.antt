-- The lines of a file and the fields of a line (sshd(8), AUTHORIZED_KEYS FILE FORMAT and SSH_KNOWN_HOSTS FILE FORMAT).
use Rattle.std.specs.Prelude.{◌≡◌, ◌≢◌, ℕ, suc, ◌+◌, ◌-◌, ◌<◌, Bool, true, false, ◌||◌, ◌==◌, if◌then◌else◌, ◌⊎◌, List, [], ◌∷◌, ◌++◌, Some, slice_get}
use Rattle.std.specs.List.{onto_first, AllByRecursion}

-- the most bytes of a line without its LF (this project's rule)
abbrev pub line_limit : ℕ
line_limit = 65536

-- the most bytes of a trust file (this project's rule)
abbrev pub file_limit : ℕ
file_limit = 67108864

-- ---- lines

-- how many bytes come before the first LF
abbrev pub line_len : List ℕ → ℕ
line_len [] = 0
line_len (c ∷ cs) = if c == 10 then 0 else suc (line_len cs)

-- The lines of a file: it is cut at every LF (byte 10), and a last piece without one counts if it is not empty.
abbrev pub lines_of : List ℕ → List (List ℕ)
lines_of [] = []
lines_of (c ∷ cs) = if c == 10 then [] ∷ lines_of cs else onto_first c (lines_of cs)

-- the same as a relation: each line has no LF inside and an LF after it, which the last line may lack if it is not empty
abbrev pub AreLines : List (List ℕ) → List ℕ → Type 0
AreLines [] file = file ≡ []
AreLines (line ∷ lines) file =
    AllByRecursion (λ c. c ≢ 10) line
    × (((rest : List ℕ) × (file ≡ line ++ 10 ∷ rest) × AreLines lines rest)
    ⊎ ((lines ≡ []) × (file ≡ line) × (line ≢ [])))

-- each line with its number; the first has this number
abbrev pub numbered : ℕ → List (List ℕ) → List (ℕ × List ℕ)
numbered n [] = []
numbered n (line ∷ lines) = (n, line) ∷ numbered (n + 1) lines

-- l is line i of the file, counted from 1
abbrev pub IsLineAt : List ℕ → ℕ → List ℕ → Type 0
IsLineAt file i line = (0 < i) × (slice_get (lines_of file) (i - 1) ≡ Some line)

-- ---- parts of a line

-- a space or a tab
abbrev pub is_blank : ℕ → Bool
is_blank c = (c == 32) || (c == 9)

-- the text without this byte at its end, if it ends with it
abbrev pub without_last : ℕ → List ℕ → List ℕ
without_last b [] = []
without_last b (c ∷ []) = if c == b then [] else c ∷ []
without_last b (c ∷ d ∷ cs) = c ∷ without_last b (d ∷ cs)

-- whether the text ends with this byte
abbrev pub ends_with : ℕ → List ℕ → Bool
ends_with b [] = false
ends_with b (c ∷ []) = c == b
ends_with b (c ∷ d ∷ cs) = ends_with b (d ∷ cs)

-- the line without the one CR at its end, if it has one
abbrev pub without_cr : List ℕ → List ℕ
without_cr line = without_last 13 line

-- the text without the blanks at its front
abbrev pub skip_blanks : List ℕ → List ℕ
skip_blanks [] = []
skip_blanks (c ∷ cs) = if is_blank c then skip_blanks cs else c ∷ cs

-- a line without the CR at its end and the blanks at its front
abbrev pub body_of : List ℕ → List ℕ
body_of line = skip_blanks (without_cr line)

-- the text up to the first blank, and the text from it on
abbrev pub first_word : List ℕ → List ℕ
first_word [] = []
first_word (c ∷ cs) = if is_blank c then [] else c ∷ first_word cs

abbrev pub after_word : List ℕ → List ℕ
after_word [] = []
after_word (c ∷ cs) = if is_blank c then c ∷ cs else after_word cs

-- what follows the first field and the blanks after it
abbrev pub next_field : List ℕ → List ℕ
next_field text = skip_blanks (after_word text)

-- a space, a tab or a CR
abbrev pub is_trailing : ℕ → Bool
is_trailing c = is_blank c || (c == 13)

abbrev pub before_trailing : ℕ → List ℕ → List ℕ
before_trailing c [] = if is_trailing c then [] else c ∷ []
before_trailing c (d ∷ ds) = c ∷ d ∷ ds

-- the text without the spaces, tabs and CRs at its end
abbrev pub without_trailing : List ℕ → List ℕ
without_trailing [] = []
without_trailing (c ∷ cs) = before_trailing c (without_trailing cs)

-- what follows the base64 field: without blanks in front, and without spaces, tabs and CRs at its end
abbrev pub comment_of : List ℕ → List ℕ
comment_of text = without_trailing (skip_blanks text)

-- ---- the same as a grammar

abbrev pub AreBlanks : List ℕ → Type 0
AreBlanks text = AllByRecursion (λ c. is_blank c ≡ true) text

abbrev pub HasNoBlank : List ℕ → Type 0
HasNoBlank text = AllByRecursion (λ c. is_blank c ≡ false) text

abbrev pub begins_with_blank : List ℕ → Bool
begins_with_blank [] = false
begins_with_blank (c ∷ cs) = is_blank c

-- one or more blanks
pub record IsGap (gap : List ℕ) : Type 0 where
  pub some : gap ≢ []
  pub blanks : AreBlanks gap

-- a comment neither begins with a blank nor ends with a space, a tab or a CR
pub record IsComment (comment : List ℕ) : Type 0 where
  pub front : begins_with_blank comment ≡ false
  pub end : without_trailing comment ≡ comment

-- what may follow the base64 field: nothing, a CR, or blanks, the comment, and then spaces, tabs and CRs
abbrev pub SpellsTail : List ℕ → List ℕ → Type 0
SpellsTail comment tail =
    ((comment ≡ []) × ((tail ≡ []) ⊎ (tail ≡ 13 ∷ [])))
    ⊎ ((gap after : List ℕ) × IsGap gap × AllByRecursion (λ c. is_trailing c ≡ true) after
    × (tail ≡ gap ++ comment ++ after))
