-- The least line of two, and of lines that one more line follows.
use Rattle.ssh_findings.proofs.Imports.{◌≡◌, ◌∙◌, ◌||◌, ℕ, Bool, true, false, List, [], ◌∷◌, ◌++◌, Option, Some, None, ap, sym, refl, arith, HostLine, lesser, line_if}
use Rattle.ssh_findings.specs.Least.{least_line}

pub lesser_none : (o : Option ℕ) → lesser o None ≡ o
lesser_none None = refl
lesser_none (Some k) = refl

pub lesser_assoc : (a b c : Option ℕ) → lesser (lesser a b) c ≡ lesser a (lesser b c)
lesser_assoc None b c = refl
lesser_assoc (Some k) None c = refl
lesser_assoc (Some k) (Some n) None = refl
lesser_assoc (Some k) (Some n) (Some j) = ap (λ l. Some l) (omega arith)

pub lesser_comm : (a b : Option ℕ) → lesser a b ≡ lesser b a
lesser_comm None None = refl
lesser_comm None (Some n) = refl
lesser_comm (Some k) None = refl
lesser_comm (Some k) (Some n) = ap (λ l. Some l) (omega arith)

-- two by two
crossed : (a b c d : Option ℕ) → lesser (lesser a b) (lesser c d) ≡ lesser (lesser a c) (lesser b d)
crossed a b c d =
    lesser_assoc a b (lesser c d)
    ∙ ap (lesser a) (sym (lesser_assoc b c d) ∙ ap (λ o. lesser o d) (lesser_comm b c) ∙ lesser_assoc c b d)
    ∙ sym (lesser_assoc a c (lesser b d))

either : (p q : Bool) (n : ℕ) → line_if (p || q) n ≡ lesser (line_if p n) (line_if q n)
either true true n = ap (λ l. Some l) (omega arith)
either true false n = refl
either false q n = refl

-- one more line
pub least_more : (test : HostLine → Bool) (lines : List HostLine) (d : HostLine)
    → least_line test (lines ++ d ∷ []) ≡ lesser (least_line test lines) (line_if (test d) d.line)
unfolding least_line
least_more test [] d = lesser_none (line_if (test d) d.line)
least_more test (x ∷ xs) d =
    ap (lesser (line_if (test x) x.line)) (least_more test xs d)
    ∙ sym (lesser_assoc (line_if (test x) x.line) (least_line test xs) (line_if (test d) d.line))

-- of which one or the other holds
pub least_or : (p q : HostLine → Bool) (lines : List HostLine)
    → least_line (λ d. p d || q d) lines ≡ lesser (least_line p lines) (least_line q lines)
unfolding least_line
least_or p q [] = refl
least_or p q (x ∷ xs) =
    ap (lesser (line_if (p x || q x) x.line)) (least_or p q xs)
    ∙ ap (λ o. lesser o (lesser (least_line p xs) (least_line q xs))) (either (p x) (q x) x.line)
    ∙ crossed (line_if (p x) x.line) (line_if (q x) x.line) (least_line p xs) (least_line q xs)

-- by tests with the same results
pub least_same : (p q : HostLine → Bool) (lines : List HostLine) → ((d : HostLine) → p d ≡ q d) → least_line p lines ≡ least_line q lines
unfolding least_line
least_same p q [] same = refl
least_same p q (x ∷ xs) same =
    ap (λ b. lesser (line_if b x.line) (least_line p xs)) (same x) ∙ ap (lesser (line_if (q x) x.line)) (least_same p q xs same)

pub least_none : (lines : List HostLine) → least_line (λ d. false) lines ≡ None
unfolding least_line
least_none [] = refl
least_none (x ∷ xs) = least_none xs

-- what is right before one more line is right after it
pub grown : (old new : Option ℕ) (test : HostLine → Bool) (lines : List HostLine) (d : HostLine)
    → old ≡ least_line test lines → new ≡ lesser old (line_if (test d) d.line) → new ≡ least_line test (lines ++ d ∷ [])
grown old new test lines d e h =
    h ∙ ap (λ o. lesser o (line_if (test d) d.line)) e ∙ sym (least_more test lines d)

-- a line of which the test does not hold changes nothing
pub kept : (old : Option ℕ) (test : HostLine → Bool) (lines : List HostLine) (d : HostLine)
    → old ≡ least_line test lines → test d ≡ false → old ≡ least_line test (lines ++ d ∷ [])
kept old test lines d e off =
    grown old old test lines d e (sym (lesser_none old) ∙ ap (λ b. lesser old (line_if b d.line)) (sym off))
