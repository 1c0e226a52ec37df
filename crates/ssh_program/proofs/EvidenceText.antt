-- The lines of the evidence, in the pieces that are written: a number, and three fields.
use Rattle.ssh_program.proofs.Imports.{◌≡◌, ◌∙◌, ◌++◌, ◌+◌, ◌<◌, ℕ, List, Option, ap, drop, get_or, length, subst, sym, decimal, drop_more, Account, Breaks, TakesAll, Signed, evidence_from, evidence_line, hex_text}
use Rattle.std.proofs.Common.{append_assoc}
use Rattle.std.specs.Prelude.{codes}
use Rattle.ssh_program.proofs.WrittenText.{both_taken, first_broken, second_broken}

abbrev pub numbered : ℕ → List ℕ
numbered n = codes "evidence " ++ decimal n

abbrev pub field : List ℕ → List ℕ
field value = codes " " ++ hex_text value

joined : (number blank key message signature end : List ℕ)
    → (((number ++ (blank ++ key)) ++ (blank ++ message)) ++ (blank ++ signature)) ++ end
    ≡ ((((((number ++ blank) ++ key) ++ blank) ++ message) ++ blank) ++ signature) ++ end
joined number blank key message signature end = simp append_assoc

-- the pieces are the line
pieces : (n : ℕ) (s : Signed) → (((numbered n ++ field s.key) ++ field s.message) ++ field s.signature) ++ codes "\n" ≡ evidence_line n s
pieces n s = joined (numbered n) (codes " ") (hex_text s.key) (hex_text s.message) (hex_text s.signature) (codes "\n")

-- a write of one of them fails
pub number_broken : (o p : Option Account) (n : ℕ) (s : Signed) → Breaks o p (numbered n) → Breaks o p (evidence_line n s)
number_broken o p n s h =
    subst (Breaks o p) (pieces n s) (first_broken o p (((numbered n ++ field s.key) ++ field s.message) ++ field s.signature) (codes "\n")
    (first_broken o p ((numbered n ++ field s.key) ++ field s.message) (field s.signature)
    (first_broken o p (numbered n ++ field s.key) (field s.message) (first_broken o p (numbered n) (field s.key) h))))

pub key_broken : (o p q : Option Account) (n : ℕ) (s : Signed) → TakesAll o p (numbered n) → Breaks p q (field s.key) → Breaks o q (evidence_line n s)
key_broken o p q n s number h =
    subst (Breaks o q) (pieces n s) (first_broken o q (((numbered n ++ field s.key) ++ field s.message) ++ field s.signature) (codes "\n")
    (first_broken o q ((numbered n ++ field s.key) ++ field s.message) (field s.signature)
    (first_broken o q (numbered n ++ field s.key) (field s.message) (second_broken o p q (numbered n) (field s.key) number h))))

pub message_broken : (o p q : Option Account) (n : ℕ) (s : Signed) → TakesAll o p (numbered n ++ field s.key) → Breaks p q (field s.message)
    → Breaks o q (evidence_line n s)
message_broken o p q n s front h =
    subst (Breaks o q) (pieces n s) (first_broken o q (((numbered n ++ field s.key) ++ field s.message) ++ field s.signature) (codes "\n")
    (first_broken o q ((numbered n ++ field s.key) ++ field s.message) (field s.signature)
    (second_broken o p q (numbered n ++ field s.key) (field s.message) front h)))

pub signature_broken : (o p q : Option Account) (n : ℕ) (s : Signed) → TakesAll o p ((numbered n ++ field s.key) ++ field s.message)
    → Breaks p q (field s.signature) → Breaks o q (evidence_line n s)
signature_broken o p q n s front h =
    subst (Breaks o q) (pieces n s) (first_broken o q (((numbered n ++ field s.key) ++ field s.message) ++ field s.signature) (codes "\n")
    (second_broken o p q ((numbered n ++ field s.key) ++ field s.message) (field s.signature) front h))

pub end_broken : (o p q : Option Account) (n : ℕ) (s : Signed) → TakesAll o p (((numbered n ++ field s.key) ++ field s.message) ++ field s.signature)
    → Breaks p q (codes "\n") → Breaks o q (evidence_line n s)
end_broken o p q n s front h =
    subst (Breaks o q) (pieces n s) (second_broken o p q (((numbered n ++ field s.key) ++ field s.message) ++ field s.signature) (codes "\n") front h)

-- or all are taken
pub line_taken : (o p q : Option Account) (n : ℕ) (s : Signed) → TakesAll o p (((numbered n ++ field s.key) ++ field s.message) ++ field s.signature)
    → TakesAll p q (codes "\n") → TakesAll o q (evidence_line n s)
line_taken o p q n s front h =
    subst (TakesAll o q) (pieces n s) (both_taken o p q (((numbered n ++ field s.key) ++ field s.message) ++ field s.signature) (codes "\n") front h)

-- one more field is taken, with its value
pub field_taken : (o p q : Option Account) (front value meant : List ℕ) → value ≡ meant → TakesAll o p front → TakesAll p q (field value)
    → TakesAll o q (front ++ field meant)
field_taken o p q front value meant same h k = both_taken o p q front (field meant) h (subst (λ (l : List ℕ). TakesAll p q (field l)) same k)

-- the lines from an index on begin with the one at that index
pub lines_there : (evidence : List Signed) (i : ℕ) (d item : Signed) → i < length evidence → item ≡ get_or evidence i d
    → evidence_from i (drop i evidence) ≡ evidence_line i item ++ evidence_from (i + 1) (drop (i + 1) evidence)
lines_there evidence i d item lt is =
    ap (evidence_from i) (drop_more evidence i d lt) ∙ ap (λ x. evidence_line i x ++ evidence_from (i + 1) (drop (i + 1) evidence)) (sym is)
