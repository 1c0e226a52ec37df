-- The pieces of a text of lines.
use Rattle.ssh_program.proofs.Imports.{◌≡◌, ◌∙◌, ◌+◌, ◌-◌, ◌<◌, ◌≤◌, ℕ, zero, suc, List, [], ◌∷◌, length, take, refl, sym, ap, inl, inr, arith}
use Rattle.std.specs.Prelude.{◌==◌, ◌≢◌, ◌⊎◌, slice_index}
use Rattle.std.proofs.lemmas.Bool.{eqb-true}
use Rattle.memchr.specs.Find.{Nowhere, Passes, is_byte}
use Rattle.ssh_program.specs.Pieces.{IsPiece, pipe_room}

-- the text as a whole
pub whole-piece : (text : List ℕ) → length text ≤ pipe_room → IsPiece text (length text)
whole-piece text h = record { within = omega arith; some = λ some. some; ends = inr refl; small = inl h }

at-take : (n : ℕ) (text : List ℕ) (i : ℕ) → i < n → i < length text → slice_index (take n text) i ≡ slice_index text i
at-take zero text i lt few = absurd (omega (arith, lt))
at-take (suc n) [] i lt few = absurd (omega (arith, few))
at-take (suc n) (c ∷ cs) zero lt few = refl
at-take (suc n) (c ∷ cs) (suc i) lt few = at-take n cs i (omega (arith, lt)) (omega (arith, few))

take-short : (n : ℕ) (text : List ℕ) → n ≤ length text → length (take n text) ≡ n
take-short zero text h = refl
take-short (suc n) [] h = absurd (omega (arith, h))
take-short (suc n) (c ∷ cs) h = ap suc (take-short n cs (omega (arith, h)))

last-of : (text : List ℕ) (end n : ℕ) → n ≡ end + 1 → slice_index text end ≡ 10 → slice_index text (n - 1) ≡ 10
last-of text end n is at = let same : n - 1 ≡ end = omega (arith, is) in rw same at

-- the lines that a pipe keeps together
pub lines-piece : (text : List ℕ) (end n : ℕ) → pipe_room < length text → end < length (take pipe_room text) → Passes (is_byte 10) (take pipe_room text) end → n ≡ end + 1 → IsPiece text n
lines-piece text end n long lt is n-is =
    let room = take-short pipe_room text (omega (arith, long)) in
    let at : slice_index text end ≡ 10 = sym (at-take pipe_room text end (omega (arith, lt, room)) (omega (arith, lt, room, long))) ∙ eqb-true (slice_index (take pipe_room text) end) 10 is in
    record {
      within = omega (arith, n-is, lt, room, long);
      some = λ some. omega (arith, n-is);
      ends = inl (last-of text end n n-is at);
      small = inl (omega (arith, n-is, lt, room));
    }

none-before : (text : List ℕ) (end n : ℕ) → n ≤ end + 1 → Nowhere (Passes (is_byte 10) text) 0 end → (i : ℕ) → i + 1 < n → slice_index text i ≢ 10
none-before text end n h none i lt is = none i (omega arith) (omega (arith, lt, h)) (ap (is_byte 10) is)

-- the first line alone
pub line-piece : (text : List ℕ) (end n : ℕ) → end < length text → Nowhere (Passes (is_byte 10) text) 0 end → Passes (is_byte 10) text end → n ≡ end + 1 → IsPiece text n
line-piece text end n lt none is n-is = record {
  within = omega (arith, n-is, lt);
  some = λ some. omega (arith, n-is);
  ends = inl (last-of text end n n-is (eqb-true (slice_index text end) 10 is));
  small = inr (none-before text end n (omega (arith, n-is)) none);
}

pub rest-piece : (text : List ℕ) → Nowhere (Passes (is_byte 10) text) 0 (length text) → IsPiece text (length text)
rest-piece text none = record { within = omega arith; some = λ some. some; ends = inr refl; small = inr (none-before text (length text) (length text) (omega arith) none) }
