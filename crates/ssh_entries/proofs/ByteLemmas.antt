-- Lists of bytes, by recursion and by place.
use Rattle.ssh_entries.proofs.Imports.{ℕ, zero, suc, ◌<◌, List, [], ◌∷◌, ◌++◌, arith, AllByRecursion, IsBytes}

abbrev pub AreBytes : List ℕ → Type 0
AreBytes text = AllByRecursion (λ c. c < 256) text

pub IsBytes-from_all : (text : List ℕ) → AreBytes text → IsBytes text
IsBytes-from_all [] h i = omega arith
IsBytes-from_all (c ∷ cs) h zero = h.0
IsBytes-from_all (c ∷ cs) h (suc i) = IsBytes-from_all cs h.1 i

pub AreBytes-front : (a b : List ℕ) → AreBytes (a ++ b) → AreBytes a
AreBytes-front [] b h = tt
AreBytes-front (c ∷ a) b h = (h.0, AreBytes-front a b h.1)

pub AreBytes-back : (a b : List ℕ) → AreBytes (a ++ b) → AreBytes b
AreBytes-back [] b h = h
AreBytes-back (c ∷ a) b h = AreBytes-back a b h.1

pub AreBytes-from : (text : List ℕ) → IsBytes text → AreBytes text
AreBytes-from [] h = tt
AreBytes-from (c ∷ cs) h = (h 0, AreBytes-from cs (λ i. h (suc i)))
