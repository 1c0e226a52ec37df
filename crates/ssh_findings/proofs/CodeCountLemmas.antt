-- What the numbers of codes are, that sums may be made in any order, and that a sum that fits is not cut off.
use Rattle.ssh_findings.proofs.Imports.{◌≡◌, ◌∙◌, ◌+◌, ◌-◌, ◌<◌, ◌≤◌, ◌^◌, ◌==◌, ℕ, suc, Bool, true, cond, List, [], ◌∷◌, Option, Some, None, refl, ap, arith, subst, sym, length, nat_lt, ltb-true, sum_by, sum_by-cons}
use Rattle.std.proofs.Common.{ap₂}
use Rattle.std.proofs.Math.Nat.{add_assoc, min-eq_left}
use Rattle.std.proofs.Math.Path.{fun_ext}
use Rattle.std.proofs.lemmas.List.Sums.{count_by-le-length}
use Rattle.ssh_findings.specs.CodeCounts.{counted, findings_in, for_each_code, joined, no_codes, number_if_any, number_in, number_of, plus_codes, plus_codes_within, sum_within, times}
use Rattle.ssh_findings.specs.Codes.{all_codes, code_place, same_code}
use Rattle.ssh_findings.specs.declared.code.Code.{Code}
use Rattle.ssh_findings.specs.declared.code.Code.TheVariants as code
use Rattle.ssh_findings.specs.declared.code_counts.CodeCounts.{CodeCounts}

-- ---- places

place-by : (c : Code) → nat_lt (code_place c) 22 ≡ true
place-by code.Unreadable = refl
place-by code.SameKey = refl
place-by code.NeverDecides = refl
place-by code.GivesMore = refl
place-by code.ShortKey = refl
place-by code.Expired = refl
place-by code.PermitsNobody = refl
place-by code.ReadOtherwise = refl
place-by code.ForcedButForwards = refl
place-by code.UnreadableRevocation = refl
place-by code.OtherKey = refl
place-by code.TrustedAndRevoked = refl
place-by code.PatternHosts = refl
place-by code.EveryHost = refl
place-by code.AnyAddress = refl
place-by code.AnyCommand = refl
place-by code.NoExpiry = refl
place-by code.AnyPrincipal = refl
place-by code.NoComment = refl
place-by code.NamesInClear = refl
place-by code.SameHostKey = refl
place-by code.MayRefuse = refl

pub place-few : (c : Code) → code_place c < 22
place-few c = ltb-true (code_place c) 22 (place-by c)

-- the number of a code in a list with a number for each
pub number-each : (number : Code → ℕ) (c : Code) → number_in (for_each_code number) c ≡ number c
number-each number code.Unreadable = refl
number-each number code.SameKey = refl
number-each number code.NeverDecides = refl
number-each number code.GivesMore = refl
number-each number code.ShortKey = refl
number-each number code.Expired = refl
number-each number code.PermitsNobody = refl
number-each number code.ReadOtherwise = refl
number-each number code.ForcedButForwards = refl
number-each number code.UnreadableRevocation = refl
number-each number code.OtherKey = refl
number-each number code.TrustedAndRevoked = refl
number-each number code.PatternHosts = refl
number-each number code.EveryHost = refl
number-each number code.AnyAddress = refl
number-each number code.AnyCommand = refl
number-each number code.NoExpiry = refl
number-each number code.AnyPrincipal = refl
number-each number code.NoComment = refl
number-each number code.NamesInClear = refl
number-each number code.SameHostKey = refl
number-each number code.MayRefuse = refl

-- ---- the number of a code

pub number-none : (c : Code) → number_of no_codes c ≡ 0
unfolding number_of
number-none c = refl

pub number-counted : {F : Type 0} (code_of : F → Code) (found : List F) (c : Code) → number_of (counted code_of found) c ≡ times code_of found c
unfolding number_of counted
number-counted code_of [] c = refl
number-counted code_of (f ∷ found) c = number-each (times code_of (f ∷ found)) c

pub counted-few : {F : Type 0} (code_of : F → Code) (found : List F) (c : Code) → number_of (counted code_of found) c ≤ length found
counted-few code_of found c =
    subst (λ n. n ≤ length found) (sym (number-counted code_of found c)) (count_by-le-length (λ f. same_code c (code_of f)) found)

add-none : (n : ℕ) → n ≡ n + 0
add-none n = omega arith

none-add : (n : ℕ) → n ≡ 0 + n
none-add n = omega arith

pub number-plus : (a b : CodeCounts) (c : Code) → number_of (plus_codes a b) c ≡ number_of a c + number_of b c
unfolding number_of plus_codes
number-plus a b c = go a.numbers b.numbers
  where
    go : (m n : Option (List ℕ)) → number_if_any (joined (λ x y. x + y) m n) c ≡ number_if_any m c + number_if_any n c
    go None n = none-add (number_if_any n c)
    go (Some xs) None = add-none (number_in xs c)
    go (Some xs) (Some ys) = number-each (λ k. number_in xs k + number_in ys k) c

-- ---- sums

abbrev of_numbers : Option (List ℕ) → CodeCounts
of_numbers numbers = record { numbers = numbers }

abbrev of_each : (Code → ℕ) → Option (List ℕ)
of_each number = Some (for_each_code number)

pub codes-assoc : (a b c : CodeCounts) → plus_codes (plus_codes a b) c ≡ plus_codes a (plus_codes b c)
unfolding plus_codes
codes-assoc a b c = ap of_numbers (go a.numbers b.numbers c.numbers)
  where
    each : (x y z : List ℕ) (k : Code) → number_in (for_each_code (λ j. number_in x j + number_in y j)) k + number_in z k
        ≡ number_in x k + number_in (for_each_code (λ j. number_in y j + number_in z j)) k
    each x y z k =
        ap (λ n. n + number_in z k) (number-each (λ j. number_in x j + number_in y j) k)
        ∙ (add_assoc (number_in x k) (number_in y k) (number_in z k)
        ∙ sym (ap (λ n. number_in x k + n) (number-each (λ j. number_in y j + number_in z j) k)))

    go : (x y z : Option (List ℕ)) → joined (λ m n. m + n) (joined (λ m n. m + n) x y) z ≡ joined (λ m n. m + n) x (joined (λ m n. m + n) y z)
    go None y z = refl
    go (Some x) None z = refl
    go (Some x) (Some y) None = refl
    go (Some x) (Some y) (Some z) = ap of_each (fun_ext (each x y z))

pub codes-none : (a : CodeCounts) → plus_codes a no_codes ≡ a
unfolding plus_codes
codes-none a = ap of_numbers (go a.numbers)
  where
    go : (x : Option (List ℕ)) → joined (λ m n. m + n) x None ≡ x
    go None = refl
    go (Some x) = refl

pub none-codes : (a : CodeCounts) → plus_codes no_codes a ≡ a
unfolding plus_codes
none-codes a = refl

-- a sum that fits is not cut off
same-within : (m n : ℕ) → m + n < 2 ^ 64 → sum_within m n ≡ m + n
same-within m n h = min-eq_left {n = m + n} {m = 2 ^ 64 - 1} (omega (arith, h))

pub codes-within : (a b : CodeCounts) → ((c : Code) → number_of (plus_codes a b) c < 2 ^ 64) → plus_codes_within a b ≡ plus_codes a b
unfolding number_of plus_codes plus_codes_within
codes-within a b fits = ap of_numbers (go a.numbers b.numbers (λ c. subst (λ n. n < 2 ^ 64) (number-plus a b c) (fits c)))
  where
    go : (x y : Option (List ℕ)) → ((c : Code) → number_if_any x c + number_if_any y c < 2 ^ 64) → joined sum_within x y ≡ joined (λ m n. m + n) x y
    go None y few = refl
    go (Some x) None few = refl
    go (Some x) (Some y) few = ap of_each (fun_ext (λ k. same-within (number_in x k) (number_in y k) (few k)))

-- ---- the sum of all numbers

add-sums : (f g : Code → ℕ) (listed : List Code) → sum_by (λ c. f c + g c) listed ≡ sum_by f listed + sum_by g listed
add-sums f g [] = refl
add-sums f g (c ∷ listed) =
    omega (arith, sum_by-cons (λ k. f k + g k) c listed, sum_by-cons f c listed, sum_by-cons g c listed, add-sums f g listed)

-- a code is listed once
one-code : (k : Code) → sum_by (λ c. cond (same_code c k) 1 0) all_codes ≡ 1
one-code code.Unreadable = refl
one-code code.SameKey = refl
one-code code.NeverDecides = refl
one-code code.GivesMore = refl
one-code code.ShortKey = refl
one-code code.Expired = refl
one-code code.PermitsNobody = refl
one-code code.ReadOtherwise = refl
one-code code.ForcedButForwards = refl
one-code code.UnreadableRevocation = refl
one-code code.OtherKey = refl
one-code code.TrustedAndRevoked = refl
one-code code.PatternHosts = refl
one-code code.EveryHost = refl
one-code code.AnyAddress = refl
one-code code.AnyCommand = refl
one-code code.NoExpiry = refl
one-code code.AnyPrincipal = refl
one-code code.NoComment = refl
one-code code.NamesInClear = refl
one-code code.SameHostKey = refl
one-code code.MayRefuse = refl

one_add : (n : ℕ) → 1 + n ≡ suc n
one_add n = omega arith

times-more : {F : Type 0} (code_of : F → Code) (f : F) (found : List F) (c : Code) → times code_of (f ∷ found) c ≡ cond (same_code c (code_of f)) 1 0 + times code_of found c
times-more code_of f found c = sum_by-cons (λ g. cond (same_code c (code_of g)) 1 0) f found

all-times : {F : Type 0} (code_of : F → Code) (found : List F) → sum_by (times code_of found) all_codes ≡ length found
all-times code_of [] = refl
all-times code_of (f ∷ found) =
    ap (λ (number : Code → ℕ). sum_by number all_codes) (fun_ext (times-more code_of f found))
    ∙ (add-sums (λ c. cond (same_code c (code_of f)) 1 0) (times code_of found) all_codes
    ∙ (ap₂ (λ m n. m + n) (one-code (code_of f)) (all-times code_of found) ∙ one_add (length found)))

pub findings-none : findings_in no_codes ≡ 0
unfolding number_of
findings-none = refl

pub findings-counted : {F : Type 0} (code_of : F → Code) (found : List F) → findings_in (counted code_of found) ≡ length found
findings-counted code_of found = ap (λ (number : Code → ℕ). sum_by number all_codes) (fun_ext (number-counted code_of found)) ∙ all-times code_of found

pub findings-plus : (a b : CodeCounts) → findings_in (plus_codes a b) ≡ findings_in a + findings_in b
findings-plus a b = ap (λ (number : Code → ℕ). sum_by number all_codes) (fun_ext (number-plus a b)) ∙ add-sums (number_of a) (number_of b) all_codes
