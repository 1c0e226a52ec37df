-- Reasons in the order of their lines are printed with the lines of their numbers.
use Rattle.ssh_print.proofs.Imports.{◌≡◌, ◌∙◌, ℕ, ◌+◌, ◌<◌, ◌≤◌, ◌==◌, Bool, true, false, List, [], ◌∷◌, ◌++◌, ap, sym, refl, cond, arith, numbered}
use Rattle.std.specs.Prelude.{nat_lt}
use Rattle.std.specs.List.{flat_map}
use Rattle.std.proofs.lemmas.Bool.{eq-eqb, eqb-true, ltb-false, ltb-true, ne_eqb}
use Rattle.ssh_rules.specs.declared.reason.Reason.{Reason}
use Rattle.ssh_print.specs.PassedLines.{ComeInOrder, Compared, line_from, lines_after, passed_line, passed_lines}

below : (k n : ℕ) → k ≤ n → (k == n) ≡ false → k < n
below k n h e = go (nat_lt k n) refl
  where
    go : (b : Bool) → nat_lt k n ≡ b → k < n
    go true t = ltb-true k n t
    go false t =
        let same : k ≡ n = omega (arith, h, ltb-false k n t) in
        absurd (let no : false ≡ true = sym e ∙ eq-eqb k n same in cc)

-- a later number is found behind an earlier one as it is among all lines
later : (n m k : ℕ) (texts : List (List ℕ)) → k ≤ n → n < m → line_from m (lines_after n (numbered k texts)) ≡ line_from m (numbered k texts)
later n m k [] h l = refl
later n m k (t ∷ ts) h l = rw (ne_eqb k m (λ e. omega (arith, h, l, e))) (go (k == n) refl (λ less. later n m (k + 1) ts less l))
  where
    go : (b : Bool) → (k == n) ≡ b → (k + 1 ≤ n → line_from m (lines_after n (numbered (k + 1) ts)) ≡ line_from m (numbered (k + 1) ts))
        → line_from m (cond b (numbered (k + 1) ts) (lines_after n (numbered (k + 1) ts))) ≡ line_from m (numbered (k + 1) ts)
    go true e next = refl
    go false e next = next (omega (arith, below k n h e))

-- what is left behind a number has the numbers after it
record RestFrom (n k : ℕ) (texts : List (List ℕ)) : Type 0 where
  rest : List (List ℕ)
  is : lines_after n (numbered k texts) ≡ numbered (n + 1) rest

rest-from : (n k : ℕ) (texts : List (List ℕ)) → k ≤ n → RestFrom n k texts
rest-from n k [] h = record { rest = []; is = refl }
rest-from n k (t ∷ ts) h = go (k == n) refl (λ less. rest-from n (k + 1) ts less)
  where
    go : (b : Bool) → (k == n) ≡ b → (k + 1 ≤ n → RestFrom n (k + 1) ts) → RestFrom n k (t ∷ ts)
    go true e next = record { rest = ts; is = rw e (ap (λ (i : ℕ). numbered (i + 1) ts) (eqb-true k n e)) }
    go false e next =
        let r = next (omega (arith, below k n h e)) in
        record { rest = r.rest; is = rw e r.is }

abbrev each-line : Compared → List (ℕ × List ℕ) → List (ℕ × Reason) → List ℕ
each-line compared lines reasons = flat_map (λ (r : ℕ × Reason). passed_line compared r (line_from r.0 lines)) reasons

each-same : (compared : Compared) (n k m : ℕ) (texts : List (List ℕ)) (reasons : List (ℕ × Reason)) → k ≤ n → n < m → ComeInOrder m reasons
    → each-line compared (lines_after n (numbered k texts)) reasons ≡ each-line compared (numbered k texts) reasons
each-same compared n k m texts [] h l o = refl
each-same compared n k m texts (r ∷ reasons) h l (o, os) =
    let first = later n r.0 k texts h (omega (arith, l, o)) in
    let rest = each-same compared n k (r.0 + 1) texts reasons h (omega (arith, l, o)) os in
    rw (first, rest) refl

pub each-passed : (compared : Compared) (k : ℕ) (texts : List (List ℕ)) (reasons : List (ℕ × Reason)) → ComeInOrder k reasons
    → passed_lines compared (numbered k texts) reasons ≡ each-line compared (numbered k texts) reasons
each-passed compared k texts [] o = refl
each-passed compared k texts (r ∷ reasons) (o, os) =
    let rest = rest-from r.0 k texts o in
    let walked = ap (λ (ls : List (ℕ × List ℕ)). passed_lines compared ls reasons) rest.is in
    let found = each-passed compared (r.0 + 1) rest.rest reasons os in
    let back = ap (λ (ls : List (ℕ × List ℕ)). each-line compared ls reasons) (sym rest.is) in
    let same = each-same compared r.0 k (r.0 + 1) texts reasons o (omega arith) os in
    ap (λ (t : List ℕ). passed_line compared r (line_from r.0 (numbered k texts)) ++ t) (walked ∙ (found ∙ (back ∙ same)))
