-- The end of a line and of a comment, by the last byte.
use Rattle.ssh_text.proofs.Imports.{◌≡◌, ℕ, ◌+◌, ◌-◌, ◌<◌, true, false, ◌==◌, List, [], ◌∷◌, ◌++◌, length, take, slice_index, refl, sym, ap, ◌∙◌, arith, append-nil, ne_eqb, eq-eqb, take_more, take_all, without_last, ends_with, is_trailing, before_trailing, without_trailing}
use Rattle.ssh_text.proofs.TextLemmas.{without_trailing-after}

abbrev last : List ℕ → ℕ
last s = slice_index s (length s - 1)

abbrev front : List ℕ → List ℕ
front s = take (length s - 1) s

-- what comes before the last byte, and that byte
last_cut : (s : List ℕ) → 0 < length s → front s ++ last s ∷ [] ≡ s
last_cut s some =
    let one : length s - 1 + 1 ≡ length s = omega arith in
    sym (take_more s (length s - 1) 0 (omega arith)) ∙ ap (λ n. take n s) one ∙ take_all (length s) s (omega arith)

without_last-after : (b : ℕ) (front : List ℕ) (x : ℕ) (xs : List ℕ) → without_last b (front ++ x ∷ xs) ≡ front ++ without_last b (x ∷ xs)
without_last-after b [] x xs = refl
without_last-after b (c ∷ []) x xs = refl
without_last-after b (c ∷ d ∷ front) x xs = ap (λ s. c ∷ s) (without_last-after b (d ∷ front) x xs)

pub without_last-is : (b : ℕ) (s : List ℕ) → 0 < length s → last s ≡ b → front s ≡ without_last b s
without_last-is b s some is =
    let test : (last s == b) ≡ true = eq-eqb (last s) b is in
    let one : without_last b (last s ∷ []) ≡ [] = rw test refl in
    sym (ap (without_last b) (sym (last_cut s some)) ∙ without_last-after b (front s) (last s) [] ∙ ap (λ t. front s ++ t) one ∙ append-nil (front s))

pub without_last-other : (b : ℕ) (s : List ℕ) → (last s ≡ b → ⊥) → s ≡ without_last b s
without_last-other b [] other = refl
without_last-other b (c ∷ cs) other =
    let s = c ∷ cs in
    let test : (last s == b) ≡ false = ne_eqb (last s) b other in
    let one : without_last b (last s ∷ []) ≡ last s ∷ [] = rw test refl in
    let cut = last_cut s (omega arith) in
    sym (ap (without_last b) (sym cut) ∙ without_last-after b (front s) (last s) [] ∙ ap (λ t. front s ++ t) one ∙ cut)

ends_with-after : (b : ℕ) (front : List ℕ) (x : ℕ) → ends_with b (front ++ x ∷ []) ≡ (x == b)
ends_with-after b [] x = refl
ends_with-after b (c ∷ []) x = refl
ends_with-after b (c ∷ d ∷ front) x = ends_with-after b (d ∷ front) x

pub ends_with-last : (b : ℕ) (s : List ℕ) → 0 < length s → ends_with b s ≡ (last s == b)
ends_with-last b s some = ap (ends_with b) (sym (last_cut s some)) ∙ ends_with-after b (front s) (last s)

stops : (s : List ℕ) (c : ℕ) → is_trailing c ≡ false → without_trailing (s ++ c ∷ []) ≡ s ++ c ∷ []
stops [] c h = rw h refl
stops (d ∷ []) c h = ap (before_trailing d) (stops [] c h)
stops (d ∷ e ∷ s) c h = ap (before_trailing d) (stops (e ∷ s) c h)

pub without_trailing-last : (s : List ℕ) → 0 < length s → is_trailing (last s) ≡ true → without_trailing (front s) ≡ without_trailing s
without_trailing-last s some h =
    sym (ap without_trailing (sym (last_cut s some)) ∙ without_trailing-after (front s) (last s ∷ []) (h, tt))

pub without_trailing-other : (s : List ℕ) → 0 < length s → is_trailing (last s) ≡ false → s ≡ without_trailing s
without_trailing-other s some h =
    let cut = last_cut s some in sym (ap without_trailing (sym cut) ∙ stops (front s) (last s) h ∙ cut)
