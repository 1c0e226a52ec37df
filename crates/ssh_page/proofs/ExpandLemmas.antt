-- The page of a marked text, front by front.
use Rattle.std.proofs.Common.{◌≡◌, ◌∙◌, ◌+◌, ◌≤◌, ℕ, zero, suc, List, [], ◌∷◌, ◌++◌, length, take, drop, refl, ap, sym, arith, append_assoc, add-suc, add-zero}
use Rattle.std.proofs.Common.{◌==◌, ◌&&◌, ◌||◌, Bool, true, false, not, cond, nat_lt}
use Rattle.std.specs.List.{prefix_len}
use Rattle.std.proofs.lemmas.List.{take-take}
use Rattle.std.proofs.lemmas.List.Sums.{prefix_len-le-length}
use Rattle.ssh_page.specs.Expanding.{is_own_html, mark_html, page}

pub page-append : (a b : List ℕ) → page (a ++ b) ≡ page a ++ page b
page-append [] b = refl
page-append (c ∷ a) b = ap (λ l. mark_html c ++ l) (page-append a b) ∙ sym (append_assoc (mark_html c) (page a) (page b))

own-parts : (a b c d e f g : List ℕ) (low amp lt gt quote apostrophe : Bool) → (low && not (amp || (lt || (gt || (quote || apostrophe))))) ≡ true
    → cond low (cond amp a (cond lt b (cond gt c (cond quote d (cond apostrophe e f))))) g ≡ f
own-parts a b c d e f g true false false false false false h = refl
own-parts a b c d e f g true true lt gt quote apostrophe h = cc
own-parts a b c d e f g true false true gt quote apostrophe h = cc
own-parts a b c d e f g true false false true quote apostrophe h = cc
own-parts a b c d e f g true false false false true apostrophe h = cc
own-parts a b c d e f g true false false false false true h = cc
own-parts a b c d e f g false amp lt gt quote apostrophe h = cc

own-html : (c : ℕ) → is_own_html c ≡ true → mark_html c ≡ c ∷ []
own-html c h = own-parts _ _ _ _ _ _ _ (nat_lt c 128) (c == 38) (c == 60) (c == 62) (c == 34) (c == 39) h

-- bytes at the front that are their own HTML, all of them or fewer
pub page_own : (marks : List ℕ) (n : ℕ) → n ≤ prefix_len is_own_html marks → page (take n marks) ≡ take n marks
page_own marks zero le = refl
page_own [] (suc n) le = refl
page_own (c ∷ marks) (suc n) le = go (is_own_html c) refl (λ few. page_own marks n few) le
  where
    go : (is : Bool) → is_own_html c ≡ is → (n ≤ prefix_len is_own_html marks → page (take n marks) ≡ take n marks)
        → suc n ≤ cond is (1 + prefix_len is_own_html marks) 0 → page (take (suc n) (c ∷ marks)) ≡ take (suc n) (c ∷ marks)
    go true e later le = ap (λ l. l ++ page (take n marks)) (own-html c e) ∙ ap (λ l. c ∷ l) (later (omega (arith, le)))
    go false e later le = absurd (omega (arith, le))

pub own_within : (marks : List ℕ) → prefix_len is_own_html marks ≤ length marks
own_within marks = prefix_len-le-length is_own_html marks

-- a front, and one of what is behind it
take-nothing : (n : ℕ) → take {A = ℕ} n [] ≡ []
take-nothing zero = refl
take-nothing (suc n) = refl

taken : (marks : List ℕ) (count more : ℕ) → take count marks ++ take more (drop count marks) ≡ take (more + count) marks
taken marks zero more = rw add-zero refl
taken [] (suc count) more = take-nothing more ∙ sym (take-nothing (more + suc count))
taken (c ∷ marks) (suc count) more = rw add-suc (ap (λ l. c ∷ l) (taken marks count more))

pub front_more : (marks : List ℕ) (count more : ℕ) → page (take count marks) ++ page (take more (drop count marks)) ≡ page (take (count + more) marks)
front_more marks count more =
    let same : more + count ≡ count + more = omega arith in
    sym (page-append (take count marks) (take more (drop count marks))) ∙ ap (λ m. page m) (taken marks count more) ∙ ap (λ n. page (take n marks)) same

-- bytes of their own HTML at the front of the next sixteen
pub text_more : (text : List ℕ) (count len : ℕ) (rest bytes old mid new : List ℕ)
    → mid ≡ old ++ page (take count text) → rest ≡ drop count text → bytes ≡ take 16 rest → len ≡ prefix_len is_own_html bytes → len ≤ 16
    → new ≡ mid ++ take len bytes → new ≡ old ++ page (take (count + len) text)
text_more text count len rest bytes old mid new before left front own few stored =
    let html : take len bytes ≡ page (take len bytes) = sym (page_own bytes len (omega (arith, own))) in
    let same : take len bytes ≡ take len (drop count text) = ap (take len) front ∙ take-take len 16 rest few ∙ ap (take len) left in
    stored ∙ ap (λ m. m ++ take len bytes) before
    ∙ append_assoc old (page (take count text)) (take len bytes)
    ∙ ap (λ l. old ++ (page (take count text) ++ l)) (html ∙ ap (λ m. page m) same)
    ∙ ap (λ l. old ++ l) (front_more text count len)
