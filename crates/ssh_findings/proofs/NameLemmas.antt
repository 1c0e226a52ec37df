-- One more key for a piece of a list: which names have it, and what is stored for it.
use Rattle.ssh_findings.proofs.Imports.{◌≡◌, ◌∙◌, ◌⊎◌, ◌+◌, ◌≤◌, ◌||◌, ◌&&◌, ℕ, Bool, true, false, not, cond, List, ◌∷◌, Option, Some, ap, arith, length, inl, inr, refl, subst, sym, bytes_eq, list_any, OnErr, Result, Ok, Err, bytes_eq-Decides, KeyKind, pieces_left, KindKeys, same_kind, has_item, is_plain, lesser, line_if, other_of_kind, items_bytes, items_sum, KeepsName}
use Rattle.ssh_findings.proofs.EarlierLemmas.{folded}

-- a clause that holds for either result
pub on_err : {T E : Type 0} (r : Result T E) {P : Type 0} → P → OnErr r P
on_err (Ok x) p = tt
on_err (Err e) p = p

-- ---- the pieces that are left are pieces of the list

and-or : (p x y : Bool) → (p && y) ≡ true → (p && (x || y)) ≡ true
and-or true true y h = refl
and-or true false y h = h
and-or false x y h = h

-- what is left after a piece is no more than what was left
pub left_within : (list piece : List ℕ) (rest left : Option (List ℕ)) → pieces_left rest ≡ piece ∷ pieces_left left
    → ((q : List ℕ) → has_item q rest ≡ true → has_item q (Some list) ≡ true)
    → (q : List ℕ) → has_item q left ≡ true → has_item q (Some list) ≡ true
left_within list piece rest left e h q there =
    h q (ap (λ ps. is_plain q && list_any (λ p. bytes_eq p q) ps) e
    ∙ and-or (is_plain q) (bytes_eq piece q) (list_any (λ p. bytes_eq p q) (pieces_left left)) there)

and-own : (p x y : Bool) → p ≡ true → x ≡ true → (p && (x || y)) ≡ true
and-own true true y h k = refl
and-own true false y h k = cc
and-own false x y h k = cc

-- and the piece itself, where it is plain, is an item
pub piece_within : (list piece : List ℕ) (rest left : Option (List ℕ)) → pieces_left rest ≡ piece ∷ pieces_left left → is_plain piece ≡ true
    → ((q : List ℕ) → has_item q rest ≡ true → has_item q (Some list) ≡ true) → has_item piece (Some list) ≡ true
piece_within list piece rest left e plain h =
    h piece (ap (λ ps. is_plain piece && list_any (λ p. bytes_eq p piece) ps) e
    ∙ and-own (is_plain piece) (bytes_eq piece piece) (list_any (λ p. bytes_eq p piece) (pieces_left left)) plain ((bytes_eq-Decides piece piece).1 refl))

-- a piece that is not plain is no item
passed : (piece q : List ℕ) (r : Bool) → is_plain piece ≡ false → (is_plain q && (bytes_eq piece q || r)) ≡ (is_plain q && r)
passed piece q r h = go (bytes_eq piece q) refl
  where
    go : (b : Bool) → bytes_eq piece q ≡ b → (is_plain q && (b || r)) ≡ (is_plain q && r)
    go true t =
        let none : is_plain q ≡ false = subst (λ x. is_plain x ≡ false) ((bytes_eq-Decides piece q).0 t) h in
        ap (λ p. p && true) none ∙ sym (ap (λ p. p && r) none)
    go false t = refl

pub item_passed : (piece : List ℕ) (rest left : Option (List ℕ)) → pieces_left rest ≡ piece ∷ pieces_left left → is_plain piece ≡ false
    → (q : List ℕ) → has_item q rest ≡ has_item q left
item_passed piece rest left e h q =
    ap (λ ps. is_plain q && list_any (λ p. bytes_eq p q) ps) e ∙ passed piece q (list_any (λ p. bytes_eq p q) (pieces_left left)) h

-- ---- either nothing has changed, or the key has come

abbrev Either : (List ℕ → Option ℕ) → (List ℕ → Option ℕ) → (List ℕ → Bool) → ℕ → Type 0
Either old new test n = ((b : List ℕ) → new b ≡ old b) ⊎ ((b : List ℕ) → new b ≡ lesser (old b) (line_if (test b) n))

either-next : (same is has : Bool) (old now next : List ℕ → Option ℕ) (nb : List ℕ → Bool) (n : ℕ)
    → ((b : List ℕ) → next b ≡ cond (same && is) (lesser (now b) (line_if (nb b) n)) (now b)) → (is ≡ true → has ≡ true)
    → Either old now (λ b. (same && has) && nb b) n → Either old next (λ b. (same && has) && nb b) n
either-next false is has old now next nb n e h (inl k) = inl (λ b. e b ∙ k b)
either-next false is has old now next nb n e h (inr k) = inr (λ b. e b ∙ k b)
either-next true false has old now next nb n e h (inl k) = inl (λ b. e b ∙ k b)
either-next true false has old now next nb n e h (inr k) = inr (λ b. e b ∙ k b)
either-next true true true old now next nb n e h (inl k) = inr (λ b. e b ∙ ap (λ o. lesser o (line_if (nb b) n)) (k b))
either-next true true true old now next nb n e h (inr k) =
    inr (λ b. e b ∙ ap (λ o. lesser o (line_if (nb b) n)) (k b) ∙ folded (old b) true (nb b) n)
either-next true true false old now next nb n e h k = let bad : false ≡ true = h refl in cc

pub name_kept : (old now next : KindKeys) (kind : KeyKind) (list : List ℕ) (line : ℕ) (own piece : List ℕ)
    → ((k : KeyKind) (q b : List ℕ) → other_of_kind next k q b
    ≡ cond (same_kind kind k && bytes_eq piece q) (lesser (other_of_kind now k q b) (line_if (not (bytes_eq own b)) line)) (other_of_kind now k q b))
    → has_item piece (Some list) ≡ true → ((k : KeyKind) (q : List ℕ) → KeepsName old now kind (Some list) line own k q)
    → (k : KeyKind) (q : List ℕ) → KeepsName old next kind (Some list) line own k q
name_kept old now next kind list line own piece e h kept k q =
    either-next (same_kind kind k) (bytes_eq piece q) (has_item q (Some list)) (other_of_kind old k q) (other_of_kind now k q) (other_of_kind next k q)
    (λ b. not (bytes_eq own b)) line (e k q)
    (λ t. subst (λ p. has_item p (Some list) ≡ true) ((bytes_eq-Decides piece q).0 t) h) (kept k q)

-- where no key has come to another name, none has come to this
pub name_still : (old now next : KindKeys) (kind : KeyKind) (list : Option (List ℕ)) (line : ℕ) (own : List ℕ)
    → ((k : KeyKind) (q b : List ℕ) → other_of_kind next k q b ≡ other_of_kind now k q b)
    → ((k : KeyKind) (q : List ℕ) → KeepsName old now kind list line own k q)
    → (k : KeyKind) (q : List ℕ) → KeepsName old next kind list line own k q
name_still old now next kind list line own e kept k q = go (kept k q)
  where
    go : KeepsName old now kind list line own k q → KeepsName old next kind list line own k q
    go (inl h) = inl (λ b. e k q b ∙ h b)
    go (inr h) = inr (λ b. e k q b ∙ h b)

-- ---- and what is stored for it

pub bytes_next : (before after most : ℕ) (blob piece : List ℕ) (ps left : List (List ℕ)) → ps ≡ piece ∷ left → is_plain piece ≡ true
    → after ≤ before + (length piece + length blob) → before + items_bytes blob ps ≤ most → after + items_bytes blob left ≤ most
bytes_next before after most blob piece ps left e plain h k =
    let all = ap (items_bytes blob) e in
    let own = ap (λ t. cond t (length piece + length blob) 0) plain in
    omega (arith, all, own, h, k)

pub bytes_still : (before most : ℕ) (blob piece : List ℕ) (ps left : List (List ℕ)) → ps ≡ piece ∷ left
    → before + items_bytes blob ps ≤ most → before + items_bytes blob left ≤ most
bytes_still before most blob piece ps left e k = let all = ap (items_bytes blob) e in omega (arith, all, k)

pub sum_next : (weight : List ℕ → ℕ) (before after most : ℕ) (piece : List ℕ) (ps left : List (List ℕ)) → ps ≡ piece ∷ left → is_plain piece ≡ true
    → after ≤ before + weight piece → before + items_sum weight ps ≤ most → after + items_sum weight left ≤ most
sum_next weight before after most piece ps left e plain h k =
    let all = ap (items_sum weight) e in
    let own = ap (λ t. cond t (weight piece) 0) plain in
    omega (arith, all, own, h, k)

pub sum_still : (weight : List ℕ → ℕ) (before most : ℕ) (piece : List ℕ) (ps left : List (List ℕ)) → ps ≡ piece ∷ left
    → before + items_sum weight ps ≤ most → before + items_sum weight left ≤ most
sum_still weight before most piece ps left e k = let all = ap (items_sum weight) e in omega (arith, all, k)
