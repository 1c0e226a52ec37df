-- One more hash in its row: each row leads to its last hash, and each hash to the previous one in its row.
use Rattle.ssh_findings.proofs.Imports.{◌≡◌, ◌≢◌, ◌∙◌, ℕ, ◌+◌, ◌<◌, ◌≤◌, Bool, true, false, List, [], ◌∷◌, ◌++◌, ap, arith, get_or, length, refl, set, subst, sym, length-append, slice_index, get_or-set_other, get_or-set_same, get_or_append_left, length-map, length-set, map-append, get_or-append_seam, eqb-false, Decides-eqb, Link, IsLast, row_of, LeadBack, LeadToLasts, numbers_in}
use Rattle.std.specs.Prelude.{◌==◌}

-- the hashes with one more link
under : (i n : ℕ) → i < n + 1 → i ≢ n → i < n
under i n h differ = omega (arith, h, differ)

numbers-more : (links : List Link) (link : Link) → numbers_in (links ++ link ∷ []) ≡ numbers_in links ++ link.number ∷ []
numbers-more links link = map-append (λ (l : Link). l.number) links (link ∷ [])

number-still : (links : List Link) (link : Link) (i : ℕ) → i < length links
    → slice_index (numbers_in (links ++ link ∷ [])) i ≡ slice_index (numbers_in links) i
number-still links link i h =
    ap (λ ns. slice_index ns i) (numbers-more links link)
    ∙ get_or_append_left (numbers_in links) (link.number ∷ []) 0 i (subst (λ n. i < n) (sym (length-map links (λ (l : Link). l.number))) h)

number-new : (links : List Link) (link : Link) (i : ℕ) → i ≡ length links → slice_index (numbers_in (links ++ link ∷ [])) i ≡ link.number
number-new links link i e =
    ap (λ ns. slice_index ns i) (numbers-more links link)
    ∙ ap (λ k. slice_index (numbers_in links ++ link.number ∷ []) k) (e ∙ sym (length-map links (λ (l : Link). l.number)))
    ∙ get_or-append_seam (numbers_in links) link.number [] 0

-- the last of the first hashes is still the last of them
last-still : (rows : ℕ) (links : List Link) (link : Link) (row count place : ℕ) → count ≤ length links
    → IsLast rows (numbers_in links) row count place → IsLast rows (numbers_in (links ++ link ∷ [])) row count place
last-still rows links link row count place h last = record {
  within = last.within;
  own = λ i e. let b : i < length links = omega (arith, h, last.within, e) in
      ap (λ n. row_of n rows) (number-still links link i b) ∙ last.own i e;
  after = λ i e f same. let b : i < length links = omega (arith, h, f) in
      last.after i e f (sym (ap (λ n. row_of n rows) (number-still links link i b)) ∙ same);
}

-- and the last of another row than the new hash's is still its last
last-other : (rows : ℕ) (links : List Link) (link : Link) (row place : ℕ) → (row_of link.number rows) ≢ row
    → IsLast rows (numbers_in links) row (length links) place
    → IsLast rows (numbers_in (links ++ link ∷ [])) row (length links + 1) place
last-other rows links link row place differ last = record {
  within = omega (arith, last.within);
  own = λ i e. let b : i < length links = omega (arith, last.within, e) in
      ap (λ n. row_of n rows) (number-still links link i b) ∙ last.own i e;
  after = λ i e f same. go i e f same (i == length links) refl;
}
  where
    go : (i : ℕ) → place ≤ i → i < length links + 1 → row_of (slice_index (numbers_in (links ++ link ∷ [])) i) rows ≡ row
        → (b : Bool) → (i == length links) ≡ b → ⊥
    go i e f same true t =
        differ (sym (ap (λ n. row_of n rows) (number-new links link i ((Decides-eqb i (length links)).0 t))) ∙ same)
    go i e f same false t =
        let b : i < length links = under i (length links) f (eqb-false i (length links) t) in
        last.after i e b (sym (ap (λ n. row_of n rows) (number-still links link i b)) ∙ same)

last-new : (rows : ℕ) (links : List Link) (link : Link) (row : ℕ) → row_of link.number rows ≡ row
    → IsLast rows (numbers_in (links ++ link ∷ [])) row (length links + 1) (length links + 1)
last-new rows links link row own = record {
  within = omega arith;
  own = λ i e. ap (λ n. row_of n rows) (number-new links link i (omega (arith, e))) ∙ own;
  after = λ i e f same. omega (arith, e, f);
}

pub lasts_more : (lasts : List ℕ) (links more : List Link) (number before own next : ℕ) → own ≡ row_of number (length lasts) → own < length lasts
    → more ≡ links ++ (record { number = number; before = before }) ∷ [] → next ≡ length more → LeadToLasts lasts links
    → LeadToLasts (set lasts own next) more
lasts_more lasts links more number before own next o h m e lead = subst (LeadToLasts (set lasts own next)) (sym m) (record { at = λ row below. stands row (subst (λ n. row < n) (length-set lasts own next) below) })
  where
    rows : ℕ
    rows = length lasts

    link : Link
    link = record { number = number; before = before }

    count : length (links ++ link ∷ []) ≡ length links + 1
    count = length-append links (link ∷ [])

    go : (row : ℕ) → row < rows → (b : Bool) → (own == row) ≡ b
        → IsLast rows (numbers_in (links ++ link ∷ [])) row (length links + 1) (slice_index (set lasts own next) row)
    go row within true t =
        let same : own ≡ row = (Decides-eqb own row).0 t in
        subst (λ k. IsLast rows (numbers_in (links ++ link ∷ [])) row (length links + 1) k)
        (sym (ap (λ r. slice_index (set lasts own next) r) (sym same) ∙ get_or-set_same lasts own next 0 h ∙ e ∙ ap length m ∙ count))
        (last-new rows links link row (sym o ∙ same))
    go row within false t =
        subst (λ k. IsLast rows (numbers_in (links ++ link ∷ [])) row (length links + 1) k)
        (sym (get_or-set_other lasts own row next 0 (λ s. eqb-false own row t (sym s))))
        (last-other rows links link row (slice_index lasts row) (λ s. eqb-false own row t (o ∙ s)) (lead.at row within))

    stands : (row : ℕ) → row < rows
        → IsLast (length (set lasts own next)) (numbers_in (links ++ link ∷ [])) row (length (links ++ link ∷ [])) (slice_index (set lasts own next) row)
    stands row within =
        subst (λ n. IsLast n (numbers_in (links ++ link ∷ [])) row (length (links ++ link ∷ [])) (slice_index (set lasts own next) row)) (sym (length-set lasts own next))
        (subst (λ n. IsLast rows (numbers_in (links ++ link ∷ [])) row n (slice_index (set lasts own next) row)) (sym count) (go row within (own == row) refl))

pub back_more : (lasts : List ℕ) (links more : List Link) (number before own : ℕ) → own ≡ row_of number (length lasts) → own < length lasts
    → more ≡ links ++ (record { number = number; before = before }) ∷ [] → before ≡ slice_index lasts own
    → LeadToLasts lasts links → LeadBack (length lasts) links → (rows : ℕ) → rows ≡ length lasts → LeadBack rows more
back_more lasts links more number before own o h m e lead back every same =
    subst (λ n. LeadBack n more) (sym same) (subst (LeadBack rows) (sym m) (record { at = λ i d below. go i d below (i == length links) refl }))
  where
    rows : ℕ
    rows = length lasts

    link : Link
    link = record { number = number; before = before }

    stands : ℕ → ℕ → ℕ → Type 0
    stands i n place = IsLast rows (numbers_in (links ++ link ∷ [])) (row_of n rows) i place

    first : IsLast rows (numbers_in (links ++ link ∷ [])) (row_of number rows) (length links) before
    first = subst (λ r. IsLast rows (numbers_in (links ++ link ∷ [])) r (length links) before) o
        (subst (λ place. IsLast rows (numbers_in (links ++ link ∷ [])) own (length links) place) (sym e)
        (last-still rows links link own (length links) (slice_index lasts own) (omega arith) (lead.at own h)))

    go : (i : ℕ) (d : Link) → i < length (links ++ link ∷ []) → (b : Bool) → (i == length links) ≡ b
        → stands i (slice_index (numbers_in (links ++ link ∷ [])) i) (get_or (links ++ link ∷ []) i d).before
    go i d below true t =
        let at : i ≡ length links = (Decides-eqb i (length links)).0 t in
        subst (λ n. stands i n (get_or (links ++ link ∷ []) i d).before) (sym (number-new links link i at))
        (subst (stands i number) (sym (ap (λ k. (get_or (links ++ link ∷ []) k d).before) at ∙ ap (λ (l : Link). l.before) (get_or-append_seam links link [] d)))
        (subst (λ k. stands k number before) (sym at) first))
    go i d below false t =
        let less : i < length links + 1 = subst (λ n. i < n) (length-append links (link ∷ [])) below in
        let b : i < length links = under i (length links) less (eqb-false i (length links) t) in
        subst (λ n. stands i n (get_or (links ++ link ∷ []) i d).before) (sym (number-still links link i b))
        (subst (stands i (slice_index (numbers_in links) i)) (sym (ap (λ (l : Link). l.before) (get_or_append_left links (link ∷ []) d i b)))
        (last-still rows links link (row_of (slice_index (numbers_in links) i) rows) i (get_or links i d).before (omega (arith, b)) (back.at i d b)))
