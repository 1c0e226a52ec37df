-- Groups between colons, part by part.
use Rattle.ssh_patterns.proofs.Imports.{◌≡◌, ℕ, ◌+◌, ◌<◌, ◌≤◌, Bool, true, false, List, [], ◌∷◌, ◌++◌, length, codes, ◌==◌, nat_le, if◌then◌else◌, Option, Some, None, option_and_then, refl, sym, ap, append_assoc, length-append, arith, leb-false, le-ltb, slice_split, groups_of_parts, colon, cut_at, few, length-slice_split}
use Rattle.ssh_patterns.specs.AddressReading.{group_of, last_groups_of, groups_of, filled, eight_groups_of}
use Rattle.ssh_patterns.proofs.GroupLemmas.{few-no}
use Rattle.ssh_patterns.proofs.CutLemmas.{parts-cut, parts-uncut}

-- these groups and those, if they are a few
abbrev pub joined_to : List ℕ → Option (List ℕ) → Option (List ℕ)
joined_to groups after = option_and_then (λ more. few (groups ++ more)) after

few-some-by : (b : Bool) (xs ys : List ℕ) → (if b then Some xs else None) ≡ Some ys → xs ≡ ys
few-some-by true xs ys h = cc
few-some-by false xs ys h = cc

pub few-some : (xs ys : List ℕ) → few xs ≡ Some ys → xs ≡ ys
few-some xs ys h = few-some-by (nat_le (length xs) 8) xs ys h

few-none-by : (b : Bool) (xs : List ℕ) → nat_le (length xs) 8 ≡ b → (if b then Some xs else None) ≡ None → 8 < length xs
few-none-by true xs e h = cc
few-none-by false xs e h = leb-false (length xs) 8 e

pub few-none : (xs : List ℕ) → few xs ≡ None → 8 < length xs
few-none xs h = few-none-by (nat_le (length xs) 8) xs refl h

pub more-none : (groups more : List ℕ) (g : ℕ) → few (groups ++ g ∷ []) ≡ None → few (groups ++ g ∷ more) ≡ None
more-none groups more g h =
    let many = few-none (groups ++ g ∷ []) h in
    few-no (groups ++ g ∷ more) (simp length-append (omega (arith, simp length-append at many)))

-- the groups after a first one
abbrev pub after_first : ℕ → Option (List ℕ) → Option (List ℕ)
after_first g more = option_and_then (λ groups. Some (g ∷ groups)) more

pub parts-first : (dotted : Bool) (part : List ℕ) (parts : List (List ℕ)) → 0 < length parts
    → groups_of_parts dotted (part ∷ parts) ≡ option_and_then (λ g. after_first g (groups_of_parts dotted parts)) (group_of part)
parts-first dotted part [] h = absurd (omega arith)
parts-first dotted part (next ∷ parts) h = refl

joined-full : (groups : List ℕ) (g : ℕ) (more : Option (List ℕ)) → few (groups ++ g ∷ []) ≡ None
    → joined_to groups (after_first g more) ≡ None
joined-full groups g None h = refl
joined-full groups g (Some more) h = more-none groups more g h

joined-next : (groups next : List ℕ) (g : ℕ) (more : Option (List ℕ)) → groups ++ g ∷ [] ≡ next
    → joined_to groups (after_first g more) ≡ joined_to next more
joined-next groups next g None h = refl
joined-next groups next g (Some more) h = rw (← h) (ap few (sym (append_assoc groups (g ∷ []) more)))

pub part-none : (dotted : Bool) (groups part : List ℕ) (parts : List (List ℕ)) → 0 < length parts → group_of part ≡ None
    → joined_to groups (groups_of_parts dotted (part ∷ parts)) ≡ None
part-none dotted groups part parts some h = rw (parts-first dotted part parts some, h) refl

pub part-full : (dotted : Bool) (groups part : List ℕ) (parts : List (List ℕ)) (g : ℕ) → 0 < length parts
    → group_of part ≡ Some g → few (groups ++ g ∷ []) ≡ None
    → joined_to groups (groups_of_parts dotted (part ∷ parts)) ≡ None
part-full dotted groups part parts g some h full =
    rw (parts-first dotted part parts some, h) (joined-full groups g (groups_of_parts dotted parts) full)

pub part-next : (dotted : Bool) (groups part next : List ℕ) (parts : List (List ℕ)) (g : ℕ) → 0 < length parts
    → group_of part ≡ Some g → few (groups ++ g ∷ []) ≡ Some next
    → joined_to groups (groups_of_parts dotted (part ∷ parts)) ≡ joined_to next (groups_of_parts dotted parts)
part-next dotted groups part next parts g some h fits =
    rw (parts-first dotted part parts some, h)
    (joined-next groups next g (groups_of_parts dotted parts) (few-some (groups ++ g ∷ []) next fits))

-- the parts of a text
abbrev pub colon_parts : List ℕ → List (List ℕ)
colon_parts text = slice_split (λ b. b == colon) text

some_parts : (text : List ℕ) → 0 < length (colon_parts text)
some_parts text = omega (arith, length-slice_split (λ b. b == colon) text)

abbrev IsTurn : List ℕ → List ℕ → List ℕ → Type 0
IsTurn text part after = Some (part, after) ≡ cut_at (codes ":") text

pub turn-none : (dotted : Bool) (groups text part after : List ℕ) → IsTurn text part after → None ≡ group_of part
    → joined_to groups (groups_of_parts dotted (colon_parts text)) ≡ None
turn-none dotted groups text part after cut h =
    rw (parts-cut colon text part after (sym cut)).parts
    (part-none dotted groups part (colon_parts after) (some_parts after) (sym h))

pub turn-full : (dotted : Bool) (groups text part after : List ℕ) (g : ℕ) → IsTurn text part after → Some g ≡ group_of part
    → None ≡ few (groups ++ g ∷ []) → joined_to groups (groups_of_parts dotted (colon_parts text)) ≡ None
turn-full dotted groups text part after g cut h full =
    rw (parts-cut colon text part after (sym cut)).parts
    (part-full dotted groups part (colon_parts after) g (some_parts after) (sym h) (sym full))

pub turn-next : (dotted : Bool) (groups text part after next : List ℕ) (g : ℕ) → IsTurn text part after
    → Some g ≡ group_of part → Some next ≡ few (groups ++ g ∷ [])
    → joined_to groups (groups_of_parts dotted (colon_parts text)) ≡ joined_to next (groups_of_parts dotted (colon_parts after))
turn-next dotted groups text part after next g cut h fits =
    rw (parts-cut colon text part after (sym cut)).parts
    (part-next dotted groups part next (colon_parts after) g (some_parts after) (sym h) (sym fits))

pub turn-last : (dotted : Bool) (groups text : List ℕ) → None ≡ cut_at (codes ":") text
    → joined_to groups (groups_of_parts dotted (colon_parts text)) ≡ joined_to groups (last_groups_of dotted text)
turn-last dotted groups text uncut = rw (parts-uncut colon text (sym uncut)) refl

pub groups-empty : (dotted : Bool) (text : List ℕ) → length text ≡ 0 → option_and_then few (groups_of dotted text) ≡ Some []
unfolding groups_of
groups-empty dotted [] h = refl
groups-empty dotted (c ∷ cs) h = absurd (omega arith)

joined-nil : (more : Option (List ℕ)) → joined_to [] more ≡ option_and_then few more
joined-nil None = refl
joined-nil (Some more) = refl

pub groups-start : (dotted : Bool) (text : List ℕ) → 0 < length text
    → joined_to [] (groups_of_parts dotted (colon_parts text)) ≡ option_and_then few (groups_of dotted text)
unfolding groups_of
groups-start dotted [] h = absurd (omega arith)
groups-start dotted (c ∷ cs) h = joined-nil (groups_of_parts dotted (colon_parts (c ∷ cs)))

-- groups that are a few, or none
abbrev pub few_of : Option (List ℕ) → Option (List ℕ)
few_of groups = option_and_then few groups

abbrev pub filled_of : Option (List ℕ) → Option (List ℕ) → Option (List ℕ)
filled_of front back = option_and_then (λ f. option_and_then (λ b. filled f b) back) front

many-filled : (front back : List ℕ) → 8 ≤ length front + length back → filled front back ≡ None
unfolding filled
many-filled front back h = rw (le-ltb (length front + length back) 8 h) refl

filled-few-by : (a b : Bool) (front back : List ℕ) → nat_le (length front) 8 ≡ a → nat_le (length back) 8 ≡ b
    → filled_of (if a then Some front else None) (if b then Some back else None) ≡ filled front back
filled-few-by true true front back e d = refl
filled-few-by true false front back e d =
    let many = leb-false (length back) 8 d in sym (many-filled front back (omega arith))
filled-few-by false b front back e d =
    let many = leb-false (length front) 8 e in sym (many-filled front back (omega arith))

filled_of-none : (a : Bool) (front : List ℕ) → filled_of (if a then Some front else None) None ≡ None
filled_of-none true front = refl
filled_of-none false front = refl

filled_of-few : (front back : Option (List ℕ)) → filled_of (few_of front) (few_of back) ≡ filled_of front back
filled_of-few None back = refl
filled_of-few (Some front) None = filled_of-none (nat_le (length front) 8) front
filled_of-few (Some front) (Some back) = filled-few-by (nat_le (length front) 8) (nat_le (length back) 8) front back refl refl

-- the groups on both sides of a cut
pub around-cut : (text front back : List ℕ) → Some (front, back) ≡ cut_at (codes "::") text
    → filled_of (few_of (groups_of false front)) (few_of (groups_of true back)) ≡ eight_groups_of text
unfolding eight_groups_of
around-cut text front back cut = rw (← cut) (filled_of-few (groups_of false front) (groups_of true back))
