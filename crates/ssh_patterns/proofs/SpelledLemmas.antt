-- What the groups of a text are, in the terms of its grammar.
use Rattle.ssh_patterns.proofs.Imports.{◌≡◌, ℕ, ◌<◌, ◌≤◌, ◌==◌, Bool, true, false, ◌&&◌, ◌⊎◌, inl, inr, if◌then◌else◌, nat_le, List, [], ◌∷◌, ◌++◌, length, decimal, Option, Some, None, option_map, refl, sym, ap, ◌∙◌, append_assoc, lit≤, arith, list_any, join_with_byte, digit_value, leb-true, le-leb, and_parts, list_any-append, join_with_byte-slice_split, length-slice_split, AreOctets, dotted, dot, colon, IsGroup, AreGroups, AreGroupsAtEnd, before_dotted, pairs, groups_of_parts, cut_at, number_in_radix}
use Rattle.ssh_patterns.specs.AddressReading.{group_of, last_groups_of, groups_of, octets_of}
use Rattle.ssh_patterns.proofs.DigitLemmas.{AllDigits-from}
use Rattle.ssh_patterns.proofs.CutLemmas.{parts-cut, parts-uncut}
use Rattle.ssh_patterns.proofs.PartLemmas.{colon_parts, parts-first}
use Rattle.ssh_patterns.proofs.OctetLemmas.{octets_of-dotted, octets_of-some, number_of-digits, number_of-some, list_all-from, no_byte, neither, cut_at-front, decimal-has_no, and_then-some, or_true, some-is}

-- ---- one group

group-by : (b : Bool) (text : List ℕ) (g : ℕ) → (nat_le 1 (length text) && nat_le (length text) 4) ≡ b
    → (if b then number_in_radix 16 text else None) ≡ Some g → IsGroup g text
group-by true text g e h =
    let bounds = and_parts (nat_le 1 (length text)) (nat_le (length text) 4) e in
    let number = number_of-some 16 text g h in
    record {
      some = leb-true 1 (length text) bounds.0;
      few = leb-true (length text) 4 bounds.1;
      digits = list_all-from 16 text number.0;
      value = number.1;
    }
group-by false text g e h = cc

pub group_of-some : (text : List ℕ) (g : ℕ) → group_of text ≡ Some g → IsGroup g text
unfolding group_of
group_of-some text g h = group-by (nat_le 1 (length text) && nat_le (length text) 4) text g refl h

pub group_of-group : (text : List ℕ) (g : ℕ) → IsGroup g text → group_of text ≡ Some g
unfolding group_of
group_of-group text g h =
    rw (le-leb 1 (length text) h.some, le-leb (length text) 4 h.few, number_of-digits 16 text (AllDigits-from 16 text h.digits), h.value) refl

pub group-has_no : (byte : ℕ) (text : List ℕ) (g : ℕ) → 16 ≤ digit_value byte → IsGroup g text → list_any (λ c. c == byte) text ≡ false
group-has_no byte text g other h = no_byte 16 byte text other (AllDigits-from 16 text h.digits)

-- ---- the dotted part

pub joined-has_no : (byte : ℕ) (front back : List ℕ) (c : ℕ) → (c == byte) ≡ false → list_any (λ b. b == byte) front ≡ false
    → list_any (λ b. b == byte) back ≡ false → list_any (λ b. b == byte) (front ++ c ∷ back) ≡ false
joined-has_no byte front back c other hf hb = rw (list_any-append (λ b. b == byte) front (c ∷ back), hf, other, hb) refl

-- a byte that is neither a digit nor a dot
pub dotted-has_no : (byte : ℕ) → (46 == byte) ≡ false → 10 ≤ digit_value byte → (octets : List ℕ) → AreOctets octets
    → list_any (λ c. c == byte) (dotted octets) ≡ false
dotted-has_no byte other no_digit (a ∷ b ∷ c ∷ d ∷ []) (len, (ha, (hb, (hc, (hd, _))))) =
    joined-has_no byte (decimal a) (decimal b ++ 46 ∷ (decimal c ++ 46 ∷ decimal d)) 46 other (decimal-has_no byte a no_digit ha)
    (joined-has_no byte (decimal b) (decimal c ++ 46 ∷ decimal d) 46 other (decimal-has_no byte b no_digit hb)
    (joined-has_no byte (decimal c) (decimal d) 46 other (decimal-has_no byte c no_digit hc) (decimal-has_no byte d no_digit hd)))
dotted-has_no byte other no_digit [] h = absurd (omega (arith, h.0))
dotted-has_no byte other no_digit (a ∷ []) h = absurd (omega (arith, h.0))
dotted-has_no byte other no_digit (a ∷ b ∷ []) h = absurd (omega (arith, h.0))
dotted-has_no byte other no_digit (a ∷ b ∷ c ∷ []) h = absurd (omega (arith, h.0))
dotted-has_no byte other no_digit (a ∷ b ∷ c ∷ d ∷ e ∷ more) h = absurd (omega (arith, h.0))

pub dotted-has_no_colon : (octets : List ℕ) → AreOctets octets → list_any (λ c. c == colon) (dotted octets) ≡ false
dotted-has_no_colon octets h = dotted-has_no colon refl (lit≤ tt) octets h

pub dotted-has_dot : (octets : List ℕ) → AreOctets octets → list_any (λ c. c == dot) (dotted octets) ≡ true
dotted-has_dot (a ∷ b ∷ c ∷ d ∷ []) h =
    rw (list_any-append (λ c. c == dot) (decimal a) (46 ∷ (decimal b ++ 46 ∷ (decimal c ++ 46 ∷ decimal d))))
    (or_true (list_any (λ c. c == dot) (decimal a)))
dotted-has_dot [] h = absurd (omega (arith, h.0))
dotted-has_dot (a ∷ []) h = absurd (omega (arith, h.0))
dotted-has_dot (a ∷ b ∷ []) h = absurd (omega (arith, h.0))
dotted-has_dot (a ∷ b ∷ c ∷ []) h = absurd (omega (arith, h.0))
dotted-has_dot (a ∷ b ∷ c ∷ d ∷ e ∷ more) h = absurd (omega (arith, h.0))

-- ---- parts between colons

uncut : (byte : ℕ) (text : List ℕ) → list_any (λ c. c == byte) text ≡ false → cut_at (byte ∷ []) text ≡ None
uncut byte [] h = refl
uncut byte (c ∷ cs) h =
    let parts = neither (c == byte) (list_any (λ c. c == byte) cs) h in
    rw (parts.0, uncut byte cs parts.1) refl

pub one_part : (text : List ℕ) → list_any (λ c. c == colon) text ≡ false → colon_parts text ≡ text ∷ []
one_part text h = parts-uncut colon text (uncut colon text h)

pub first_part : (front back : List ℕ) → list_any (λ c. c == colon) front ≡ false → colon_parts (front ++ colon ∷ back) ≡ front ∷ colon_parts back
first_part front back h = (parts-cut colon (front ++ colon ∷ back) front back (cut_at-front colon front back h)).parts

some_parts : (text : List ℕ) → 0 < length (colon_parts text)
some_parts text = omega (arith, length-slice_split (λ b. b == colon) text)

-- the groups of a first part and of those after it
pub first_group : (dotted_too : Bool) (front back groups : List ℕ) (g : ℕ) → IsGroup g front
    → groups_of_parts dotted_too (colon_parts back) ≡ Some groups
    → groups_of_parts dotted_too (colon_parts (front ++ colon ∷ back)) ≡ Some (g ∷ groups)
first_group dotted_too front back groups g h more =
    rw (
      first_part front back (group-has_no colon front g (lit≤ tt) h),
      parts-first dotted_too front (colon_parts back) (some_parts back),
      group_of-group front g h,
      more,
    ) refl

last_group-by : (d b : Bool) (text : List ℕ) (g : ℕ) → b ≡ false → group_of text ≡ Some g
    → (if d && b then option_map pairs (octets_of text) else option_map (λ group. group ∷ []) (group_of text)) ≡ Some (g ∷ [])
last_group-by true b text g e h = rw (e, h) refl
last_group-by false b text g e h = rw h refl

-- groups are read, also where the last may be dotted
pub groups-read : (dotted_too : Bool) (groups text : List ℕ) → AreGroups groups text → 0 < length groups
    → groups_of_parts dotted_too (colon_parts text) ≡ Some groups
unfolding last_groups_of
groups-read dotted_too [] text h some = absurd (omega arith)
groups-read dotted_too (g ∷ []) text h some =
    rw (one_part text (group-has_no colon text g (lit≤ tt) h))
    (last_group-by dotted_too (list_any (λ c. c == dot) text) text g (group-has_no dot text g (lit≤ tt) h) (group_of-group text g h))
groups-read dotted_too (g ∷ next ∷ groups) text (first, rest, whole, h, more) some =
    rw whole (first_group dotted_too first rest (next ∷ groups) g h (groups-read dotted_too (next ∷ groups) rest more (omega arith)))

pub dotted-read : (front before octets : List ℕ) → AreOctets octets → AreGroups front before
    → groups_of_parts true (colon_parts (before_dotted front before octets)) ≡ Some (front ++ pairs octets)
unfolding last_groups_of
dotted-read [] before octets are h =
    rw (one_part (dotted octets) (dotted-has_no_colon octets are), dotted-has_dot octets are, octets_of-dotted octets are) refl
dotted-read (g ∷ []) before octets are h =
    first_group true before (dotted octets) (pairs octets) g h (dotted-read [] [] octets are refl)
dotted-read (g ∷ next ∷ front) before octets are (first, rest, whole, h, more) =
    rw (whole, append_assoc first (colon ∷ rest) (colon ∷ dotted octets))
    (first_group true first (rest ++ colon ∷ dotted octets) (next ∷ front ++ pairs octets) g h (dotted-read (next ∷ front) rest octets are more))

-- ---- from what was read to the grammar

pub map-some : {A B : Type 0} (f : A → B) (o : Option A) (b : B) → option_map f o ≡ Some b → (a : A) × (o ≡ Some a) × (f a ≡ b)
map-some f None b h = cc
map-some f (Some a) b h = (a, refl, some-is h)

cons-are : (groups front back : List ℕ) (g : ℕ) → IsGroup g front → AreGroups groups back → 0 < length groups
    → AreGroups (g ∷ groups) (front ++ colon ∷ back)
cons-are [] front back g h more some = absurd (omega arith)
cons-are (next ∷ groups) front back g h more some = (front, back, refl, h, more)

-- groups at the end of a text, at least one
abbrev SomeAtEnd : List ℕ → List ℕ → Type 0
SomeAtEnd groups text =
    (AreGroups groups text × (0 < length groups))
    ⊎ ((front octets before : List ℕ) × AreOctets octets × AreGroups front before
    × (text ≡ before_dotted front before octets) × (groups ≡ front ++ pairs octets))

cons-end : (groups front back : List ℕ) (g : ℕ) → IsGroup g front → SomeAtEnd groups back → SomeAtEnd (g ∷ groups) (front ++ colon ∷ back)
cons-end groups front back g h (inl (more, some)) = inl (cons-are groups front back g h more some, omega arith)
cons-end groups front back g h (inr ([], octets, before, are, none, whole, is)) =
    inr (g ∷ [], octets, front, are, h, ap (λ s. front ++ colon ∷ s) whole, ap (λ s. g ∷ s) is)
cons-end groups front back g h (inr (f ∷ fs, octets, before, are, more, whole, is)) =
    inr (
      g ∷ f ∷ fs,
      octets,
      front ++ colon ∷ before,
      are,
      (front, before, refl, h, more),
      ap (λ s. front ++ colon ∷ s) whole ∙ sym (append_assoc front (colon ∷ before) (colon ∷ dotted octets)),
      ap (λ s. g ∷ s) is,
    )

one-spelled : (text groups : List ℕ) → option_map (λ g. g ∷ []) (group_of text) ≡ Some groups → AreGroups groups text × (0 < length groups)
one-spelled text groups h =
    let found = map-some (λ (g : ℕ). g ∷ []) (group_of text) groups h in
    rw (← found.2) (group_of-some text found.0 found.1, omega arith)

groups-spelled : (parts : List (List ℕ)) (groups : List ℕ) → 0 < length parts → groups_of_parts false parts ≡ Some groups
    → AreGroups groups (join_with_byte colon parts) × (0 < length groups)
unfolding last_groups_of
groups-spelled [] groups some h = absurd (omega arith)
groups-spelled (part ∷ []) groups some h = one-spelled part groups h
groups-spelled (part ∷ next ∷ parts) groups some h =
    let first = and_then-some (group_of part) _ groups h in
    let later = and_then-some (groups_of_parts false (next ∷ parts)) _ groups first.2 in
    let is : first.0 ∷ later.0 ≡ groups = some-is later.2 in
    let more = groups-spelled (next ∷ parts) later.0 (omega arith) later.1 in
    rw (← is) (cons-are later.0 part (join_with_byte colon (next ∷ parts)) first.0 (group_of-some part first.0 first.1) more.0 more.1, omega arith)

last-spelled : (b : Bool) (text groups : List ℕ)
    → (if true && b then option_map pairs (octets_of text) else option_map (λ g. g ∷ []) (group_of text)) ≡ Some groups
    → SomeAtEnd groups text
last-spelled true text groups h =
    let found = map-some pairs (octets_of text) groups h in
    let are = octets_of-some text found.0 found.1 in
    inr ([], found.0, [], are.0, refl, are.1, sym found.2)
last-spelled false text groups h = inl (one-spelled text groups h)

end-spelled : (parts : List (List ℕ)) (groups : List ℕ) → 0 < length parts → groups_of_parts true parts ≡ Some groups
    → SomeAtEnd groups (join_with_byte colon parts)
unfolding last_groups_of
end-spelled [] groups some h = absurd (omega arith)
end-spelled (part ∷ []) groups some h = last-spelled (list_any (λ c. c == dot) part) part groups h
end-spelled (part ∷ next ∷ parts) groups some h =
    let first = and_then-some (group_of part) _ groups h in
    let later = and_then-some (groups_of_parts true (next ∷ parts)) _ groups first.2 in
    let is : first.0 ∷ later.0 ≡ groups = some-is later.2 in
    rw (← is) (cons-end later.0 part (join_with_byte colon (next ∷ parts)) first.0 (group_of-some part first.0 first.1)
    (end-spelled (next ∷ parts) later.0 (omega arith) later.1))

pub groups_of-some : (text groups : List ℕ) → groups_of false text ≡ Some groups → AreGroups groups text
unfolding groups_of
groups_of-some [] groups h = rw (← some-is h) refl
groups_of-some (c ∷ cs) groups h =
    rw (join_with_byte-slice_split colon (c ∷ cs)) at (groups-spelled (colon_parts (c ∷ cs)) groups (some_parts (c ∷ cs)) h).0

some-end : (groups text : List ℕ) → SomeAtEnd groups text → AreGroupsAtEnd groups text
some-end groups text (inl h) = inl h.0
some-end groups text (inr h) = inr h

pub groups_of-some_at_end : (text groups : List ℕ) → groups_of true text ≡ Some groups → AreGroupsAtEnd groups text
unfolding groups_of
groups_of-some_at_end [] groups h = inl (rw (← some-is h) refl)
groups_of-some_at_end (c ∷ cs) groups h =
    some-end groups (c ∷ cs)
    (rw (join_with_byte-slice_split colon (c ∷ cs)) at (end-spelled (colon_parts (c ∷ cs)) groups (some_parts (c ∷ cs)) h))

-- ---- and back

pub has-some : (p : ℕ → Bool) (text : List ℕ) → list_any p text ≡ true → 0 < length text
has-some p [] h = cc
has-some p (c ∷ cs) h = omega arith

start : (dotted_too : Bool) (text : List ℕ) → 0 < length text → groups_of dotted_too text ≡ groups_of_parts dotted_too (colon_parts text)
unfolding groups_of
start dotted_too [] h = absurd (omega arith)
start dotted_too (c ∷ cs) h = refl

pub colon_within : (front back : List ℕ) → list_any (λ c. c == colon) (front ++ colon ∷ back) ≡ true
colon_within front back = rw (list_any-append (λ c. c == colon) front (colon ∷ back)) (or_true (list_any (λ c. c == colon) front))

text-some : (groups text : List ℕ) → AreGroups groups text → 0 < length groups → 0 < length text
text-some [] text h some = absurd (omega arith)
text-some (g ∷ []) text h some = omega (arith, h.some)
text-some (g ∷ next ∷ groups) text (first, rest, whole, h, more) some =
    rw whole (has-some (λ c. c == colon) (first ++ colon ∷ rest) (colon_within first rest))

pub groups_of-groups : (dotted_too : Bool) (groups text : List ℕ) → AreGroups groups text → groups_of dotted_too text ≡ Some groups
unfolding groups_of
groups_of-groups dotted_too [] text h = rw h refl
groups_of-groups dotted_too (g ∷ groups) text h =
    start dotted_too text (text-some (g ∷ groups) text h (omega arith)) ∙ groups-read dotted_too (g ∷ groups) text h (omega arith)

before_dotted-some : (front before octets : List ℕ) → AreOctets octets → 0 < length (before_dotted front before octets)
before_dotted-some [] before octets are = has-some (λ c. c == dot) (dotted octets) (dotted-has_dot octets are)
before_dotted-some (g ∷ front) before octets are =
    has-some (λ c. c == colon) (before ++ colon ∷ dotted octets) (colon_within before (dotted octets))

pub groups_of-end : (groups text : List ℕ) → AreGroupsAtEnd groups text → groups_of true text ≡ Some groups
groups_of-end groups text (inl h) = groups_of-groups true groups text h
groups_of-end groups text (inr (front, octets, before, are, h, whole, is)) =
    rw (whole, is)
    (start true (before_dotted front before octets) (before_dotted-some front before octets are) ∙ dotted-read front before octets are h)
