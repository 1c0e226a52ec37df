-- The address that is computed from a text is the one that its grammar gives it, both ways.
use Rattle.ssh_patterns.proofs.Imports.{w32, ◌≡◌, ℕ, ◌+◌, ◌-◌, ◌<◌, ◌==◌, Bool, true, false, inl, inr, if◌then◌else◌, nat_lt, List, [], ◌∷◌, ◌++◌, length, codes, replicate, Option, Some, None, option_map, IfOk, ok_or, refl, sym, ap, ◌∙◌, append_assoc, length-append, lit≤, arith, from_be_bytes, list_any, lt-ltb, ltb-true, eqb-true, append-nil, length-replicate, Address, PatternError, V4, V6, AreOctets, dotted, colon, IsGroup, AreGroups, AreGroupsAtEnd, pairs, AreEightGroups, IsAddressText, by_cut, after_mark, cut_here, cut_at, number_to_base}
use Rattle.ssh_patterns.specs.AddressReading.{groups_of, octets_of, filled, eight_groups_of, address_of}
use Rattle.ssh_patterns.proofs.CutLemmas.{following, after-nil, after_mark-whole}
use Rattle.ssh_patterns.proofs.OctetLemmas.{octets_of-dotted, octets_of-some, neither, and_then-some, some-is}
use Rattle.ssh_patterns.proofs.SpelledLemmas.{group-has_no, dotted-has_no_colon, dotted-has_dot, has-some, colon_within, map-some, groups_of-some, groups_of-some_at_end, groups_of-groups, groups_of-end}

-- ---- the place of `::`

abbrev double : List ℕ
double = codes "::"

after-append : (a b : List ℕ) (cut : Option (List ℕ × List ℕ)) → following a (following b cut) ≡ following (a ++ b) cut
after-append a b None = refl
after-append a b (Some cut) = ap (λ s. Some (s, cut.1)) (sym (append_assoc a b cut.0))

here-after : (c : ℕ) (front : List ℕ) (cut : Option (List ℕ × List ℕ)) → cut_here None c (following front cut) ≡ following (c ∷ front) cut
here-after c front None = refl
here-after c front (Some cut) = refl

here-alone : (c : ℕ) (cut : Option (List ℕ × List ℕ)) → cut_here None c cut ≡ following (c ∷ []) cut
here-alone c None = refl
here-alone c (Some cut) = refl

-- no mark begins among bytes that are not colons
skip : (front rest : List ℕ) → list_any (λ c. c == colon) front ≡ false → cut_at double (front ++ rest) ≡ following front (cut_at double rest)
skip [] rest h = sym (after-nil (cut_at double rest))
skip (c ∷ front) rest h =
    let parts = neither (c == colon) (list_any (λ c. c == colon) front) h in
    rw (parts.0, skip front rest parts.1) (here-after c front (cut_at double rest))

-- a text that begins with another byte than a colon
record Starts (text : List ℕ) : Type 0 where
  first : ℕ
  rest : List ℕ
  whole : text ≡ first ∷ rest
  other : (first == colon) ≡ false

starts-from : (text : List ℕ) → 0 < length text → list_any (λ c. c == colon) text ≡ false → Starts text
starts-from [] some h = absurd (omega arith)
starts-from (c ∷ cs) some h =
    record { first = c; rest = cs; whole = refl; other = (neither (c == colon) (list_any (λ c. c == colon) cs) h).0 }

group-starts : (text : List ℕ) (g : ℕ) → IsGroup g text → Starts text
group-starts text g h = starts-from text (omega (arith, h.some)) (group-has_no colon text g (lit≤ tt) h)

starts-append : (text rest : List ℕ) → Starts text → Starts (text ++ rest)
starts-append text rest h =
    record { first = h.first; rest = h.rest ++ rest; whole = ap (λ s. s ++ rest) h.whole; other = h.other }

groups-start : (groups text : List ℕ) → AreGroups groups text → 0 < length groups → Starts text
groups-start [] text h some = absurd (omega arith)
groups-start (g ∷ []) text h some = group-starts text g h
groups-start (g ∷ next ∷ groups) text (first, rest, whole, h, more) some =
    rw whole (starts-append first (colon ∷ rest) (group-starts first g h))

colon-over : (text : List ℕ) → Starts text → cut_at double (colon ∷ text) ≡ following (colon ∷ []) (cut_at double text)
colon-over text h = rw (h.whole, h.other) (here-alone colon (cut_here None h.first (cut_at double h.rest)))

pass : (groups text rest : List ℕ) → AreGroups groups text → 0 < length groups
    → cut_at double (text ++ rest) ≡ following text (cut_at double rest)
pass [] text rest h some = absurd (omega arith)
pass (g ∷ []) text rest h some = skip text rest (group-has_no colon text g (lit≤ tt) h)
pass (g ∷ next ∷ groups) text rest (first, more, whole, h, are) some =
    rw (
      whole,
      append_assoc first (colon ∷ more) rest,
      skip first (colon ∷ (more ++ rest)) (group-has_no colon first g (lit≤ tt) h),
      colon-over (more ++ rest) (starts-append more rest (groups-start (next ∷ groups) more are (omega arith))),
      pass (next ∷ groups) more rest are (omega arith),
      after-append (colon ∷ []) more (cut_at double rest),
    )
    (after-append first (colon ∷ more) (cut_at double rest))

dotted-starts : (octets : List ℕ) → AreOctets octets → Starts (dotted octets)
dotted-starts octets are =
    starts-from (dotted octets) (has-some (λ c. c == 46) (dotted octets) (dotted-has_dot octets are)) (dotted-has_no_colon octets are)

alone : (text : List ℕ) → cut_at double (text ++ []) ≡ None → cut_at double text ≡ None
alone text h = rw (append-nil text) at h

dotted-uncut : (octets : List ℕ) → AreOctets octets → cut_at double (dotted octets) ≡ None
dotted-uncut octets are = alone (dotted octets) (skip (dotted octets) [] (dotted-has_no_colon octets are))

end-uncut : (groups text : List ℕ) → AreGroupsAtEnd groups text → cut_at double text ≡ None
end-uncut [] text (inl h) = rw h refl
end-uncut (g ∷ groups) text (inl h) = alone text (pass (g ∷ groups) text [] h (omega arith))
end-uncut groups text (inr ([], octets, before, are, h, whole, is)) = rw whole (dotted-uncut octets are)
end-uncut groups text (inr (f ∷ front, octets, before, are, h, whole, is)) =
    rw (
      whole,
      pass (f ∷ front) before (colon ∷ dotted octets) h (omega arith),
      colon-over (dotted octets) (dotted-starts octets are),
      dotted-uncut octets are,
    ) refl

around-cut : (front before after : List ℕ) → AreGroups front before → cut_at double (before ++ colon ∷ colon ∷ after) ≡ Some (before, after)
around-cut [] before after h = rw h refl
around-cut (g ∷ front) before after h =
    rw (pass (g ∷ front) before (colon ∷ colon ∷ after) h (omega arith)) (ap (λ s. Some (s, after)) (append-nil before))

-- ---- eight groups

pub eight-read : (groups text : List ℕ) → AreEightGroups groups text → eight_groups_of text ≡ Some groups
unfolding eight_groups_of filled
eight-read groups text (len, inl h) =
    rw (end-uncut groups text h, groups_of-end groups text h, len) refl
eight-read groups text (len, inr (front, back, before, after, hf, hb, whole, room, is)) =
    rw (
      whole,
      around-cut front before after hf,
      groups_of-groups false front before hf,
      groups_of-end back after hb,
      lt-ltb (length front + length back) 8 room,
      is,
    ) refl

if-eight : (b : Bool) (g groups : List ℕ) → (length g == 8) ≡ b → (if b then Some g else None) ≡ Some groups → (length g ≡ 8) × (g ≡ groups)
if-eight true g groups e h = (eqb-true (length g) 8 e, some-is h)
if-eight false g groups e h = cc

whole-by : (o : Option (List ℕ)) (mark : List ℕ) (c : ℕ) (cs front back : List ℕ) (later : Option (List ℕ × List ℕ))
    → after_mark mark (c ∷ cs) ≡ o → cut_here o c later ≡ Some (front, back)
    → ((f : List ℕ) → later ≡ Some (f, back) → cs ≡ f ++ (mark ++ back)) → c ∷ cs ≡ front ++ (mark ++ back)
whole-by (Some after) mark c cs front back later e h ih =
    let pair : ◌≡◌ {A = List ℕ × List ℕ} ([], after) (front, back) = some-is h in
    let none : [] ≡ front = ap (λ p. p.0) pair in
    let rest : after ≡ back = ap (λ p. p.1) pair in
    rw (← none, ← rest) (after_mark-whole mark (c ∷ cs) after e)
whole-by None mark c cs front back None e h ih = cc
whole-by None mark c cs front back (Some cut) e h ih =
    let pair : ◌≡◌ {A = List ℕ × List ℕ} (c ∷ cut.0, cut.1) (front, back) = some-is h in
    let first : c ∷ cut.0 ≡ front = ap (λ p. p.0) pair in
    let rest : cut.1 ≡ back = ap (λ p. p.1) pair in
    rw (← first) (ap (λ s. c ∷ s) (ih cut.0 (ap (λ r. Some (cut.0, r)) rest)))

cut_at-whole : (mark text front back : List ℕ) → cut_at mark text ≡ Some (front, back) → text ≡ front ++ (mark ++ back)
cut_at-whole mark [] front back h = cc
cut_at-whole mark (c ∷ cs) front back h =
    whole-by (after_mark mark (c ∷ cs)) mark c cs front back (cut_at mark cs) refl h (λ f e. cut_at-whole mark cs f back e)

filled-by : (b : Bool) (front back groups : List ℕ) → nat_lt (length front + length back) 8 ≡ b
    → (if b then Some (front ++ replicate (8 - length front - length back) 0 ++ back) else None) ≡ Some groups
    → (length front + length back < 8) × (groups ≡ front ++ replicate (8 - length front - length back) 0 ++ back)
filled-by true front back groups e h = (ltb-true (length front + length back) 8 e, sym (some-is h))
filled-by false front back groups e h = cc

filled-length : (front back : List ℕ) → length front + length back < 8
    → length (front ++ replicate (8 - length front - length back) 0 ++ back) ≡ 8
filled-length front back room = simp (length-append, length-replicate) (omega arith)

eight-by : (o : Option (List ℕ × List ℕ)) (text groups : List ℕ) → cut_at double text ≡ o → by_cut o text ≡ Some groups → AreEightGroups groups text
unfolding filled
eight-by None text groups e h =
    let read = and_then-some (groups_of true text) _ groups h in
    let eight = if-eight (length read.0 == 8) read.0 groups refl read.2 in
    rw (← eight.1) (eight.0, inl (groups_of-some_at_end text read.0 read.1))
eight-by (Some cut) text groups e h =
    let front = and_then-some (groups_of false cut.0) _ groups h in
    let back = and_then-some (groups_of true cut.1) _ groups front.2 in
    let parts = filled-by (nat_lt (length front.0 + length back.0) 8) front.0 back.0 groups refl back.2 in (
      ap length parts.1 ∙ filled-length front.0 back.0 parts.0,
      inr (
        front.0,
        back.0,
        cut.0,
        cut.1,
        groups_of-some cut.0 front.0 front.1,
        groups_of-some_at_end cut.1 back.0 back.1,
        cut_at-whole double text cut.0 cut.1 e,
        parts.0,
        parts.1,
      ),
    )

pub eight-some : (groups text : List ℕ) → eight_groups_of text ≡ Some groups → AreEightGroups groups text
unfolding eight_groups_of
eight-some groups text h = eight-by (cut_at double text) text groups refl h

-- ---- addresses

two-pairs : (octets : List ℕ) → length octets ≡ 4 → length (pairs octets) ≡ 2
two-pairs (a ∷ b ∷ c ∷ d ∷ []) h = refl
two-pairs [] h = absurd (omega arith)
two-pairs (a ∷ []) h = absurd (omega arith)
two-pairs (a ∷ b ∷ []) h = absurd (omega arith)
two-pairs (a ∷ b ∷ c ∷ []) h = absurd (omega arith)
two-pairs (a ∷ b ∷ c ∷ d ∷ e ∷ more) h = absurd (omega arith)

has-colon : (groups text : List ℕ) → AreEightGroups groups text → list_any (λ c. c == colon) text ≡ true
has-colon [] text (len, inl (inl h)) = absurd (omega arith)
has-colon (g ∷ []) text (len, inl (inl h)) = absurd (omega arith)
has-colon (g ∷ next ∷ groups) text (len, inl (inl (first, rest, whole, h, more))) = rw whole (colon_within first rest)
has-colon groups text (len, inl (inr ([], octets, before, are, h, whole, is))) =
    absurd (omega (arith, ap length is, two-pairs octets are.0))
has-colon groups text (len, inl (inr (f ∷ front, octets, before, are, h, whole, is))) = rw whole (colon_within before (dotted octets))
has-colon groups text (len, inr (front, back, before, after, hf, hb, whole, room, is)) = rw whole (colon_within before (colon ∷ after))

pub address-read : (a : Address) (text : List ℕ) → IsAddressText a text → address_of text ≡ Some a
unfolding address_of
address-read (V4 n) text (octets, are, whole, is) =
    rw (whole, dotted-has_no_colon octets are, octets_of-dotted octets are) (ap (λ m. Some (V4 m)) (sym is))
address-read (V6 n) text (groups, are, is) =
    rw (has-colon groups text are, eight-read groups text are) (ap (λ m. Some (V6 m)) (sym is))

some-by : (b : Bool) (a : Address) (text : List ℕ)
    → (if b then option_map (λ groups. V6 (number_to_base 65536 0 groups)) (eight_groups_of text)
    else option_map (λ octets. V4 (number_to_base 256 0 octets)) (octets_of text)) ≡ Some a
    → IsAddressText a text
some-by true a text h =
    let found = map-some (λ (groups : List ℕ). V6 (number_to_base 65536 0 groups)) (eight_groups_of text) a h in
    rw (← found.2) (found.0, eight-some found.0 text found.1, refl)
some-by false a text h =
    let found = map-some (λ (octets : List ℕ). V4 (number_to_base 256 0 octets)) (octets_of text) a h in
    let are = octets_of-some text found.0 found.1 in
    rw (← found.2) (found.0, are.0, are.1, refl)

pub address-some : (a : Address) (text : List ℕ) → address_of text ≡ Some a → IsAddressText a text
unfolding address_of
address-some a text h = some-by (list_any (λ c. c == colon) text) a text h

pub ok-address : (read : Option Address) (text : List ℕ) (fault : PatternError) → read ≡ address_of text
    → IfOk (ok_or read fault) (λ a. IsAddressText a text)
ok-address None text fault e = tt
ok-address (Some a) text fault e = address-some a text (sym e)

be-number : (octets : List ℕ) (n : ℕ) → length octets ≡ 4 → n ≡ from_be_bytes w32 octets → n ≡ number_to_base 256 0 octets
be-number (a ∷ b ∷ c ∷ d ∷ []) n len h = omega (arith, h)
be-number [] n len h = absurd (omega (arith, len))
be-number (a ∷ []) n len h = absurd (omega (arith, len))
be-number (a ∷ b ∷ []) n len h = absurd (omega (arith, len))
be-number (a ∷ b ∷ c ∷ []) n len h = absurd (omega (arith, len))
be-number (a ∷ b ∷ c ∷ d ∷ e ∷ more) n len h = absurd (omega (arith, len))

-- four octets are an address: there is no colon among them
pub octets-address : (text octets : List ℕ) (n : ℕ) → octets_of text ≡ Some octets → n ≡ from_be_bytes w32 octets
    → Some (V4 n) ≡ address_of text
octets-address text octets n h is =
    let are = octets_of-some text octets h in
    sym (address-read (V4 n) text (octets, are.0, are.1, be-number octets n are.0.0 is))
