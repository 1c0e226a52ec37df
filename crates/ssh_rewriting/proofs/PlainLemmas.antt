-- Lists without `*`, `?` and `!`: they name what equals one of their pieces in ASCII lower case. Names that hosts are looked up
-- by are in lower case.
use Rattle.ssh_rewriting.proofs.Imports.{◌≡◌, ℕ, zero, suc, ◌+◌, ◌/◌, ◌%◌, ◌<◌, Bool, true, false, not, ◌||◌, ◌&&◌, ◌==◌, inl, inr, List, [], ◌∷◌, ◌++◌, map, codes, bytes_eq, decimal, refl, sym, ap, subst, ◌∙◌, arith, if◌then◌else◌, cond, to_ascii_lowercase, digits_onto, digit_glyph, str_to_ascii_lowercase, list_any, onto_first, AllByRecursion, cases_lt, lt-ltb, ne_eqb, or_cases, or_parts, map-append, bytes_eq-Decides, lowercase_is, lowercase-lowercase, item_of, items_of, pieces, permits, is_match_in_lower_case, MatchesInLowerCase, is_match, or_left, or_right, permits-tells, lower-tells, not-true, Names, Patterns, Hashed, NamesHost, lookup_name, are_plain, is_pattern_byte, lower_names}
use Rattle.std.specs.Fmt.{digits}
use Rattle.ssh_rewriting.proofs.MemberLemmas.{Mem}

-- no byte of a pattern stands in the text
abbrev IsPlain : List ℕ → Type 0
IsPlain text = list_any is_pattern_byte text ≡ false

-- ---- pieces

onto-plain : (c : ℕ) (parts : List (List ℕ)) → is_pattern_byte c ≡ false → AllByRecursion IsPlain parts → AllByRecursion IsPlain (onto_first c parts)
onto-plain c [] e h = (rw e refl, tt)
onto-plain c (part ∷ parts) e h = (rw e h.0, h.1)

cut-plain : (b : Bool) (c : ℕ) (parts : List (List ℕ)) → is_pattern_byte c ≡ false → AllByRecursion IsPlain parts
    → AllByRecursion IsPlain (cond b ([] ∷ parts) (onto_first c parts))
cut-plain true c parts e h = (refl, h)
cut-plain false c parts e h = onto-plain c parts e h

pieces-plain : (list : List ℕ) → IsPlain list → AllByRecursion IsPlain (pieces list)
pieces-plain [] h = (refl, tt)
pieces-plain (c ∷ cs) h =
    let parts = or_parts (is_pattern_byte c) (list_any is_pattern_byte cs) h in
    cut-plain (c == 44) c (pieces cs) parts.0 (pieces-plain cs parts.1)

-- ---- items

record IsOther (c : ℕ) : Type 0 where
  star : (c == 42) ≡ false
  question : (c == 63) ≡ false
  mark : (c == 33) ≡ false

other : (c : ℕ) → is_pattern_byte c ≡ false → IsOther c
other c h =
    let last = or_parts (c == 42 || c == 63) (c == 33) h in
    let first = or_parts (c == 42) (c == 63) last.0 in
    record { star = first.0; question = first.1; mark = last.1 }

item-plain : (text : List ℕ) → IsPlain text → item_of text ≡ record { negated = false; text = text }
item-plain [] h = refl
item-plain (c ∷ cs) h = rw ((other c (or_parts (is_pattern_byte c) (list_any is_pattern_byte cs) h).0).mark) refl

refuses-none : (matches : List ℕ → Bool) (parts : List (List ℕ)) → AllByRecursion IsPlain parts
    → list_any (λ item. item.negated && matches item.text) (map item_of parts) ≡ false
refuses-none matches [] h = refl
refuses-none matches (part ∷ parts) h = rw (item-plain part h.0) (refuses-none matches parts h.1)

accepts-some : (matches : List ℕ → Bool) (parts : List (List ℕ)) → AllByRecursion IsPlain parts
    → list_any (λ item. not item.negated && matches item.text) (map item_of parts) ≡ list_any matches parts
accepts-some matches [] h = refl
accepts-some matches (part ∷ parts) h = rw (item-plain part h.0, accepts-some matches parts h.1) refl

permits-plain : (matches : List ℕ → Bool) (list : List ℕ) → IsPlain list → permits matches (items_of list) ≡ list_any matches (pieces list)
permits-plain matches list h =
    let parts = pieces-plain list h in
    rw (refuses-none matches (pieces list) parts, accepts-some matches (pieces list) parts) refl

-- ---- matching

match-plain : (pattern text : List ℕ) → IsPlain pattern → is_match pattern text ≡ bytes_eq pattern text
match-plain [] [] h = refl
match-plain [] (x ∷ xs) h = refl
match-plain (c ∷ cs) [] h = rw ((other c (or_parts (is_pattern_byte c) (list_any is_pattern_byte cs) h).0).star) refl
match-plain (c ∷ cs) (x ∷ xs) h =
    let parts = or_parts (is_pattern_byte c) (list_any is_pattern_byte cs) h in
    let free = other c parts.0 in
    rw (free.star, free.question, match-plain cs xs parts.1) refl

changed-plain : (c : ℕ) → 64 < c → c < 91 → is_pattern_byte (c + 32) ≡ false
changed-plain c a b =
    rw (ne_eqb (c + 32) 42 (λ e. absurd (omega (arith, e, a))), ne_eqb (c + 32) 63 (λ e. absurd (omega (arith, e, a))), ne_eqb (c + 32) 33 (λ e. absurd (omega (arith, e, a)))) refl

byte-plain : (c : ℕ) → is_pattern_byte c ≡ false → is_pattern_byte (to_ascii_lowercase c) ≡ false
byte-plain c h =
    let is = lowercase_is c in
    elim (cases_lt c 65) [
      | inl low ↦ ap is_pattern_byte (is.1 low) ∙ h
      | inr high ↦ elim (cases_lt c 91) [
        | inl capital ↦ ap is_pattern_byte (is.0 (high, omega arith)) ∙ changed-plain c (omega arith) capital
        | inr small ↦ ap is_pattern_byte (is.2 (omega arith)) ∙ h
      ]
    ]

lower-plain : (text : List ℕ) → IsPlain text → IsPlain (str_to_ascii_lowercase text)
lower-plain [] h = refl
lower-plain (c ∷ cs) h =
    let parts = or_parts (is_pattern_byte c) (list_any is_pattern_byte cs) h in
    rw (byte-plain c parts.0) (lower-plain cs parts.1)

part-matches : (name part : List ℕ) → IsPlain part
    → is_match_in_lower_case name part ≡ bytes_eq (str_to_ascii_lowercase part) (str_to_ascii_lowercase name)
part-matches name part h = match-plain (str_to_ascii_lowercase part) (str_to_ascii_lowercase name) (lower-plain part h)

some-part : (name : List ℕ) (parts : List (List ℕ)) → AllByRecursion IsPlain parts → list_any (is_match_in_lower_case name) parts ≡ true
    → Mem (map str_to_ascii_lowercase parts) (str_to_ascii_lowercase name)
some-part name [] h e = cc e
some-part name (part ∷ parts) h e =
    elim (or_cases (is_match_in_lower_case name part) (list_any (is_match_in_lower_case name) parts) e) [
      | inl here ↦ inl ((bytes_eq-Decides (str_to_ascii_lowercase part) (str_to_ascii_lowercase name)).0 (sym (part-matches name part h.0) ∙ here))
      | inr later ↦ inr (some-part name parts h.1 later)
    ]

part-some : (name : List ℕ) (parts : List (List ℕ)) → AllByRecursion IsPlain parts
    → Mem (map str_to_ascii_lowercase parts) (str_to_ascii_lowercase name) → list_any (is_match_in_lower_case name) parts ≡ true
part-some name [] h m = absurd m
part-some name (part ∷ parts) h (inl e) =
    or_left (is_match_in_lower_case name part) (list_any (is_match_in_lower_case name) parts)
    (part-matches name part h.0 ∙ (bytes_eq-Decides (str_to_ascii_lowercase part) (str_to_ascii_lowercase name)).1 e)
part-some name (part ∷ parts) h (inr m) =
    or_right (is_match_in_lower_case name part) (list_any (is_match_in_lower_case name) parts) (part-some name parts h.1 m)

-- ---- names

-- plain names that name a host have its name
pub have-name : (names : Names) (name : List ℕ) → are_plain names ≡ true → str_to_ascii_lowercase name ≡ name
    → NamesHost names name → Mem (lower_names names) name
have-name (Hashed salt hash) name h low named = cc h
have-name (Patterns list) name h low named =
    let plain = not-true (list_any is_pattern_byte list) h in
    let permitted = (permits-tells (is_match_in_lower_case name) (MatchesInLowerCase name) (lower-tells name) list).1 named in
    subst (λ n. Mem (map str_to_ascii_lowercase (pieces list)) n) low
    (some-part name (pieces list) (pieces-plain list plain) (sym (permits-plain (is_match_in_lower_case name) list plain) ∙ permitted))

-- plain names that have a name name its host
pub name-had : (names : Names) (name : List ℕ) → are_plain names ≡ true → str_to_ascii_lowercase name ≡ name
    → Mem (lower_names names) name → NamesHost names name
name-had (Hashed salt hash) name h low m = cc h
name-had (Patterns list) name h low m =
    let plain = not-true (list_any is_pattern_byte list) h in
    let in-lower = subst (λ n. Mem (map str_to_ascii_lowercase (pieces list)) n) (sym low) m in
    (permits-tells (is_match_in_lower_case name) (MatchesInLowerCase name) (lower-tells name) list).0
    (permits-plain (is_match_in_lower_case name) list plain ∙ part-some name (pieces list) (pieces-plain list plain) in-lower)

-- ---- names that hosts are looked up by

lower-twice : (text : List ℕ) → str_to_ascii_lowercase (str_to_ascii_lowercase text) ≡ str_to_ascii_lowercase text
lower-twice [] = refl
lower-twice (c ∷ cs) = rw (lowercase-lowercase c, lower-twice cs) refl

glyph-lower : (n : ℕ) → to_ascii_lowercase (digit_glyph false (n % 10)) ≡ digit_glyph false (n % 10)
glyph-lower n =
    let small : n % 10 < 10 = omega arith in
    rw (lt-ltb (n % 10) 10 small) ((lowercase_is (48 + n % 10)).1 (omega (arith, small)))

glyphs-lower : (k n : ℕ) (acc : List ℕ) → str_to_ascii_lowercase acc ≡ acc
    → str_to_ascii_lowercase (digits_onto k 10 false n acc) ≡ digits_onto k 10 false n acc
glyphs-lower zero n acc h = h
glyphs-lower (suc k) n acc h = go (n / 10 == 0) (glyphs-lower k (n / 10) (digit_glyph false (n % 10) ∷ acc) more)
  where
    more : str_to_ascii_lowercase (digit_glyph false (n % 10) ∷ acc) ≡ digit_glyph false (n % 10) ∷ acc
    more = ap (λ c. c ∷ str_to_ascii_lowercase acc) (glyph-lower n) ∙ ap (λ cs. digit_glyph false (n % 10) ∷ cs) h

    go : (b : Bool)
        → str_to_ascii_lowercase (digits_onto k 10 false (n / 10) (digit_glyph false (n % 10) ∷ acc)) ≡ digits_onto k 10 false (n / 10) (digit_glyph false (n % 10) ∷ acc)
        → str_to_ascii_lowercase (if b then digit_glyph false (n % 10) ∷ acc else digits_onto k 10 false (n / 10) (digit_glyph false (n % 10) ∷ acc))
        ≡ (if b then digit_glyph false (n % 10) ∷ acc else digits_onto k 10 false (n / 10) (digit_glyph false (n % 10) ∷ acc))
    go true others = more
    go false others = others

decimal-lower : (n : ℕ) → str_to_ascii_lowercase (decimal n) ≡ decimal n
unfolding digits
decimal-lower n = glyphs-lower 64 n [] refl

port-lower : (host port : List ℕ) → str_to_ascii_lowercase host ≡ host → str_to_ascii_lowercase port ≡ port
    → str_to_ascii_lowercase (codes "[" ++ host ++ codes "]:" ++ port) ≡ codes "[" ++ host ++ codes "]:" ++ port
port-lower host port h p =
    map-append to_ascii_lowercase (codes "[" ++ host ++ codes "]:") port
    ∙ ap (λ t. t ++ str_to_ascii_lowercase port) (map-append to_ascii_lowercase (codes "[" ++ host) (codes "]:"))
    ∙ rw (h, p) refl

-- they are in lower case
pub lookup-lower : (host : List ℕ) (port : ℕ) → str_to_ascii_lowercase (lookup_name host port) ≡ lookup_name host port
lookup-lower host port = go (port == 22)
  where
    go : (b : Bool)
        → str_to_ascii_lowercase (if b then str_to_ascii_lowercase host else codes "[" ++ str_to_ascii_lowercase host ++ codes "]:" ++ decimal port)
        ≡ (if b then str_to_ascii_lowercase host else codes "[" ++ str_to_ascii_lowercase host ++ codes "]:" ++ decimal port)
    go true = lower-twice host
    go false = port-lower (str_to_ascii_lowercase host) (decimal port) (lower-twice host) (decimal-lower port)
