-- An IPv4 address has one text, which matches itself as a pattern.
use Rattle.ssh_patterns.proofs.Imports.{option_map, ◌≡◌, ℕ, ◌+◌, ◌*◌, ◌<◌, ◌==◌, Bool, true, false, ◌||◌, if◌then◌else◌, inl, inr, List, [], ◌∷◌, map, length, Option, Some, None, refl, sym, ap, ◌∙◌, lit≤, arith, AllByRecursion, list_any, to_ascii_lowercase, eqb-true, eq-eqb, ne_eqb, lt-ltb, le-ltb, cases_lt, Address, V4, V6, colon, dotted, number_to_base, is_match, is_empty, star, question, net_if_slash, Source, has_slash, is_address, is_v6_address, host_matches, is_match_in_lower_case, source_item, is_bad_source}
use Rattle.ssh_patterns.specs.AddressReading.{address_of, octets_of}
use Rattle.ssh_patterns.specs.Nets.{net_of}
use Rattle.ssh_patterns.proofs.OctetLemmas.{neither, or_true}
use Rattle.ssh_patterns.proofs.SpelledLemmas.{dotted-has_no}
use Rattle.ssh_patterns.proofs.AddressLaw.{address-some}

-- ---- a text without stars matches itself

pub matches-itself : (p : List ℕ) → list_any (λ c. c == star) p ≡ false → is_match p p ≡ true
matches-itself [] h = refl
matches-itself (c ∷ p) h =
    let parts = neither (c == star) (list_any (λ b. b == star) p) h in
    rw (parts.0, eq-eqb c c refl, or_true (c == question), matches-itself p parts.1) refl

lower-no-star : (c : ℕ) → (c == star) ≡ false → (to_ascii_lowercase c == star) ≡ false
lower-no-star c h = elim (cases_lt c 65) [
  | inl low ↦ rw (lt-ltb c 65 low) h
  | inr high ↦ elim (cases_lt c 91) [
    | inl upper ↦ rw (le-ltb c 65 high, lt-ltb c 91 upper) (ne_eqb (c + 32) star (λ e. omega (arith, e)))
    | inr other ↦ rw (le-ltb c 65 high, le-ltb c 91 other) h
  ]
]

lower-no-stars : (p : List ℕ) → list_any (λ c. c == star) p ≡ false → list_any (λ c. c == star) (map to_ascii_lowercase p) ≡ false
lower-no-stars [] h = refl
lower-no-stars (c ∷ p) h =
    let parts = neither (c == star) (list_any (λ b. b == star) p) h in
    rw (lower-no-star c parts.0, lower-no-stars p parts.1) refl

-- ---- one text alone

same-digits : (os ps : List ℕ) (m n : ℕ) → length os ≡ length ps → AllByRecursion (λ o. o < 256) os → AllByRecursion (λ o. o < 256) ps
    → number_to_base 256 m os ≡ number_to_base 256 n ps → (m ≡ n) × (os ≡ ps)
same-digits [] [] m n len ho hp h = (h, refl)
same-digits (a ∷ os) [] m n len ho hp h = absurd (omega (arith, len))
same-digits [] (b ∷ ps) m n len ho hp h = absurd (omega (arith, len))
same-digits (a ∷ os) (b ∷ ps) m n len ho hp h =
    let later = same-digits os ps (m * 256 + a) (n * 256 + b) (omega (arith, len)) ho.1 hp.1 h in
    let high : m ≡ n = omega (arith, later.0, ho.0, hp.0) in
    let low : a ≡ b = omega (arith, later.0, ho.0, hp.0) in
    (high, rw (low, later.1) refl)

-- the texts of one IPv4 address are one
one-text : (n : ℕ) (item text : List ℕ) → address_of item ≡ Some (V4 n) → address_of text ≡ Some (V4 n) → item ≡ text
one-text n item text hi ht =
    let (os, are_os, item_is, os_is) = address-some (V4 n) item hi in
    let (ps, are_ps, text_is, ps_is) = address-some (V4 n) text ht in
    let same = same-digits os ps 0 0 (are_os.0 ∙ sym are_ps.0) are_os.1 are_ps.1 (sym os_is ∙ ps_is) in
    item_is ∙ ap dotted same.1 ∙ sym text_is

-- the text of an IPv4 address matches itself
itself : (n : ℕ) (text : List ℕ) → address_of text ≡ Some (V4 n) → is_match_in_lower_case text text ≡ true
itself n text h =
    let (os, are, text_is, os_is) = address-some (V4 n) text h in
    matches-itself (map to_ascii_lowercase text)
    (lower-no-stars text (rw text_is (dotted-has_no star refl (lit≤ tt) os are)))

-- ---- items of lists of sources

no-v6 : (octets : Option (List ℕ)) (n : ℕ) → is_address (option_map (λ os. V4 (number_to_base 256 0 os)) octets) (V6 n) ≡ false
no-v6 None n = refl
no-v6 (Some os) n = refl

-- where there is no colon, no IPv6 address is read
pub no-colon : (item : List ℕ) (address : Address) → list_any (λ c. c == colon) item ≡ false
    → false ≡ is_v6_address (address_of item) address
unfolding address_of
no-colon item (V4 n) h = refl
no-colon item (V6 n) h = rw h (sym (no-v6 (octets_of item) n))

both-by : (a h t : Bool) → (a ≡ true → t ≡ true) → ((a || h) || t) ≡ (h || t)
both-by true h t f = sym (rw (f refl) (or_true h))
both-by false h t f = refl

v4-found : (found : Option Address) (n : ℕ) → is_address found (V4 n) ≡ true → found ≡ Some (V4 n)
v4-found None n h = cc
v4-found (Some (V4 m)) n h = ap (λ k. Some (V4 k)) (eqb-true m n h)
v4-found (Some (V6 m)) n h = cc

names-by : (address : Address) (host : Bool) (item text : List ℕ) → address_of text ≡ Some address → is_v6_address (address_of item) address ≡ false
    → ((is_address (address_of item) address || host) || is_match_in_lower_case text item) ≡ (host || is_match_in_lower_case text item)
names-by (V6 n) host item text known h = rw h refl
names-by (V4 n) host item text known h =
    both-by (is_address (address_of item) (V4 n)) host (is_match_in_lower_case text item) (λ e.
    let same = one-text n item text (v4-found (address_of item) n e) known in
    rw same (itself n text known))

plain-by : (b : Bool) (item : List ℕ) → (if b then Some (net_of item) else None) ≡ None → b ≡ false
plain-by true item h = cc
plain-by false item h = refl

some-byte : (item : List ℕ) → (length item == 0) ≡ false → is_empty item ≡ false
some-byte [] h = cc
some-byte (c ∷ cs) h = refl

-- where an item has no slash and is not this IPv6 address, the names decide
pub names-decide : (source : Source) (address : Address) (item : List ℕ) (negated matched : Bool) → address_of source.text ≡ Some address
    → (length item == 0) ≡ false → net_if_slash item ≡ None → is_v6_address (address_of item) address ≡ false
    → matched ≡ (host_matches source.host item || is_match_in_lower_case source.text item)
    → Some matched ≡ (if is_bad_source (record { negated = negated; text = item }) then None else Some (source_item source item))
names-decide source address item negated matched known some no_slash other is =
    rw (plain-by (has_slash item) item no_slash, some-byte item some, known)
    (ap (λ m. Some m) (is ∙ sym (names-by address (host_matches source.host item) item source.text known other)))
