-- A printed signature is read back from a vouch file.
use Rattle.ssh_program.proofs.Imports.{◌≡◌, ◌≢◌, ◌∙◌, ◌+◌, ◌*◌, ◌/◌, ◌%◌, ◌≤◌, ◌<◌, ◌++◌, cond, eqb, ℕ, zero, suc, Bool, true, false, List, [], ◌∷◌, length, map, Some, Ok, ap, subst, sym, refl, inl, inr, arith, codes, AllByRecursion, flat_map, position_or_len, decimal, bytes_eq, eqb-suc-zero, div-add-mod, take-append_seam, drop-append_seam, cases_Bool, lt-ltb, ne_eqb, append_assoc, append-nil, length-append, bytes_eq-Decides, lines_of-only, AreLines, Signed, evidence_line, hex_digit, hex_pair, hex_text, hex_bytes, hex_value, pair_values, prepend, cut_at_space, has_space, is_skipped, triple_of, vouched_from, is_space, HasBytes, vouch_file, vouch_line}
use Rattle.ssh_files.specs.VouchFile.{three_fields, vouched_of}

abbrev AreBytes : List ℕ → Type 0
AreBytes text = AllByRecursion (λ c. c < 256) text

-- ---- hexadecimal

-- the sixteen digits
digit-back : (d : ℕ) → d < 16 → hex_value (hex_digit d) ≡ Some d
digit-back zero h = refl
digit-back (suc zero) h = refl
digit-back (suc (suc zero)) h = refl
digit-back (suc (suc (suc zero))) h = refl
digit-back (suc (suc (suc (suc zero)))) h = refl
digit-back (suc (suc (suc (suc (suc zero))))) h = refl
digit-back (suc (suc (suc (suc (suc (suc zero)))))) h = refl
digit-back (suc (suc (suc (suc (suc (suc (suc zero))))))) h = refl
digit-back (suc (suc (suc (suc (suc (suc (suc (suc zero)))))))) h = refl
digit-back (suc (suc (suc (suc (suc (suc (suc (suc (suc zero))))))))) h = refl
digit-back (suc (suc (suc (suc (suc (suc (suc (suc (suc (suc zero)))))))))) h = refl
digit-back (suc (suc (suc (suc (suc (suc (suc (suc (suc (suc (suc zero))))))))))) h = refl
digit-back (suc (suc (suc (suc (suc (suc (suc (suc (suc (suc (suc (suc zero)))))))))))) h = refl
digit-back (suc (suc (suc (suc (suc (suc (suc (suc (suc (suc (suc (suc (suc zero))))))))))))) h = refl
digit-back (suc (suc (suc (suc (suc (suc (suc (suc (suc (suc (suc (suc (suc (suc zero)))))))))))))) h = refl
digit-back (suc (suc (suc (suc (suc (suc (suc (suc (suc (suc (suc (suc (suc (suc (suc zero))))))))))))))) h = refl
digit-back (suc (suc (suc (suc (suc (suc (suc (suc (suc (suc (suc (suc (suc (suc (suc (suc d)))))))))))))))) h = absurd (omega arith)

pair-back : (b : ℕ) (text : List ℕ) → b < 256 → pair_values (hex_pair b ++ text) ≡ prepend (Some b) (pair_values text)
pair-back b text h =
    let whole : 16 * (b / 16) + b % 16 ≡ b = div-add-mod b 16 in
    let high : hex_value (hex_digit (b / 16)) ≡ Some (b / 16) = digit-back (b / 16) (omega arith) in
    let low : hex_value (hex_digit (b % 16)) ≡ Some (b % 16) = digit-back (b % 16) (omega arith) in
    rw (high, low) (ap (λ (n : ℕ). prepend (Some n) (pair_values text)) whole)

pairs-back : (bytes : List ℕ) → AreBytes bytes → pair_values (flat_map hex_pair bytes) ≡ Some bytes
pairs-back [] h = refl
pairs-back (b ∷ bytes) h = pair-back b (flat_map hex_pair bytes) h.0 ∙ ap (prepend (Some b)) (pairs-back bytes h.1)

not-dash : (a b : ℕ) (text : List ℕ) → bytes_eq (a ∷ b ∷ text) (45 ∷ []) ≡ false
not-dash a b text =
    elim (cases_Bool (bytes_eq (a ∷ b ∷ text) (45 ∷ []))) [
      | inl e ↦
          let same : a ∷ b ∷ text ≡ 45 ∷ [] = (bytes_eq-Decides (a ∷ b ∷ text) (45 ∷ [])).0 e in
          let long : length (a ∷ b ∷ text) ≡ 1 = ap (λ (l : List ℕ). length l) same in
          absurd (omega arith)
      | inr e ↦ e
    ]

bytes-of-pairs : (a b : ℕ) (text : List ℕ) → hex_bytes (a ∷ b ∷ text) ≡ pair_values (a ∷ b ∷ text)
bytes-of-pairs a b text = rw (not-dash a b text, eqb-suc-zero (suc (length text))) refl

hex-back : (bytes : List ℕ) → AreBytes bytes → hex_bytes (hex_text bytes) ≡ Some bytes
hex-back [] h = refl
hex-back (b ∷ bytes) h = bytes-of-pairs (hex_digit (b / 16)) (hex_digit (b % 16)) (flat_map hex_pair bytes) ∙ pairs-back (b ∷ bytes) h

-- ---- bytes that no field contains: a space, an LF, a number sign

-- digits and dashes
abbrev AreHigh : List ℕ → Type 0
AreHigh text = AllByRecursion (λ c. 45 ≤ c) text

digit-high-by : (b : Bool) (d : ℕ) → 45 ≤ cond b (48 + d) (87 + d)
digit-high-by true d = omega arith
digit-high-by false d = omega arith

pairs-high : (bytes : List ℕ) → AreHigh (flat_map hex_pair bytes)
pairs-high [] = tt
pairs-high (b ∷ bytes) = (digit-high-by _ (b / 16), (digit-high-by _ (b % 16), pairs-high bytes))

hex-high : (bytes : List ℕ) → AreHigh (hex_text bytes)
hex-high [] = (omega arith, tt)
hex-high (b ∷ bytes) = pairs-high (b ∷ bytes)

not-at : (c k : ℕ) → k < c → eqb c k ≡ false
not-at c k h = ne_eqb c k (λ e. absurd (omega (arith, e)))

-- ---- fields that are separated by spaces

-- the first space is the one after the field
space-after : (field rest : List ℕ) → AreHigh field → position_or_len is_space (field ++ 32 ∷ rest) ≡ length field
space-after [] rest h = refl
space-after (c ∷ field) rest h =
    let low : 45 ≤ c = h.0 in
    rw (not-at c 32 (omega arith)) (ap (λ n. 1 + n) (space-after field rest h.1) ∙ omega arith)

cut-field : (field rest : List ℕ) → AreHigh field → cut_at_space (field ++ 32 ∷ rest) ≡ Some (field, rest)
cut-field field rest h =
    let long = length-append field (32 ∷ rest) in
    let short : length field < length (field ++ 32 ∷ rest) = omega arith in
    rw (
      space-after field rest h,
      lt-ltb (length field) (length (field ++ 32 ∷ rest)) short,
      take-append_seam field (32 ∷ rest),
      drop-append_seam field (32 ∷ rest),
    ) refl

no-space : (field : List ℕ) → AreHigh field → has_space field ≡ false
no-space [] h = refl
no-space (c ∷ field) h = let low : 45 ≤ c = h.0 in rw (not-at c 32 (omega arith)) (no-space field h.1)

fields-back : (s : Signed) → three_fields (vouch_line s) ≡ Some (hex_text s.key, hex_text s.message, hex_text s.signature)
unfolding three_fields
fields-back s =
    rw (
      cut-field (hex_text s.key) (hex_text s.message ++ 32 ∷ hex_text s.signature) (hex-high s.key),
      cut-field (hex_text s.message) (hex_text s.signature) (hex-high s.message),
      no-space (hex_text s.signature) (hex-high s.signature),
    ) refl

triple-back : (s : Signed) → HasBytes s → triple_of (vouch_line s) ≡ Some s
triple-back s h = rw (fields-back s, hex-back s.key h.key, hex-back s.message h.message, hex-back s.signature h.signature) refl

-- ---- the lines of a vouch file

high-append : (a b : List ℕ) → AreHigh a → AllByRecursion (λ c. c ≢ 10) b → AllByRecursion (λ c. c ≢ 10) (a ++ b)
high-append [] b h g = g
high-append (c ∷ a) b h g = let low : 45 ≤ c = h.0 in (λ e. absurd (omega (arith, e)), high-append a b h.1 g)

no-lf : (s : Signed) → AllByRecursion (λ c. c ≢ 10) (vouch_line s)
no-lf s =
    high-append (hex_text s.key) (32 ∷ (hex_text s.message ++ 32 ∷ hex_text s.signature)) (hex-high s.key) (
      λ e. cc,
      high-append (hex_text s.message) (32 ∷ hex_text s.signature) (hex-high s.message)
          (λ e. cc, subst (AllByRecursion (λ c. c ≢ 10)) (append-nil (hex_text s.signature)) (high-append (hex_text s.signature) [] (hex-high s.signature) tt)),
    )

are-lines : (evidence : List Signed) → AreLines (map vouch_line evidence) (vouch_file evidence)
are-lines [] = refl
are-lines (s ∷ evidence) = (no-lf s, inl (vouch_file evidence, append_assoc (vouch_line s) (10 ∷ []) (vouch_file evidence), are-lines evidence))

high-kept : (text rest : List ℕ) → AreHigh text → text ≢ [] → is_skipped (text ++ rest) ≡ false
high-kept [] rest h some = absurd (some refl)
high-kept (c ∷ text) rest h some = let low : 45 ≤ c = h.0 in not-at c 35 (omega arith)

hex-some : (bytes : List ℕ) → hex_text bytes ≢ []
hex-some [] e = cc
hex-some (b ∷ bytes) e = cc

vouched-back : (n : ℕ) (evidence : List Signed) → AllByRecursion HasBytes evidence → vouched_from n (map vouch_line evidence) ≡ Ok evidence
vouched-back n [] h = refl
vouched-back n (s ∷ evidence) h =
    rw (
      high-kept (hex_text s.key) (32 ∷ (hex_text s.message ++ 32 ∷ hex_text s.signature)) (hex-high s.key) (hex-some s.key),
      triple-back s h.0,
      vouched-back (n + 1) evidence h.1,
    ) refl

pub evidence_back : (evidence : List Signed) → AllByRecursion HasBytes evidence → vouched_of (vouch_file evidence) ≡ Ok evidence
unfolding vouched_of
evidence_back evidence h = rw (sym (lines_of-only (map vouch_line evidence) (vouch_file evidence) (are-lines evidence))) (vouched-back 1 evidence h)

-- ---- the printed line

field-after : (front field rest : List ℕ) → front ++ (field ++ 32 ∷ rest) ≡ ((front ++ field) ++ 32 ∷ []) ++ rest
field-after front field rest = sym (append_assoc front field (32 ∷ rest)) ∙ sym (append_assoc (front ++ field) (32 ∷ []) rest)

fields-after : (front a b c : List ℕ) → front ++ (a ++ 32 ∷ (b ++ 32 ∷ c)) ≡ ((((front ++ a) ++ 32 ∷ []) ++ b) ++ 32 ∷ []) ++ c
fields-after front a b c = field-after front a (b ++ 32 ∷ c) ∙ field-after ((front ++ a) ++ 32 ∷ []) b c

pub printed_line : (n : ℕ) (s : Signed) → evidence_line n s ≡ codes "evidence " ++ decimal n ++ codes " " ++ vouch_line s ++ codes "\n"
printed_line n s =
    ap (λ (x : List ℕ). x ++ 10 ∷ [])
    (sym (fields-after (codes "evidence " ++ decimal n ++ codes " ") (hex_text s.key) (hex_text s.message) (hex_text s.signature)))
