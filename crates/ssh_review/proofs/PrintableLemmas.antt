-- The texts that are printed are of printable ASCII.
use Rattle.ssh_review.proofs.Imports.{◌≡◌, ◌∙◌, ℕ, zero, suc, ◌+◌, ◌<◌, ◌≤◌, ◌==◌, ◌/◌, ◌%◌, nat_le, nat_lt, Bool, true, false, not, ◌&&◌, ◌||◌, cond, List, [], ◌∷◌, ◌++◌, length, drop, refl, ap, arith, ℤ, pos, negsuc, codes, flat_map, decimal, digit_glyph, digits_onto, signed_decimal, and_from, le-leb, lt-ltb, ltb-true, list_all-append, escaped_text, escaped_byte, hex_digit, hex_pair, hex_text, is_plain_byte, AreBytes, are_printable, is_line, is_printable, quoted_byte}
use Rattle.std.specs.Fmt.{digits}
use Rattle.ssh_print.specs.Strings.{json_text}

-- A text is printable. As a record, so that a proof finds the text.
pub record ArePrintable (text : List ℕ) : Type 0 where
  pub all : are_printable text ≡ true

pub word : (text : List ℕ) → are_printable text ≡ true → ArePrintable text
word text h = record { all = h }

-- ---- one after the other

printable-append : (a b : List ℕ) → are_printable a ≡ true → are_printable b ≡ true → are_printable (a ++ b) ≡ true
printable-append a b h k = list_all-append is_printable a b ∙ ap (λ t. t && are_printable b) h ∙ k

line-after : (a b : List ℕ) → are_printable a ≡ true → is_line b ≡ true → is_line (a ++ b) ≡ true
line-after [] b h k = k
line-after (c ∷ a) b h k = go (is_printable c) (λ m. line-after a b m k) h
  where
    go : (p : Bool) → (are_printable a ≡ true → is_line (a ++ b) ≡ true) → (p && are_printable a) ≡ true
        → cond p (is_line (a ++ b)) (c == 10 && length (a ++ b) == 0) ≡ true
    go true next h = next h
    go false next h = absurd (let no : false ≡ true = h in cc)

pub join : {a b : List ℕ} → ArePrintable a → ArePrintable b → ArePrintable (a ++ b)
join {a} {b} h k = record { all = printable-append a b h.all k.all }

pub line-from : {a : List ℕ} (b : List ℕ) → ArePrintable a → is_line b ≡ true → is_line (a ++ b) ≡ true
line-from {a} b h k = line-after a b h.all k

pub bytes-append : (a b : List ℕ) → AreBytes a → AreBytes b → AreBytes (a ++ b)
bytes-append [] b h k = k
bytes-append (c ∷ a) b h k = (h.0, bytes-append a b h.1 k)

-- ---- bytes

pub within : (c : ℕ) → 32 ≤ c → c < 127 → is_printable c ≡ true
within c h k = and_from (nat_le 32 c) (nat_lt c 127) (le-leb 32 c h) (lt-ltb c 127 k)

below-by : (c : ℕ) (b : Bool) → nat_lt c 127 ≡ b → (nat_le 32 c && b) ≡ true → c < 127
below-by c true e h = ltb-true c 127 e
below-by c false e h = go (nat_le 32 c) h
  where
    go : (p : Bool) → (p && false) ≡ true → c < 127
    go true h = absurd (let no : false ≡ true = h in cc)
    go false h = absurd (let no : false ≡ true = h in cc)

bytes-by : (text : List ℕ) → are_printable text ≡ true → AreBytes text
bytes-by [] h = tt
bytes-by (c ∷ cs) h = go (is_printable c) refl (bytes-by cs) h
  where
    go : (p : Bool) → is_printable c ≡ p → (are_printable cs ≡ true → AreBytes cs) → (p && are_printable cs) ≡ true → AreBytes (c ∷ cs)
    go true e next h = let few = below-by c (nat_lt c 127) refl e in (omega (arith, few), next h)
    go false e next h = absurd (let no : false ≡ true = h in cc)

pub bytes-from_printable : {text : List ℕ} → ArePrintable text → AreBytes text
bytes-from_printable {text} h = bytes-by text h.all

rest-by : (text : List ℕ) → are_printable text ≡ true → are_printable (drop 1 text) ≡ true
rest-by [] h = refl
rest-by (c ∷ text) h = go (is_printable c) h
  where
    go : (p : Bool) → (p && are_printable text) ≡ true → are_printable text ≡ true
    go true h = h
    go false h = absurd (let no : false ≡ true = h in cc)

pub rest-printable : {text : List ℕ} → ArePrintable text → ArePrintable (drop 1 text)
rest-printable {text} h = record { all = rest-by text h.all }

-- ---- numbers

digit-printable : (n : ℕ) → is_printable (digit_glyph false (n % 10)) ≡ true
digit-printable n =
    let small : nat_lt (n % 10) 10 ≡ true = lt-ltb (n % 10) 10 (omega arith) in
    rw small (within (48 + n % 10) (omega arith) (omega arith))

digits-printable : (k n : ℕ) (acc : List ℕ) → are_printable acc ≡ true → are_printable (digits_onto k 10 false n acc) ≡ true
digits-printable zero n acc h = h
digits-printable (suc k) n acc h =
    let more = and_from (is_printable (digit_glyph false (n % 10))) (are_printable acc) (digit-printable n) h in
    go (n / 10 == 0) more (digits-printable k (n / 10) (digit_glyph false (n % 10) ∷ acc) more)
  where
    go : (b : Bool) → are_printable (digit_glyph false (n % 10) ∷ acc) ≡ true
        → are_printable (digits_onto k 10 false (n / 10) (digit_glyph false (n % 10) ∷ acc)) ≡ true
        → are_printable (cond b (digit_glyph false (n % 10) ∷ acc) (digits_onto k 10 false (n / 10) (digit_glyph false (n % 10) ∷ acc))) ≡ true
    go true all more = all
    go false all more = more

pub decimal-printable : (n : ℕ) → ArePrintable (decimal n)
unfolding digits
decimal-printable n = record { all = digits-printable 64 n [] refl }

pub signed-printable : (n : ℤ) → ArePrintable (signed_decimal n)
signed-printable (pos n) = decimal-printable n
signed-printable (negsuc n) = record { all = (decimal-printable (suc n)).all }

-- ---- hexadecimal

hex-digit-printable : (d : ℕ) → d < 16 → is_printable (hex_digit d) ≡ true
hex-digit-printable d h = go (nat_lt d 10) refl
  where
    go : (b : Bool) → nat_lt d 10 ≡ b → is_printable (cond b (48 + d) (87 + d)) ≡ true
    go true e = let few = ltb-true d 10 e in within (48 + d) (omega arith) (omega (arith, few))
    go false e = within (87 + d) (omega arith) (omega (arith, h))

hex-pair-printable : (b : ℕ) → b < 256 → are_printable (hex_pair b) ≡ true
hex-pair-printable b h =
    and_from (is_printable (hex_digit (b / 16))) (are_printable (hex_digit (b % 16) ∷ [])) (hex-digit-printable (b / 16) (omega (arith, h)))
    (and_from (is_printable (hex_digit (b % 16))) true (hex-digit-printable (b % 16) (omega arith)) refl)

hex-pairs-printable : (text : List ℕ) → AreBytes text → are_printable (flat_map hex_pair text) ≡ true
hex-pairs-printable [] h = refl
hex-pairs-printable (b ∷ text) h =
    printable-append (hex_pair b) (flat_map hex_pair text) (hex-pair-printable b h.0) (hex-pairs-printable text h.1)

pub hex-printable : (text : List ℕ) → AreBytes text → ArePrintable (hex_text text)
hex-printable [] h = record { all = refl }
hex-printable (b ∷ text) h = record { all = hex-pairs-printable (b ∷ text) h }

-- ---- any bytes

plain-printable : (x y z : Bool) → (x && (y && z)) ≡ true → (x && y) ≡ true
plain-printable true true z h = refl
plain-printable true false z h = h
plain-printable false y z h = h

escaped-byte-printable : (b : ℕ) → b < 256 → are_printable (escaped_byte b) ≡ true
escaped-byte-printable b h = go (is_plain_byte b) refl
  where
    go : (p : Bool) → is_plain_byte b ≡ p → are_printable (cond p (b ∷ []) (92 ∷ 120 ∷ hex_pair b)) ≡ true
    go true e = and_from (is_printable b) true (plain-printable (nat_le 32 b) (nat_lt b 127) (not (b == 92)) e) refl
    go false e = hex-pair-printable b h

escaped-by : (text : List ℕ) → AreBytes text → are_printable (escaped_text text) ≡ true
escaped-by [] h = refl
escaped-by (b ∷ text) h =
    printable-append (escaped_byte b) (escaped_text text) (escaped-byte-printable b h.0) (escaped-by text h.1)

pub escaped-printable : (text : List ℕ) → AreBytes text → ArePrintable (escaped_text text)
escaped-printable text h = record { all = escaped-by text h }

quoted-byte-printable : (c : ℕ) → is_printable c ≡ true → are_printable (quoted_byte c) ≡ true
quoted-byte-printable c h = go (c == 34 || c == 92)
  where
    go : (p : Bool) → are_printable (cond p (92 ∷ []) [] ++ c ∷ []) ≡ true
    go true = and_from (is_printable c) true h refl
    go false = and_from (is_printable c) true h refl

quoted-printable : (text : List ℕ) → are_printable text ≡ true → are_printable (flat_map quoted_byte text) ≡ true
quoted-printable [] h = refl
quoted-printable (c ∷ text) h = go (is_printable c) refl (quoted-printable text) h
  where
    go : (p : Bool) → is_printable c ≡ p → (are_printable text ≡ true → are_printable (flat_map quoted_byte text) ≡ true)
        → (p && are_printable text) ≡ true → are_printable (flat_map quoted_byte (c ∷ text)) ≡ true
    go true e next h = printable-append (quoted_byte c) (flat_map quoted_byte text) (quoted-byte-printable c e) (next h)
    go false e next h = absurd (let no : false ≡ true = h in cc)

pub string-printable : (text : List ℕ) → AreBytes text → ArePrintable (json_text text)
unfolding json_text
string-printable text h =
    let inside : ArePrintable (flat_map quoted_byte (escaped_text text)) = record { all = quoted-printable (escaped_text text) (escaped-by text h) } in
    join (join (word (codes "\"") refl) inside) (word (codes "\"") refl)
