-- The texts and numbers of a page are printable, and so is its HTML but for the ends of its lines.
use Rattle.std.proofs.Common.{◌≡◌, ◌∙◌, ℕ, zero, suc, ◌+◌, ◌<◌, ◌≤◌, ◌==◌, ◌/◌, ◌%◌, nat_le, nat_lt, Bool, true, false, not, ◌&&◌, cond, List, [], ◌∷◌, ◌++◌, refl, ap, arith}
use Rattle.std.specs.Fmt.{decimal, digit_glyph, digits, digits_onto}
use Rattle.std.specs.Prelude.{codes}
use Rattle.std.proofs.lemmas.Bool.{and_from, and_parts, le-leb, lt-ltb, ltb-true}
use Rattle.std.proofs.lemmas.List.Folds.{list_all-append}
use Rattle.ssh_offers.specs.FirstRefusal.{AreBytes}
use Rattle.ssh_print.specs.Texts.{escaped_byte, escaped_text, hex_digit, hex_pair, is_plain_byte}
use Rattle.ssh_page.specs.Documents.{Document, nothing, put, say, tell, copied, count, ◌&◌, IsOfBytes, html}
use Rattle.ssh_page.specs.Expanding.{byte_html, text_html}
use Rattle.ssh_page.specs.Shown.{are_printable, are_shown, is_printable, is_shown}
use Rattle.ssh_page.proofs.PieceLemmas.{piece-printable}

printable : (c : ℕ) → 32 ≤ c → c < 127 → is_printable c ≡ true
printable c h k = and_from (nat_le 32 c) (nat_lt c 127) (le-leb 32 c h) (lt-ltb c 127 k)

-- a printable byte stands for no piece
pub printable-low : (c : ℕ) → is_printable c ≡ true → nat_lt c 128 ≡ true
printable-low c h =
    let few = ltb-true c 127 (and_parts (nat_le 32 c) (nat_lt c 127) h).1 in
    lt-ltb c 128 (omega (arith, few))

printable-append : (a b : List ℕ) → are_printable a ≡ true → are_printable b ≡ true → are_printable (a ++ b) ≡ true
printable-append a b h k = list_all-append is_printable a b ∙ ap (λ t. t && are_printable b) h ∙ k

-- ---- numbers

digit-printable : (n : ℕ) → is_printable (digit_glyph false (n % 10)) ≡ true
digit-printable n =
    let small : nat_lt (n % 10) 10 ≡ true = lt-ltb (n % 10) 10 (omega arith) in
    rw small (printable (48 + n % 10) (omega arith) (omega arith))

digits-printable : (k n : ℕ) (acc : List ℕ) → are_printable acc ≡ true → are_printable (digits_onto k 10 false n acc) ≡ true
digits-printable zero n acc h = h
digits-printable (suc k) n acc h =
    let more = and_from (is_printable (digit_glyph false (n % 10))) (are_printable acc) (digit-printable n) h in
    go (n / 10 == 0) more (digits-printable k (n / 10) (digit_glyph false (n % 10) ∷ acc) more)
  where
    go : (b : Bool) → are_printable (digit_glyph false (n % 10) ∷ acc) ≡ true
        → are_printable (digits_onto k 10 false (n / 10) (digit_glyph false (n % 10) ∷ acc)) ≡ true
        → are_printable (cond b (digit_glyph false (n % 10) ∷ acc) (digits_onto k 10 false (n / 10) (digit_glyph false (n % 10) ∷ acc))) ≡ true
    go true all more = all
    go false all more = more

pub decimal-printable : (n : ℕ) → are_printable (decimal n) ≡ true
unfolding digits
decimal-printable n = digits-printable 64 n [] refl

-- ---- texts

hex-digit-printable : (d : ℕ) → d < 16 → is_printable (hex_digit d) ≡ true
hex-digit-printable d h = go (nat_lt d 10) refl
  where
    go : (b : Bool) → nat_lt d 10 ≡ b → is_printable (cond b (48 + d) (87 + d)) ≡ true
    go true e = let few = ltb-true d 10 e in printable (48 + d) (omega arith) (omega (arith, few))
    go false e = printable (87 + d) (omega arith) (omega (arith, h))

hex-pair-printable : (b : ℕ) → b < 256 → are_printable (hex_pair b) ≡ true
hex-pair-printable b h =
    and_from (is_printable (hex_digit (b / 16))) (are_printable (hex_digit (b % 16) ∷ [])) (hex-digit-printable (b / 16) (omega (arith, h)))
    (and_from (is_printable (hex_digit (b % 16))) true (hex-digit-printable (b % 16) (omega arith)) refl)

plain-printable : (b : ℕ) → is_plain_byte b ≡ true → is_printable b ≡ true
plain-printable b h =
    let upper = and_parts (nat_le 32 b) (nat_lt b 127 && not (b == 92)) h in
    and_from (nat_le 32 b) (nat_lt b 127) upper.0 (and_parts (nat_lt b 127) (not (b == 92)) upper.1).0

escaped-byte-printable : (b : ℕ) → b < 256 → are_printable (escaped_byte b) ≡ true
escaped-byte-printable b h = go (is_plain_byte b) refl
  where
    go : (p : Bool) → is_plain_byte b ≡ p → are_printable (cond p (b ∷ []) (92 ∷ 120 ∷ hex_pair b)) ≡ true
    go true e = and_from (is_printable b) true (plain-printable b e) refl
    go false e = hex-pair-printable b h

pub escaped-printable : (text : List ℕ) → AreBytes text → are_printable (escaped_text text) ≡ true
escaped-printable [] h = refl
escaped-printable (b ∷ text) h =
    printable-append (escaped_byte b) (escaped_text text) (escaped-byte-printable b h.0) (escaped-printable text h.1)

-- ---- the HTML

shown-append : (a b : List ℕ) → are_shown a ≡ true → are_shown b ≡ true → are_shown (a ++ b) ≡ true
shown-append a b h k = list_all-append is_shown a b ∙ ap (λ t. t && are_shown b) h ∙ k

byte-shown : (c : ℕ) → is_printable c ≡ true → are_shown (byte_html c) ≡ true
byte-shown c h = go (c == 38) (c == 60) (c == 62) (c == 34) (c == 39)
  where
    go : (a b d e f : Bool)
        → are_shown (cond a (codes "&amp;") (cond b (codes "&lt;") (cond d (codes "&gt;") (cond e (codes "&quot;") (cond f (codes "&#39;") (c ∷ [])))))) ≡ true
    go true b d e f = refl
    go false true d e f = refl
    go false false true e f = refl
    go false false false true f = refl
    go false false false false true = refl
    go false false false false false = rw h refl

text-shown : (text : List ℕ) → are_printable text ≡ true → are_shown (text_html text) ≡ true
text-shown [] h = refl
text-shown (c ∷ text) h =
    let both = and_parts (is_printable c) (are_printable text) h in
    shown-append (byte_html c) (text_html text) (byte-shown c both.0) (text-shown text both.1)

pub html-printable : (d : Document) → IsOfBytes d → are_shown (html d) ≡ true
html-printable nothing h = refl
html-printable (put p) h = piece-printable p
html-printable (say text) h = text-shown (escaped_text text) (escaped-printable text h)
html-printable (tell text) h =
    shown-append (text_html (escaped_text text)) (codes "</code>") (text-shown (escaped_text text) (escaped-printable text h)) refl
html-printable (copied text) h = shown-append (text_html text) (codes "</code>") (text-shown text h) refl
html-printable (count n) h = text-shown (decimal n) (decimal-printable n)
html-printable (a & b) h = shown-append (html a) (html b) (html-printable a h.0) (html-printable b h.1)
