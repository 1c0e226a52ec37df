-- A reader of HTML reads a text back.
use Rattle.std.proofs.Common.{◌≡◌, ◌∙◌, ℕ, ◌==◌, Bool, true, false, cond, List, [], ◌∷◌, ◌++◌, refl, ap, sym}
use Rattle.std.specs.Prelude.{None, codes}
use Rattle.std.proofs.lemmas.Bool.{eqb-true}
use Rattle.ssh_page.specs.Expanding.{byte_html, text_html}
use Rattle.ssh_page.specs.Reading.{read_after, read_text}

byte-read : (c : ℕ) (rest : List ℕ) → read_after None (byte_html c ++ rest) ≡ c ∷ read_after None rest
byte-read c rest = go (c == 38) (c == 60) (c == 62) (c == 34) (c == 39) refl refl refl refl refl
  where
    is : (n : ℕ) → (c == n) ≡ true → n ∷ read_after None rest ≡ c ∷ read_after None rest
    is n h = ap (λ d. d ∷ read_after None rest) (sym (eqb-true c n h))

    go : (a b d e f : Bool) → (c == 38) ≡ a → (c == 60) ≡ b → (c == 62) ≡ d → (c == 34) ≡ e → (c == 39) ≡ f
        → read_after None (cond a (codes "&amp;") (cond b (codes "&lt;") (cond d (codes "&gt;") (cond e (codes "&quot;") (cond f (codes "&#39;") (c ∷ []))))) ++ rest)
        ≡ c ∷ read_after None rest
    go true b d e f o p q r s = is 38 o
    go false true d e f o p q r s = is 60 p
    go false false true e f o p q r s = is 62 q
    go false false false true f o p q r s = is 34 r
    go false false false false true o p q r s = is 39 s
    go false false false false false o p q r s = rw o refl

pub text-read : (text : List ℕ) → read_text (text_html text) ≡ text
text-read [] = refl
text-read (c ∷ text) = byte-read c (text_html text) ∙ ap (λ rest. c ∷ rest) (text-read text)
