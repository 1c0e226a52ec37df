-- The page of a document is its HTML, which is printable, and its delimiters are those of its pieces.
use Rattle.std.proofs.Common.{◌≡◌, ◌∙◌, ℕ, ◌-◌, ◌==◌, nat_lt, Bool, true, false, not, cond, List, [], ◌∷◌, ◌++◌, refl, ap, sym}
use Rattle.std.specs.Fmt.{decimal}
use Rattle.std.specs.Prelude.{codes}
use Rattle.std.proofs.lemmas.Bool.{and_parts}
use Rattle.std.proofs.lemmas.Grind.{flat_map-append}
use Rattle.std.proofs.lemmas.List.{append-nil}
use Rattle.std.proofs.lemmas.List.Elements.{filter-append}
use Rattle.ssh_print.specs.Texts.{escaped_text}
use Rattle.ssh_page.specs.declared.piece.Piece.TheVariants.{CodeEnd}
use Rattle.ssh_page.specs.Documents.{Document, nothing, put, say, tell, copied, count, ◌&◌, IsOfBytes, html, marks}
use Rattle.ssh_page.specs.Expanding.{byte_html, delimiters, is_delimiter, mark_html, page, text_html, without_text}
use Rattle.ssh_page.specs.Pieces.{all_markup, mark, markup_at}
use Rattle.ssh_page.specs.Shown.{are_printable, are_shown, is_printable}
use Rattle.ssh_page.proofs.PieceLemmas.{piece-shown}
use Rattle.ssh_page.proofs.PrintableLemmas.{decimal-printable, escaped-printable, html-printable, printable-low}

-- ---- bytes of text are no pieces

text-page : (text : List ℕ) → are_printable text ≡ true → page text ≡ text_html text
text-page [] h = refl
text-page (c ∷ text) h =
    let both = and_parts (is_printable c) (are_printable text) h in
    ap (λ b. cond b (byte_html c) (markup_at (c - 128)) ++ page text) (printable-low c both.0)
    ∙ ap (λ bytes. byte_html c ++ bytes) (text-page text both.1)

-- ---- the page of a document

reported-page : (text : List ℕ) → are_printable text ≡ true → page (marks (put CodeEnd)) ≡ codes "</code>"
    → page (text ++ mark CodeEnd ∷ []) ≡ text_html text ++ codes "</code>"
reported-page text h e =
    flat_map-append mark_html text (mark CodeEnd ∷ []) ∙ ap (λ bytes. bytes ++ page (mark CodeEnd ∷ [])) (text-page text h)
    ∙ ap (λ bytes. text_html text ++ bytes) e

code-ends : page (marks (put CodeEnd)) ≡ codes "</code>"
unfolding mark markup_at all_markup
code-ends = refl

copied-html : (text : List ℕ) → are_printable text ≡ true → page (marks (copied text)) ≡ html (copied text)
unfolding mark markup_at all_markup
copied-html text h = ap (λ bytes. codes "<code>" ++ bytes) (reported-page text h code-ends)

pub page-html : (d : Document) → IsOfBytes d → page (marks d) ≡ html d
page-html nothing h = refl
page-html (put p) h = append-nil (mark_html (mark p)) ∙ piece-shown p
page-html (say text) h = text-page (escaped_text text) (escaped-printable text h)
page-html (tell text) h = copied-html (escaped_text text) (escaped-printable text h)
page-html (copied text) h = copied-html text h
page-html (count n) h = text-page (decimal n) (decimal-printable n)
page-html (a & b) h =
    flat_map-append mark_html (marks a) (marks b) ∙ ap (λ bytes. bytes ++ page (marks b)) (page-html a h.0)
    ∙ ap (λ bytes. html a ++ bytes) (page-html b h.1)

pub page-printable : (d : Document) → IsOfBytes d → are_shown (page (marks d)) ≡ true
page-printable d h = ap are_shown (page-html d h) ∙ html-printable d h

-- ---- delimiters

byte-undelimited : (c : ℕ) → delimiters (byte_html c) ≡ []
byte-undelimited c = go (c == 38) (c == 60) (c == 62) (c == 34) (c == 39) refl refl refl refl
  where
    go : (a b d e f : Bool) → (c == 60) ≡ b → (c == 62) ≡ d → (c == 34) ≡ e → (c == 39) ≡ f
        → delimiters (cond a (codes "&amp;") (cond b (codes "&lt;") (cond d (codes "&gt;") (cond e (codes "&quot;") (cond f (codes "&#39;") (c ∷ [])))))) ≡ []
    go true b d e f p q r s = refl
    go false true d e f p q r s = refl
    go false false true e f p q r s = refl
    go false false false true f p q r s = refl
    go false false false false true p q r s = refl
    go false false false false false p q r s = rw (p, q, r, s) refl

pub page-delimited : (m : List ℕ) → delimiters (page m) ≡ delimiters (page (without_text m))
page-delimited [] = refl
page-delimited (c ∷ m) = go (nat_lt c 128) refl (page-delimited m)
  where
    go : (b : Bool) → nat_lt c 128 ≡ b → delimiters (page m) ≡ delimiters (page (without_text m))
        → delimiters (cond b (byte_html c) (markup_at (c - 128)) ++ page m)
        ≡ delimiters (page (cond (not b) (c ∷ without_text m) (without_text m)))
    go true e h =
        filter-append is_delimiter (byte_html c) (page m) ∙ ap (λ ds. ds ++ delimiters (page m)) (byte-undelimited c) ∙ h
    go false e h =
        filter-append is_delimiter (markup_at (c - 128)) (page m) ∙ ap (λ ds. delimiters (markup_at (c - 128)) ++ ds) h
        ∙ sym (filter-append is_delimiter (markup_at (c - 128)) (page (without_text m)))
        ∙ ap (λ b. delimiters (cond b (byte_html c) (markup_at (c - 128)) ++ page (without_text m))) (sym e)
