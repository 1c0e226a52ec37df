-- A value without a quote is written between quotes as it is.
use Rattle.ssh_review.proofs.Imports.{◌≡◌, ◌∙◌, ℕ, ◌==◌, false, cond, List, [], ◌∷◌, ◌++◌, ap, refl, list_any, or_parts, escaped}

pub unquoted_value : (text : List ℕ) → list_any (λ c. c == 34) text ≡ false → escaped text ≡ text
unquoted_value [] h = refl
unquoted_value (c ∷ cs) h =
    let parts = or_parts (c == 34) (list_any (λ d. d == 34) cs) h in
    ap (λ b. cond b (92 ∷ 34 ∷ []) (c ∷ []) ++ escaped cs) parts.0 ∙ ap (λ t. c ∷ t) (unquoted_value cs parts.1)
