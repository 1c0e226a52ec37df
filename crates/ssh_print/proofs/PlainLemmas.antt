-- A text of plain bytes is printed as it is, and one of verbatim bytes is itself in a string.
use Rattle.ssh_print.proofs.Imports.{◌≡◌, ◌∙◌, ℕ, nat_le, ◌==◌, Bool, true, false, not, ◌&&◌, ◌||◌, cond, List, [], ◌∷◌, ◌++◌, ap, refl, flat_map, list_all, and_from, and_parts, escaped_text, hex_pair, is_plain_byte, is_verbatim, quoted_byte}
use Rattle.std.proofs.Common.{nat_lt}

pub plain_shown : (text : List ℕ) → list_all is_plain_byte text ≡ true → escaped_text text ≡ text
plain_shown [] h = refl
plain_shown (c ∷ cs) h =
    let both = and_parts (is_plain_byte c) (list_all is_plain_byte cs) h in
    ap (λ b. cond b (c ∷ []) (92 ∷ 120 ∷ hex_pair c) ++ escaped_text cs) both.0 ∙ ap (λ bs. c ∷ bs) (plain_shown cs both.1)

verbatim-parts : (low high backslash quote : Bool) → ((low && (high && not backslash)) && not quote) ≡ true
    → ((low && (high && not backslash)) ≡ true) × ((quote || backslash) ≡ false)
verbatim-parts true true false false h = (refl, refl)
verbatim-parts true true false true h = cc
verbatim-parts true true true quote h = cc
verbatim-parts true false backslash quote h = cc
verbatim-parts false high backslash quote h = cc

-- a verbatim byte is plain, and has no backslash before it
verbatim-byte : (c : ℕ) → is_verbatim c ≡ true → (is_plain_byte c ≡ true) × ((c == 34 || c == 92) ≡ false)
verbatim-byte c h = verbatim-parts (nat_le 32 c) (nat_lt c 127) (c == 92) (c == 34) h

verbatim-plain : (text : List ℕ) → list_all is_verbatim text ≡ true → list_all is_plain_byte text ≡ true
verbatim-plain [] h = refl
verbatim-plain (c ∷ cs) h =
    let both = and_parts (is_verbatim c) (list_all is_verbatim cs) h in
    and_from (is_plain_byte c) (list_all is_plain_byte cs) (verbatim-byte c both.0).0 (verbatim-plain cs both.1)

verbatim-quoted : (text : List ℕ) → list_all is_verbatim text ≡ true → flat_map quoted_byte text ≡ text
verbatim-quoted [] h = refl
verbatim-quoted (c ∷ cs) h =
    let both = and_parts (is_verbatim c) (list_all is_verbatim cs) h in
    ap (λ b. (cond b (92 ∷ []) [] ++ c ∷ []) ++ flat_map quoted_byte cs) (verbatim-byte c both.0).1
    ∙ ap (λ bs. c ∷ bs) (verbatim-quoted cs both.1)

pub verbatim_shown : (text : List ℕ) → list_all is_verbatim text ≡ true → flat_map quoted_byte (escaped_text text) ≡ text
verbatim_shown text h = ap (λ t. flat_map quoted_byte t) (plain_shown text (verbatim-plain text h)) ∙ verbatim-quoted text h
