-- Options with commas between them, from the first one on; texts that are written one after the other.
use Rattle.ssh_rewriting.proofs.Imports.{◌≡◌, ℕ, false, nat_eq, List, [], ◌∷◌, ◌++◌, length, map, Ok, Err, sym, ap, ◌∙◌, append_assoc, append-nil, Result, if◌then◌else◌, is_ok, OnOk, join_with_byte, flat_map, AuthOption, after_comma, comment_part, option_text, options_part}

joined_from : (first : AuthOption) (others : List AuthOption)
    → join_with_byte 44 (map option_text (first ∷ others)) ≡ option_text first ++ flat_map after_comma others
joined_from first [] = sym (append-nil (option_text first))
joined_from first (next ∷ others) = ap (λ t. option_text first ++ 44 ∷ t) (joined_from next others)

-- the first option, each other one after a comma, and a space, written one after the other
pub part_from : (options others : List AuthOption) (first : AuthOption) (old a b new : List ℕ) → options ≡ first ∷ others
    → a ≡ old ++ option_text first → b ≡ a ++ flat_map after_comma others → new ≡ b ++ 32 ∷ [] → new ≡ old ++ options_part options
part_from options others first old a b new is front more end =
    let joined = join_with_byte 44 (map option_text (first ∷ others)) in
    let grouped : ((old ++ option_text first) ++ flat_map after_comma others) ++ 32 ∷ []
    ≡ old ++ ((option_text first ++ flat_map after_comma others) ++ 32 ∷ []) = simp append_assoc in
    end ∙ ap (λ t. t ++ 32 ∷ []) (more ∙ ap (λ t. t ++ flat_map after_comma others) front) ∙ grouped
    ∙ ap (λ t. old ++ (t ++ 32 ∷ [])) (sym (joined_from first others)) ∙ ap (λ o. old ++ options_part o) (sym is)

-- ---- what an append that may fail has written

pub on_written : {T E : Type 0} (r : Result T E) (old text wanted new : List ℕ) → new ≡ (if is_ok r then old ++ text else old)
    → text ≡ wanted → OnOk r (new ≡ old ++ wanted)
on_written (Ok v) old text wanted new e is = e ∙ ap (λ t. old ++ t) is
on_written (Err e') old text wanted new e is = tt

-- a comment after its space
pub on_comment : {T E : Type 0} (r : Result T E) (comment old spaced new : List ℕ) → false ≡ nat_eq (length comment) 0
    → spaced ≡ old ++ 32 ∷ [] → new ≡ (if is_ok r then spaced ++ comment else spaced) → OnOk r (new ≡ old ++ comment_part comment)
on_comment (Err e') comment old spaced new some one e = tt
on_comment (Ok v) [] old spaced new some one e = cc some
on_comment (Ok v) (c ∷ cs) old spaced new some one e =
    let regroup : (old ++ 32 ∷ []) ++ (c ∷ cs) ≡ old ++ 32 ∷ c ∷ cs = simp append_assoc in
    e ∙ ap (λ t. t ++ (c ∷ cs)) one ∙ regroup

-- three texts
pub three_written : (a b c old one two new : List ℕ) → one ≡ old ++ a → two ≡ one ++ b → new ≡ two ++ c → new ≡ old ++ a ++ b ++ c
three_written a b c old one two new e f g = g ∙ ap (λ t. t ++ c) (f ∙ ap (λ t. t ++ b) e)
