-- Parts of a text are no longer than it.
use Rattle.ssh_entries.proofs.Imports.{ℕ, suc, ◌≤◌, Bool, true, false, cond, List, [], ◌∷◌, length, drop, ◌==◌, arith, is_blank, without_last, skip_blanks, first_word, after_word, next_field}
use Rattle.std.proofs.Common.{length-drop}

step-skip : (b : Bool) (c : ℕ) (cs rest : List ℕ) → length rest ≤ length cs → length (cond b rest (c ∷ cs)) ≤ suc (length cs)
step-skip true c cs rest h = omega arith
step-skip false c cs rest h = omega arith

pub length_skip : (text : List ℕ) → length (skip_blanks text) ≤ length text
length_skip [] = omega arith
length_skip (c ∷ cs) = step-skip (is_blank c) c cs (skip_blanks cs) (length_skip cs)

step-word : (b : Bool) (c : ℕ) (cs rest : List ℕ) → length rest ≤ length cs → length (cond b [] (c ∷ rest)) ≤ suc (length cs)
step-word true c cs rest h = omega arith
step-word false c cs rest h = omega arith

pub length-word : (text : List ℕ) → length (first_word text) ≤ length text
length-word [] = omega arith
length-word (c ∷ cs) = step-word (is_blank c) c cs (first_word cs) (length-word cs)

step-after : (b : Bool) (c : ℕ) (cs rest : List ℕ) → length rest ≤ length cs → length (cond b (c ∷ cs) rest) ≤ suc (length cs)
step-after true c cs rest h = omega arith
step-after false c cs rest h = omega arith

pub length_after : (text : List ℕ) → length (after_word text) ≤ length text
length_after [] = omega arith
length_after (c ∷ cs) = step-after (is_blank c) c cs (after_word cs) (length_after cs)

step-last : (b : Bool) (c : ℕ) → length (cond b [] (c ∷ [])) ≤ 1
step-last true c = omega arith
step-last false c = omega arith

pub length-last : (b : ℕ) (text : List ℕ) → length (without_last b text) ≤ length text
length-last b [] = omega arith
length-last b (c ∷ []) = step-last (c == b) c
length-last b (c ∷ d ∷ cs) = let h = length-last b (d ∷ cs) in omega arith

pub length_rest : (n : ℕ) (text : List ℕ) → length (skip_blanks (drop n text)) ≤ length text
length_rest n text =
    let a = length_skip (drop n text) in
    let b = length-drop n text in
    omega arith

pub length_body : (b : ℕ) (text : List ℕ) → length (skip_blanks (without_last b text)) ≤ length text
length_body b text =
    let h = length_skip (without_last b text) in
    let k = length-last b text in
    omega arith

pub length_next : (text : List ℕ) → length (next_field text) ≤ length text
length_next text =
    let a = length_after text in
    let b = length_skip (after_word text) in
    omega arith
