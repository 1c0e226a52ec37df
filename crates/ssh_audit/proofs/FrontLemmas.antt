-- What there is room for.
use Rattle.std.proofs.Common.{◌≡◌, ◌∙◌, ◌+◌, ◌++◌, ℕ, List, ap, length, min, sym, take}
use Rattle.std.proofs.lemmas.List.{take_min}
use Rattle.std.proofs.Math.Seq.{take-append-add}

-- with the front of a text that there is room for, it is the front of both
pub filled : (shown text : List ℕ) (rest : ℕ) → length shown + rest ≡ 64 → shown ++ take (min rest (length text)) text ≡ take 64 (shown ++ text)
filled shown text rest whole =
    ap (λ front. shown ++ front) (take_min rest text)
    ∙ (sym (take-append-add shown text rest) ∙ ap (λ n. take n (shown ++ text)) whole)
