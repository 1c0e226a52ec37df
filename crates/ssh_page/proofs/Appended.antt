-- What two calls in a row append.
use Rattle.std.proofs.Common.{◌≡◌, ◌∙◌, ℕ, List, ◌++◌, ap, append_assoc}

pub both : (before first second between after : List ℕ) → between ≡ before ++ first → after ≡ between ++ second
    → after ≡ before ++ (first ++ second)
both before first second between after e f = f ∙ ap (λ s. s ++ second) e ∙ append_assoc before first second
