-- What stands at the front of a vector that is written to.
use Rattle.ssh_rewriting.proofs.Imports.{◌≡◌, ℕ, ◌≤◌, List, ◌++◌, length, take, drop, refl, sym, ap, ◌∙◌, arith, take_at, take-append-drop, take-take, Keeps}
use Rattle.std.proofs.lemmas.List.{length-append}

-- what is kept after more is kept
keeps_more : (old more middle new : List ℕ) → middle ≡ old ++ more → Keeps middle new → Keeps old new
keeps_more old more middle new e keeps =
    let long : length old ≤ length middle = omega (arith, ap length e, length-append old more) in
    sym (take-take (length old) (length middle) new long) ∙ ap (λ (t : List ℕ). take (length old) t) (keeps ∙ e) ∙ take_at old more (length old) refl

-- what is kept, and then more, and then kept again
pub keeps_on : (old middle more next new : List ℕ) → Keeps old middle → next ≡ middle ++ more → Keeps next new → Keeps old new
keeps_on old middle more next new before e after =
    let cut = sym (take-append-drop (length old) middle) ∙ ap (λ (t : List ℕ). t ++ drop (length old) middle) before in
    keeps_more old (drop (length old) middle) middle new cut (keeps_more middle more next new e after)
