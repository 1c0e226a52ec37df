-- What is at the end of a vector, and how long it is.
use Rattle.ssh_certs.proofs.Imports.{◌≡◌, ℕ, ◌≤◌, List, ◌++◌, length, take, refl, sym, ap, ◌∙◌, arith, length-append, take_at, take-take, Keeps}

-- where bytes and more after them are the front of a vector, the bytes are its front
pub keeps_more : (old more middle new : List ℕ) → middle ≡ old ++ more → Keeps middle new → Keeps old new
keeps_more old more middle new e keeps =
    let long : length old ≤ length middle = omega (arith, ap length e, length-append old more) in
    sym (take-take (length old) (length middle) new long) ∙ ap (λ (t : List ℕ). take (length old) t) (keeps ∙ e) ∙ take_at old more (length old) refl
