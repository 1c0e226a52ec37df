-- What is at the end of a text in parts after more was added.
use Rattle.ssh_print.proofs.Imports.{◌≡◌, ◌∙◌, ◌++◌, ℕ, List, ap, sym, append_assoc}

-- plain bytes, what may have parts, and plain bytes after that
pub plain_around : (p r0 r1 q r2 r3 a b d : List ℕ) → r1 ≡ r0 ++ a → q ++ r2 ≡ (p ++ r1) ++ b → r3 ≡ r2 ++ d
    → q ++ r3 ≡ (p ++ r0) ++ ((a ++ b) ++ d)
plain_around p r0 r1 q r2 r3 a b d e f h =
    rw h (sym (append_assoc q r2 d) ∙ ap (λ l. l ++ d) f ∙ rw e (simp append_assoc))
