use Rattle.ssh_keys.proofs.Imports.{◌≡◌, ◌++◌, ℕ, List, take, drop, length, sym, ap, ◌∙◌, eqb-true, take-append-drop, bytes_eq-Decides}
use Rattle.ssh_keys.proofs.Ed25519.{ed25519_front, ed25519_read}
use Rattle.ssh_keys.proofs.view.is_ed25519.Goals as goal

pub returns-in-Some : goal.returns-in-Some
returns-in-Some c = λ yes.
    let bytes : List ℕ = c.args.bytes.now in
    let cases = c.in-Some.ensures.cases in
    let front : take 19 bytes ≡ ed25519_front = (bytes_eq-Decides (take 19 bytes) ed25519_front).0 cases.0 in
    let whole : bytes ≡ ed25519_front ++ c.in-Some.public.now =
    sym (take-append-drop 19 bytes) ∙ ap (λ t. t ++ drop 19 bytes) front ∙ ap (λ t. ed25519_front ++ t) (sym cases.1) in
    ed25519_read bytes c.in-Some.public.now whole (eqb-true (length c.in-Some.public.now) 32 yes)
