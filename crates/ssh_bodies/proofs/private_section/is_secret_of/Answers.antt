use Rattle.ssh_bodies.proofs.Imports.{take_all, length-drop, arith, ℕ, ◌-◌, List, rules, ◌≡◌, length, drop, true, ap, sym, ◌∙◌, Bool, eqb, bytes_eq}
use Rattle.std.proofs.Common.{◌&&◌}
use Rattle.ssh_bodies.proofs.private_section.is_secret_of.Goals as goal

pub returns-then-secret-eq64 : goal.returns-then-secret-eq64
returns-then-secret-eq64 c =
    let long : eqb (length c.args.secret.now) 64 ≡ true = search rules in
    let same : c.eq.result ≡ bytes_eq (drop 32 c.args.secret.now) c.args.public.now = c.eq.ensures ∙ ap (λ (t : List ℕ). bytes_eq t c.args.public.now) (take_all (length c.args.secret.now - 32) (drop 32 c.args.secret.now) (omega (arith, length-drop 32 c.args.secret.now))) in
    same ∙ ap (λ (b : Bool). b && bytes_eq (drop 32 c.args.secret.now) c.args.public.now) (sym long)
