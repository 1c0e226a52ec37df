use Rattle.ssh_certs.proofs.Imports.{◌≡◌, ◌∙◌, ◌||◌, ◌∷◌, List, ℕ, ap, sym, list_any, bytes_eq, principals_left, holds}
use Rattle.ssh_certs.proofs.HoldsLemmas.{put, turned}
use Rattle.ssh_certs.proofs.options.in_order.Goals as goal

pub loop-name-preserved : goal.loop-name-preserved
loop-name-preserved c = (
  tt,
  tt,
  λ name.
      let left = principals_left c.next.new.self in
      let kept = c.loop-name.names in
      let steps : principals_left c.loop-name.name-iterator ≡ c.in-Some.name.now ∷ left = c.in-Some.ensures.steps in
      ap (λ b. list_any (λ x. bytes_eq name x) left || b) (put c.in-Some.name.now kept c.insert.new.self c.in_ok-insert.ensures.updates name)
      ∙ turned (list_any (λ x. bytes_eq name x) left) (bytes_eq name c.in-Some.name.now) (holds kept name)
      ∙ ap (λ l. list_any (λ x. bytes_eq name x) l || holds kept name) (sym steps)
      ∙ c.loop-name.invariant.2 name,
)
