use Rattle.ssh_certs.proofs.Imports.{◌≡◌, ◌∙◌, List, ℕ, ap, sym, list_any, bytes_eq}
use Rattle.ssh_certs.proofs.options.PrincipalIndex.has.Goals as goal

pub returns : goal.returns
returns c =
    let name = c.args.name.now in
    c.contains_key.ensures ∙ c.self.invariant name ∙ ap (λ (l : List (List ℕ)). list_any (λ x. bytes_eq name x) l) c.self.view_is
