use Rattle.ssh_certs.proofs.Imports.{◌≡◌, List, ℕ, ap, sym, ◌∙◌, arith, same_text, bytes_decides, flat_map, bytes_eq, cert_option_at, options_in_packed}
use Rattle.ssh_certs.proofs.Items.{spelled_option, FitsOption, option_item, unpacked}
use Rattle.ssh_certs.proofs.packed.equal_options.Goals as goal

-- each string packs its items
one : (c : goal.After-eq) → c.args.a.now ≡ flat_map spelled_option (options_in_packed c.args.a.now)
one c = unpacked spelled_option FitsOption cert_option_at option_item c.args.a.now (λ i. omega (arith, c.type_inv.a i)) c.requires.a

two : (c : goal.After-eq) → c.args.b.now ≡ flat_map spelled_option (options_in_packed c.args.b.now)
two c = unpacked spelled_option FitsOption cert_option_at option_item c.args.b.now (λ i. omega (arith, c.type_inv.b i)) c.requires.b

pub returns-clause-packed : goal.returns-clause-packed
returns-clause-packed c =
    c.eq.ensures
    ∙ ap (λ (s : List ℕ). bytes_eq s c.args.b.now) (one c)
    ∙ ap (λ (t : List ℕ). bytes_eq (flat_map spelled_option (options_in_packed c.args.a.now)) t) (two c)

pub returns-clause-same : goal.returns-clause-same
returns-clause-same c =
    let a = c.args.a.now in
    let b = c.args.b.now in (
      λ yes. ap options_in_packed (same_text a b (sym yes ∙ c.eq.ensures)),
      λ same. c.eq.ensures ∙ (bytes_decides a b).1 (one c ∙ ap (λ xs. flat_map spelled_option xs) same ∙ sym (two c)),
    )
