use Rattle.ssh_certs.proofs.Imports.{◌≡◌, List, ℕ, ap, sym, ◌∙◌, arith, same_text, bytes_decides, flat_map, bytes_eq, string, names_in_packed}
use Rattle.ssh_wire.specs.Reading.{string_at}
use Rattle.ssh_certs.proofs.Items.{FitsString, string_item, unpacked}
use Rattle.ssh_certs.proofs.packed.equal_names.Goals as goal

-- each string packs its items
one : (c : goal.After-eq) → c.args.a.now ≡ flat_map string (names_in_packed c.args.a.now)
one c = unpacked string FitsString string_at string_item c.args.a.now (λ i. omega (arith, c.type_inv.a i)) c.requires.a

two : (c : goal.After-eq) → c.args.b.now ≡ flat_map string (names_in_packed c.args.b.now)
two c = unpacked string FitsString string_at string_item c.args.b.now (λ i. omega (arith, c.type_inv.b i)) c.requires.b

pub returns-clause-packed : goal.returns-clause-packed
returns-clause-packed c =
    c.eq.ensures
    ∙ ap (λ (s : List ℕ). bytes_eq s c.args.b.now) (one c)
    ∙ ap (λ (t : List ℕ). bytes_eq (flat_map string (names_in_packed c.args.a.now)) t) (two c)

pub returns-clause-same : goal.returns-clause-same
returns-clause-same c =
    let a = c.args.a.now in
    let b = c.args.b.now in (
      λ yes. ap names_in_packed (same_text a b (sym yes ∙ c.eq.ensures)),
      λ same. c.eq.ensures ∙ (bytes_decides a b).1 (one c ∙ ap (λ xs. flat_map string xs) same ∙ sym (two c)),
    )
