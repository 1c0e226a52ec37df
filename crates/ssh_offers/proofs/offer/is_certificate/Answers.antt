use Rattle.ssh_offers.proofs.Imports.{◌≡◌, true, false, sym, arith, rules}
use Rattle.ssh_offers.specs.Offer.{is_certificate_blob}
use Rattle.ssh_offers.proofs.NamedLemmas.{certificate-named, named-certificate}
use Rattle.ssh_offers.proofs.offer.is_certificate.Goals as goal

pub returns-in-Certificate-clause-named : goal.returns-in-Certificate-clause-named
unfolding is_certificate_blob
returns-in-Certificate-clause-named c =
    let is : true ≡ is_certificate_blob c.args.blob.now = search rules in
    λ h. certificate-named c.args.blob.now (λ i. omega (arith, c.type_inv.blob i)) (sym is)

pub returns-in_default : goal.returns-in_default
unfolding is_certificate_blob
returns-in_default c =
    let is : false ≡ is_certificate_blob c.args.blob.now = search rules in
    record { exact = is; named = λ h. absurd (cc); other = λ h. named-certificate c.args.blob.now (sym is) }
