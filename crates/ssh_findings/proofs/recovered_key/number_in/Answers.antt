use Rattle.ssh_findings.proofs.Imports.{rules, ◌≡◌, ◌∙◌, true, ap, sym, refl, number_of, is_least, is_not_negative, natural, least_of}
use Rattle.ssh_findings.specs.OpenSshBlob.{number_in}
use Rattle.ssh_findings.proofs.HeldKeysLeastLemmas.{IsLeastOf, least-is}
use Rattle.ssh_findings.proofs.recovered_key.number_in.Goals as goal

pub unreachable-requires : goal.unreachable-requires
unreachable-requires c =
    let is : IsLeastOf c.args.bytes.now (least_of c.args.bytes.now) = least-is c.args.bytes.now (sym c.if-not-is_not_negative.ensures) in
    let least : is_least c.least_of.result.now ≡ true = ap is_least c.least_of.ensures ∙ is.least in
    let sign : is_not_negative c.least_of.result.now ≡ true = ap is_not_negative c.least_of.ensures ∙ is.sign in
    search rules

pub returns : goal.returns
unfolding number_in
returns c =
    let is : IsLeastOf c.args.bytes.now (least_of c.args.bytes.now) = least-is c.args.bytes.now (sym c.if-not-is_not_negative.ensures) in
    let same : natural c.least_of.result.now ≡ natural c.args.bytes.now = ap natural c.least_of.ensures ∙ is.same in
    let sign : is_not_negative c.args.bytes.now ≡ true = sym c.if-not-is_not_negative.ensures in
    let number : number_of c.in-Some.number ≡ natural c.args.bytes.now = c.in-Some.ensures.value ∙ same in
    rw sign (rw number refl)
