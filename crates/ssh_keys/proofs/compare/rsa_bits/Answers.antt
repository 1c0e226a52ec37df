use Rattle.ssh_keys.proofs.Imports.{◌≡◌, ◌≤◌, ℕ, List, length, Some, sym, ap, subst, ◌∙◌, is_least, natural, number_of, mpint_bytes-are_least, IsBitCount, IsRsaSize, PublicKey, rsa, longest, IsKey}
use Rattle.ssh_keys.proofs.Blobs.{rsa_short}
use Rattle.ssh_keys.proofs.compare.rsa_bits.Goals as goal

pub bit_count-requires-clause-least : goal.bit_count-requires-clause-least
bit_count-requires-clause-least c = ap is_least c.least_bytes.ensures ∙ (mpint_bytes-are_least (number_of c.in-Rsa.modulus)).least

pub bit_count-requires-clause-short : goal.bit_count-requires-clause-short
bit_count-requires-clause-short c =
    let is : IsKey (rsa (number_of c.in-Rsa.exponent) (number_of c.in-Rsa.modulus)) = subst (λ (k : PublicKey). IsKey k) (sym c.in-Rsa.ensures) c.args.key.now.is_key in
    subst (λ (t : List ℕ). length t ≤ longest) (sym c.least_bytes.ensures) (rsa_short (number_of c.in-Rsa.exponent) (number_of c.in-Rsa.modulus) is).2

pub returns-in-Rsa : goal.returns-in-Rsa
returns-in-Rsa c =
    let value : natural c.least_bytes.result.now ≡ number_of c.in-Rsa.modulus = ap natural c.least_bytes.ensures ∙ (mpint_bytes-are_least (number_of c.in-Rsa.modulus)).value in
    let bits : IsBitCount (number_of c.in-Rsa.modulus) c.bit_count.result = subst (λ (n : ℕ). IsBitCount n c.bit_count.result) value c.bit_count.ensures in
    subst (λ (k : PublicKey). IsRsaSize k (Some c.bit_count.result)) c.in-Rsa.ensures bits
