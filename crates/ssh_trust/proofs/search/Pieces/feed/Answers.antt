use Rattle.ssh_trust.proofs.Imports.{arith, refl}
use Rattle.ssh_trust.proofs.CandidateLemmas.{bytes_from}
use Rattle.ssh_trust.proofs.search.Pieces.feed.Goals as goal

pub returns-in-Ok-clause-octets : goal.returns-in-Ok-clause-octets
returns-in-Ok-clause-octets g c = bytes_from c.args.piece.now (λ i. omega (arith, c.type_inv.piece i))

-- a piece past the limit
pub returns-then-used-clause-left : goal.returns-then-used-clause-left
returns-then-used-clause-left g c = refl

pub returns-then-used-clause-too_long : goal.returns-then-used-clause-too_long
returns-then-used-clause-too_long g c sound =
    let used = c.used.ensures.value in
    let sum = c.saturating_add-used.ensures in
    let past = c.if-used.true in
    (λ same. omega (arith, used, sum, past), λ more. refl)

pub returns-then-used-clause-else_memory : goal.returns-then-used-clause-else_memory
returns-then-used-clause-else_memory g c sound short =
    let used = c.used.ensures.value in
    let sum = c.saturating_add-used.ensures in
    let past = c.if-used.true in
    absurd (omega (arith, used, sum, past, short))

pub returns-then-used-clause-nothing : goal.returns-then-used-clause-nothing
returns-then-used-clause-nothing g c sound before none =
    let used = c.used.ensures.value in
    let sum = c.saturating_add-used.ensures in
    let past = c.if-used.true in
    absurd (omega (arith, used, sum, past, before, none))
