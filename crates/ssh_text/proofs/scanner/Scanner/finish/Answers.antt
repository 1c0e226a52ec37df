use Rattle.ssh_text.proofs.Imports.{length, sym, subst, arith, StandsFor}
use Rattle.ssh_text.proofs.ScanLemmas.{not-empty, unfinished-ended, unfinished-open}
use Rattle.ssh_text.proofs.scanner.Scanner.finish.Goals as goal

pub returns-then-self-clause-last : goal.returns-then-self-clause-last
returns-then-self-clause-last c bytes h =
    let stands = subst (λ s. StandsFor s bytes) (sym c.self.view_is) h in
    let none = unfinished-ended _ bytes stands c.if-self.true in
    rw none ((λ f. cc), (λ p. absurd (omega arith)))

pub returns-clause-last : goal.returns-clause-last
returns-clause-last c bytes h =
    let stands = subst (λ s. StandsFor s bytes) (sym c.self.view_is) h in
    let line = unfinished-open _ bytes stands c.if-self.false in
    rw line (not-empty c.is_empty.result (length stands.line) (c.is_empty.ensures stands.line stands.kept))
