use Rattle.ssh_text.proofs.Imports.{length, refl, sym, subst, ap, StandsFor}
use Rattle.ssh_text.proofs.ScanLemmas.{unfinished-ended, unfinished-open}
use Rattle.ssh_text.proofs.scanner.Scanner.is_between.Goals as goal

pub returns-then-self : goal.returns-then-self
returns-then-self c bytes h =
    let stands = subst (λ s. StandsFor s bytes) (sym c.self.view_is) h in
    (λ t. ap (λ l. length l) (unfinished-ended _ bytes stands c.if-self.true), λ n. refl)

pub returns : goal.returns
returns c bytes h =
    let stands = subst (λ s. StandsFor s bytes) (sym c.self.view_is) h in
    let line = unfinished-open _ bytes stands c.if-self.false in
    rw line (c.is_empty.ensures stands.line stands.kept)
