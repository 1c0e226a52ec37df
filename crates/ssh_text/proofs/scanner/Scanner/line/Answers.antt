use Rattle.ssh_text.proofs.Imports.{sym, subst, ap, ◌∙◌, StandsFor}
use Rattle.ssh_text.proofs.ScanLemmas.{ready-last}
use Rattle.ssh_text.proofs.scanner.Scanner.line.Goals as goal

pub returns-then-is_too_long : goal.returns-then-is_too_long
returns-then-is_too_long c bytes h =
    let stands = subst (λ s. StandsFor s bytes) (sym c.self.view_is) h in
    let ready = ap (λ s. s.ready) c.self.view_is ∙ c.requires in
    (stands.line, ready-last _ bytes stands ready, stands.kept.mark.0 (sym c.is_too_long.ensures ∙ c.if-is_too_long.true))

pub returns : goal.returns
returns c bytes h =
    let stands = subst (λ s. StandsFor s bytes) (sym c.self.view_is) h in
    let ready = ap (λ s. s.ready) c.self.view_is ∙ c.requires in
    let whole = stands.kept.whole (sym c.is_too_long.ensures ∙ c.if-is_too_long.false) in
    (rw (c.as_slice.ensures.value, whole) (ready-last _ bytes stands ready), c.as_slice.ensures.bound)
