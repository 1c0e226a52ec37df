use Rattle.ssh_text.proofs.Imports.{◌≡◌, ◌+◌, ◌<◌, ◌^◌, false, true, length, sym, ap, subst, arith, StandsFor, line_limit}
use Rattle.ssh_text.proofs.ScanLemmas.{counted-append, counted-begin, stands-append, stands-begin, unfinished-ended, unfinished-open}
use Rattle.ssh_text.proofs.scanner.Scanner.take_part.Goals.{then-self+in_ok-begin, else-self+in_ok-append}
use Rattle.ssh_text.proofs.scanner.Scanner.take_part.Goals as goal

pub invariant_of-self-2 : goal.invariant_of-self-2
invariant_of-self-2 c =
    let same = ap (λ s. s.used) c.self.view_is in
    let room = c.requires in
    let fits : c.self.inside.used + length c.args.part.now < 2 ^ 64 = omega arith in
    elim c.if-self.branch [
      | then-self+in_ok-begin w ↦
          rw w.self-inside-is (counted-begin _ _ (length c.args.part.now) c.self.invariant w.if-self.true fits w.begin.ensures.bound w.in_ok-begin.ensures.count)
      | else-self+in_ok-append w ↦
          rw w.self-inside-is (counted-append _ _ (length c.args.part.now) c.self.invariant w.if-self.false fits w.append.ensures.bound w.in_ok-append.ensures.count)
    ]

pub returns-clause-stands_for : goal.returns-clause-stands_for
returns-clause-stands_for c free bytes h =
    let stands = subst (λ s. StandsFor s bytes) (sym c.self.view_is) h in
    elim c.if-self.branch [
      | then-self+in_ok-begin w ↦
          rw w.self-inside-is (stands-begin _ _ bytes c.args.part.now w.if-self.true free w.in_ok-begin.ensures.ok stands)
      | else-self+in_ok-append w ↦
          rw w.self-inside-is (stands-append _ _ bytes c.args.part.now w.if-self.false free w.in_ok-append.ensures.ok stands)
    ]

pub returns-in_err-begin-clause-spare : goal.returns-in_err-begin-clause-spare
returns-in_err-begin-clause-spare c bytes h =
    let stands = subst (λ s. StandsFor s bytes) (sym c.self.view_is) h in
    let none = unfinished-ended _ bytes stands c.if-self.true in
    rw none (λ long.
    let past : line_limit < length c.args.part.now = omega arith in
    let bad : false ≡ true = c.in_err-begin.ensures.spare past in cc)

pub returns-in_err-append-clause-spare : goal.returns-in_err-append-clause-spare
returns-in_err-append-clause-spare c bytes h =
    let stands = subst (λ s. StandsFor s bytes) (sym c.self.view_is) h in
    let line = unfinished-open _ bytes stands c.if-self.false in
    rw line (λ long. let bad : false ≡ true = c.in_err-append.ensures.spare stands.line stands.kept long in cc)
