use Rattle.ssh_trust.proofs.Imports.{◌∙◌, length, sym, subst, refl, ap, arith, append-nil, length-drop, HasFound, HasRead}
use Rattle.ssh_trust.proofs.AuditLemmas.{parts-add, parts-all}
use Rattle.ssh_trust.proofs.search.Pieces.take.Goals as goal

pub loop-taken-init : goal.loop-taken-init
loop-taken-init g c = (
  omega arith,
  omega arith,
  refl,
  λ h. h,
  λ claim bytes h. subst (λ s. HasRead (HasFound g.T.Matcher.claimed g.T.Matcher.nothing g.T.Matcher.add g.T.Matcher.most g.T.Matcher.least claim) c.args.self.now s) (sym (append-nil bytes)) h,
)

pub returns-then-not-ready-clause-read : goal.returns-then-not-ready-clause-read
returns-then-not-ready-clause-read g c claim bytes h =
    let fed = c.in_ok-taken.ensures in
    let rest = c.split_at.ensures.back in
    let read = fed.read claim _ (c.loop-taken.invariant.4 claim bytes h) in
    rw (parts-all bytes c.args.piece.now c.loop-taken.done c.in_ok-taken.taken (fed.all c.if-not-ready.true ∙ ap (λ s. length s) rest), ← rest) read

pub loop-taken-preserved : goal.loop-taken-preserved
loop-taken-preserved g c =
    let fed = c.in_ok-taken.ensures in
    let rest = c.split_at.ensures.back in
    let same = ap (λ s. length s) rest in
    let within = fed.within in
    let used = fed.used in
    let left = length-drop c.loop-taken.done c.args.piece.now in
    let bound = c.loop-taken.invariant.0 in
    let before = c.loop-taken.invariant.1 in (
      omega arith,
      omega arith,
      fed.failed ∙ c.loop-taken.invariant.2,
      λ h. fed.bounded (c.loop-taken.invariant.3 h),
      λ claim bytes h.
          rw (parts-add bytes c.args.piece.now c.loop-taken.done c.in_ok-taken.taken, ← rest) (fed.read claim _ (c.loop-taken.invariant.4 claim bytes h)),
    )
