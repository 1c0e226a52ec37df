use Rattle.std.proofs.Common.{◌≡◌, ◌∙◌, ◌+◌, ◌-◌, ◌++◌, ap, arith, length, take}
use Rattle.std.proofs.lemmas.List.{length-take}
use Rattle.ssh_audit.proofs.FrontLemmas.{filled}
use Rattle.ssh_audit.proofs.front.Front.extend.Goals as goal

pub returns : goal.returns
returns c =
    let shown = take c.self.inside.len c.self.inside.room in
    let whole : length shown + (64 - c.self.inside.len) ≡ 64 = omega (arith, length-take c.self.inside.len c.self.inside.room, c.self.invariant) in
    c.put_after-self-inside.ensures.bytes
    ∙ (ap (λ front. shown ++ front) c.split_at.ensures.front
    ∙ (ap (λ count. shown ++ take count c.args.text.now) c.min.ensures
    ∙ filled shown c.args.text.now (64 - c.self.inside.len) whole)
    ∙ ap (λ front. take 64 (front ++ c.args.text.now)) c.self.view_is)
