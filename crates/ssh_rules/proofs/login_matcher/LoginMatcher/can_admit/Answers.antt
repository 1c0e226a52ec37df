use Rattle.ssh_rules.proofs.Imports.{◌≡◌, ◌∙◌, ap, arith, subst, ◌↔◌, IfSome, IsTrue, key_blob, AreBytes-from, subject, Holds, piece_of}
use Rattle.ssh_rules.proofs.KeyPieceLemmas.{denied, no_login}
use Rattle.ssh_rules.proofs.login_matcher.LoginMatcher.can_admit.Goals as goal

pub returns-clause-value : goal.returns-clause-value
returns-clause-value c =
    let piece : c.self.inside.piece ≡ piece_of (key_blob (subject c.args.self.now.offer)) =
    c.self.invariant.1 ∙ ap (λ claim. piece_of (key_blob (subject claim.offer))) c.self.view_is in
    subst (λ text. IsTrue c.is_in.result ↔ IfSome text (Holds c.args.line.now)) piece c.is_in.ensures

pub returns-clause-nothing : goal.returns-clause-nothing
returns-clause-nothing c = λ off.
    no_login c.args.self.now c.args.line.now (AreBytes-from c.args.line.now (λ i. omega (arith, c.type_inv.line i))) (denied _ _ (returns-clause-value c) off)
