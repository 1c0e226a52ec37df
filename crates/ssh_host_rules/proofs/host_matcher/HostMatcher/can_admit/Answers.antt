use Rattle.ssh_host_rules.proofs.Imports.{◌≡◌, ◌∙◌, ap, arith, subst, ◌↔◌, IfSome, IsTrue, key_blob, AreBytes-from, subject, Holds, piece_of, denied}
use Rattle.ssh_host_rules.proofs.KeyPieceLemmas.{no_host}
use Rattle.ssh_host_rules.proofs.host_matcher.HostMatcher.can_admit.Goals as goal

pub returns-clause-value : goal.returns-clause-value
returns-clause-value c =
    let piece : c.self.inside.piece ≡ piece_of (key_blob (subject c.args.self.now.offer)) =
    c.self.invariant.2 ∙ ap (λ claim. piece_of (key_blob (subject claim.offer))) c.self.view_is in
    subst (λ text. IsTrue c.is_in.result ↔ IfSome text (Holds c.args.line.now)) piece c.is_in.ensures

pub returns-clause-nothing : goal.returns-clause-nothing
returns-clause-nothing c = λ off.
    no_host c.args.self.now c.args.line.now (AreBytes-from c.args.line.now (λ i. omega (arith, c.type_inv.line i))) (denied _ _ (returns-clause-value c) off)
