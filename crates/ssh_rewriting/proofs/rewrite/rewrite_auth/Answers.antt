use Rattle.ssh_rewriting.proofs.Imports.{length, arith, sym, ap, ◌∙◌, AreBytes-from, auth_line, auth_written, canonical_auth_file, auth_facts}
use Rattle.ssh_rewriting.proofs.FileLemmas.{file-length, file-says, file-twice}
use Rattle.ssh_rewriting.proofs.LineLemmas.{auth-kept}
use Rattle.ssh_rewriting.proofs.rewrite.rewrite_auth.Goals as goal

pub returns-clause-again : goal.returns-clause-again
returns-clause-again c =
    let bytes = AreBytes-from c.args.file.now (λ i. omega (arith, c.type_inv.file i)) in
    ap canonical_auth_file c.in_ok-new.ensures.written ∙ file-twice auth_line auth_written auth-kept c.args.file.now bytes ∙ sym c.in_ok-new.ensures.written

pub returns-clause-facts : goal.returns-clause-facts
returns-clause-facts c =
    let bytes = AreBytes-from c.args.file.now (λ i. omega (arith, c.type_inv.file i)) in
    ap auth_facts c.in_ok-new.ensures.written ∙ file-says auth_line auth_written auth-kept c.args.file.now bytes

pub returns-clause-no_longer : goal.returns-clause-no_longer
returns-clause-no_longer c =
    let bytes = AreBytes-from c.args.file.now (λ i. omega (arith, c.type_inv.file i)) in
    omega (arith, ap length c.in_ok-new.ensures.written, file-length auth_line auth_written auth-kept c.args.file.now bytes)
