use Rattle.ssh_rules.proofs.Imports.{◌≡◌, None, false, rules, subst, sym, true, bytes_eq, key_blob, AuthEntry, subject, Principals, setting, line_rows, offer_mismatch, first_mismatch, is_escaped, is_named}
use Rattle.ssh_rules.proofs.SpareLemmas.{held_off, passed_line}
use Rattle.ssh_rules.proofs.admission.login_mismatch.Goals as goal

pub returns-in_err-mismatch-clause-spare : goal.returns-in_err-mismatch-clause-spare
returns-in_err-mismatch-clause-spare c =
    λ h.
    let holds : bytes_eq (key_blob c.args.entry.now.key) (key_blob (subject c.args.matcher.now.offer)) ≡ true = search rules in
    let off = held_off _ c.args.entry.now _ c.args.matcher.now c.of-entry.ensures c.claim-claim.ensures holds h in
    let bad : false ≡ true = c.in_err-mismatch.ensures.spare off in
    cc

pub returns-in_err-mismatch-2-clause-spare : goal.returns-in_err-mismatch-2-clause-spare
returns-in_err-mismatch-2-clause-spare c =
    λ h.
    let none : first_mismatch (line_rows c.args.entry.now c.args.matcher.now) ≡ None = search rules in
    let off =
    subst (λ (e : AuthEntry). (is_escaped (setting Principals e.options) ≡ false) × (is_named (offer_mismatch e c.args.matcher.now c.args.matcher.now.offer) ≡ false)) (sym c.of-entry.ensures)
    (passed_line c.args.entry.now c.args.matcher.now none h) in
    let bad : false ≡ true = c.in_err-mismatch-2.ensures.spare off.0 off.1 in
    cc
