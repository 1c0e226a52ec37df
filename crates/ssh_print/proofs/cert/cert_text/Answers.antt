use Rattle.ssh_print.proofs.Imports.{ℕ, ◌∙◌, refl, subst, IsDateText}
use Rattle.ssh_print.proofs.cert.cert_text.Goals as goal

pub returns : goal.returns
returns c =
    let P : ℕ → Type 0 = λ moment. IsDateText moment c.in_ok-after.after.items in
    let Q : ℕ → Type 0 = λ moment. IsDateText moment c.in_ok-before.before.items in
    record {
      after = c.in_ok-after.after.items;
      before = c.in_ok-before.before.items;
      is_after = subst P c.after.ensures c.in_ok-after.ensures;
      is_before = subst Q c.before-2.ensures c.in_ok-before.ensures;
      lines = c.in_ok-push_cert.ensures ∙ rw (c.new-text.ensures.items, c.deref.ensures.value, c.deref-2.ensures.value) refl;
    }
