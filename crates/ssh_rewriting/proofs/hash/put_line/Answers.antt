use Rattle.ssh_rewriting.proofs.Imports.{◌≡◌, refl, sym, ◌∙◌, arith, None, known_line, hidden_entry}
use Rattle.ssh_rewriting.proofs.hash.put_line.Goals as goal

pub returns-in_default : goal.returns-in_default
returns-in_default c =
    let none : hidden_entry (known_line c.args.line.now) ≡ None = sym c.hidden_entry.ensures ∙ c.in_default.is in
    record {
      lines = rw none c.in_ok-put_kept.ensures;
      left = rw none refl;
      enough = rw none (omega arith);
      too_few = λ e. cc e;
      no_length = tt;
    }
