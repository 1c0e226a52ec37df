use Rattle.ssh_rewriting.proofs.Imports.{drop, sym, ap}
use Rattle.ssh_rewriting.proofs.HiddenLemmas.{name-line}
use Rattle.ssh_rewriting.proofs.hidden_names.put_name.Goals as goal

pub returns-clause-line : goal.returns-clause-line
returns-clause-line c =
    name-line c.args.entry.now c.args.salts.now c.in-Some.after.now c.args.name.now c.lower_into.new.lower.items c.deref.result.now c.in-Some.salt.now
    c.args.new.now.items c.put_hashed.new.new.items c.in-Some.ensures.cases.0 c.in_ok-lower_into.ensures c.deref.ensures.value c.in_ok-put_hashed.ensures

pub returns-in_default-clause-enough : goal.returns-in_default-clause-enough
returns-in_default-clause-enough c = tt

pub returns-clause-left : goal.returns-clause-left
returns-clause-left c = ap (λ s. drop 1 s) (sym c.in-Some.ensures.cases.0)
