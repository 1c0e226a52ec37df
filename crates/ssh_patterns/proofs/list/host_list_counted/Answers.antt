use Rattle.ssh_patterns.proofs.Imports.{◌∙◌, ap, is_yes, is_match_in_lower_case, MatchesInLowerCase}
use Rattle.ssh_patterns.proofs.ListLemmas.{yes-permits}
use Rattle.ssh_patterns.proofs.PermitLaw.{permits-tells, lower-tells}
use Rattle.ssh_patterns.proofs.list.host_list_counted.Goals as goal

pub returns-clause-value : goal.returns-clause-value
returns-clause-value c =
    c.is_yes.ensures ∙ ap is_yes c.list_permit-permit.ensures.value ∙ yes-permits (is_match_in_lower_case c.args.name.now) c.args.list.now

pub returns-clause-rule : goal.returns-clause-rule
returns-clause-rule c =
    rw (returns-clause-value c)
    (permits-tells (is_match_in_lower_case c.args.name.now) (MatchesInLowerCase c.args.name.now) (lower-tells c.args.name.now) c.args.list.now)
