use Rattle.ssh_print.proofs.Imports.{◌∙◌, ap, auth_line}
use Rattle.ssh_offers.specs.ClaimViews.{claim_of}
use Rattle.ssh_print.specs.PossibleLines.{why_entry, why_refused}
use Rattle.ssh_print.proofs.possible.why_entry.Goals as goal

pub returns-in_ok-facts-in-Entry : goal.returns-in_ok-facts-in-Entry
returns-in_ok-facts-in-Entry c =
    let claim = claim_of c.claim.result.now in
    c.why_refused.ensures
    ∙ ap (why_refused claim.query.now c.args.reason.now) c.in_ok-facts-in-Entry.ensures
    ∙ ap (why_entry claim c.args.reason.now) c.in-Entry.ensures.exact
    ∙ ap (λ claim. why_entry claim c.args.reason.now (auth_line c.args.line.now)) c.claim.ensures
