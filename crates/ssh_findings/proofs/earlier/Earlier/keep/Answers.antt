use Rattle.ssh_findings.proofs.Imports.{◌≡◌, false, true, refl}
use Rattle.ssh_findings.proofs.KeepingLemmas.{authority_there, kept_authority, kept_plain, plain_there}
use Rattle.ssh_findings.proofs.earlier.Earlier.keep.Goals as goal

pub returns-in_err-keep_in-clause-spare : goal.returns-in_err-keep_in-clause-spare
returns-in_err-keep_in-clause-spare c = λ held s h.
    let bad : false ≡ true = c.in_err-keep_in.ensures.spare (authority_there c.args.self.now held c.args.blob.now c.args.facts.is_authority c.if-facts.true s h) in cc

pub returns-in_err-keep_in-2-clause-spare : goal.returns-in_err-keep_in-2-clause-spare
returns-in_err-keep_in-2-clause-spare c = λ held s h.
    let bad : false ≡ true = c.in_err-keep_in-2.ensures.spare (plain_there c.args.self.now held c.args.blob.now c.args.facts.is_authority c.if-facts.false s h) in cc

pub returns-in_ok-keep_in-clause-ok : goal.returns-in_ok-keep_in-clause-ok
returns-in_ok-keep_in-clause-ok c = λ held s.
    kept_authority c.args.self.now (record { plain = c.args.self.now.plain; authorities = c.keep_in.new.map }) held
    (record { line = c.args.line; blob = c.args.blob.now; facts = c.args.facts }) c.if-facts.true s refl c.in_ok-keep_in.ensures.ok

pub returns-in_ok-keep_in-2-clause-ok : goal.returns-in_ok-keep_in-2-clause-ok
returns-in_ok-keep_in-2-clause-ok c = λ held s.
    kept_plain c.args.self.now (record { plain = c.keep_in-else-facts.new.map; authorities = c.args.self.now.authorities }) held
    (record { line = c.args.line; blob = c.args.blob.now; facts = c.args.facts }) c.if-facts.false s refl c.in_ok-keep_in-2.ensures.ok
