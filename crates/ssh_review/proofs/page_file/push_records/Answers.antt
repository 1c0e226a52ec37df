use Rattle.ssh_review.proofs.Imports.{◌++◌, ◌∙◌, List, ℕ, ap, rules}
use Rattle.ssh_page.specs.Files.{seen}
use Rattle.ssh_review.specs.declared.key_review.KeyCounts.{KeyCounts}
use Rattle.ssh_review.proofs.PageRowLemmas.{row-of-all, section-of-all}
use Rattle.ssh_review.proofs.page_file.push_records.Goals as goal

pub returns-clause-counts : goal.returns-clause-counts
returns-clause-counts g c = λ text all w. ap (λ (k : KeyCounts). k.counts) (c.in_ok-reported.ensures.made c.args.file.now text all w).1

pub returns-clause-section : goal.returns-clause-section
returns-clause-section g c =
    λ text all w.
    let made = c.in_ok-reported.ensures.made c.args.file.now text all w in
    section-of-all c.args.kind c.args.number c.args.name.now c.args.file.now text _ c.args.sections.now.items c.push_section.new.out.items c.digest-digest.result all c.in_ok-reported.reported (seen c.row_of-row.result)
    c.in_ok-push_section.ensures (search rules) c.digest-digest.ensures (c.deref.ensures.value ∙ (made.0 ∙ ap (λ (l : List ℕ). l ++ text) c.clear.ensures.items)) made.1

pub returns-clause-row : goal.returns-clause-row
returns-clause-row g c =
    λ text all w.
    let made = c.in_ok-reported.ensures.made c.args.file.now text all w in
    row-of-all c.args.number c.args.name.now c.args.file.now c.args.register.now.items c.push_file_row.new.out.items c.digest-digest.result all c.in_ok-reported.reported (seen c.row_of-row.result)
    c.in_ok-push_file_row.ensures (search rules) c.digest-digest.ensures made.1
