use Rattle.ssh_page.proofs.PageLemmas.{page-html}
use Rattle.ssh_page.proofs.PieceLemmas.{code-numbered, piece-sound}
use Rattle.ssh_page.proofs.laws.page_rule.Goals as goal

pub returns : goal.returns
returns c = record { expanded = page-html; sound = piece-sound; class = code-numbered }
