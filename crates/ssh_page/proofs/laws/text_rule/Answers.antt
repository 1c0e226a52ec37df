use Rattle.ssh_page.proofs.PageLemmas.{page-delimited}
use Rattle.ssh_page.proofs.ReadingLemmas.{text-read}
use Rattle.ssh_page.proofs.laws.text_rule.Goals as goal

pub returns : goal.returns
returns c = record { markup = page-delimited; read = text-read }
