use Rattle.std.proofs.Common.{◌∙◌, List, Err, map, subst, sym}
use Rattle.clap.specs.Words.{Text}
use Rattle.ssh_program.specs.NameLists.{Lists, list_names}
use Rattle.ssh_program.specs.WordPlacesView.{word_seen}
use Rattle.ssh_program.proofs.FilesFromLemmas.{asked_failed, asked_reported}
use Rattle.ssh_program.proofs.files_from.asked_by.Goals as goal

pub returns-in-Err : goal.returns-in-Err
returns-in-Err c =
    asked_failed c.args.command.now (map word_seen c.args.words.now) c.args.list.now c.in-Err.error (sym c.reads_twice.ensures ∙ c.if-reads_twice.false)
    (subst (λ naming. Lists {V = List Text} (λ names. names) (list_names naming c.args.list.now) (Err c.in-Err.error)) c.naming_in.ensures c.in-Err.ensures)
