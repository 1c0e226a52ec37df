use Rattle.ssh_print.proofs.Imports.{absent_shown, texts_shown, rights_shown, decisions_shown, signatures_shown, faults_shown}
use Rattle.ssh_print.proofs.laws.answers_as_printed.Goals as goal

pub returns : goal.returns
returns c = record {
  texts = texts_shown;
  rights = rights_shown;
  decisions = decisions_shown;
  absent = absent_shown;
  signatures = signatures_shown;
  faults = faults_shown;
}
