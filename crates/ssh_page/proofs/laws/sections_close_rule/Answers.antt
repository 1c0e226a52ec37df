use Rattle.ssh_page.proofs.FileLemmas.{empty_section_stays, fault_row_stays, fault_section_stays, file_row_stays, register_stays, section_stays}
use Rattle.ssh_page.proofs.laws.sections_close_rule.Goals as goal

pub returns : goal.returns
returns c = record {
  whole = λ opened file kind f classes rows h. (section_stays opened file kind f classes rows h).by;
  empty = λ opened file f. (empty_section_stays opened file f).by;
  fault = λ opened file name code means. (fault_section_stays opened file name code means).by;
  whole_register = λ opened rows total h. (register_stays opened rows total h).by;
  row_of_file = λ opened file f. (file_row_stays opened file f).by;
  row_of_fault = λ opened file name code means. (fault_row_stays opened file name code means).by;
}
