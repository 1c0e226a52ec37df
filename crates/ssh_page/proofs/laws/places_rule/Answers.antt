use Rattle.ssh_page.specs.FoundRows.{no_row}
use Rattle.ssh_page.proofs.FoundRowLemmas.{Reads, bare_reads, empty_reads, entry_reads, fault_reads, host_entry_reads, on, revoked_reads, section_reads, unreadable_reads}
use Rattle.ssh_page.proofs.laws.places_rule.Goals as goal

pub returns : goal.returns
returns c = record {
  entry = λ c place f found few are. (entry_reads c place f found few are).by;
  unreadable = λ c place held found few are. (unreadable_reads c place held found few are).by;
  host_entry = λ c place f found few are. (host_entry_reads c place f found few are).by;
  revoked = λ c place fingerprint names found few are. (revoked_reads c place fingerprint names found few are).by;
  bare = λ c place is held found few are. (bare_reads c place is held found few are).by;
  whole = λ c file kind f classes rows places are h. (section_reads c file kind f classes rows places are h).by;
  empty = λ c file f are. (empty_reads c file f are).by;
  fault = λ c file name word means are. (fault_reads c file name word means are).by;
  both = λ c a b first second h k.
      let one : Reads c no_row a first no_row = record { by = h } in
      let two : Reads c no_row b second no_row = record { by = k } in
      (on one two).by;
}
