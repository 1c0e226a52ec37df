-- The model of a complaint in memory.
use Rattle.ssh_program.specs.Complaints.{Wrong}
use Rattle.ssh_program.specs.declared.complaint.Complaint.{Complaint}
use Rattle.ssh_program.specs.declared.complaint.Complaint.TheVariants.{NotOption, NoValue, Twice, ExtraWord, Missing, Neither, Both, NoNames, Unreported, Other}

abbrev pub complaint_seen : Complaint → Wrong
complaint_seen (NotOption word) = Wrong.not_option word.now
complaint_seen (NoValue o) = Wrong.no_value o
complaint_seen (Twice o) = Wrong.twice o
complaint_seen (ExtraWord word) = Wrong.extra_word word.now
complaint_seen (Missing o) = Wrong.missing o
complaint_seen (Neither o other) = Wrong.neither o other
complaint_seen (Both o other) = Wrong.both o other
complaint_seen NoNames = Wrong.no_names
complaint_seen Unreported = Wrong.unreported
complaint_seen Other = Wrong.unknown
