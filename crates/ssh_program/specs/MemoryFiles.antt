-- A file in memory as a source of files, and the signatures that it lists as a vouch file (this project's rule).
use Rattle.std.specs.Prelude.{ℕ, List, [], None, Result, Ok, Err, codes, if◌then◌else◌}
use Rattle.std.specs.Str.{bytes_eq}
use Rattle.ssh_files.specs.declared.files.UnreadCause.TheVariants.{NotFound}
use Rattle.ssh_files.specs.SourceState.{Chosen, SourceState, named_file, nothing, standard_input}
use Rattle.ssh_files.specs.VouchFile.{vouched_of}
use Rattle.ssh_offers.specs.declared.claim.Signed.{Signed}
use Rattle.ssh_program.specs.declared.vouching.MemoryFile.{MemoryFile}
use Rattle.ssh_program.specs.declared.vouching.Place.{Place}
use Rattle.ssh_program.specs.declared.vouching.Place.TheVariants.{File, Input, Nowhere}

-- ---- a source of one file

abbrev pub held_name : List ℕ
held_name = codes "held"

abbrev pub chosen_at : Place → List ℕ → Chosen
chosen_at Nowhere left = nothing
chosen_at Input left = standard_input
chosen_at File left = named_file held_name left

-- no read of the file in memory fails, so no failed read has a name
abbrev pub held_source : MemoryFile → SourceState
held_source h = record {
  named = λ name. if bytes_eq name held_name then Ok h.bytes.now else Err NotFound;
  input = [];
  chosen = chosen_at h.place h.left.now;
  choices = h.choices;
  failures = h.failures;
  failed = None;
}

-- ---- a vouch file

-- the signatures, if no line has a fault
abbrev pub or_none : Result (List Signed) ℕ → List Signed
or_none (Ok vouched) = vouched
or_none (Err n) = []

-- the signatures that a vouch file of these bytes lists
abbrev pub held_vouches : List ℕ → List Signed
held_vouches bytes = or_none (vouched_of bytes)
