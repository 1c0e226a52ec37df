-- Files in memory as a source of files (this project's rule).
use Rattle.std.specs.Prelude.{ℕ, List, None}
use Rattle.ssh_files.specs.SourceState.{Chosen, SourceState, found_or_none, named_file, nothing, standard_input}
use Rattle.ssh_memory.specs.FirstNamed.{named_in}
use Rattle.ssh_memory.specs.declared.files.MemoryFiles.{MemoryFiles}
use Rattle.ssh_memory.specs.declared.files.NamedBytes.{NamedBytes}
use Rattle.ssh_memory.specs.declared.files.Place.{Place}
use Rattle.ssh_memory.specs.declared.files.Place.TheVariants.{File, Input, Nowhere}

-- these files and this standard input, before anything is read
abbrev pub source_at_first : List NamedBytes → List ℕ → SourceState
source_at_first files input = record {
  named = λ name. found_or_none (named_in files name);
  input = input;
  chosen = nothing;
  choices = 0;
  failures = 0;
  failed = None;
}

abbrev pub chosen_at : Place → List ℕ → List ℕ → Chosen
chosen_at Nowhere name left = nothing
chosen_at Input name left = standard_input
chosen_at File name left = named_file name left

-- a read fails only where nothing is chosen, so no failed read has a name
abbrev pub memory_source : MemoryFiles → SourceState
memory_source h = record {
  named = λ name. found_or_none (named_in h.files name);
  input = h.input.now;
  chosen = chosen_at h.place h.name.now h.left.now;
  choices = h.choices;
  failures = h.failures;
  failed = None;
}
