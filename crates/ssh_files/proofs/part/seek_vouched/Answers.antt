use Rattle.ssh_files.proofs.Imports.{◌≡◌, ℕ, List, refl, after_part, part_at, second_rest, seeker_rest, wanted_of}
use Rattle.ssh_files.proofs.SeekingLemmas.{both_reported, second_lines}
use Rattle.ssh_files.proofs.part.seek_vouched.Goals as goal
use Rattle.ssh_files.proofs.part.seek_vouched.Goals.{in-Some, in-None}

pub returns-clause-bytes : goal.returns-clause-bytes
returns-clause-bytes g c =
    let name = c.args.name.now in
    let second = c.match-second.seekers in
    let seekers = c.take_vouch_file.new.keeper in
    let begun : (l : List ℕ) → second_rest second l ≡ second_lines (wanted_of c.args.second) l =
    elim c.match-second.branch [
      | in-Some w ↦ λ l. rw (w.seekers-is, w.in-Some.is) (w.new-in-Some.ensures l)
      | in-None w ↦ λ l. rw (w.seekers-is, w.in-None.is) refl
    ] in
    both_reported (wanted_of c.args.first) (wanted_of c.args.second)
    (seeker_rest c.new.result) (seeker_rest seekers.first) (second_rest second) (second_rest seekers.second)
    name (λ s. part_at s name) (λ s. after_part s name) (g.F.Files.source_state c.args.files.now) (g.F.Files.source_state c.take_vouch_file.new.files)
    c.in_ok-take_vouch_file.field-0 c.finish.result c.new.ensures begun c.finish.ensures c.in_ok-take_vouch_file.ensures.bytes
