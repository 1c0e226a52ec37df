-- The pieces of a row hang on no text, and those of what has to be mended on no name of a file.
use Rattle.std.proofs.Common.{◌≡◌, ◌∙◌, ℕ, ◌==◌, Bool, true, false, cond, ◌&&◌, List, [], ◌∷◌, ◌++◌, length, map, refl, ap, sym}
use Rattle.std.specs.Prelude.{Option, Some, None, codes, is_none, option_map}
use Rattle.std.proofs.lemmas.List.{length-map}
use Rattle.ssh_findings.specs.declared.facts.Facts.{Facts}
use Rattle.ssh_findings.specs.declared.finding.Finding.{Finding}
use Rattle.ssh_findings.specs.declared.host_facts.HostFacts.{HostFacts}
use Rattle.ssh_findings.specs.declared.host_finding.HostFinding.{HostFinding}
use Rattle.ssh_findings.specs.Findings.{auth_row}
use Rattle.ssh_findings.specs.HostFindingsFindings.{host_row}
use Rattle.ssh_rights.specs.declared.rights.Carried.{Carried}
use Rattle.ssh_rights.specs.declared.rights.Rights.{Rights}
use Rattle.ssh_page.specs.declared.piece.Piece.TheVariants as piece
use Rattle.ssh_page.specs.declared.record.RowPlace.{RowPlace}
use Rattle.ssh_findings.specs.declared.urgency.Urgency.{Urgency}
use Rattle.ssh_findings.specs.declared.urgency.Urgency.TheVariants.{Today, Soon, TidyUp, Policy}
use Rattle.ssh_page.specs.declared.header.PageTotals.{PageTotals}
use Rattle.ssh_page.specs.declared.mend.CodeCount.{CodeCount}
use Rattle.ssh_page.specs.Documents.{Document, nothing, put, say, each, pieces_of, ◌&◌}
use Rattle.ssh_page.specs.HostRecords.{host_cells, host_entry_row, revoked_cells, revoked_row, role}
use Rattle.ssh_page.specs.Mending.{absent, absent_part, found_code, found_head, group, group_piece, is_clean, left_out_part, means, mend, remedy, urgent}
use Rattle.ssh_page.specs.Places.{LinesSeen, listed_places, next_link, place_link, places_part, renamed}
use Rattle.ssh_page.specs.Questions.{QuestionSeen, left_out}
use Rattle.ssh_page.specs.Records.{all_limits, carried_part, command_part, comment_part, entry_cells, entry_row, flag_part, is_free, is_free_of_flags, key_part, limits_part, put_if, right_marks, rights_part, row_classes, row_findings, row_numbers, setting_part, until_part}
use Rattle.ssh_page.specs.StandIns.{carried_stand_in, facts_stand_in, host_stand_in, rights_stand_in, stand_in}

-- Two parts have the same pieces. As a record, so that a proof finds the parts.
pub record SameShape (d e : Document) : Type 0 where
  pub by : pieces_of d ≡ pieces_of e

pub like : (d : Document) → SameShape d d
like d = record { by = refl }

pub join : {a b d e : Document} → SameShape a d → SameShape b e → SameShape (a & b) (d & e)
join {a} {b} {d} {e} h k = record { by = ap (λ ps. ps ++ pieces_of b) h.by ∙ ap (λ ps. pieces_of d ++ ps) k.by }

-- ---- parts

comment_shape : (text : List ℕ) → SameShape (comment_part text) (comment_part (stand_in text))
comment_shape [] = record { by = refl }
comment_shape (c ∷ cs) = record { by = refl }

setting_shape : (word : List ℕ) (value : Option (List ℕ)) → SameShape (setting_part word value) (setting_part word (option_map stand_in value))
setting_shape word None = record { by = refl }
setting_shape word (Some text) = record { by = refl }

rights_shape : (r : Rights) → SameShape (rights_part r) (rights_part (rights_stand_in r))
unfolding right_marks
rights_shape r = record { by = refl }

carried-shape : (carried : List Carried) → pieces_of (each carried_part carried) ≡ pieces_of (each carried_part (map carried_stand_in carried))
unfolding carried_part
carried-shape [] = refl
carried-shape (c ∷ cs) = ap (λ ps. pieces_of (carried_part c) ++ ps) (carried-shape cs)

command_shape : (r : Rights) → SameShape (command_part r) (command_part (rights_stand_in r))
unfolding command_part
command_shape r = join (setting_shape (codes "command ") r.command) (record { by = carried-shape r.carried })

limits_shape : (f : Facts) → SameShape (limits_part f) (limits_part (facts_stand_in f))
unfolding limits_part
limits_shape f =
    join (join (join (join (like (flag_part f.no_touch_required (codes "no-touch-required"))) (like (flag_part f.verify_required (codes "verify-required")))) (setting_shape (codes "from ") f.from)) (setting_shape (codes "principals ") f.principals)) (like (until_part f.until))

none-mapped : (o : Option (List ℕ)) → is_none o ≡ is_none (option_map stand_in o)
none-mapped None = refl
none-mapped (Some text) = refl

-- the test of an entry without a limit, by its parts
abbrev free_by : Bool → Bool → ℕ → Bool → Bool → Bool → Bool
free_by flags command carried from principals until = flags && ((command && carried == 0) && (from && (principals && until)))

free-same : (f : Facts) → is_free f ≡ is_free (facts_stand_in f)
free-same f =
    let flags = is_free_of_flags f in
    let until = is_none f.until in
    let first = none-mapped f.rights.command in
    let second = sym (length-map f.rights.carried carried_stand_in) in
    let third = none-mapped f.from in
    let fourth = none-mapped f.principals in
    ap (λ b. free_by flags b (length f.rights.carried) (is_none f.from) (is_none f.principals) until) first
    ∙ ap (λ n. free_by flags (is_none (option_map stand_in f.rights.command)) n (is_none f.from) (is_none f.principals) until) second
    ∙ ap (λ b. free_by flags (is_none (option_map stand_in f.rights.command)) (length (map carried_stand_in f.rights.carried)) b (is_none f.principals) until) third
    ∙ ap (λ b. free_by flags (is_none (option_map stand_in f.rights.command)) (length (map carried_stand_in f.rights.carried)) (is_none (option_map stand_in f.from)) b until) fourth

free_shape : (f : Facts) → SameShape (put_if (is_free f) piece.NoLimit) (put_if (is_free (facts_stand_in f)) piece.NoLimit)
free_shape f = record { by = ap (λ b. pieces_of (put_if b piece.NoLimit)) (free-same f) }

all_limits_shape : (f : Facts) → SameShape (all_limits f) (all_limits (facts_stand_in f))
unfolding all_limits
all_limits_shape f =
    join (join (join (like (flag_part f.is_authority (codes "authority: whoever it certifies"))) (command_shape f.rights)) (limits_shape f)) (free_shape f)

entry_cells_shape : (f : Facts) → SameShape (entry_cells f) (entry_cells (facts_stand_in f))
unfolding entry_cells
entry_cells_shape f =
    join (join (join (comment_shape f.comment) (like (key_part f.kind f.bits f.fingerprint))) (like (put piece.RightsCell))) (rights_shape f.rights)

-- ---- rows

pub entry_shape : (place : RowPlace) (f : Facts) (found : List Finding)
    → SameShape (entry_row place f found) (entry_row place (facts_stand_in f) found)
unfolding entry_row
entry_shape place f found =
    join (join (join (join (join (join (join (join (like (put piece.Row)) (like (row_classes auth_row found))) (like (put_if f.is_authority piece.AuthorityClass))) (like (row_numbers place))) (entry_cells_shape f)) (like (put piece.LimitsCell))) (all_limits_shape f)) (like (row_findings place auth_row found))) (like (put piece.RowEnd))

host_cells_shape : (f : HostFacts) → SameShape (host_cells f) (host_cells (host_stand_in f))
unfolding host_cells
host_cells_shape f =
    join (join (join (comment_shape f.comment) (like (key_part f.kind f.bits f.fingerprint))) (like (put piece.RightsCell))) (like (say (role f.is_authority)))

pub host_entry_shape : (place : RowPlace) (f : HostFacts) (found : List HostFinding)
    → SameShape (host_entry_row place f found) (host_entry_row place (host_stand_in f) found)
unfolding host_entry_row
host_entry_shape place f found =
    join (join (join (join (join (join (join (join (like (put piece.Row)) (like (row_classes host_row found))) (like (put_if f.is_authority piece.AuthorityClass))) (like (row_numbers place))) (host_cells_shape f)) (like (put piece.LimitsCell))) (setting_shape (codes "names ") (Some f.names))) (like (row_findings place host_row found))) (like (put piece.RowEnd))

pub revoked_shape : (place : RowPlace) (fingerprint names : List ℕ) (found : List HostFinding)
    → SameShape (revoked_row place fingerprint names found) (revoked_row place fingerprint [] found)
unfolding revoked_row
revoked_shape place fingerprint names found =
    let names_shape : SameShape (setting_part (codes "names ") (Some names)) (setting_part (codes "names ") (Some [])) = record { by = refl } in
    join (join (join (join (join (join (join (like (put piece.Row)) (like (row_classes host_row found))) (like (row_numbers place))) (like (revoked_cells fingerprint))) names_shape) (like (flag_part true (codes "in ssh it counts for these names alone")))) (like (row_findings place host_row found))) (like (put piece.RowEnd))

-- ---- what has to be mended

pub link_shape : (names other : List (List ℕ)) (p : RowPlace) → SameShape (place_link names p) (place_link other p)
unfolding place_link
link_shape names other p = record { by = refl }

pub next_shape : (names other : List (List ℕ)) (p : RowPlace) → SameShape (next_link names p) (next_link other p)
unfolding next_link
next_shape names other p = join (like (say (codes " "))) (link_shape names other p)

each-shape : {A : Type 0} (part other : A → Document) → ((x : A) → SameShape (part x) (other x)) → (xs : List A) → pieces_of (each part xs) ≡ pieces_of (each other xs)
each-shape part other h [] = refl
each-shape part other h (x ∷ xs) =
    ap (λ ps. ps ++ pieces_of (each part xs)) (h x).by ∙ ap (λ ps. pieces_of (other x) ++ ps) (each-shape part other h xs)

pub each_shape : {A : Type 0} (part other : A → Document) → ((x : A) → SameShape (part x) (other x)) → (xs : List A) → SameShape (each part xs) (each other xs)
each_shape part other h xs = record { by = each-shape part other h xs }

places_shape : (names other : List (List ℕ)) (ps : List RowPlace) → SameShape (places_part names ps) (places_part other ps)
places_shape names other [] = record { by = refl }
places_shape names other (p ∷ ps) =
    join (join (join (like (put piece.Places)) (link_shape names other p)) (each_shape (next_link names) (next_link other) (next_shape names other) ps)) (like (put piece.PlacesEnd))

found_shape : (all : ℕ) (names : List (List ℕ)) (l : LinesSeen) (f : CodeCount) → SameShape (found_code all l f) (found_code all (renamed names l) f)
unfolding found_code
found_shape all names l f =
    join (like (found_head all f & say (means f.code) & put piece.FoundRemedy & say (remedy f.code))) (places_shape l.names names (listed_places l f.code))

headed-shape : (b : Bool) (urgency : Urgency) (all : ℕ) (names : List (List ℕ)) (l : LinesSeen) (chosen : List CodeCount)
    → SameShape (cond b nothing (put (group_piece urgency) & each (found_code all l) chosen & put piece.GroupEnd))
    (cond b nothing (put (group_piece urgency) & each (found_code all (renamed names l)) chosen & put piece.GroupEnd))
headed-shape true urgency all names l chosen = record { by = refl }
headed-shape false urgency all names l chosen =
    join (join (like (put (group_piece urgency))) (each_shape (found_code all l) (found_code all (renamed names l)) (found_shape all names l) chosen)) (like (put piece.GroupEnd))

group_shape : (urgency : Urgency) (all : ℕ) (names : List (List ℕ)) (l : LinesSeen) (found : List CodeCount) → SameShape (group urgency all l found) (group urgency all (renamed names l) found)
unfolding group
group_shape urgency all names l found = headed-shape (length (urgent urgency found) == 0) urgency all names l (urgent urgency found)

pub mend_shape : (q : QuestionSeen) (t : PageTotals) (found : List CodeCount) (l : LinesSeen) (names : List (List ℕ))
    → SameShape (mend q t found l) (mend q t found (renamed names l))
unfolding mend
mend_shape q t found l names =
    let one = λ (urgency : Urgency). group_shape urgency t.findings names l found in
    let groups = join (join (join (join (like (put piece.Mend)) (one Today)) (one Soon)) (one TidyUp)) (one Policy) in
    let clean = join groups (like (put_if (is_clean t found) piece.NothingToMend)) in
    join (join (join clean (like (absent_part (absent q found)))) (like (left_out_part (left_out q)))) (like (put piece.MendEnd))
