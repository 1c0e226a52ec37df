-- What has to be mended closes what it opens; and the table of codes can be asked for each code.
use Rattle.std.proofs.Common.{◌≡◌, ◌==◌, nat_lt, Bool, true, false, cond, List, [], ◌∷◌, ℕ, length, refl}
use Rattle.std.specs.Prelude.{codes}
use Rattle.std.specs.List.{list_all}
use Rattle.std.specs.Str.{IsAscii, IsUtf8}
use Rattle.std.proofs.lemmas.Bool.{and_parts, ltb-true}
use Rattle.std.proofs.lemmas.Str.{IsUtf8-from_ascii}
use Rattle.std.proofs.lemmas.Str.Ascii.{IsAscii-cons, IsAscii-nil}
use Rattle.ssh_findings.specs.Codes.{code_text}
use Rattle.ssh_findings.specs.declared.code.Code.{Code}
use Rattle.ssh_findings.specs.declared.code.Code.TheVariants as code
use Rattle.ssh_findings.specs.declared.urgency.Urgency.{Urgency}
use Rattle.ssh_findings.specs.declared.urgency.Urgency.TheVariants.{Today, Soon, TidyUp, Policy}
use Rattle.ssh_page.specs.declared.header.PageTotals.{PageTotals}
use Rattle.ssh_page.specs.declared.mend.CodeCount.{CodeCount}
use Rattle.ssh_page.specs.declared.piece.Piece.TheVariants as piece
use Rattle.ssh_page.specs.Documents.{nothing, put, say, each, after, ◌&◌}
use Rattle.ssh_page.specs.declared.record.RowPlace.{RowPlace}
use Rattle.ssh_page.specs.Headers.{code_word}
use Rattle.ssh_page.specs.Mending.{absent, absent_code, absent_part, found_code, found_head, group, group_piece, is_clean, left_out_part, means, mend, remedy, urgent}
use Rattle.ssh_page.specs.Places.{LinesSeen, listed_places, next_link, place_link, places_part}
use Rattle.ssh_page.specs.Questions.{QuestionSeen, left_out}
use Rattle.ssh_page.specs.Tags.{within}
use Rattle.ssh_page.proofs.HeaderLemmas.{words_stay}
use Rattle.ssh_page.proofs.PlaceLemmas.{Leads, here, next, all_stay, may_stay}

abbrev Open : Type 0
Open = List (List ℕ)

-- ---- the table of codes

abbrev are_ascii : List ℕ → Bool
are_ascii text = list_all (λ b. nat_lt b 128) text

ascii : (text : List ℕ) → are_ascii text ≡ true → IsAscii text
ascii [] h = IsAscii-nil
ascii (b ∷ text) h =
    let both = and_parts (nat_lt b 128) (are_ascii text) h in
    IsAscii-cons b text (ltb-true b 128 both.0) (ascii text both.1)

code-ascii : (c : Code) → are_ascii (code_text c) ≡ true
code-ascii code.Unreadable = refl
code-ascii code.SameKey = refl
code-ascii code.NeverDecides = refl
code-ascii code.GivesMore = refl
code-ascii code.ShortKey = refl
code-ascii code.Expired = refl
code-ascii code.PermitsNobody = refl
code-ascii code.ReadOtherwise = refl
code-ascii code.ForcedButForwards = refl
code-ascii code.UnreadableRevocation = refl
code-ascii code.OtherKey = refl
code-ascii code.TrustedAndRevoked = refl
code-ascii code.PatternHosts = refl
code-ascii code.EveryHost = refl
code-ascii code.AnyAddress = refl
code-ascii code.AnyCommand = refl
code-ascii code.NoExpiry = refl
code-ascii code.AnyPrincipal = refl
code-ascii code.NoComment = refl
code-ascii code.NamesInClear = refl
code-ascii code.SameHostKey = refl
code-ascii code.MayRefuse = refl

-- each code is a text
pub code_is_text : (c : Code) → IsUtf8 (code_text c)
code_is_text c = IsUtf8-from_ascii (code_text c) (ascii (code_text c) (code-ascii c))

-- ---- codes that were found

pub link_stays : (opened : Open) (names : List (List ℕ)) (p : RowPlace) → Leads (within opened) (place_link names p) (within opened)
unfolding place_link
link_stays opened names p = record { by = refl }

pub next_stays : (opened : Open) (names : List (List ℕ)) (p : RowPlace) → Leads (within opened) (next_link names p) (within opened)
unfolding next_link
next_stays opened names p = next (here (within opened) (say (codes " "))) (link_stays opened names p)

-- the paragraph of a remedy is open before it
places_lead : (opened : Open) (names : List (List ℕ)) (ps : List RowPlace)
    → Leads (within (codes "p" ∷ codes "dd" ∷ opened)) (places_part names ps) (within opened)
places_lead opened names [] = record { by = refl }
places_lead opened names (p ∷ ps) =
    let inner = codes "p" ∷ codes "dd" ∷ opened in
    let links = all_stay (within inner) (next_link names) (next_stays inner names) ps in
    next (next (next (here (within inner) (put piece.Places)) (link_stays inner names p)) links) (here (within inner) (put piece.PlacesEnd))

remedy_leads : (opened : Open) (all : ℕ) (f : CodeCount)
    → Leads (within opened) (found_head all f & say (means f.code) & put piece.FoundRemedy & say (remedy f.code)) (within (codes "p" ∷ codes "dd" ∷ opened))
unfolding found_head
remedy_leads opened all f = record { by = refl }

found_stays : (opened : Open) (all : ℕ) (l : LinesSeen) (f : CodeCount) → Leads (within opened) (found_code all l f) (within opened)
unfolding found_code
found_stays opened all l f = next (remedy_leads opened all f) (places_lead opened l.names (listed_places l f.code))

group_leads : (opened : Open) (urgency : Urgency) → Leads (within opened) (put (group_piece urgency)) (within (codes "dl" ∷ opened))
group_leads opened Today = record { by = refl }
group_leads opened Soon = record { by = refl }
group_leads opened TidyUp = record { by = refl }
group_leads opened Policy = record { by = refl }

headed-by : (b : Bool) (opened : Open) (urgency : Urgency) (all : ℕ) (l : LinesSeen) (chosen : List CodeCount)
    → after (within opened) (cond b nothing (put (group_piece urgency) & each (found_code all l) chosen & put piece.GroupEnd)) ≡ within opened
headed-by true opened urgency all l chosen = refl
headed-by false opened urgency all l chosen =
    let dl = codes "dl" ∷ opened in
    let codes_stay : Leads (within dl) (each (found_code all l) chosen) (within dl) = all_stay (within dl) (found_code all l) (found_stays dl all l) chosen in
    let whole : Leads (within opened) (put (group_piece urgency) & each (found_code all l) chosen & put piece.GroupEnd) (within opened) =
    next (next (group_leads opened urgency) codes_stay) (here (within dl) (put piece.GroupEnd)) in
    whole.by

group_stays : (opened : Open) (urgency : Urgency) (all : ℕ) (l : LinesSeen) (found : List CodeCount) → Leads (within opened) (group urgency all l found) (within opened)
unfolding group
group_stays opened urgency all l found =
    record { by = headed-by (length (urgent urgency found) == 0) opened urgency all l (urgent urgency found) }

-- ---- codes that were not found, or not looked for

absent_stays : (opened : Open) (c : Code) → Leads (within opened) (absent_code c) (within opened)
unfolding absent_code
absent_stays opened c = record { by = refl }

absent-by : (b : Bool) (opened : Open) (cs : List Code)
    → after (within opened) (cond b nothing (put piece.Absent & each absent_code cs & put piece.ListEnd)) ≡ within opened
absent-by true opened cs = refl
absent-by false opened cs =
    let ul = codes "ul" ∷ opened in
    let codes_stay : Leads (within ul) (each absent_code cs) (within ul) = all_stay (within ul) absent_code (absent_stays ul) cs in
    let whole : Leads (within opened) (put piece.Absent & each absent_code cs & put piece.ListEnd) (within opened) =
    next (next (here (within opened) (put piece.Absent)) codes_stay) (here (within ul) (put piece.ListEnd)) in
    whole.by

absent_part_stays : (opened : Open) (cs : List Code) → Leads (within opened) (absent_part cs) (within opened)
unfolding absent_part
absent_part_stays opened cs = record { by = absent-by (length cs == 0) opened cs }

left-out-by : (b : Bool) (opened : Open) (cs : List Code)
    → after (within opened) (cond b nothing (put piece.LeftOut & each code_word cs & say (codes ". What each means: ssh_audit explain") & each code_word cs & put piece.ParagraphEnd)) ≡ within opened
left-out-by true opened cs = refl
left-out-by false opened cs =
    let p = codes "p" ∷ opened in
    let said = codes ". What each means: ssh_audit explain" in
    let whole : Leads (within opened) (put piece.LeftOut & each code_word cs & say said & each code_word cs & put piece.ParagraphEnd) (within opened) =
    next (next (next (next (here (within opened) (put piece.LeftOut)) (words_stay p cs)) (here (within p) (say said))) (words_stay p cs)) (here (within p) (put piece.ParagraphEnd)) in
    whole.by

left_out_stays : (opened : Open) (cs : List Code) → Leads (within opened) (left_out_part cs) (within opened)
unfolding left_out_part
left_out_stays opened cs = record { by = left-out-by (length cs == 0) opened cs }

-- ---- the section

pub mend_stays : (opened : Open) (q : QuestionSeen) (t : PageTotals) (found : List CodeCount) (l : LinesSeen)
    → Leads (within opened) (mend q t found l) (within opened)
unfolding mend
mend_stays opened q t found l =
    let inner = codes "section" ∷ opened in
    let one = λ (urgency : Urgency). group_stays inner urgency t.findings l found in
    let groups = next (next (next (next (here (within opened) (put piece.Mend)) (one Today)) (one Soon)) (one TidyUp)) (one Policy) in
    let clean = next groups (may_stay (within inner) piece.NothingToMend (is_clean t found) (record { by = refl })) in
    next (next (next clean (absent_part_stays inner (absent q found))) (left_out_stays inner (left_out q))) (here (within inner) (put piece.MendEnd))
