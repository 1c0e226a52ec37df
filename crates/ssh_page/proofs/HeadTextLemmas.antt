-- No text of a file stands in the header of the page, and only names of files in what has to be mended.
use Rattle.std.proofs.Common.{◌≡◌, ◌∙◌, ◌++◌, ◌==◌, Bool, true, false, cond, List, [], ◌∷◌, ℕ, length, refl, ap, sym}
use Rattle.std.specs.Fmt.{decimal}
use Rattle.std.specs.Prelude.{codes, pos}
use Rattle.std.specs.List.{flat_map}
use Rattle.std.proofs.lemmas.Bool.{eqb-true}
use Rattle.std.proofs.lemmas.Grind.{flat_map-append}
use Rattle.std.proofs.lemmas.List.{nil_from_length}
use Rattle.ssh_findings.specs.declared.code.Code.{Code}
use Rattle.ssh_print.specs.AnswerText.{sentence}
use Rattle.ssh_print.specs.Dates.{moment_text}
use Rattle.ssh_findings.specs.declared.urgency.Urgency.{Urgency}
use Rattle.ssh_findings.specs.declared.urgency.Urgency.TheVariants.{Today, Soon, TidyUp, Policy}
use Rattle.ssh_page.specs.declared.header.PageTotals.{PageTotals}
use Rattle.ssh_page.specs.declared.mend.CodeCount.{CodeCount}
use Rattle.ssh_page.specs.declared.piece.Piece.TheVariants as piece
use Rattle.ssh_page.specs.Choices.{choice, choices}
use Rattle.ssh_page.specs.Documents.{nothing, put, say, count, each, texts_of, ◌&◌}
use Rattle.ssh_page.specs.Headers.{asked, code_list, code_word, found_part, how_many, kind_words, looked_for_part, none_found, term, tile, tiles, verdict, verdict_piece}
use Rattle.ssh_page.specs.declared.record.RowPlace.{RowPlace}
use Rattle.ssh_page.specs.Mending.{absent, absent_code, absent_part, code_names, found_code, found_head, group, group_piece, is_clean, left_out_part, means, mend, mend_names, remedy, urgent}
use Rattle.ssh_page.specs.Pages.{header}
use Rattle.ssh_page.specs.Places.{LinesSeen, listed_places, name_at, names_of, next_link, place_link, places_part}
use Rattle.ssh_page.specs.Questions.{QuestionSeen, left_out, looked_for}
use Rattle.ssh_page.proofs.EachLemmas.{each_textless}
use Rattle.ssh_page.proofs.TextLemmas.{HasTexts, has, past, upto, piece_none, say_none, if_none}

-- ---- the header

many-none : (b c : Bool) (n : ℕ) (one more : List ℕ) → texts_of (cond b nothing (count n & cond c (say one) (say more))) ≡ []
many-none true c n one more = refl
many-none false true n one more = refl
many-none false false n one more = refl

pub many_none : (n : ℕ) (one more : List ℕ) → HasTexts (how_many n one more) []
unfolding how_many
many_none n one more = record { by = many-none (n == 0) (n == 1) n one more }

none-none : (b : Bool) (none all : List ℕ) → texts_of (cond b (say none) (say all)) ≡ []
none-none true none all = refl
none-none false none all = refl

found-none : (b : Bool) (looked : List Code) (n : ℕ) (one more : List ℕ) → texts_of (cond b (none_found looked) (how_many n one more)) ≡ []
found-none true looked n one more =
    none-none (length looked == 0) (codes "No finding was asked for.") (codes "Nothing that was looked for was found.")
found-none false looked n one more = (many_none n one more).by

found_none : (looked : List Code) (n : ℕ) → HasTexts (found_part looked n) []
unfolding found_part
found_none looked n = record { by = found-none (n == 0) looked n (codes " finding in all.") (codes " findings in all.") }

verdict_none : (q : QuestionSeen) (t : PageTotals) → HasTexts (verdict q t) []
unfolding verdict
verdict_none q t =
    let faults = past (piece_none (verdict_piece t)) (many_none t.faults (codes " file could not be read: this review is not whole. ") (codes " files could not be read: this review is not whole. ")) in
    let today = past faults (many_none t.today (codes " finding has to be mended today. ") (codes " findings have to be mended today. ")) in
    past (past today (found_none (looked_for q) t.findings)) (piece_none piece.ParagraphEnd)

tiles_none : (t : PageTotals) → HasTexts (tiles t) []
unfolding tiles tile
tiles_none t = record { by = refl }

word-none : (c : Code) → texts_of (code_word c) ≡ []
unfolding code_word
word-none c = refl

words_none : (looked : List Code) → HasTexts (each code_word looked) []
words_none looked = record { by = each_textless code_word word-none looked }

list-none : (b : Bool) (looked : List Code) → texts_of (cond b (say (codes "nothing")) (each code_word looked)) ≡ []
list-none true looked = refl
list-none false looked = (words_none looked).by

list_none : (looked : List Code) → HasTexts (code_list looked) []
unfolding code_list
list_none looked = record { by = list-none (length looked == 0) looked }

looked_none : (looked : List Code) → HasTexts (looked_for_part looked) []
unfolding looked_for_part
looked_none looked =
    let front : HasTexts (put piece.Term & say (codes "Looked for") & put piece.TermSays) [] = record { by = refl } in
    past (past front (list_none looked)) (piece_none piece.TermEnd)

term_none : (word said : List ℕ) → HasTexts (term word said) []
unfolding term
term_none word said = record { by = refl }

asked_none : (q : QuestionSeen) → HasTexts (asked q) []
unfolding asked
asked_none q =
    let time = past (past (piece_none piece.Asked) (term_none (codes "Files") (kind_words q.kind))) (term_none (codes "Time of the review") (moment_text (pos q.now))) in
    let zone = past (past time (term_none (codes "Zone of expiry times without one") q.zone)) (term_none (codes "RSA keys need") (decimal q.rsa_minimum ++ codes " bits")) in
    let looked = past zone (looked_none (looked_for q)) in
    past (past looked (term_none (codes "Written by") (sentence (codes "version")))) (piece_none piece.HeaderEnd)

pub header_none : (q : QuestionSeen) (t : PageTotals) → HasTexts (header q t) []
header_none q t = past (past (verdict_none q t) (tiles_none t)) (asked_none q)

-- ---- the choices

choice-none : (f : CodeCount) → texts_of (choice f) ≡ []
unfolding choice
choice-none f = refl

choices-none : (b : Bool) (found : List CodeCount) → texts_of (cond b nothing (put piece.Choices & each choice found)) ≡ []
choices-none true found = refl
choices-none false found =
    let inner : HasTexts (each choice found) [] = record { by = each_textless choice choice-none found } in
    (past (piece_none piece.Choices) inner).by

pub choices_none : (found : List CodeCount) → HasTexts (choices found) []
unfolding choices
choices_none found = record { by = choices-none (length found == 0) found }

-- ---- what has to be mended

pub link_has : (names : List (List ℕ)) (p : RowPlace) → HasTexts (place_link names p) (name_at names p.file ∷ [])
unfolding place_link
link_has names p = record { by = refl }

pub next_has : (names : List (List ℕ)) (p : RowPlace) → HasTexts (next_link names p) (name_at names p.file ∷ [])
unfolding next_link
next_has names p = past (say_none (codes " ")) (link_has names p)

links-have : (names : List (List ℕ)) (ps : List RowPlace) → texts_of (each (next_link names) ps) ≡ names_of names ps
links-have names [] = refl
links-have names (p ∷ ps) =
    ap (λ texts. texts ++ texts_of (each (next_link names) ps)) (next_has names p).by
    ∙ ap (λ texts. name_at names p.file ∷ texts) (links-have names ps)

places_have : (names : List (List ℕ)) (ps : List RowPlace) → HasTexts (places_part names ps) (names_of names ps)
places_have names [] = piece_none piece.FoundEnd
places_have names (p ∷ ps) =
    let links : HasTexts (each (next_link names) ps) (names_of names ps) = record { by = links-have names ps } in
    upto (has (past (piece_none piece.Places) (link_has names p)) links) (piece_none piece.PlacesEnd)

remedy_none : (all : ℕ) (f : CodeCount) → HasTexts (found_head all f & say (means f.code) & put piece.FoundRemedy & say (remedy f.code)) []
unfolding found_head
remedy_none all f = record { by = refl }

code_has : (all : ℕ) (l : LinesSeen) (f : CodeCount) → HasTexts (found_code all l f) (code_names l f)
unfolding found_code
code_has all l f = past (remedy_none all f) (places_have l.names (listed_places l f.code))

codes-have : (all : ℕ) (l : LinesSeen) (fs : List CodeCount) → texts_of (each (found_code all l) fs) ≡ flat_map (code_names l) fs
codes-have all l [] = refl
codes-have all l (f ∷ fs) =
    ap (λ texts. texts ++ texts_of (each (found_code all l) fs)) (code_has all l f).by
    ∙ ap (λ texts. code_names l f ++ texts) (codes-have all l fs)

headed-has : (b : Bool) (urgency : Urgency) (all : ℕ) (l : LinesSeen) (chosen : List CodeCount) → (length chosen == 0) ≡ b
    → texts_of (cond b nothing (put (group_piece urgency) & each (found_code all l) chosen & put piece.GroupEnd)) ≡ flat_map (code_names l) chosen
headed-has true urgency all l chosen e = sym (ap (flat_map (code_names l)) (nil_from_length chosen (eqb-true (length chosen) 0 e)))
headed-has false urgency all l chosen e =
    let inner : HasTexts (each (found_code all l) chosen) (flat_map (code_names l) chosen) = record { by = codes-have all l chosen } in
    (upto (past (piece_none (group_piece urgency)) inner) (piece_none piece.GroupEnd)).by

group_has : (urgency : Urgency) (all : ℕ) (l : LinesSeen) (found : List CodeCount) → HasTexts (group urgency all l found) (flat_map (code_names l) (urgent urgency found))
unfolding group
group_has urgency all l found = record { by = headed-has (length (urgent urgency found) == 0) urgency all l (urgent urgency found) refl }

all-groups : (names : CodeCount → List (List ℕ)) (a b c d : List CodeCount) → flat_map names a ++ flat_map names b ++ flat_map names c ++ flat_map names d ≡ flat_map names (a ++ b ++ c ++ d)
all-groups names a b c d =
    ap (λ texts. texts ++ flat_map names c ++ flat_map names d) (sym (flat_map-append names a b))
    ∙ ap (λ texts. texts ++ flat_map names d) (sym (flat_map-append names (a ++ b) c))
    ∙ sym (flat_map-append names (a ++ b ++ c) d)

absent-code-none : (c : Code) → texts_of (absent_code c) ≡ []
unfolding absent_code
absent-code-none c = refl

absent-none : (b : Bool) (cs : List Code) → texts_of (cond b nothing (put piece.Absent & each absent_code cs & put piece.ListEnd)) ≡ []
absent-none true cs = refl
absent-none false cs =
    let inner : HasTexts (each absent_code cs) [] = record { by = each_textless absent_code absent-code-none cs } in
    (past (past (piece_none piece.Absent) inner) (piece_none piece.ListEnd)).by

absent_none : (cs : List Code) → HasTexts (absent_part cs) []
unfolding absent_part
absent_none cs = record { by = absent-none (length cs == 0) cs }

left-out-none : (b : Bool) (cs : List Code)
    → texts_of (cond b nothing (put piece.LeftOut & each code_word cs & say (codes ". What each means: ssh_audit explain") & each code_word cs & put piece.ParagraphEnd)) ≡ []
left-out-none true cs = refl
left-out-none false cs =
    (past (past (past (past (piece_none piece.LeftOut) (words_none cs)) (say_none (codes ". What each means: ssh_audit explain"))) (words_none cs)) (piece_none piece.ParagraphEnd)).by

left_out_none : (cs : List Code) → HasTexts (left_out_part cs) []
unfolding left_out_part
left_out_none cs = record { by = left-out-none (length cs == 0) cs }

pub mend_has : (q : QuestionSeen) (t : PageTotals) (found : List CodeCount) (l : LinesSeen) → HasTexts (mend q t found l) (mend_names l found)
unfolding mend
mend_has q t found l =
    let one = λ (urgency : Urgency). group_has urgency t.findings l found in
    let groups = has (has (has (past (piece_none piece.Mend) (one Today)) (one Soon)) (one TidyUp)) (one Policy) in
    let clean = upto groups (if_none (is_clean t found) piece.NothingToMend) in
    let all = upto (upto (upto clean (absent_none (absent q found))) (left_out_none (left_out q))) (piece_none piece.MendEnd) in
    record { by = all.by ∙ all-groups (code_names l) (urgent Today found) (urgent Soon found) (urgent TidyUp found) (urgent Policy found) }
