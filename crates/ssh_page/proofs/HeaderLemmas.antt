-- The verdict, the numbers and what was asked close what they open; after them the main part of the page is open.
use Rattle.std.proofs.Common.{◌≡◌, ◌++◌, ◌==◌, ◌&&◌, Bool, true, false, cond, List, ◌∷◌, ℕ, length, refl}
use Rattle.std.specs.Fmt.{decimal}
use Rattle.std.specs.Prelude.{codes, pos}
use Rattle.ssh_findings.specs.declared.code.Code.{Code}
use Rattle.ssh_print.specs.AnswerText.{sentence}
use Rattle.ssh_print.specs.Dates.{moment_text}
use Rattle.ssh_page.specs.declared.header.PageTotals.{PageTotals}
use Rattle.ssh_page.specs.declared.piece.Piece.TheVariants as piece
use Rattle.ssh_page.specs.Documents.{nothing, put, say, count, each, after, ◌&◌}
use Rattle.ssh_page.specs.Headers.{asked, code_list, code_word, found_part, how_many, kind_words, looked_for_part, none_found, term, tile, tiles, verdict, verdict_piece}
use Rattle.ssh_page.specs.Questions.{QuestionSeen, looked_for}
use Rattle.ssh_page.specs.Tags.{within}
use Rattle.ssh_page.proofs.PlaceLemmas.{Leads, here, next, all_stay}

abbrev Open : Type 0
Open = List (List ℕ)

-- ---- the verdict

many-by : (b c : Bool) (opened : Open) (n : ℕ) (one more : List ℕ)
    → after (within opened) (cond b nothing (count n & cond c (say one) (say more))) ≡ within opened
many-by true c opened n one more = refl
many-by false true opened n one more = refl
many-by false false opened n one more = refl

pub many_stay : (opened : Open) (n : ℕ) (one more : List ℕ) → Leads (within opened) (how_many n one more) (within opened)
unfolding how_many
many_stay opened n one more = record { by = many-by (n == 0) (n == 1) opened n one more }

verdict-by : (b : Bool) (opened : Open)
    → after (within opened) (put (cond b piece.VerdictGood piece.VerdictBad)) ≡ within (codes "p" ∷ opened)
verdict-by true opened = refl
verdict-by false opened = refl

verdict_leads : (opened : Open) (t : PageTotals) → Leads (within opened) (put (verdict_piece t)) (within (codes "p" ∷ opened))
verdict_leads opened t = record { by = verdict-by (t.faults == 0 && t.findings == 0) opened }

none-by : (b : Bool) (opened : Open) (none all : List ℕ) → after (within opened) (cond b (say none) (say all)) ≡ within opened
none-by true opened none all = refl
none-by false opened none all = refl

found-by : (b : Bool) (opened : Open) (looked : List Code) (n : ℕ) (one more : List ℕ)
    → after (within opened) (cond b (none_found looked) (how_many n one more)) ≡ within opened
found-by true opened looked n one more =
    none-by (length looked == 0) opened (codes "No finding was asked for.") (codes "Nothing that was looked for was found.")
found-by false opened looked n one more = (many_stay opened n one more).by

found_stays : (opened : Open) (looked : List Code) (n : ℕ) → Leads (within opened) (found_part looked n) (within opened)
unfolding found_part
found_stays opened looked n =
    record { by = found-by (n == 0) opened looked n (codes " finding in all.") (codes " findings in all.") }

pub verdict_stays : (opened : Open) (q : QuestionSeen) (t : PageTotals) → Leads (within opened) (verdict q t) (within opened)
unfolding verdict
verdict_stays opened q t =
    let p = codes "p" ∷ opened in
    next (next (next (next (verdict_leads opened t) (many_stay p t.faults (codes " file could not be read: this review is not whole. ") (codes " files could not be read: this review is not whole. "))) (many_stay p t.today (codes " finding has to be mended today. ") (codes " findings have to be mended today. "))) (found_stays p (looked_for q) t.findings)) (here (within p) (put piece.ParagraphEnd))

-- ---- the numbers

pub tiles_stay : (opened : Open) (t : PageTotals) → Leads (within opened) (tiles t) (within opened)
unfolding tiles tile
tiles_stay opened t = record { by = refl }

-- ---- what was asked

term_stays : (opened : Open) (word said : List ℕ) → Leads (within opened) (term word said) (within opened)
unfolding term
term_stays opened word said = record { by = refl }

word_stays : (opened : Open) (c : Code) → Leads (within opened) (code_word c) (within opened)
unfolding code_word
word_stays opened c = record { by = refl }

pub words_stay : (opened : Open) (looked : List Code) → Leads (within opened) (each code_word looked) (within opened)
words_stay opened looked = all_stay (within opened) code_word (word_stays opened) looked

list-by : (b : Bool) (opened : Open) (looked : List Code)
    → after (within opened) (cond b (say (codes "nothing")) (each code_word looked)) ≡ within opened
list-by true opened looked = refl
list-by false opened looked = (words_stay opened looked).by

list_stays : (opened : Open) (looked : List Code) → Leads (within opened) (code_list looked) (within opened)
unfolding code_list
list_stays opened looked = record { by = list-by (length looked == 0) opened looked }

looked_for_stays : (opened : Open) (looked : List Code) → Leads (within opened) (looked_for_part looked) (within opened)
unfolding looked_for_part
looked_for_stays opened looked =
    let dd = codes "dd" ∷ opened in
    let front : Leads (within opened) (put piece.Term & say (codes "Looked for") & put piece.TermSays) (within dd) = record { by = refl } in
    next (next front (list_stays dd looked)) (here (within dd) (put piece.TermEnd))

pub asked_leads : (opened : Open) (q : QuestionSeen) → Leads (within (codes "header" ∷ opened)) (asked q) (within (codes "main" ∷ opened))
unfolding asked
asked_leads opened q =
    let dl = codes "dl" ∷ codes "header" ∷ opened in
    next (next (next (next (next (next (next (here (within (codes "header" ∷ opened)) (put piece.Asked)) (term_stays dl (codes "Files") (kind_words q.kind))) (term_stays dl (codes "Time of the review") (moment_text (pos q.now)))) (term_stays dl (codes "Zone of expiry times without one") q.zone)) (term_stays dl (codes "RSA keys need") (decimal q.rsa_minimum ++ codes " bits"))) (looked_for_stays dl (looked_for q))) (term_stays dl (codes "Written by") (sentence (codes "version")))) (here (within dl) (put piece.HeaderEnd))
