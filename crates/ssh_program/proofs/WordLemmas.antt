-- Words in turn: one word more.
use Rattle.std.proofs.Common.{◌≡◌, ◌∙◌, ◌+◌, ◌++◌, ◌∷◌, [], ℕ, Bool, List, ap, cond, drop, map, not, refl, sym, append_assoc}
use Rattle.std.proofs.lemmas.List.{drop-map, length-map, map-append}
use Rattle.std.specs.List.{list_any, position, position_or_len}
use Rattle.clap.specs.Words.{Text}
use Rattle.ssh_program.specs.declared.word.Place.{Place}
use Rattle.ssh_program.specs.WordPlaces.{Word, place_after, words_from}

-- one more item, by what is seen of it
pub seen_pushed : {X Y : Type 0} (view : X → Y) (items old : List X) (x : X) → items ≡ old ++ x ∷ [] → map view items ≡ map view old ++ view x ∷ []
seen_pushed view items old x pushed = ap (map view) pushed ∙ map-append view old (x ∷ [])

-- the words that were seen, and those that are left, with one of them seen
pub turn_more : (seen more all : List Word) (before : Text) (place : Place) (text : Text) (left rest : List Text) → left ≡ text ∷ rest
    → more ≡ seen ++ record { before = before; place = place; text = text } ∷ [] → seen ++ words_from before place left ≡ all
    → more ++ words_from text (place_after place text) rest ≡ all
turn_more seen more all before place text left rest cut pushed whole =
    ap (λ m. m ++ words_from text (place_after place text) rest) pushed
    ∙ (append_assoc seen (record { before = before; place = place; text = text } ∷ []) (words_from text (place_after place text) rest)
    ∙ (sym (ap (λ l. seen ++ words_from before place l) cut) ∙ whole))

-- the same, where what was read last and its place are reported by other terms
pub turn_reported : (seen more all : List Word) (before : Text) (place : Place) (text : Text) (left rest : List Text) (last : Text) (next : Place)
    → last ≡ text → next ≡ place_after place text → left ≡ text ∷ rest
    → more ≡ seen ++ record { before = before; place = place; text = text } ∷ [] → seen ++ words_from before place left ≡ all
    → more ++ words_from last next rest ≡ all
turn_reported seen more all before place text left rest last next is stands cut pushed whole =
    ap (λ x. more ++ words_from x next rest) is
    ∙ (ap (λ y. more ++ words_from text y rest) stands ∙ turn_more seen more all before place text left rest cut pushed whole)

-- ---- what is found among words in memory is found among what is seen of them

place-seen : {X Y : Type 0} (test : Y → Bool) (view : X → Y) (xs : List X) → position_or_len (λ x. test (view x)) xs ≡ position_or_len test (map view xs)
place-seen test view [] = refl
place-seen test view (x ∷ xs) = ap (λ n. cond (not (test (view x))) (1 + n) 0) (place-seen test view xs)

pub position_seen : {X Y : Type 0} (test : Y → Bool) (view : X → Y) (xs : List X) → position (λ x. test (view x)) xs ≡ position test (map view xs)
position_seen test view xs = rw (place-seen test view xs, length-map xs view) refl

-- the words behind one of them
pub behind_seen : {X Y : Type 0} (test : Y → Bool) (view : X → Y) (xs : List X) (n : ℕ) → list_any test (map view (drop n xs)) ≡ list_any test (drop n (map view xs))
behind_seen test view xs n = ap (list_any test) (sym (drop-map view n xs))
