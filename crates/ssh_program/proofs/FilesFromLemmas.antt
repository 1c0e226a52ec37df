-- The words of a question without its list of names.
use Rattle.std.proofs.Common.{◌≡◌, ◌∙◌, ◌++◌, ◌||◌, ◌∷◌, [], Bool, true, false, List, ap, inl, inr, refl, sym}
use Rattle.std.proofs.lemmas.Bool.{cases_Bool}
use Rattle.std.proofs.lemmas.Grind.{flat_map-append}
use Rattle.std.proofs.lemmas.Slice.Eq.{bytes_eq-Decides}
use Rattle.std.specs.List.{flat_map, list_any}
use Rattle.std.specs.Prelude.{◌⊎◌, Result, Ok, Err, codes, filter, ⊤}
use Rattle.clap.specs.Words.{Text}
use Rattle.ssh_program.specs.declared.args.ArgName.TheVariants as option
use Rattle.ssh_program.specs.declared.name_list.ListError.{ListError}
use Rattle.ssh_program.specs.declared.name_list.ListError.TheVariants.{Memory}
use Rattle.ssh_program.specs.declared.word.Place.{Place}
use Rattle.ssh_program.specs.declared.word.Place.TheVariants.{Open, AfterOption, Behind}
use Rattle.ssh_program.specs.FilesFrom.{NamesBehind, OperandsBehind, asked_by, dashes, is_list_option, kept_words, listed_words, place_behind, reads_twice, naming_in}
use Rattle.ssh_program.specs.NameLists.{list_names}
use Rattle.ssh_program.specs.WordPlaces.{Word, after_open, in_turn, is_bare, is_dashes, is_given, is_operand, names_option, place_after, words_from}

-- ---- words that name no list

-- a word that does not give the option is not its name
another : (word : Text) → names_option option.FilesFrom word ≡ false → is_list_option word ≡ false
another word h =
    elim (cases_Bool (is_list_option word)) [
      | inl e ↦ let same : word ≡ codes "--files-from" = (bytes_eq-Decides word (codes "--files-from")).0 e in cc (rw same at h)
      | inr e ↦ e
    ]

-- the next word is not the value of the option
abbrev IsAnother : Text → Place → Type 0
IsAnother before Open = ⊤
IsAnother before AfterOption = is_list_option before ≡ false
IsAnother before Behind = ⊤

another-after : (word : Text) → names_option option.FilesFrom word ≡ false → IsAnother word (after_open word)
another-after word h =
    elim (cases_Bool (is_dashes word)) [
      | inl e ↦ rw e tt
      | inr e ↦ elim (cases_Bool (is_bare word)) [ inl b ↦ rw (e, b) (another word h) | inr b ↦ rw (e, b) tt ]
    ]

or-first : (a b : Bool) → (a || b) ≡ false → a ≡ false
or-first true b h = h
or-first false b h = refl

or-second : (a b : Bool) → (a || b) ≡ false → b ≡ false
or-second true b h = cc h
or-second false b h = h

-- each of them is kept
kept : (before : Text) (place : Place) (words : List Text) → IsAnother before place → is_given option.FilesFrom (words_from before place words) ≡ false
    → flat_map kept_words (words_from before place words) ≡ words
kept before place [] other none = refl
kept before Open (word ∷ words) other none =
    let here : names_option option.FilesFrom word ≡ false = or-first _ _ none in
    rw here (ap (λ ws. word ∷ ws) (kept word (after_open word) words (another-after word here) (or-second _ _ none)))
kept before AfterOption (word ∷ words) other none = rw other (ap (λ ws. word ∷ ws) (kept word Open words tt none))
kept before Behind (word ∷ words) other none = ap (λ ws. word ∷ ws) (kept word Behind words tt none)

-- ---- words behind others

-- the last of these words, or the one before them
abbrev last_of : Text → List Text → Text
last_of before [] = before
last_of before (word ∷ words) = last_of word words

turn-append : (before : Text) (place : Place) (front rest : List Text)
    → words_from before place (front ++ rest) ≡ words_from before place front ++ words_from (last_of before front) (place_behind place front) rest
turn-append before place [] rest = refl
turn-append before place (word ∷ front) rest = ap (λ ws. record { before = before; place = place; text = word } ∷ ws) (turn-append word (place_after place word) front rest)

without-list : (front rest : List Text) (name : Text) → place_behind Open front ≡ Open → is_given option.FilesFrom (words_from [] Open front) ≡ false
    → is_given option.FilesFrom (words_from name Open rest) ≡ false
    → flat_map kept_words (in_turn (front ++ codes "--files-from" ∷ name ∷ rest)) ≡ front ++ rest
without-list front rest name ends none more =
    ap (flat_map kept_words) (turn-append [] Open front (codes "--files-from" ∷ name ∷ rest))
    ∙ (ap (λ place. flat_map kept_words (words_from [] Open front ++ words_from (last_of [] front) place (codes "--files-from" ∷ name ∷ rest))) ends
    ∙ (flat_map-append kept_words (words_from [] Open front) (words_from (last_of [] front) Open (codes "--files-from" ∷ name ∷ rest))
    ∙ (ap (λ ws. ws ++ flat_map kept_words (words_from name Open rest)) (kept [] Open front tt none)
    ∙ ap (λ ws. front ++ ws) (kept name Open rest tt more))))

pub names_behind : NamesBehind
names_behind front rest names name ends none more =
    ap (λ ws. ws ++ (dashes (in_turn (front ++ codes "--files-from" ∷ name ∷ rest)) ++ names)) (without-list front rest name ends none more)

pub operands_behind : OperandsBehind
operands_behind before [] = refl
operands_behind before (word ∷ words) = ap (λ ws. record { before = before; place = Behind; text = word } ∷ ws) (operands_behind word words)

-- ---- the words with the names

pub asked_failed : (command : Text) (words : List Word) (bytes : Text) (e : ListError) → reads_twice words ≡ false
    → (e ≡ Memory) ⊎ (list_names (naming_in words) bytes ≡ Err e) → (e ≡ Memory) ⊎ (asked_by command words bytes ≡ Err e)
asked_failed command words bytes e once (inl memory) = inl memory
asked_failed command words bytes e once (inr fault) = inr (rw (once, fault) refl)

pub asked_reported : (command : Text) (words : List Word) (bytes : Text) (names reported : List Text) → reads_twice words ≡ false → list_names (naming_in words) bytes ≡ Ok names
    → reported ≡ command ∷ listed_words words names → asked_by command words bytes ≡ Ok reported
asked_reported command words bytes names reported once read made = rw (once, read) (ap (λ ws. Ok ws) (sym made))
