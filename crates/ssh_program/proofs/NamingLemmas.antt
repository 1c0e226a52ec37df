-- The names of the files of a review: a fault has status 2, and each word names one file.
use Rattle.ssh_program.proofs.Imports.{◌≡◌, ◌∙◌, ℕ, Bool, true, false, refl, List, [], ◌∷◌, Bor, length, map, Option, Some, None, Result, Ok, Err, ap, sym, Row, Response, if◌then◌else◌}
use Rattle.clap.specs.Words.{Text}
use Rattle.std.specs.List.{list_all}
use Rattle.std.proofs.lemmas.List.{length-map}
use Rattle.ssh_print.specs.Responses.{value_response}
use Rattle.ssh_review.specs.FileNames.{NameSeen}
use Rattle.ssh_wire.specs.Reading.{◌>>=◌}
use Rattle.ssh_program.specs.declared.args.ArgName.TheVariants as option
use Rattle.ssh_program.specs.declared.naming.Naming.{Naming}
use Rattle.ssh_program.specs.declared.naming.Naming.TheVariants.{Path}
use Rattle.ssh_program.specs.Namings.{is_named, names_asked, named, names_by, naming_asked, naming_by, naming_of}
use Rattle.ssh_program.specs.Options.{option_word}
use Rattle.ssh_program.specs.Spelling.{given}
use Rattle.ssh_program.proofs.GrantedRunLemmas.{IsFaulty, fault-faulty, none-faulty, or-faulty, step-faulty}

naming-faulty : (text : Option Text) → IsFaulty (naming_by text)
naming-faulty None = none-faulty Path
naming-faulty (Some word) = fault-faulty option.Labels (naming_of word)

names-faulty : (naming : Naming) (words : List Text) (b : Bool) → IsFaulty (if b then Ok (map (named naming) words) else Err (value_response (option_word option.Labels)))
names-faulty naming words true = none-faulty (map (named naming) words)
names-faulty naming words false = or-faulty {A = List NameSeen} None (value_response (option_word option.Labels)) refl

pub listed-faulty : (rows : List Row) (words : List Text) → IsFaulty (names_asked rows words)
listed-faulty rows words = step-faulty _ _ (naming-faulty (given option.Labels rows)) (λ naming. names-faulty naming words (list_all (is_named naming) words))

many-by : (naming : Naming) (words : List Text) (names : List NameSeen) (b : Bool)
    → ◌≡◌ {A = Result (List NameSeen) Response} (if b then Ok (map (named naming) words) else Err (value_response (option_word option.Labels))) (Ok names) → length names ≡ length words
many-by naming words names true h = let same : map (named naming) words ≡ names = cc in ap length (sym same) ∙ length-map words (named naming)
many-by naming words names false h = cc

many-of : (words : List Text) (names : List NameSeen) (x : Result Naming Response) → (x >>= (λ naming. names_by naming words)) ≡ Ok names → length names ≡ length words
many-of words names (Ok naming) h = many-by naming words names (list_all (is_named naming) words) h
many-of words names (Err e) h = cc

names-of : (naming : Naming) (words : List (Bor Text)) → map (named naming) (map (λ word. word.now) words) ≡ map (λ (word : Bor Text). named naming word.now) words
names-of naming [] = refl
names-of naming (word ∷ words) = ap (λ names. named naming word.now ∷ names) (names-of naming words)

pub listed-of : (rows : List Row) (words : List (Bor Text)) (naming : Naming) → naming_asked rows ≡ Ok naming → list_all (is_named naming) (map (λ word. word.now) words) ≡ true
    → names_asked rows (map (λ word. word.now) words) ≡ Ok (map (λ (word : Bor Text). named naming word.now) words)
listed-of rows words naming asked all =
    ap (λ (x : Result Naming Response). x >>= (λ n. names_by n (map (λ word. word.now) words))) asked
    ∙ ap (λ b. if b then Ok (map (named naming) (map (λ word. word.now) words)) else Err (value_response (option_word option.Labels))) all
    ∙ ap Ok (names-of naming words)

pub listed-many : (rows : List Row) (words : List Text) (names : List NameSeen) → names_asked rows words ≡ Ok names → length names ≡ length words
listed-many rows words names h = many-of words names (naming_asked rows) h
