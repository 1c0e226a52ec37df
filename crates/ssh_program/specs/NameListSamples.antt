-- Worked examples of a question with a list of names (this project's rules).
use Rattle.std.specs.Prelude.{◌≡◌, ◌++◌, true, false, List, [], ◌∷◌, codes, Some, None, Ok, Err, refl}
use Rattle.clap.specs.Words.{Text}
use Rattle.ssh_program.specs.declared.name_list.NameFault.TheVariants.{Empty, Input, Tab, Unlabelled}
use Rattle.ssh_program.specs.declared.name_list.ListError.TheVariants.{Name}
use Rattle.ssh_program.specs.declared.naming.Naming.TheVariants.{Labelled, Path}
use Rattle.ssh_program.specs.FilesFrom.{list_name, listed_words, reads_twice}
use Rattle.ssh_program.specs.NameLists.{names_read}
use Rattle.ssh_program.specs.WordPlaces.{in_turn}

-- names ended by LF, the last with its end or without; by NUL where there is one; and what is no name
abbrev pub NamesReported : Type 0
NamesReported =
    (names_read Path (codes "a\n-x y\n") ≡ Ok (codes "a" ∷ codes "-x y" ∷ []))
    × (names_read Path (codes "a\n-x y") ≡ Ok (codes "a" ∷ codes "-x y" ∷ []))
    × (names_read Path (codes "a\nb" ++ 0 ∷ codes "c") ≡ Ok (codes "a\nb" ∷ codes "c" ∷ []))
    × (names_read Path (codes "a\n\nb\n") ≡ Err (Name Empty 2))
    × (names_read Path (codes "\n") ≡ Err (Name Empty 1))
    × (names_read Path (codes "a\nb\n-\n") ≡ Err (Name Input 3))
    × (names_read Path (codes "a\tb\n") ≡ Err (Name Tab 1))
    × (names_read Labelled (codes "h\tann\t/a\tb\n") ≡ Ok (codes "h\tann\t/a\tb" ∷ []))
    × (names_read Labelled (codes "h\t/a\n") ≡ Err (Name Unlabelled 1))
    × (names_read Labelled (codes "h\tann\t-\n") ≡ Err (Name Input 1))

-- the words that are asked: those that remain, and behind `--` the names
abbrev reported : List Text → List Text → Type 0
reported words wanted = listed_words (in_turn words) (codes "-x" ∷ codes "--now=5" ∷ []) ≡ wanted

abbrev pub WordsListed : Type 0
WordsListed =
    reported (codes "--files-from" ∷ codes "l" ∷ codes "--now" ∷ codes "7" ∷ codes "a" ∷ [])
    (codes "--now" ∷ codes "7" ∷ codes "a" ∷ codes "--" ∷ codes "-x" ∷ codes "--now=5" ∷ [])
    × reported (codes "a" ∷ codes "--files-from=l" ∷ codes "--" ∷ codes "--files-from" ∷ [])
    (codes "a" ∷ codes "--" ∷ codes "--files-from" ∷ codes "-x" ∷ codes "--now=5" ∷ [])

-- the list that words name: of `review` alone, and once
abbrev pub ListsNamed : Type 0
ListsNamed =
    (list_name (codes "review" ∷ codes "a" ∷ codes "--files-from" ∷ codes "-" ∷ []) ≡ Some (codes "-"))
    × (list_name (codes "review" ∷ codes "--files-from=a=b" ∷ []) ≡ Some (codes "a=b"))
    × (list_name (codes "review" ∷ codes "--key" ∷ codes "--files-from" ∷ codes "l" ∷ []) ≡ None)
    × (list_name (codes "review" ∷ codes "--files-from" ∷ codes "--now" ∷ codes "l" ∷ []) ≡ None)
    × (list_name (codes "review" ∷ codes "--" ∷ codes "--files-from" ∷ codes "l" ∷ []) ≡ None)
    × (list_name (codes "review" ∷ codes "--files-from" ∷ codes "l" ∷ codes "--files-from=m" ∷ []) ≡ None)
    × (list_name (codes "review" ∷ codes "--files-from" ∷ codes "-" ∷ codes "--help" ∷ []) ≡ None)
    × (list_name (codes "admits" ∷ codes "--files-from" ∷ codes "l" ∷ []) ≡ None)
    × (reads_twice (in_turn (codes "--files-from" ∷ codes "-" ∷ codes "-" ∷ [])) ≡ true)
    × (reads_twice (in_turn (codes "--files-from" ∷ codes "-" ∷ codes "a" ∷ [])) ≡ false)

pub names_reported : NamesReported
names_reported = (refl, refl, refl, refl, refl, refl, refl, refl, refl, refl)

pub words_listed : WordsListed
words_listed = (refl, refl)

pub lists_named : ListsNamed
lists_named = (refl, refl, refl, refl, refl, refl, refl, refl, refl, refl)
