-- A list of names of files, as `find -print0` or a line for each name gives it (this project's rule).
use Rattle.std.specs.Prelude.{◌≡◌, ◌⊎◌, ◌++◌, ◌==◌, ◌+◌, ℕ, Bool, List, [], ◌∷◌, Option, Some, None, Result, Ok, Err, codes, if◌then◌else◌, length, option_map}
use Rattle.std.specs.Fmt.{decimal}
use Rattle.std.specs.List.{list_any, onto_first}
use Rattle.std.specs.Option.{option_or}
use Rattle.std.specs.Str.{bytes_eq}
use Rattle.clap.specs.Words.{Text}
use Rattle.ssh_files.specs.SourceState.{dash}
use Rattle.ssh_files.specs.declared.read.ReadError.{ReadError}
use Rattle.ssh_files.specs.declared.read.ReadError.TheVariants as read
use Rattle.ssh_print.specs.Responses.{Response, out_of_memory, value_response}
use Rattle.ssh_print.specs.Texts.{escaped_text}
use Rattle.ssh_program.specs.declared.args.ArgName.TheVariants as option
use Rattle.ssh_program.specs.declared.name_list.NameFault.{NameFault}
use Rattle.ssh_program.specs.declared.name_list.NameFault.TheVariants.{Empty, Input, Tab, Unlabelled}
use Rattle.ssh_program.specs.declared.name_list.ListError.{ListError}
use Rattle.ssh_program.specs.declared.name_list.ListError.TheVariants as list
use Rattle.ssh_review.specs.FileNames.{NameSeen}
use Rattle.ssh_program.specs.declared.naming.Naming.{Naming}
use Rattle.ssh_program.specs.declared.naming.Naming.TheVariants.{Labelled, Path}
use Rattle.ssh_program.specs.Guidance.{text_of}
use Rattle.ssh_program.specs.Help.{wants_text}
use Rattle.ssh_program.specs.Namings.{labelled}
use Rattle.ssh_program.specs.Options.{option_word}

-- ---- the names

abbrev pub is_nul : ℕ → Bool
is_nul b = b == 0

-- the byte that ends each name: NUL where the list has one, and else LF
abbrev pub name_end : Text → ℕ
name_end text = if list_any is_nul text then 0 else 10

-- the text is cut at every such byte, and a last piece without one counts if it is not empty
abbrev pub cut_at_all : ℕ → Text → List Text
cut_at_all end [] = []
cut_at_all end (b ∷ text) = if b == end then [] ∷ cut_at_all end text else onto_first b (cut_at_all end text)

abbrev pub names_of : Text → List Text
names_of text = cut_at_all (name_end text) text

-- ---- what is no name

abbrev pub is_tab : ℕ → Bool
is_tab b = b == 9

-- why this is no path in a list
abbrev pub path_fault : Text → Option NameFault
path_fault path = if length path == 0 then Some Empty else if bytes_eq path dash then Some Input else None

abbrev pub tab_fault : Text → Option NameFault
tab_fault name = if list_any is_tab name then Some Tab else None

abbrev pub labelled_fault : Option NameSeen → Option NameFault
labelled_fault None = Some Unlabelled
labelled_fault (Some name) = path_fault name.path

-- why a text is no name of a file in a list; without labels a name has no tab
abbrev pub name_fault : Naming → Text → Option NameFault
name_fault Path name = option_or (path_fault name) (tab_fault name)
name_fault Labelled name = labelled_fault (labelled name)

abbrev pub named_fault : ℕ → Option NameFault → Option ListError
named_fault n fault = option_map (λ f. list.Name f n) fault

-- the first of these that is no name, by its number; the first has the number n
abbrev pub first_fault : Naming → ℕ → List Text → Option ListError
first_fault naming n [] = None
first_fault naming n (name ∷ names) = option_or (named_fault n (name_fault naming name)) (first_fault naming (n + 1) names)

-- ---- a list

abbrev pub unless_fault : Option ListError → List Text → Result (List Text) ListError
unless_fault None names = Ok names
unless_fault (Some e) names = Err e

-- the names of a text, or the first that is none
abbrev pub names_read : Naming → Text → Result (List Text) ListError
names_read naming text = unless_fault (first_fault naming 1 (names_of text)) (names_of text)

abbrev pub names_in : Naming → Option Text → Result (List Text) ListError
names_in naming None = Err list.NotText
names_in naming (Some text) = if length text == 0 then Err list.NoName else names_read naming text

-- The names of a list of these bytes, which has at least one. (NUL and LF are characters of one byte, so a list is UTF-8
-- where its names are.)
abbrev pub list_names : Naming → List ℕ → Result (List Text) ListError
list_names naming bytes = names_in naming (text_of bytes)

-- the value, or why there is none, or memory could not be allocated
abbrev pub Lists : {V : Type 0} → (V → List Text) → Result (List Text) ListError → Result V ListError → Type 0
Lists view wanted (Ok v) = wanted ≡ Ok (view v)
Lists view wanted (Err e) = (e ≡ list.Memory) ⊎ (wanted ≡ Err e)

-- why a list is not there whose bytes could not be had
abbrev pub unread_list : ReadError → ListError
unread_list read.Missing = list.Unread
unread_list read.TooLong = list.TooLong
unread_list read.Failed = list.Unread
unread_list read.Memory = list.Memory

-- ---- what is reported

-- the response where there is no list of names
abbrev pub list_response : ListError → Response
list_response list.Memory = out_of_memory
list_response e = value_response (option_word option.FilesFrom)

abbrev pub fault_words : NameFault → Text
fault_words Empty = codes " is empty"
fault_words Input = codes " is -, and standard input is no name in a list"
fault_words Tab = codes " has a tab"
fault_words Unlabelled = codes " has no host and account, each with a tab behind it"

-- what is wrong with a list; of one that cannot be read it is said where that is said of each file
abbrev pub list_why : ListError → Text
list_why list.Unread = []
list_why list.Memory = []
list_why list.TooLong = codes "it is longer than 67108864 bytes"
list_why list.Input = codes "standard input can be read once only"
list_why list.NotText = codes "it is not UTF-8"
list_why list.NoName = codes "it has no name"
list_why (list.Name fault n) = codes "name " ++ decimal n ++ fault_words fault

-- the line that says it of the list of this name
abbrev pub reported_why : Text → ListError → Text
reported_why name e = codes "ssh_audit: " ++ escaped_text name ++ codes ": " ++ list_why e ++ codes "\n"

abbrev pub why_line : Text → ListError → Text
why_line name list.Unread = []
why_line name list.Memory = []
why_line name e = reported_why name e

-- what standard error says where there is no list of names: what the option wants, and what is wrong with the list
abbrev pub list_guidance : Text → ListError → Text
list_guidance name e = wants_text option.FilesFrom ++ why_line name e
