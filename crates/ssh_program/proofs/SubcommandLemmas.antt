-- The subcommand of a name, and the request of what a parse found.
use Rattle.ssh_program.proofs.Imports.{◌≡◌, ◌∙◌, ℕ, List, Option, Some, None, find, option_map, refl, sym, ap, option_and_then, bytes_eq, Row, Text, subcommand_name_of, subcommand_rows_of, ArgMatches, Request, request_in, Subcommand, subcommand_name, subcommand_named, subcommands}

same-option : {A : Type 0} (o : Option A) → o ≡ option_map (λ x. x) o
same-option None = refl
same-option (Some x) = refl

-- what is found in the list of the code is found in that of the definitions
pub found_named : (name : List ℕ) (all : List Subcommand) (found : Option Subcommand) → all ≡ subcommands
    → option_map (λ x. x) found ≡ find (λ c. bytes_eq (subcommand_name c) name) all → found ≡ subcommand_named name
found_named name all found same h = same-option found ∙ (h ∙ ap (find (λ c. bytes_eq (subcommand_name c) name)) same)

-- ---- what a parse found

abbrev request-for : Subcommand → List Row → Option Request
request-for c rows = Some (record { subcommand = c; rows = rows })

pair-by : {B : Type 0} (sub : Option B) (n : B → Text) (r : B → List Row) (name : Text) (rows : List Row) → Some name ≡ option_map n sub
    → Some rows ≡ option_map (λ (p : Text × List Row). p.1) (option_map {U = Text × List Row} (λ b. (n b, r b)) sub) → option_map {U = Text × List Row} (λ b. (n b, r b)) sub ≡ Some (name, rows)
pair-by None n r name rows named found = cc
pair-by (Some b) n r name rows named found = cc

request-by : (sub : Option (Text × List Row)) (name : Text) (rows : List Row) (c : Subcommand) → sub ≡ Some (name, rows) → Some c ≡ subcommand_named name
    → request-for c rows ≡ option_and_then request_in sub
request-by sub name rows c pair named = rw (pair, sym named) refl

-- the request of the subcommand that a parse found, by its name and its rows
pub request_found : (m : ArgMatches) (name : Text) (rows : List Row) (c : Subcommand) → Some name ≡ subcommand_name_of m
    → Some rows ≡ option_map (λ (p : Text × List Row). p.1) (subcommand_rows_of m) → Some c ≡ subcommand_named name
    → request-for c rows ≡ option_and_then request_in (subcommand_rows_of m)
request_found m name rows c named found command =
    request-by (subcommand_rows_of m) name rows c (pair-by _ _ _ name rows named found) command

unnamed-by : (sub : Option (Text × List Row)) (name : Text) (rows : List Row) → sub ≡ Some (name, rows) → None ≡ subcommand_named name
    → None ≡ option_and_then request_in sub
unnamed-by sub name rows pair none = rw (pair, sym none) refl

-- no request of a subcommand whose name is not in the table
pub request_unnamed : (m : ArgMatches) (name : Text) (rows : List Row) → Some name ≡ subcommand_name_of m
    → Some rows ≡ option_map (λ (p : Text × List Row). p.1) (subcommand_rows_of m) → None ≡ subcommand_named name
    → None ≡ option_and_then request_in (subcommand_rows_of m)
request_unnamed m name rows named found none = unnamed-by (subcommand_rows_of m) name rows (pair-by _ _ _ name rows named found) none
