-- The command line that is given to clap, and its errors.
use Rattle.ssh_program.proofs.Imports.{ap, sym, subst, ◌∙◌, Option, Some, Result, Err, ℕ, ◌≡◌, true, refl, inl, inr, List, [], ◌∷◌, None, HasKind, IsAmong, Kinds, option_and_then, ok_or, and_parts, App, Row, Text, kind_of, is_simple, subcommand_of, Error, FaultIs, Parses, request_in_memory, WordsError, Subcommand, Show, Host, Rewrite, Readable, Hash, Admits, Trusts, Review, Explain, fault_of, is_simple_and_free, ErrorKind, program_app, request_in, request_of, spelled}
use Rattle.std.specs.Prelude.{option_map}
use Rattle.ssh_program.specs.declared.command.Request.{Request}
use Rattle.ssh_program.specs.declared.subcommand.Subcommand.TheVariants.{Login, Sshsig}
use Rattle.ssh_program.specs.declared.command.WordsError.TheVariants.{Usage, Memory}
use Rattle.clap.proofs.OnLiterals.{clap_on_literals}
use Rattle.ssh_program.specs.CommandLine.{Request as Asked, subcommand_app}
use Rattle.ssh_program.specs.Options.{subcommand_in}

-- each subcommand is plain
pub plain_subcommand : (c : Subcommand) → (subcommand_app c).top.is_plain ≡ true
unfolding subcommand_app
plain_subcommand Show = refl
plain_subcommand Login = refl
plain_subcommand Host = refl
plain_subcommand Sshsig = refl
plain_subcommand Rewrite = refl
plain_subcommand Readable = refl
plain_subcommand Hash = refl
plain_subcommand Admits = refl
plain_subcommand Trusts = refl
plain_subcommand Review = refl
plain_subcommand Explain = refl

pub is_plain : (named : Option Subcommand) → is_simple_and_free (program_app named) ≡ true
unfolding subcommand_app clap_on_literals
is_plain None = refl
is_plain (Some Show) = refl
is_plain (Some Login) = refl
is_plain (Some Host) = refl
is_plain (Some Sshsig) = refl
is_plain (Some Rewrite) = refl
is_plain (Some Readable) = refl
is_plain (Some Hash) = refl
is_plain (Some Admits) = refl
is_plain (Some Trusts) = refl
is_plain (Some Review) = refl
is_plain (Some Explain) = refl

-- no arguments give no request
pub no_request : request_of [] ≡ None
unfolding subcommand_app clap_on_literals
no_request = refl

-- arguments with a fault give no request
spelled-among : (words : List (List ℕ)) (k : ErrorKind) (ks : Kinds) → IsAmong k ks → spelled words ks ≡ None
spelled-among words k [] h = absurd h
spelled-among words k (x ∷ xs) h = refl

pub fault_spells_none : (words : List (List ℕ)) (k : ErrorKind) → IsAmong k (fault_of (program_app (subcommand_in words)) words) → request_of words ≡ None
fault_spells_none words k h = spelled-among words k (fault_of (program_app (subcommand_in words)) words) h

-- the error of a failed parse of the command line is the defined one
failed-with : (words : List (List ℕ)) (e : Error) (r : WordsError) → FaultIs e r → HasKind (fault_of (program_app (subcommand_in words)) words) e → Parses words (Err r)
failed-with words e Usage other (inl out) = absurd (other out)
failed-with words e Usage other (inr fault) = fault_spells_none words (kind_of e) fault
failed-with words e Memory other kinds = tt

pub failed : (app : App) (words : List (List ℕ)) (e : Error) (r : WordsError) → app ≡ program_app (subcommand_in words) → FaultIs e r
    → (is_simple_and_free app ≡ true → HasKind (fault_of app words) e) → Parses words (Err r)
failed app words e r is fault kinds = failed-with words e r fault
    (subst (λ (a : App). HasKind (fault_of a words) e) is (kinds (ap is_simple_and_free is ∙ is_plain (subcommand_in words))))

-- the request of a parse of the command line that succeeds is the defined one
parsed-with : (words : List (List ℕ)) (o : Option Request) (asked : Option Asked) → request_of words ≡ asked → option_map request_in_memory o ≡ asked → Parses words (ok_or o Usage)
parsed-with words None asked is here = is ∙ sym here
parsed-with words (Some r) asked is here = is ∙ sym here

spelled-free : (words : List (List ℕ)) (ks : Kinds) → ks ≡ [] → spelled words ks ≡ option_and_then request_in (subcommand_of (program_app (subcommand_in words)) words)
spelled-free words ks none = ap (spelled words) none

simple : (app : App) → is_simple_and_free app ≡ true → is_simple app ≡ true
simple app h = (and_parts (is_simple app) _ h).0

pub parsed : (app : App) (words : List (List ℕ)) (rows : Option (Text × List Row)) (o : Option Request) (r : Result Request WordsError) → app ≡ program_app (subcommand_in words)
    → (is_simple_and_free app ≡ true → fault_of app words ≡ []) → (is_simple app ≡ true → rows ≡ subcommand_of app words)
    → option_map request_in_memory o ≡ option_and_then request_in rows → r ≡ ok_or o Usage → Parses words r
parsed app words rows o r is free matches here answered =
    let plain : is_simple_and_free app ≡ true = ap is_simple_and_free is ∙ is_plain (subcommand_in words) in
    let none : fault_of (program_app (subcommand_in words)) words ≡ [] = ap (λ (a : App). fault_of a words) (sym is) ∙ free plain in
    let found : rows ≡ subcommand_of (program_app (subcommand_in words)) words = matches (simple app plain) ∙ ap (λ (a : App). subcommand_of a words) is in
    rw answered
    (parsed-with words o (option_and_then request_in rows)
    (spelled-free words (fault_of (program_app (subcommand_in words)) words) none ∙ ap (option_and_then request_in) (sym found)) here)
