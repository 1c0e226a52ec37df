-- The rows of the list of options, in memory and in the definitions.
use Rattle.ssh_options.proofs.Imports.{◌≡◌, Bool, true, inl, inr, List, [], ◌∷◌, map, Option, Some, None, is_some, option_map, find, refl, sym, ap, ◌∙◌, cases_Bool, AgentForwarding, CertAuthority, NoAgentForwarding, NoPortForwarding, NoPty, NoUserRc, NoX11Forwarding, PortForwarding, Pty, NoTouchRequired, VerifyRequired, Restrict, UserRc, X11Forwarding, Command, Environment, ExpiryTime, From, PermitListen, PermitOpen, Principals, Tunnel, LineOption, OptionRow, options, TableRow, table_row}
use Rattle.ssh_options.specs.declared.option.LineOption.TheVariants.{Switch, Setting}
use Rattle.ssh_options.specs.OptionNames.{option_row}

found-row : (test : OptionRow → Bool) (rows : List TableRow)
    → option_map table_row (find (λ row. test (table_row row)) rows) ≡ find test (map table_row rows)
found-row test [] = refl
found-row test (row ∷ rows) =
    elim (cases_Bool (test (table_row row))) [ inl e ↦ rw e refl | inr e ↦ rw e (found-row test rows) ]

-- what is found among rows that are those of the definitions
pub row-found : (test : OptionRow → Bool) (rows : List TableRow) (row : Option TableRow) → map table_row rows ≡ options
    → option_map (λ r. r) row ≡ find (λ r. test (table_row r)) rows → option_map table_row row ≡ find test options
row-found test rows None said h = ap (option_map table_row) h ∙ found-row test rows ∙ ap (find test) said
row-found test rows (Some row) said h = ap (option_map table_row) h ∙ found-row test rows ∙ ap (find test) said

-- each option has a row
has_row : (option : LineOption) → is_some (option_row option) ≡ true
unfolding option_row
has_row (Switch AgentForwarding) = refl
has_row (Switch CertAuthority) = refl
has_row (Switch NoAgentForwarding) = refl
has_row (Switch NoPortForwarding) = refl
has_row (Switch NoPty) = refl
has_row (Switch NoUserRc) = refl
has_row (Switch NoX11Forwarding) = refl
has_row (Switch PortForwarding) = refl
has_row (Switch Pty) = refl
has_row (Switch NoTouchRequired) = refl
has_row (Switch VerifyRequired) = refl
has_row (Switch Restrict) = refl
has_row (Switch UserRc) = refl
has_row (Switch X11Forwarding) = refl
has_row (Setting Command) = refl
has_row (Setting Environment) = refl
has_row (Setting ExpiryTime) = refl
has_row (Setting From) = refl
has_row (Setting PermitListen) = refl
has_row (Setting PermitOpen) = refl
has_row (Setting Principals) = refl
has_row (Setting Tunnel) = refl

row-some : (row : Option TableRow) → is_some (option_map table_row row) ≡ is_some row
row-some None = refl
row-some (Some row) = refl

pub some_row : (option : LineOption) (row : Option TableRow) → option_map table_row row ≡ option_row option → is_some row ≡ true
some_row option row h = sym (row-some row) ∙ ap is_some h ∙ has_row option
