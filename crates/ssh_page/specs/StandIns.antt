-- Records of which the texts of the file are replaced, and these texts.
use Rattle.std.specs.Prelude.{◌++◌, ◌∷◌, [], ℕ, List, codes, map, option_map}
use Rattle.std.specs.Option.{option_to_list}
use Rattle.ssh_rights.specs.declared.rights.Carried.{Carried}
use Rattle.ssh_rights.specs.declared.rights.Rights.{Rights}
use Rattle.ssh_findings.specs.declared.facts.Facts.{Facts}
use Rattle.ssh_findings.specs.declared.host_facts.HostFacts.{HostFacts}

-- one letter in place of any text that has bytes
abbrev pub stand_in : List ℕ → List ℕ
stand_in [] = []
stand_in (c ∷ cs) = codes "x"

abbrev pub carried_stand_in : Carried → Carried
carried_stand_in c = record c { text = stand_in c.text }

abbrev pub rights_stand_in : Rights → Rights
rights_stand_in r = record r { command = option_map stand_in r.command; carried = map carried_stand_in r.carried }

-- an entry of authorized_keys with one letter in place of each text
abbrev pub facts_stand_in : Facts → Facts
facts_stand_in f = record f {
  comment = stand_in f.comment;
  rights = rights_stand_in f.rights;
  from = option_map stand_in f.from;
  principals = option_map stand_in f.principals;
}

-- an entry of known_hosts with one letter in place of each text
abbrev pub host_stand_in : HostFacts → HostFacts
host_stand_in f = record f { comment = stand_in f.comment; names = stand_in f.names }

-- ---- the texts

-- a text, if it has bytes
abbrev pub if_bytes : List ℕ → List (List ℕ)
if_bytes [] = []
if_bytes (c ∷ cs) = (c ∷ cs) ∷ []

-- the texts of an entry, in the order of the text form: comment, command, texts that are listed as they are, from, principals
abbrev pub entry_texts : Facts → List (List ℕ)
entry_texts f =
    if_bytes f.comment ++ option_to_list f.rights.command ++ map (λ (c : Carried). c.text) f.rights.carried
    ++ option_to_list f.from ++ option_to_list f.principals
