-- The records of authorized_keys lines, as text (this project's rule). Each line ends with an LF; all but the first
-- begin with four spaces.
use Rattle.std.specs.Prelude.{◌++◌, ◌∷◌, [], ℕ, ℤ, Bool, List, Option, Some, None, codes, if◌then◌else◌}
use Rattle.std.specs.List.{flat_map}
use Rattle.std.specs.Fmt.{decimal}
use Rattle.ssh_keys.specs.declared.kind.KeyKind.{KeyKind}
use Rattle.ssh_keys.specs.Names.{key_name_of}
use Rattle.ssh_rights.specs.declared.rights.Carried.{Carried}
use Rattle.ssh_rights.specs.declared.rights.Rights.{Rights}
use Rattle.ssh_print.specs.DecisionText.{carried_word}
use Rattle.ssh_print.specs.Texts.{escaped_text, text_line, word_line}
use Rattle.ssh_findings.specs.declared.facts.Facts.{Facts}
use Rattle.ssh_findings.specs.declared.finding.Finding.{Finding}
use Rattle.ssh_findings.specs.declared.recovered_key.HeldKey.{HeldKey}
use Rattle.ssh_review.specs.RightsWords.{rights_words}
use Rattle.ssh_print.specs.Dates.{moment_text}
use Rattle.ssh_review.specs.Findings.{finding_line}

-- the name of the file and the number of the line
abbrev pub place_text : List ℕ → ℕ → List ℕ
place_text head number = head ++ codes ":" ++ decimal number ++ codes ": "

abbrev pub role_word : Bool → List ℕ
role_word is_authority = if is_authority then codes "authority " else codes "key "

-- the number of bits of an RSA key
abbrev pub bits_text : Option ℕ → List ℕ
bits_text None = []
bits_text (Some bits) = codes " " ++ decimal bits

-- a comment, if it has bytes
abbrev pub comment_text : List ℕ → List ℕ
comment_text [] = []
comment_text (c ∷ cs) = codes " " ++ escaped_text (c ∷ cs)

-- a fingerprint as `ssh-keygen -l` prints it
unfoldable pub fingerprint_word : List ℕ → List ℕ
fingerprint_word fingerprint = codes " SHA256:" ++ fingerprint

-- the type of a key, the size of an RSA key, and the fingerprint
unfoldable pub key_words : KeyKind → Option ℕ → List ℕ → List ℕ
key_words kind bits fingerprint = key_name_of kind ++ bits_text bits ++ fingerprint_word fingerprint

-- the key and the comment
unfoldable pub entry_head : Facts → List ℕ
entry_head f =
    role_word f.is_authority ++ key_words f.kind f.bits f.fingerprint ++ comment_text f.comment ++ codes "\n"

-- the rights that are on
unfoldable pub rights_inset : Rights → List ℕ
rights_inset r = codes "    rights " ++ rights_words r ++ codes "\n"

-- the value of an option, if there is one
unfoldable pub setting_line : List ℕ → Option (List ℕ) → List ℕ
setting_line word None = []
setting_line word (Some text) = text_line word text

-- the text of an option that is listed as it is, without reading it
abbrev pub carried_inset : Carried → List ℕ
carried_inset c = codes "    carry " ++ carried_word c.name ++ codes " " ++ escaped_text c.text ++ codes "\n"

-- the rights that the line gives: the rights that are on, the forced command, and the texts of options that are listed
-- as they are
unfoldable pub right_lines : Rights → List ℕ
right_lines r = rights_inset r ++ setting_line (codes "    command ") r.command ++ flat_map carried_inset r.carried

unfoldable pub flag_line : Bool → List ℕ → List ℕ
flag_line stands line = if stands then line else []

-- the moment at which the entry expires, and its date
unfoldable pub until_line : Option ℤ → List ℕ
until_line None = []
until_line (Some moment) = word_line (codes "    expires ") (moment_text moment)

-- the limits of the key: flags of security keys, addresses, principals, time
unfoldable pub limit_lines : Facts → List ℕ
limit_lines f =
    flag_line f.no_touch_required (codes "    no-touch-required\n")
    ++ flag_line f.verify_required (codes "    verify-required\n")
    ++ setting_line (codes "    from ") f.from
    ++ setting_line (codes "    principals ") f.principals
    ++ until_line f.until

-- the record of an entry with the reported findings
unfoldable pub entry_text : List ℕ → ℕ → Facts → List Finding → List ℕ
entry_text name n f found =
    place_text name n ++ entry_head f ++ right_lines f.rights ++ limit_lines f ++ flat_map finding_line found

-- the recovered key of a line that cannot be read, if there is one
abbrev pub held_words : Option HeldKey → List ℕ
held_words None = []
held_words (Some held) = codes " " ++ key_words held.kind held.bits held.fingerprint

-- the record of a line that cannot be read, with its recovered key, if there is one, and the reported findings
unfoldable pub unreadable_text : List ℕ → ℕ → Option HeldKey → List Finding → List ℕ
unreadable_text name n held found =
    place_text name n ++ codes "unreadable" ++ held_words held ++ codes "\n" ++ flat_map finding_line found
