-- The records of authorized_keys lines in fields: as JSON objects, or as rows of a table (this project's rule). Each is one
-- line, and both have the same fields in the same order.
use Rattle.std.specs.Prelude.{◌++◌, ℕ, Bool, true, List, Option, Some, None, codes, if◌then◌else◌}
use Rattle.ssh_keys.specs.declared.kind.KeyKind.{KeyKind}
use Rattle.ssh_keys.specs.Names.{key_name_of}
use Rattle.ssh_options.specs.AuthOption.{AuthOption}
use Rattle.ssh_rights.specs.declared.rights.Rights.{Rights}
use Rattle.ssh_findings.specs.declared.facts.Facts.{Facts}
use Rattle.ssh_findings.specs.declared.finding.Finding.{Finding}
use Rattle.ssh_findings.specs.declared.recovered_key.HeldKey.{HeldKey}
use Rattle.ssh_review.specs.RecordFields.{moment_or_null_in, null_in, number_in, number_or_null_in, text_in, text_or_null_in, truth_in}
use Rattle.ssh_review.specs.declared.record_field.FieldForm.{FieldForm}
use Rattle.ssh_review.specs.Findings.{findings_end}
use Rattle.ssh_review.specs.OptionsText.{options_text}
use Rattle.ssh_review.specs.RightsWords.{rights_words}

-- the file, the line, and what the line is
unfoldable pub record_head : FieldForm → List ℕ → ℕ → List ℕ → List ℕ
record_head form head n what = head ++ number_in form (codes "line") n ++ text_in form (codes "what") what

abbrev pub is_word : Bool → List ℕ
is_word is_authority = if is_authority then codes "authority" else codes "key"

-- a fingerprint as `ssh-keygen -l` prints it
abbrev pub fingerprint_text : List ℕ → List ℕ
fingerprint_text fingerprint = codes "SHA256:" ++ fingerprint

-- the type of a key, the size of an RSA key, and the fingerprint
unfoldable pub key_fields : FieldForm → KeyKind → Option ℕ → List ℕ → List ℕ
key_fields form kind bits fingerprint =
    text_in form (codes "type") (key_name_of kind) ++ number_or_null_in form (codes "bits") bits
    ++ text_in form (codes "key") (fingerprint_text fingerprint)

-- the fields of the key, and the comment
unfoldable pub owner_fields : FieldForm → Facts → List ℕ
owner_fields form f = key_fields form f.kind f.bits f.fingerprint ++ text_in form (codes "comment") f.comment

abbrev pub options_in : FieldForm → List AuthOption → List ℕ
options_in form options = text_in form (codes "options") (options_text options)

abbrev pub rights_in : FieldForm → Rights → List ℕ
rights_in form r = text_in form (codes "rights") (rights_words r)

-- the rights that the line gives to the key, and its limits
unfoldable pub grant_fields : FieldForm → Facts → List ℕ
grant_fields form f =
    rights_in form f.rights ++ text_or_null_in form (codes "command") f.rights.command ++ text_or_null_in form (codes "source") f.from
    ++ text_or_null_in form (codes "principals") f.principals ++ moment_or_null_in form (codes "expires") f.until

-- The record of an entry with these options, with the line that lets its key in first, if there is one, whether this one
-- may let it in, and the reported findings.
unfoldable pub entry_in : FieldForm → List ℕ → ℕ → Facts → List AuthOption → Option ℕ → Bool → List Finding → List ℕ
entry_in form head n f options shadowed_by lets_in found =
    record_head form head n (is_word f.is_authority) ++ owner_fields form f ++ options_in form options ++ grant_fields form f
    ++ number_or_null_in form (codes "shadowed_by") shadowed_by ++ truth_in form (codes "lets_in") lets_in ++ findings_end form found

-- the fields of no key
abbrev pub no_key_fields : FieldForm → List ℕ
no_key_fields form = null_in form (codes "type") ++ null_in form (codes "bits") ++ null_in form (codes "key")

-- the recovered key of a line that cannot be read, if there is one
abbrev pub held_fields : FieldForm → Option HeldKey → List ℕ
held_fields form None = no_key_fields form
held_fields form (Some held) = key_fields form held.kind held.bits held.fingerprint

-- no rights and no limits
unfoldable pub no_grant_fields : FieldForm → List ℕ
no_grant_fields form =
    null_in form (codes "rights") ++ null_in form (codes "command") ++ null_in form (codes "source")
    ++ null_in form (codes "principals") ++ null_in form (codes "expires")

-- the fields that only an entry has; a line that cannot be read counts as access
unfoldable pub empty_fields : FieldForm → List ℕ
empty_fields form =
    null_in form (codes "comment") ++ null_in form (codes "options") ++ no_grant_fields form ++ null_in form (codes "shadowed_by")
    ++ truth_in form (codes "lets_in") true

-- the record of a line that cannot be read, with its recovered key, if there is one, and the reported findings
unfoldable pub unreadable_in : FieldForm → List ℕ → ℕ → Option HeldKey → List Finding → List ℕ
unreadable_in form head n held found =
    record_head form head n (codes "unreadable") ++ held_fields form held ++ empty_fields form ++ findings_end form found
