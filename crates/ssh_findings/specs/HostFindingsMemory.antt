-- How much memory the stored facts of earlier known_hosts lines take (this project's rule).
use Rattle.std.specs.Prelude.{ℕ, ◌+◌, if◌then◌else◌, List, [], ◌∷◌, length, Option, Some, None}
use Rattle.ssh_findings.specs.Entries.{sum_of}
use Rattle.ssh_patterns.specs.Lists.{pieces_left}
use Rattle.ssh_findings.specs.declared.host_earlier.EarlierHosts.{EarlierHosts}
use Rattle.ssh_findings.specs.declared.host_facts.HostFacts.{HostFacts}
use Rattle.ssh_findings.specs.declared.first_key.FirstKey.{FirstKey}
use Rattle.ssh_findings.specs.declared.least.LeastLines.{LeastLines}
use Rattle.ssh_findings.specs.declared.named.KindKeys.{KindKeys}
use Rattle.ssh_findings.specs.declared.named.NamedKeys.{NamedKeys}
use Rattle.ssh_findings.specs.declared.host_facts.RevocationFacts.{RevocationFacts}
use Rattle.ssh_findings.specs.Items.{is_plain}

-- the bytes of the texts that are stored, with a line or prepared for one
abbrev pub line_text_bytes : List ℕ → Option ℕ → ℕ
line_text_bytes text line = length text

-- the bytes of a name, and of the blob of its first key
abbrev pub name_bytes : List ℕ → FirstKey → ℕ
name_bytes item first = length item + length first.blob

abbrev pub texts_bytes : LeastLines → ℕ
texts_bytes m = sum_of line_text_bytes m.lines

abbrev pub names_bytes : NamedKeys → ℕ
names_bytes m = sum_of name_bytes m.keys

-- the bytes that are stored for the names of each kind of key
abbrev pub kinds_bytes : KindKeys → ℕ
kinds_bytes m =
    names_bytes m.rsa + names_bytes m.p256 + names_bytes m.p384 + names_bytes m.p521 + names_bytes m.ed25519 + names_bytes m.sk_p256
    + names_bytes m.sk_ed25519

-- the bytes that are stored for all lines
abbrev pub host_bytes_kept : EarlierHosts → ℕ
host_bytes_kept m =
    texts_bytes m.hosts + texts_bytes m.authorities + texts_bytes m.revoked + texts_bytes m.spelled + kinds_bytes m.named

-- the bytes of the plain names of a list, with the key's blob for each
abbrev pub items_bytes : List ℕ → List (List ℕ) → ℕ
items_bytes blob [] = 0
items_bytes blob (item ∷ items) = (if is_plain item then length item + length blob else 0) + items_bytes blob items

-- the most bytes that are stored for an entry
abbrev pub host_entry_bytes : List ℕ → HostFacts → ℕ
host_entry_bytes blob f = length blob + (if f.is_authority then 0 else items_bytes blob (pieces_left f.list))

-- the sum of a measure of each stored text: over the texts that are stored for a line, and over names
abbrev pub texts_sum : (List ℕ → ℕ) → LeastLines → ℕ
texts_sum weight m = sum_of (λ text line. weight text) m.lines

abbrev pub names_sum : (List ℕ → ℕ) → NamedKeys → ℕ
names_sum weight m = sum_of (λ item first. weight item) m.keys

-- over the names of each kind of key
abbrev pub kinds_sum : (List ℕ → ℕ) → KindKeys → ℕ
kinds_sum weight m =
    names_sum weight m.rsa + names_sum weight m.p256 + names_sum weight m.p384 + names_sum weight m.p521 + names_sum weight m.ed25519
    + names_sum weight m.sk_p256 + names_sum weight m.sk_ed25519

-- over all stored texts: the blobs of keys, the revoked bytes with the blob of which they are another encoding, and
-- names
abbrev pub kept_sum : (List ℕ → ℕ) → EarlierHosts → ℕ
kept_sum weight m =
    texts_sum weight m.hosts + texts_sum weight m.authorities + texts_sum weight m.revoked + texts_sum weight m.spelled
    + kinds_sum weight m.named

-- over the plain names of a list
abbrev pub items_sum : (List ℕ → ℕ) → List (List ℕ) → ℕ
items_sum weight [] = 0
items_sum weight (item ∷ items) = (if is_plain item then weight item else 0) + items_sum weight items

-- over the texts of an entry: its blob, and each plain name of its list
abbrev pub entry_sum : (List ℕ → ℕ) → List ℕ → HostFacts → ℕ
entry_sum weight blob f = weight blob + (if f.is_authority then 0 else items_sum weight (pieces_left f.list))

-- for the blob of the key of which a revocation has another encoding, if it has: the measure of the text, and its bytes
abbrev pub spelling_sum : (List ℕ → ℕ) → Option (List ℕ) → ℕ
spelling_sum weight None = 0
spelling_sum weight (Some blob) = weight blob

abbrev pub spelling_bytes : Option (List ℕ) → ℕ
spelling_bytes None = 0
spelling_bytes (Some blob) = length blob

-- over the texts of a revocation: its bytes, and the blob of the key of which they are another encoding
abbrev pub revocation_sum : (List ℕ → ℕ) → List ℕ → RevocationFacts → ℕ
revocation_sum weight bytes f = weight bytes + spelling_sum weight f.spelling

-- the most bytes that are stored for a revocation
abbrev pub revocation_bytes : List ℕ → RevocationFacts → ℕ
revocation_bytes bytes f = length bytes + spelling_bytes f.spelling

-- the bytes of all stored texts, and their number
abbrev pub text_bytes_kept : EarlierHosts → ℕ
text_bytes_kept m = kept_sum (λ text. length text) m

abbrev pub texts_kept : EarlierHosts → ℕ
texts_kept m = kept_sum (λ text. 1) m
