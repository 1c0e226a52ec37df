-- Worked examples of files and of the responses to them (this project's rules).
use Rattle.std.specs.Prelude.{◌≡◌, ◌++◌, ℕ, List, [], ◌∷◌, codes, Option, Some, None, Ok, Err, refl, if◌then◌else◌}
use Rattle.std.specs.Fmt.{digits}
use Rattle.std.specs.Str.{bytes_eq}
use Rattle.ssh_files.specs.declared.files.UnreadCause.TheVariants.{NotFound}
use Rattle.ssh_files.specs.SourceState.{SourceState, bytes_at, dash, nothing}
use Rattle.ssh_files.specs.VouchFile.{three_fields, vouched_of}
use Rattle.ssh_offers.specs.declared.claim.AuditError.TheVariants.{Address, WrongAlgorithm}
use Rattle.ssh_offers.specs.declared.claim.Signed.{Signed}
use Rattle.ssh_print.specs.Responses.{Response}
use Rattle.ssh_trust.specs.declared.decision.Decision.{Decision}
use Rattle.ssh_program.specs.FileNames.{SshsigQuestion}
use Rattle.ssh_program.specs.Audits.{after_vouching, audit_response, vouched_in}
use Rattle.ssh_program.specs.Hashings.{hash_response}
use Rattle.ssh_program.specs.Rewritings.{new_file, rewrite_kind, rewrite_over}
use Rattle.ssh_program.specs.declared.rewriting.NewFile.TheVariants.{CanonicalAuth, CanonicalKnown}
use Rattle.ssh_program.specs.Sshsigs.{signature_response}
use Rattle.ssh_program.specs.VouchLines.{vouch_file}

-- ---- sources

-- one file of this name with these bytes, and this standard input
abbrev source : List ℕ → List ℕ → List ℕ → SourceState
source name bytes input = record {
  named = λ asked. if bytes_eq asked name then Ok bytes else Err NotFound;
  input = input;
  chosen = nothing;
  choices = 0;
  failures = 0;
  failed = None;
}

abbrev signed : List ℕ → List ℕ → List ℕ → Signed
signed key message signature = record { key = key; message = message; signature = signature }

-- a fault, with its status
abbrev fault : List ℕ → Response
fault text = record { status = 2; text = codes "fault " ++ text ++ codes "\n" }

-- ---- vouch files

-- the signatures of a vouch file: by a name, or on standard input up to the first empty line; the faults of a missing
-- one and of one with a bad line
abbrev pub VouchFilesReported : Type 0
VouchFilesReported = (vouched_in None (source (codes "v") [] []) ≡ Ok [])
    × (vouched_in (Some (codes "v")) (source (codes "v") (codes "01 02 -\n") []) ≡ Ok (signed (1 ∷ []) (2 ∷ []) [] ∷ []))
    × (vouched_in (Some (codes "-")) (source (codes "v") [] (codes "01 02 -\n\nx")) ≡ Ok (signed (1 ∷ []) (2 ∷ []) [] ∷ []))
    × (vouched_in (Some (codes "-")) (source (codes "v") [] (codes "\n01 02 -\n")) ≡ Ok [])
    × (vouched_in (Some (codes "w x")) (source (codes "v") (codes "01 02 -\n") []) ≡ Err (fault (codes "file w x")))
    × (vouched_in (Some (codes "v")) (source (codes "v") (codes "# v\n\n0 1 2\n") []) ≡ Err (fault (codes "vouch 3")))

pub vouch_files_reported : VouchFilesReported
unfolding vouched_of three_fields digits
vouch_files_reported = (refl, refl, refl, refl, refl, refl)

-- what is left for the trust file: of standard input what follows the empty line, of another file all
abbrev pub TrustFilesLeft : Type 0
TrustFilesLeft = (bytes_at (after_vouching (Some (codes "-")) (source (codes "v") [] (codes "01 02 -\n\nx\n\ny"))) dash ≡ Some (codes "x\n\ny"))
    × (bytes_at (after_vouching (Some (codes "-")) (source (codes "v") [] (codes "01 02 -\n"))) dash ≡ Some [])
    × (bytes_at (after_vouching (Some (codes "v")) (source (codes "v") (codes "01 02 -\n\nx") (codes "y"))) (codes "v") ≡ Some (codes "01 02 -\n\nx"))
    × (bytes_at (after_vouching (Some (codes "v")) (source (codes "v") (codes "01 02 -\n") (codes "y"))) dash ≡ Some (codes "y"))
    × (bytes_at (after_vouching None (source (codes "v") [] (codes "y"))) dash ≡ Some (codes "y"))

pub trust_files_left : TrustFilesLeft
trust_files_left = (refl, refl, refl, refl, refl)

-- the printed lines of signatures are a vouch file of them
abbrev pub VouchFilesWritten : Type 0
VouchFilesWritten = vouch_file (signed (1 ∷ 255 ∷ []) (16 ∷ []) [] ∷ signed (2 ∷ []) (3 ∷ []) (171 ∷ []) ∷ []) ≡ codes "01ff 10 -\n02 03 ab\n"

pub vouch_files_written : VouchFilesWritten
vouch_files_written = refl

-- ---- the order of faults

abbrev vouch_source : List ℕ → SourceState
vouch_source bytes = source (codes "v") bytes []

-- the vouch file's faults come before the offer's, and the offer's before that of a missing trust file
abbrev pub FaultsInOrder : (List ℕ → List Signed → Decision) → Type 0
FaultsInOrder decision = (audit_response (Err Address) (record { trust = codes "t"; vouch = Some (codes "w") }) (vouch_source []) ≡ fault (codes "file w"))
    × (audit_response (Err Address) (record { trust = codes "t"; vouch = Some (codes "v") }) (vouch_source (codes "x\n")) ≡ fault (codes "vouch 1"))
    × (audit_response (Err Address) (record { trust = codes "t"; vouch = Some (codes "v") }) (vouch_source []) ≡ fault (codes "A6"))
    × (audit_response (Err WrongAlgorithm) (record { trust = codes "v"; vouch = None }) (vouch_source []) ≡ fault (codes "A3"))
    × (audit_response (Ok decision) (record { trust = codes "t"; vouch = Some (codes "v") }) (vouch_source []) ≡ fault (codes "A9"))

pub faults_in_order : (decision : List ℕ → List Signed → Decision) → FaultsInOrder decision
unfolding vouched_of three_fields digits
faults_in_order decision = (refl, refl, refl, refl, refl)

-- a question about a file signature, with an empty namespace
abbrev words : List ℕ → List ℕ → Option (List ℕ) → SshsigQuestion
words body message vouch = record { body = body; message = message; namespace = []; vouch = vouch }

-- the vouch file's fault comes before the body's, and the body's before the message's, whatever the body
abbrev pub SignatureFaultsInOrder : Type 0
SignatureFaultsInOrder = (signature_response (words (codes "b") (codes "m") (Some (codes "w"))) (vouch_source []) ≡ fault (codes "file w"))
    × (signature_response (words (codes "b") (codes "m") (Some (codes "v"))) (vouch_source (codes "x\n")) ≡ fault (codes "vouch 1"))
    × (signature_response (words (codes "b") (codes "m") (Some (codes "v"))) (vouch_source []) ≡ fault (codes "file b"))
    × (signature_response (words (codes "v") (codes "m") (Some (codes "v"))) (vouch_source []) ≡ fault (codes "file m"))

pub signature_faults_in_order : SignatureFaultsInOrder
unfolding vouched_of three_fields digits
signature_faults_in_order = (refl, refl, refl, refl)

-- ---- files that are rewritten

-- the formats that `rewrite` knows, and the fault of a missing trust file
abbrev pub RewriteKinds : Type 0
RewriteKinds = (rewrite_kind (codes "auth") ≡ Some CanonicalAuth)
    × (rewrite_kind (codes "known") ≡ Some CanonicalKnown)
    × (rewrite_kind (codes "Auth") ≡ None)
    × (rewrite_kind (codes "key") ≡ None)
    × (rewrite_kind [] ≡ None)
    × (rewrite_over (new_file CanonicalAuth) None ≡ fault (codes "A9"))
    × (rewrite_over (new_file CanonicalKnown) None ≡ fault (codes "A9"))

pub rewrite_kinds : RewriteKinds
rewrite_kinds = (refl, refl, refl, refl, refl, refl, refl)

-- ---- files with hashed host names

-- a file of these salts, and an empty standard input
abbrev salt_source : List ℕ → SourceState
salt_source salts = source (codes "s") salts []

-- The salts come first: a missing file of salts, and one with a byte too many, is reported before a missing trust file.
-- More salts than names to hash are no fault.
abbrev pub HashFaultsInOrder : Type 0
HashFaultsInOrder = (hash_response dash (codes "s") (salt_source (codes "0123456789abcdefghij")) ≡ record { status = 0; text = [] })
    × (hash_response (codes "f") (codes "s") (salt_source []) ≡ fault (codes "A9"))
    × (hash_response (codes "f") (codes "t") (salt_source []) ≡ fault (codes "file t"))
    × (hash_response (codes "f") (codes "s") (salt_source (codes "0123456789abcdefghijk")) ≡ fault (codes "file s"))

pub hash_faults_in_order : HashFaultsInOrder
hash_faults_in_order = (refl, refl, refl, refl)
