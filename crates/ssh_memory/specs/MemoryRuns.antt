-- What a run of the program over files in memory means, by its status and its text (this project's rule). The cases are those
-- of `run` of ssh_program.
use Rattle.std.specs.Prelude.{◌≡◌, ◌<◌, ℕ, List, Bool, Some, map}
use Rattle.std.specs.List.{list_all}
use Rattle.clap.specs.Words.{Row}
use Rattle.ssh_files.specs.Loading.{NoReadFailed}
use Rattle.ssh_files.specs.SourceState.{SourceState}
use Rattle.ssh_files.specs.Words.{is_text}
use Rattle.ssh_print.specs.Responses.{Response}
use Rattle.ssh_program.specs.declared.subcommand.Subcommand.TheVariants.{Hash, Host, Login, Review, Rewrite, Trusts}
use Rattle.ssh_program.specs.Account.{Account}
use Rattle.ssh_program.specs.FileNames.{AuditFiles, SshsigQuestion}
use Rattle.ssh_program.specs.FileRuns.{AsksLines, AsksNoKey, AsksWith, FileHashed, FileRewritten, FilesReviewed, ShowsAll}
use Rattle.ssh_program.specs.PageRuns.{AsksPage, FilesOnPage}
use Rattle.ssh_program.specs.GrantedRuns.{AsksFor, DeniesHost, DeniesLogin, GrantsHost, GrantsLogin}
use Rattle.ssh_program.specs.FingerprintRuns.{AsksByFingerprint, FingerprintAdmitted, FingerprintKeptOut}
use Rattle.ssh_program.specs.KeyRuns.{AsksByKey, AsksOfFiles, ClientAdmitted, ClientKeptOut, HostDistrusted, HostTrusted}
use Rattle.ssh_program.specs.KeyStanding.{AsksForKey, KeyNowhere, KeyStanding}
use Rattle.ssh_program.specs.Requests.{Answers, source_of}
use Rattle.ssh_program.specs.SignatureRuns.{AsksSignature, SignatureUnvouched, SignatureVouched}
use Rattle.ssh_program.specs.Texts.{TextPlaces}
use Rattle.ssh_memory.specs.declared.texts.Text.{Text}
use Rattle.ssh_memory.specs.declared.writer.MemoryWriter.{MemoryWriter}

-- ---- words and texts

-- the bytes of these words
abbrev pub texts_of : List Text → List (List ℕ)
texts_of texts = map (λ t. t.bytes.now) texts

-- each of them is UTF-8
abbrev pub are_texts : List Text → Bool
are_texts texts = list_all (λ t. is_text t.bytes.now) texts

-- what a writer in memory took
abbrev pub writer_account : MemoryWriter → Account
writer_account w = record { taken = w.bytes.items; failures = w.failures }

-- this text and this status are the response
abbrev pub Gives : List ℕ → ℕ → Response → Type 0
Gives text status r = (text ≡ r.text) × (status ≡ r.status)

-- ---- a run

-- The response is the defined one, or the fault of memory, where no read has failed. So it is the fault of no read.
pub record AnswersUnfailed (words : List (List ℕ)) (s : SourceState) (r : Response) : Type 0 where
  pub after : SourceState
  pub unfailed : NoReadFailed s (Some after)
  pub answers : Answers words s (Some after) r

-- A run on these words over this source ends with this status, and its response is such a one as `Given` says.
pub record RunMeans (words : List (List ℕ)) (s : SourceState) (status : ℕ) (Given : Response → Type 0) : Type 0 where
  -- the response is the program's answer
  pub answers : (r : Response) × AnswersUnfailed words s r × Given r
  -- Status 0 of a login is a grant, and status 1 means that there is none; so of a host's key,
  pub login : (rows : List Row) (places : TextPlaces) (f : AuditFiles) → AsksFor Login words s rows places f → status ≡ 0
      → (r : Response) × GrantsLogin rows places f (source_of words s) r × Given r
  pub login_denied : (rows : List Row) (places : TextPlaces) (f : AuditFiles) → AsksFor Login words s rows places f → status ≡ 1
      → (r : Response) × DeniesLogin rows places f (source_of words s) r × Given r
  pub host : (rows : List Row) (places : TextPlaces) (f : AuditFiles) → AsksFor Host words s rows places f → status ≡ 0
      → (r : Response) × GrantsHost rows places f (source_of words s) r × Given r
  pub host_denied : (rows : List Row) (places : TextPlaces) (f : AuditFiles) → AsksFor Host words s rows places f → status ≡ 1
      → (r : Response) × DeniesHost rows places f (source_of words s) r × Given r
  -- and of a file signature: it is vouched for, or it is not or is for another namespace.
  pub signature : (w : SshsigQuestion) → AsksSignature words s w → status ≡ 0
      → (r : Response) × SignatureVouched w (source_of words s) r × Given r
  pub signature_denied : (w : SshsigQuestion) → AsksSignature words s w → status ≡ 1
      → (r : Response) × SignatureUnvouched w (source_of words s) r × Given r
  -- Status 0 of `admits` and `trusts`: a line of one of the files lets the key in; status 1: no line of any does.
  pub admits : (rows : List Row) (names : List (List ℕ)) → AsksByKey words s rows names → status ≡ 0
      → ClientAdmitted rows (source_of words s)
  pub admits_none : (rows : List Row) (names : List (List ℕ)) → AsksByKey words s rows names → status ≡ 1
      → ClientKeptOut rows (source_of words s)
  pub admits_fingerprint : (rows : List Row) (names : List (List ℕ)) → AsksByFingerprint words s rows names → status ≡ 0
      → FingerprintAdmitted rows (source_of words s)
  pub admits_no_fingerprint : (rows : List Row) (names : List (List ℕ)) → AsksByFingerprint words s rows names → status ≡ 1
      → FingerprintKeptOut rows (source_of words s)
  pub trusts : (rows : List Row) (names : List (List ℕ)) → AsksOfFiles Trusts words s rows names → status ≡ 0
      → HostTrusted rows (source_of words s)
  pub trusts_none : (rows : List Row) (names : List (List ℕ)) → AsksOfFiles Trusts words s rows names → status ≡ 1
      → HostDistrusted rows (source_of words s)
  -- Status 0 of `rewrite` and `hash`: the text is a file that answers as the file does, or that keeps its grants.
  pub rewrite : (rows : List Row) → AsksWith Rewrite words s rows → status ≡ 0
      → (r : Response) × FileRewritten rows (source_of words s) r × Given r
  pub hash : (rows : List Row) → AsksWith Hash words s rows → status ≡ 0
      → (r : Response) × FileHashed rows (source_of words s) r × Given r
  -- Status 0 or 1 of `review` that asks for no key and no page and leaves nothing out: the text lists each line by which one of
  -- the files lets somebody in.
  pub review : (rows : List Row) (names : List (List ℕ)) → AsksOfFiles Review words s rows names → AsksNoKey rows → AsksLines rows → ShowsAll rows → status < 2
      → (r : Response) × FilesReviewed rows (source_of words s) r × Given r
  -- The same of `review --form html`: the page has a row for each such line.
  pub review_page : (rows : List Row) (names : List (List ℕ)) → AsksOfFiles Review words s rows names → AsksPage rows → status < 2
      → (r : Response) × FilesOnPage rows (source_of words s) r × Given r
  -- Status 1 of `review --key`: the text has the records of a line that holds the key; status 0: no line of any file does.
  pub review_key : (rows : List Row) (names : List (List ℕ)) (key : List ℕ) → AsksOfFiles Review words s rows names → AsksForKey rows key → status ≡ 1
      → (r : Response) × KeyStanding rows key (source_of words s) r × Given r
  pub review_key_none : (rows : List Row) (names : List (List ℕ)) (key : List ℕ) → AsksOfFiles Review words s rows names → AsksForKey rows key → status ≡ 0
      → (r : Response) × KeyNowhere rows key (source_of words s) r × Given r
