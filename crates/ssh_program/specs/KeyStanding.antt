-- What a run of `review` with `--key` means that ends with status 0 or 1 (this project's rule).
use Rattle.std.specs.Prelude.{◌≡◌, ℕ, Bool, true, false, List, [], ◌∷◌, Option, Some, Ok, map}
use Rattle.clap.specs.Words.{Row}
use Rattle.jiff.specs.Types.{TimeZone}
use Rattle.ssh_findings.specs.Asking.{Asking}
use Rattle.ssh_print.specs.Responses.{Response}
use Rattle.ssh_files.specs.SourceState.{SourceState, bytes_at}
use Rattle.ssh_files.specs.Loading.{KeepsOthers, within_limit}
use Rattle.ssh_files.specs.Values.{ReadsZone}
use Rattle.ssh_review.specs.declared.end.Form.{Form}
use Rattle.ssh_review.specs.KeyListing.{HostStands, HostStandsNowhere, Stands, StandsNowhere}
use Rattle.ssh_review.specs.KeyReviews.{KeyReview, host_whole_key_review, whole_key_review}
use Rattle.ssh_program.specs.declared.args.ArgName.TheVariants as option
use Rattle.ssh_program.specs.declared.review.ReviewKind.{ReviewKind}
use Rattle.ssh_program.specs.declared.review.ReviewKind.TheVariants.{Auth, Known}
use Rattle.ssh_program.specs.FileRuns.{IsPartOf}
use Rattle.ssh_program.specs.FingerprintValues.{is_fingerprint}
use Rattle.ssh_program.specs.KeyRuns.{EachFile, SomeFile}
use Rattle.ssh_program.specs.KeySeeking.{fingerprint_or_fault, spelled_fingerprint}
use Rattle.ssh_program.specs.ReviewZones.{review_rule}
use Rattle.ssh_review.specs.FileNames.{NameSeen, file_head}
use Rattle.ssh_program.specs.Spelled.{ReviewAsked, in_lines, review_spelled}
use Rattle.ssh_program.specs.Spelling.{given}

-- this key is asked for, by its fingerprint or by the name of its file
abbrev pub AsksForKey : List Row → List ℕ → Type 0
AsksForKey rows key = given option.Key rows ≡ Some key

-- the value gives this fingerprint; if it names the key's file, the source is left so after that file was read
abbrev pub GivesBy : Bool → List ℕ → SourceState → List ℕ → SourceState → Type 0
GivesBy true key s fingerprint left = (spelled_fingerprint key ≡ Ok fingerprint) × (left ≡ s)
GivesBy false key s fingerprint left = (fingerprint_or_fault key (within_limit (bytes_at s key)) ≡ Ok fingerprint) × KeepsOthers key s (Some left)

-- a line of a file of this format holds the key with this fingerprint
abbrev pub StandsIn : ReviewKind → List ℕ → List ℕ → Type 0
StandsIn Auth fingerprint file = Stands fingerprint file
StandsIn Known fingerprint file = HostStands fingerprint file

-- no line of it does
abbrev pub StandsNowhereIn : ReviewKind → List ℕ → List ℕ → Type 0
StandsNowhereIn Auth fingerprint file = StandsNowhere fingerprint file
StandsNowhereIn Known fingerprint file = HostStandsNowhere fingerprint file

-- the review for the key of a file of this format within the limit
abbrev pub whole_for_key : ReviewKind → List ℕ → Form → Asking → List ℕ → List ℕ → KeyReview
whole_for_key Auth fingerprint form asking name file = whole_key_review fingerprint form asking name file
whole_for_key Known fingerprint form asking name file = host_whole_key_review fingerprint form asking name file

-- each of the files is there, one read after the other, and its review for the key is a part of what was printed
abbrev pub PrintsKeyReviews : ReviewAsked → List ℕ → List ℕ → List NameSeen → SourceState → Type 0
PrintsKeyReviews asked fingerprint text [] s = Unit {0}
PrintsKeyReviews asked fingerprint text (name ∷ names) s =
    ((file : List ℕ) × (bytes_at s name.path ≡ Some file) × IsPartOf (whole_for_key asked.kind fingerprint asked.form asked.asking (file_head asked.form name) file).file.text text)
    × ((m : SourceState) × KeepsOthers name.path s (Some m) × PrintsKeyReviews asked fingerprint text names m)

-- the options ask where the key with this fingerprint stands, and each file's records of it were printed
pub record KeyWanted (rows : List Row) (key : List ℕ) (s : SourceState) (r : Response) : Type 0 where
  pub zone : Option TimeZone
  pub read : ReadsZone (review_rule rows) zone
  pub asked : ReviewAsked
  pub spelled : review_spelled rows zone ≡ Ok (in_lines asked)
  pub fingerprint : List ℕ
  pub left : SourceState
  pub gives : GivesBy (is_fingerprint key) key s fingerprint left
  pub reviews : PrintsKeyReviews asked fingerprint r.text asked.names left

-- status 0: each of the named files is there, and no line of it holds the key
pub record KeyNowhere (rows : List Row) (key : List ℕ) (s : SourceState) (r : Response) : Type 0 where
  pub wanted : KeyWanted rows key s r
  pub nowhere : EachFile (StandsNowhereIn wanted.asked.kind wanted.fingerprint) (map (λ name. name.path) wanted.asked.names) wanted.left

-- status 1: a line of one of the named files holds it
pub record KeyStanding (rows : List Row) (key : List ℕ) (s : SourceState) (r : Response) : Type 0 where
  pub wanted : KeyWanted rows key s r
  pub stands : SomeFile (StandsIn wanted.asked.kind wanted.fingerprint) (map (λ name. name.path) wanted.asked.names) wanted.left
