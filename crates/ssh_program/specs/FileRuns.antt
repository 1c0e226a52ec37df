-- What a run of `rewrite`, `readable`, `hash` or `review` means that ends without a fault (this project's rule).
use Rattle.std.specs.Prelude.{◌≡◌, ◌⊎◌, ◌↔◌, ◌++◌, ℕ, false, List, [], ◌∷◌, Option, Some, None, Ok}
use Rattle.clap.specs.Words.{Row}
use Rattle.jiff.specs.Types.{TimeZone}
use Rattle.ssh_offers.specs.declared.claim.Signed.{Signed}
use Rattle.ssh_offers.specs.FirstRefusal.{AreBytes}
use Rattle.ssh_offers.specs.HostClaim.{HostClaim}
use Rattle.ssh_offers.specs.LoginClaim.{LoginClaim}
use Rattle.ssh_rights.specs.declared.rights.Rights.{Rights}
use Rattle.ssh_rules.specs.declared.reason.Reason.{Reason}
use Rattle.ssh_trust.specs.declared.decision.Decision.TheVariants.{Granted}
use Rattle.ssh_trust.specs.Answer.{host_answer, login_answer}
use Rattle.ssh_trust.specs.HostDecision.{host_decision}
use Rattle.ssh_trust.specs.LoginDecision.{login_decision}
use Rattle.ssh_print.specs.Responses.{Response}
use Rattle.ssh_files.specs.SourceState.{SourceState, bytes_at}
use Rattle.ssh_files.specs.Loading.{KeepsOthers, within_limit}
use Rattle.ssh_files.specs.Parts.{after_whole}
use Rattle.ssh_files.specs.Salts.{salts_of}
use Rattle.ssh_files.specs.Values.{ReadsZone}
use Rattle.ssh_review.specs.Grants.{FindsShared, Grants, IsRevocationUnreadable, IsRevoked}
use Rattle.ssh_review.specs.HostListing.{IsHostListed}
use Rattle.ssh_review.specs.HostReviews.{host_whole_review}
use Rattle.ssh_review.specs.Listing.{IsListed}
use Rattle.ssh_review.specs.ReadableDecisions.{IsAnsweredAlike, IsKeptGrant}
use Rattle.ssh_review.specs.Reviews.{whole_review}
use Rattle.ssh_review.specs.declared.show.Show.TheVariants.{All}
use Rattle.ssh_program.specs.declared.args.ArgName.TheVariants as option
use Rattle.ssh_program.specs.declared.review.ReviewKind.TheVariants.{Auth, Known}
use Rattle.ssh_program.specs.declared.review.ReviewKind.{ReviewKind}
use Rattle.ssh_program.specs.declared.rewriting.NewFile.TheVariants.{CanonicalAuth, CanonicalKnown}
use Rattle.ssh_program.specs.declared.subcommand.Subcommand.{Subcommand}
use Rattle.ssh_program.specs.CommandLine.{request_of}
use Rattle.ssh_program.specs.Requests.{request_words}
use Rattle.ssh_program.specs.Rewritings.{rewrite_kind}
use Rattle.ssh_program.specs.ReviewShows.{show_asked}
use Rattle.ssh_program.specs.ReviewZones.{review_rule}
use Rattle.ssh_program.specs.ReviewForms.{asks_page}
use Rattle.ssh_review.specs.FileNames.{NameSeen, file_head}
use Rattle.ssh_program.specs.Spelled.{ReviewAsked, in_lines, review_spelled}
use Rattle.ssh_program.specs.Spelling.{given, needed, value}

-- the arguments ask this subcommand, with these options
abbrev pub AsksWith : Subcommand → List (List ℕ) → SourceState → List Row → Type 0
AsksWith subcommand words s rows = request_of (request_words words s) ≡ Some (record { subcommand = subcommand; rows = rows })

-- ---- `rewrite`

-- the new authorized_keys file answers each login as the file does, whatever is vouched for
abbrev pub AnswersLogins : List ℕ → List ℕ → Type 0
AnswersLogins file new = AreBytes file → (claim : LoginClaim) (vouched : List Signed) → login_answer new claim vouched ≡ login_answer file claim vouched

-- the same of a known_hosts file and a host's key
abbrev pub AnswersHosts : List ℕ → List ℕ → Type 0
AnswersHosts file new = AreBytes file → (claim : HostClaim) (vouched : List Signed) → host_answer new claim vouched ≡ host_answer file claim vouched

-- status 0: the file is there, and the text that was printed is a file that is answered as it is
pub record FileRewritten (rows : List Row) (s : SourceState) (r : Response) : Type 0 where
  pub name : List ℕ
  pub named : needed option.File rows ≡ Ok name
  pub file : List ℕ
  pub there : bytes_at s name ≡ Some file
  pub logins : value rewrite_kind option.Kind rows ≡ Ok CanonicalAuth → AnswersLogins file r.text
  pub hosts : value rewrite_kind option.Kind rows ≡ Ok CanonicalKnown → AnswersHosts file r.text

-- ---- `readable`

-- the new authorized_keys file answers each login as the file does, or by a line that is left out, whatever is vouched for
abbrev pub AnswersKept : List ℕ → List ℕ → Type 0
AnswersKept file new = AreBytes file → (claim : LoginClaim) (vouched : List Signed) → IsAnsweredAlike file new claim vouched

-- and whatever it grants, a line of the file admits that is kept
abbrev pub GrantsKept : List ℕ → List ℕ → Type 0
GrantsKept file new = AreBytes file → (claim : LoginClaim) (vouched : List Signed) (n : ℕ) (rights : Option Rights) (reasons : List (ℕ × Reason)) (evidence : List Signed)
    → login_decision new claim vouched ≡ Granted n rights reasons evidence → IsKeptGrant file claim

-- status 0: the file is there, and the text that was printed is such a file
pub record FileReadable (rows : List Row) (s : SourceState) (r : Response) : Type 0 where
  pub name : List ℕ
  pub named : needed option.File rows ≡ Ok name
  pub file : List ℕ
  pub there : bytes_at s name ≡ Some file
  pub answers : AnswersKept file r.text
  pub grants : GrantsKept file r.text

-- ---- `hash`

-- The new file, its host names hashed with these salts, keeps each grant and each revocation; it adds a grant only where two
-- names share a hash.
pub record KeepsGrants (file : List ℕ) (salts : List (List ℕ)) (new : List ℕ) : Type 0 where
  pub keeps : (claim : HostClaim) (vouched : List Signed) → Grants file claim vouched → Grants new claim vouched
  pub adds_none : (claim : HostClaim) (vouched : List Signed) → Grants new claim vouched → Grants file claim vouched ⊎ FindsShared file salts new claim
  pub revoked : (claim : HostClaim) (vouched : List Signed) → IsRevoked (host_decision file claim vouched) ↔ IsRevoked (host_decision new claim vouched)
  pub unreadable : (claim : HostClaim) (vouched : List Signed) → IsRevocationUnreadable (host_decision file claim vouched) ↔ IsRevocationUnreadable (host_decision new claim vouched)

-- status 0: the salts and the file are there, and the text that was printed is such a file
pub record FileHashed (rows : List Row) (s : SourceState) (r : Response) : Type 0 where
  pub name : List ℕ
  pub named : needed option.File rows ≡ Ok name
  pub salts_name : List ℕ
  pub salts_named : needed option.Salts rows ≡ Ok salts_name
  pub salt_bytes : List ℕ
  pub salts_there : within_limit (bytes_at s salts_name) ≡ Some salt_bytes
  pub salts : List (List ℕ)
  pub are_salts : salts_of salt_bytes ≡ Some salts
  pub file : List ℕ
  pub there : bytes_at (after_whole s salts_name) name ≡ Some file
  pub grants : AreBytes salt_bytes → AreBytes file → KeepsGrants file salts r.text

-- ---- `review`

-- no key is asked for, so the reviews are of all keys
abbrev pub AsksNoKey : List Row → Type 0
AsksNoKey rows = given option.Key rows ≡ None

-- all of the reviews is shown
abbrev pub ShowsAll : List Row → Type 0
ShowsAll rows = show_asked rows ≡ Ok All

-- the answer is in lines, and not a page
abbrev pub AsksLines : List Row → Type 0
AsksLines rows = asks_page rows ≡ false

abbrev pub IsPartOf : List ℕ → List ℕ → Type 0
IsPartOf part text = (before : List ℕ) × (after : List ℕ) × (text ≡ before ++ (part ++ after))

-- wherever the file grants a login, at whatever query, its review lists the line
abbrev pub ListsLogins : ReviewAsked → List ℕ → List ℕ → Type 0
ListsLogins asked head file = AreBytes file → (claim : LoginClaim) (vouched : List Signed) (n : ℕ) (rights : Option Rights) (reasons : List (ℕ × Reason)) (evidence : List Signed)
    → login_decision file claim vouched ≡ Granted n rights reasons evidence → IsListed asked.form asked.asking head file claim n rights

-- the same of a host's key
abbrev pub ListsHosts : ReviewAsked → List ℕ → List ℕ → Type 0
ListsHosts asked head file = AreBytes file → (claim : HostClaim) (vouched : List Signed) (n : ℕ) (rights : Option Rights) (reasons : List (ℕ × Reason)) (evidence : List Signed)
    → host_decision file claim vouched ≡ Granted n rights reasons evidence → IsHostListed asked.form asked.asking head file n

-- the review of a file of this format is a part of what was printed, and lists whoever the file lets in
abbrev pub PrintsReview : ReviewKind → ReviewAsked → List ℕ → List ℕ → List ℕ → Type 0
PrintsReview Auth asked head text file = IsPartOf (whole_review asked.form asked.asking head file).text text × ListsLogins asked head file
PrintsReview Known asked head text file = IsPartOf (host_whole_review asked.form asked.asking head file).text text × ListsHosts asked head file

-- each of the files is there, one read after the other, and its review was printed
abbrev pub PrintsReviews : ReviewAsked → List ℕ → List NameSeen → SourceState → Type 0
PrintsReviews asked text [] s = Unit {0}
PrintsReviews asked text (name ∷ names) s =
    ((file : List ℕ) × (bytes_at s name.path ≡ Some file) × PrintsReview asked.kind asked (file_head asked.form name) text file)
    × ((m : SourceState) × KeepsOthers name.path s (Some m) × PrintsReviews asked text names m)

-- status 0 or 1: whoever is let in by one of the named files is so by a line that was printed
pub record FilesReviewed (rows : List Row) (s : SourceState) (r : Response) : Type 0 where
  pub zone : Option TimeZone
  pub read : ReadsZone (review_rule rows) zone
  pub asked : ReviewAsked
  pub spelled : review_spelled rows zone ≡ Ok (in_lines asked)
  pub reviews : PrintsReviews asked r.text asked.names s
