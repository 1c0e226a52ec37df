-- What a review was asked, and the codes of findings that it looked for (this project's rule).
use Rattle.std.specs.Prelude.{◌&&◌, ℕ, Bool, true, not, List, Option, Some, None, filter}
use Rattle.std.specs.List.{list_any}
use denote.Enum.Bare.{sameb}
use Rattle.ssh_findings.specs.Codes.{all_codes, same_code}
use Rattle.ssh_findings.specs.declared.code.Code.{Code}
use Rattle.ssh_findings.specs.declared.code.Code.TheVariants as code
use Rattle.ssh_page.specs.contracts.file.FileKind as kind_type
use Rattle.ssh_page.specs.declared.file.FileKind.{FileKind}
use Rattle.ssh_page.specs.declared.file.FileKind.TheVariants.{AuthorizedKeys, KnownHosts}
use Rattle.ssh_page.specs.declared.question.PageQuestion.{PageQuestion}

pub record QuestionSeen : Type 0 where
  pub kind : FileKind
  -- seconds since 1970-01-01 in UTC
  pub now : ℕ
  -- the time zone of expiry times without `Z`, as a POSIX rule
  pub zone : List ℕ
  -- the minimum size of an RSA key, in bits
  pub rsa_minimum : ℕ
  -- the codes of the findings to report
  pub reported : List Code

-- the same of what is in memory
abbrev pub question_seen : PageQuestion → QuestionSeen
question_seen q = record {
  kind = q.kind;
  now = q.now;
  zone = q.zone.now;
  rsa_minimum = q.rsa_minimum;
  reported = q.reported.now;
}

-- ---- the codes of a kind of file

-- the kind of file that a code is reported of, if it is one alone
abbrev pub only_kind : Code → Option FileKind
only_kind code.Unreadable = None
only_kind code.SameKey = Some AuthorizedKeys
only_kind code.NeverDecides = Some AuthorizedKeys
only_kind code.GivesMore = Some AuthorizedKeys
only_kind code.ShortKey = None
only_kind code.Expired = Some AuthorizedKeys
only_kind code.PermitsNobody = Some AuthorizedKeys
only_kind code.ReadOtherwise = None
only_kind code.ForcedButForwards = Some AuthorizedKeys
only_kind code.UnreadableRevocation = Some KnownHosts
only_kind code.OtherKey = Some KnownHosts
only_kind code.TrustedAndRevoked = Some KnownHosts
only_kind code.PatternHosts = Some KnownHosts
only_kind code.EveryHost = Some KnownHosts
only_kind code.AnyAddress = Some AuthorizedKeys
only_kind code.AnyCommand = Some AuthorizedKeys
only_kind code.NoExpiry = Some AuthorizedKeys
only_kind code.AnyPrincipal = Some AuthorizedKeys
only_kind code.NoComment = Some AuthorizedKeys
only_kind code.NamesInClear = Some KnownHosts
only_kind code.SameHostKey = Some KnownHosts
only_kind code.MayRefuse = None

-- two kinds are the same if they are the same variant
abbrev pub same_kind : FileKind → FileKind → Bool
same_kind = sameb kind_type.the_type

abbrev pub is_any_or : FileKind → Option FileKind → Bool
is_any_or kind None = true
is_any_or kind (Some only) = same_kind only kind

-- the code may be reported of files of this kind
abbrev pub is_of : FileKind → Code → Bool
is_of kind c = is_any_or kind (only_kind c)

-- ---- the codes that were looked for

-- all codes, in ascending order
unfoldable pub every_code : List Code
every_code = all_codes

-- the code was asked for
abbrev pub asks_for : QuestionSeen → Code → Bool
asks_for q c = list_any (λ d. same_code d c) q.reported

abbrev pub is_looked_for : QuestionSeen → Code → Bool
is_looked_for q c = is_of q.kind c && asks_for q c

-- the codes that were asked for, of those that its kind of file may have
unfoldable pub looked_for : QuestionSeen → List Code
looked_for q = filter (is_looked_for q) every_code

-- the code was not asked for, and files of this kind may have it
abbrev pub is_left_out : QuestionSeen → Code → Bool
is_left_out q c = is_of q.kind c && not (asks_for q c)

-- the codes that were not looked for, of those that its kind of file may have
unfoldable pub left_out : QuestionSeen → List Code
left_out q = filter (is_left_out q) every_code
