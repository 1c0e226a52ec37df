-- Runs of `login` and `host` with status 0 and 1: the grant or the denial behind them (this project's rule).
use Rattle.std.specs.Prelude.{◌≡◌, ℕ, List, Option, Some, Ok}
use Rattle.clap.specs.Words.{Row}
use Rattle.jiff.specs.Types.{TimeZone}
use Rattle.ssh_offers.specs.Query.{HostCheck, Login}
use Rattle.ssh_print.specs.Responses.{Response}
use Rattle.ssh_files.specs.SourceState.{SourceState}
use Rattle.ssh_files.specs.Values.{ReadsZone, zone_text}
use Rattle.ssh_program.specs.declared.args.ArgName.TheVariants as option
use Rattle.ssh_program.specs.FileNames.{AuditFiles}
use Rattle.ssh_program.specs.CommandLine.{request_of}
use Rattle.ssh_program.specs.declared.subcommand.Subcommand.{Subcommand}
use Rattle.ssh_program.specs.Granting.{HostDenied, HostGranted, LoginDenied, LoginGranted, TrustsBytes}
use Rattle.ssh_program.specs.Requests.{request_words, source_of}
use Rattle.ssh_program.specs.Hosts.{host_spelled}
use Rattle.ssh_program.specs.Logins.{login_spelled}
use Rattle.ssh_program.specs.OfferTexts.{OptionTexts, after_texts, texts_at}
use Rattle.ssh_program.specs.Spelling.{audit_files, given}
use Rattle.ssh_program.specs.Texts.{TextPlaces, text_places}

-- the arguments ask this of these files, the texts of the offer and of its signature are given there, and the trust
-- file consists of bytes
pub record AsksFor (subcommand : Subcommand) (words : List (List ℕ)) (s : SourceState) (rows : List Row) (places : TextPlaces) (f : AuditFiles) : Type 0 where
  pub request : request_of (request_words words s) ≡ Some (record { subcommand = subcommand; rows = rows })
  pub texts : text_places rows ≡ Ok places
  pub files : audit_files rows ≡ Ok f
  pub bytes : TrustsBytes f (after_texts places (source_of words s))

-- the options give this login, in the zone of their text and with the texts read; and the files read after these answer
-- it so
pub record TellsLogin (Reported : Login → AuditFiles → SourceState → Response → Type 0) (rows : List Row) (places : TextPlaces) (f : AuditFiles) (s : SourceState) (r : Response) : Type 0 where
  pub zone : Option TimeZone
  pub read : ReadsZone (zone_text (given option.Zone rows)) zone
  pub texts : OptionTexts
  pub taken : texts_at places s ≡ Ok texts
  pub asked : Login
  pub spelled : login_spelled rows zone texts ≡ Ok asked
  pub answered : Reported asked f (after_texts places s) r

-- the options give this host's key with the texts read; and the files read after these answer it so
pub record TellsHost (Reported : HostCheck → AuditFiles → SourceState → Response → Type 0) (rows : List Row) (places : TextPlaces) (f : AuditFiles) (s : SourceState) (r : Response) : Type 0 where
  pub texts : OptionTexts
  pub taken : texts_at places s ≡ Ok texts
  pub asked : HostCheck
  pub spelled : host_spelled rows texts ≡ Ok asked
  pub answered : Reported asked f (after_texts places s) r

abbrev pub GrantsLogin : List Row → TextPlaces → AuditFiles → SourceState → Response → Type 0
GrantsLogin = TellsLogin LoginGranted

abbrev pub DeniesLogin : List Row → TextPlaces → AuditFiles → SourceState → Response → Type 0
DeniesLogin = TellsLogin LoginDenied

abbrev pub GrantsHost : List Row → TextPlaces → AuditFiles → SourceState → Response → Type 0
GrantsHost = TellsHost HostGranted

abbrev pub DeniesHost : List Row → TextPlaces → AuditFiles → SourceState → Response → Type 0
DeniesHost = TellsHost HostDenied
