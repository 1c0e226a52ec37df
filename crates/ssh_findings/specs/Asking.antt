-- The options of a review as values, without their places in memory.
use Rattle.std.specs.Prelude.{ℕ, Bool, nat_lt, if◌then◌else◌, List, Option, Some, None}
use Rattle.std.specs.List.{list_any}
use Rattle.jiff.specs.Types.{TimeZone}
use Rattle.jiff.specs.Words.{plain_zone}
use Rattle.ssh_findings.specs.declared.code.ReviewOptions.{ReviewOptions}
use Rattle.ssh_findings.specs.declared.code.Code.{Code}
use Rattle.ssh_findings.specs.Codes.{same_code}

pub record Asking : Type 0 where
  -- seconds since 1970-01-01 in UTC
  pub now : ℕ
  -- the time zone of expiry times without `Z`
  pub zone : TimeZone
  -- whether that zone was given for these files
  pub is_zone_given : Bool
  -- the minimum size of an RSA key, in bits
  pub rsa_minimum : ℕ
  -- the codes of the findings to report
  pub reported : List Code

abbrev pub asking_of : ReviewOptions → Asking
asking_of a = record {
  now = a.now;
  zone = plain_zone a.zone.now;
  is_zone_given = a.is_zone_given;
  rsa_minimum = a.rsa_minimum;
  reported = a.reported.now;
}

-- whether findings with this code are reported
abbrev pub is_reported : Asking → Code → Bool
is_reported asking code = list_any (λ c. same_code c code) asking.reported

-- the size of an RSA key, if it is below the minimum
abbrev pub short_size : Asking → Option ℕ → Option ℕ
short_size asking None = None
short_size asking (Some bits) = if nat_lt bits asking.rsa_minimum then Some bits else None
