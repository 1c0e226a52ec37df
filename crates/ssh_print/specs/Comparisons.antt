-- What was compared where a line was passed over: the values of the line or of the certificate, and those of the query
-- (this project's rule). Each has a semicolon in front, a word, and the value.
use Rattle.std.specs.Prelude.{ℕ, ℤ, zero, suc, pos, nat_lt, if◌then◌else◌, List, [], ◌∷◌, ◌++◌, length, take, codes, bytes_eq, Option, Some, None}
use Rattle.std.specs.Fmt.{decimal}
use Rattle.sha2.specs.Sha256.{sha256}
use Rattle.ssh_keys.specs.Fingerprint.{digest_text_of}
use Rattle.ssh_keys.specs.PublicKey.{key_blob}
use Rattle.ssh_certs.specs.CertificateOptions.{text_of_option}
use Rattle.ssh_certs.specs.declared.options.CertificateOption.TheVariants.{ForceCommand, SourceAddress}
use Rattle.ssh_entries.specs.AuthGrammar.{auth_line}
use Rattle.ssh_entries.specs.declared.auth_line.AuthLine.{AuthLine}
use Rattle.ssh_entries.specs.declared.auth_line.AuthLine.TheVariants.{Entry}
use Rattle.ssh_offers.specs.HostClaim.{HostClaim}
use Rattle.ssh_offers.specs.LoginClaim.{LoginClaim}
use Rattle.ssh_offers.specs.Offer.{Offer, certified, plain, subject}
use Rattle.ssh_offers.specs.Query.{Login}
use Rattle.ssh_rules.specs.declared.reason.Reason.{Reason}
use Rattle.ssh_rules.specs.declared.reason.Reason.TheVariants as reason
use Rattle.ssh_findings.specs.declared.facts.Facts.{Facts}
use Rattle.ssh_findings.specs.Facts.{facts_of}
use Rattle.ssh_print.specs.Dates.{moment_text}
use Rattle.ssh_print.specs.KnownPossible.{known_held_blob}
use Rattle.ssh_print.specs.PossibleLines.{held_blob, wanted_blob}
use Rattle.ssh_print.specs.Strings.{json_text}

-- ---- values

-- the mark behind a value of which the first 256 bytes are printed
abbrev pub cut_mark : List ℕ → List ℕ
cut_mark text = if nat_lt 256 (length text) then codes ".." else []

-- the first 256 of any bytes, between quotes
unfoldable pub value_text : List ℕ → List ℕ → List ℕ
value_text word text = codes "; " ++ word ++ codes " " ++ json_text (take 256 text) ++ cut_mark text

-- the same, or a dash where there is no value
abbrev pub value_or_dash : List ℕ → Option (List ℕ) → List ℕ
value_or_dash word (Some text) = value_text word text
value_or_dash word None = codes "; " ++ word ++ codes " -"

-- seconds since 1970-01-01 in UTC, and the date
unfoldable pub moment_value : List ℕ → ℤ → List ℕ
moment_value word moment = codes "; " ++ word ++ codes " " ++ moment_text moment

-- the same, or a dash where the text has no moment
abbrev pub moment_or_dash : List ℕ → Option ℤ → List ℕ
moment_or_dash word (Some moment) = moment_value word moment
moment_or_dash word None = codes "; " ++ word ++ codes " -"

-- ---- a line that cannot be read

-- the key on the line where OpenSSH looks for one, as the fingerprint if it is another than the one that is wanted
abbrev pub held_value : Option (List ℕ) → List ℕ → List ℕ
held_value None wanted = []
held_value (Some held) wanted =
    if bytes_eq held wanted then codes "; it holds this key" else codes "; it holds SHA256:" ++ digest_text_of (sha256 held)

-- ---- a certificate

-- the first principals of the certificate, and a mark if there are more
abbrev pub first_principals : ℕ → List (List ℕ) → List ℕ
first_principals n [] = []
first_principals zero (name ∷ names) = codes "; .."
first_principals (suc n) (name ∷ names) = value_text (codes "principal") name ++ first_principals n names

abbrev pub offered_principals : Offer → List ℕ
offered_principals (plain key) = []
offered_principals (certified c) = first_principals 16 c.principals

-- the end of the validity that was passed, and the moment that is asked about
abbrev pub start_compared : ℕ → Offer → List ℕ
start_compared now (plain key) = []
start_compared now (certified c) = moment_value (codes "start") (pos c.after) ++ moment_value (codes "now") (pos now)

abbrev pub end_compared : ℕ → Offer → List ℕ
end_compared now (plain key) = []
end_compared now (certified c) = moment_value (codes "end") (pos c.before) ++ moment_value (codes "now") (pos now)

-- the certificate's list of sources, and the client's address
abbrev pub certificate_source_compared : List ℕ → Offer → List ℕ
certificate_source_compared address (plain key) = []
certificate_source_compared address (certified c) =
    value_or_dash (codes "source-address") (text_of_option SourceAddress c) ++ value_text (codes "address") address

-- the command that the certificate forces
abbrev pub offered_command : Offer → List ℕ
offered_command (plain key) = []
offered_command (certified c) = value_or_dash (codes "force-command") (text_of_option ForceCommand c)

-- the fewest bits of an RSA key that are asked for
abbrev pub minimum_value : ℕ → List ℕ
minimum_value bits = codes "; at least " ++ decimal bits ++ codes " bits"

-- ---- a login

-- the line's list of sources, and the client
abbrev pub source_compared : Option (List ℕ) → Login → List ℕ
source_compared list q = value_or_dash (codes "from") list ++ value_text (codes "address") q.address ++ value_or_dash (codes "host") q.host

-- the principals that the line asks for, or the user
abbrev pub wanted_principals : Option (List ℕ) → List ℕ → List ℕ
wanted_principals (Some list) user = value_text (codes "principals") list
wanted_principals None user = value_text (codes "user") user

abbrev pub facts_compared : LoginClaim → Reason → Facts → List ℕ
facts_compared claim reason.Expired facts =
    moment_or_dash (codes "expires") facts.until ++ moment_value (codes "now") (pos claim.query.now)
facts_compared claim reason.SourceBad facts = source_compared facts.from claim.query
facts_compared claim reason.SourceRefused facts = source_compared facts.from claim.query
facts_compared claim reason.PrincipalRefused facts = wanted_principals facts.principals claim.query.user ++ offered_principals claim.offer
facts_compared claim reason.CommandConflict facts = value_or_dash (codes "command") facts.rights.command ++ offered_command claim.offer
facts_compared claim why facts = []

abbrev pub entry_compared : LoginClaim → Reason → AuthLine → List ℕ
entry_compared claim why (Entry e) = facts_compared claim why (facts_of claim.query.zone e)
entry_compared claim why line = []

-- what was compared for the reason why a line does not admit a login
unfoldable pub login_compared : LoginClaim → Reason → List ℕ → List ℕ
login_compared claim (reason.Unreadable cause) line = held_value (held_blob line) (wanted_blob claim)
login_compared claim reason.NotYetValid line = start_compared claim.query.now claim.offer
login_compared claim reason.NoLongerValid line = end_compared claim.query.now claim.offer
login_compared claim reason.CertSourceBad line = certificate_source_compared claim.query.address claim.offer
login_compared claim reason.CertSourceRefused line = certificate_source_compared claim.query.address claim.offer
login_compared claim reason.RsaTooSmall line = minimum_value claim.query.rsa_minimum
login_compared claim reason.AuthorityOnly line = []
login_compared claim reason.NotAuthority line = []
login_compared claim reason.WrongCertKind line = []
login_compared claim reason.EmptyPrincipals line = []
login_compared claim (reason.CriticalUnknown name) line = []
login_compared claim reason.CriticalRepeated line = []
login_compared claim reason.CriticalData line = []
login_compared claim reason.Expired line = entry_compared claim reason.Expired (auth_line line)
login_compared claim reason.SourceBad line = entry_compared claim reason.SourceBad (auth_line line)
login_compared claim reason.SourceRefused line = entry_compared claim reason.SourceRefused (auth_line line)
login_compared claim reason.PrincipalRefused line = entry_compared claim reason.PrincipalRefused (auth_line line)
login_compared claim reason.CommandConflict line = entry_compared claim reason.CommandConflict (auth_line line)

-- ---- a host's key

-- what was compared for the reason why a line does not trust a host's key
unfoldable pub host_compared : HostClaim → Reason → List ℕ → List ℕ
host_compared claim (reason.Unreadable cause) line = held_value (known_held_blob line) (key_blob (subject claim.offer))
host_compared claim reason.NotYetValid line = start_compared claim.query.now claim.offer
host_compared claim reason.NoLongerValid line = end_compared claim.query.now claim.offer
host_compared claim reason.PrincipalRefused line = value_text (codes "host") claim.query.host ++ offered_principals claim.offer
host_compared claim reason.RsaTooSmall line = minimum_value claim.query.rsa_minimum
host_compared claim why line = []
