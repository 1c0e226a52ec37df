-- The facts of an entry in an authorized_keys file (sshd(8), AUTHORIZED_KEYS FILE FORMAT).
use Rattle.std.specs.Prelude.{ℕ, zero, suc, ◌+◌, ◌^◌, nat_lt, true, false, Option, Some, None, is_some}
use Rattle.jiff.specs.Types.{TimeZone}
use Rattle.ssh_keys.specs.PublicKey.{PublicKey, rsa, kind_of}
use Rattle.ssh_keys.specs.Fingerprint.{fingerprint_of}
use Rattle.ssh_options.specs.declared.option.Flag.TheVariants.{CertAuthority, NoTouchRequired, VerifyRequired}
use Rattle.ssh_options.specs.declared.option.ValueName.TheVariants.{ExpiryTime, From, Principals}
use Rattle.ssh_options.specs.Settings.{has_flag, setting, settings}
use Rattle.ssh_entries.specs.AuthEntry.{AuthEntry}
use Rattle.ssh_offers.specs.Offer.{plain}
use Rattle.ssh_rights.specs.declared.rights.Rights.{Rights}
use Rattle.ssh_rights.specs.Rights.{rights_of}
use Rattle.ssh_findings.specs.declared.facts.Facts.{Facts}
use Rattle.ssh_findings.specs.KeyRead.{key_read}
use Rattle.ssh_findings.specs.Moments.{has_local_time, until}

-- the first number of binary digits, from this one on, in which the number fits; so many are tried
unfoldable pub count_from : ℕ → ℕ → ℕ → ℕ
count_from zero bits n = bits
count_from (suc tries) bits n =
    elim (nat_lt n (2 ^ bits)) [ true ↦ bits | false ↦ count_from tries (bits + 1) n ]

-- the least number of binary digits in which a number fits, which is at most the number itself
abbrev pub bit_count : ℕ → ℕ
bit_count n = count_from n 0 n

-- the size of an RSA key, and none of any other, as `ssh-keygen -l` prints it
abbrev pub rsa_size : PublicKey → Option ℕ
rsa_size (rsa e n) = Some (bit_count n)
rsa_size key = None

-- the rights of a login by the key itself, without a certificate
abbrev pub plain_rights : AuthEntry → Rights
plain_rights e = rights_of e (plain e.key)

-- the facts of an entry, its expiry times read in a zone, with the fingerprint of the key that OpenSSH reads
unfoldable pub facts_of : TimeZone → AuthEntry → Facts
facts_of zone e = record {
  kind = kind_of e.key;
  bits = rsa_size e.key;
  fingerprint = fingerprint_of (key_read e.key);
  comment = e.comment;
  is_authority = has_flag CertAuthority e.options;
  rights = plain_rights e;
  no_touch_required = has_flag NoTouchRequired e.options;
  verify_required = has_flag VerifyRequired e.options;
  from = setting From e.options;
  principals = setting Principals e.options;
  has_expiry = is_some (setting ExpiryTime e.options);
  until = until zone (settings ExpiryTime e.options);
  has_local_time = has_local_time (settings ExpiryTime e.options);
}
