-- The most matcher steps that a line of an authorized_keys file takes, as `matches_counted` counts them.
use Rattle.std.specs.Prelude.{ℕ, ◌+◌, ◌*◌, List, length, Option, Some, None}
use Rattle.ssh_entries.specs.declared.auth_line.AuthLine.{AuthLine}
use Rattle.ssh_entries.specs.declared.auth_line.AuthLine.TheVariants.{Blank, Comment, Entry, Unreadable}
use Rattle.ssh_offers.specs.LoginClaim.{LoginClaim}
use Rattle.ssh_offers.specs.Query.{Login}
use Rattle.ssh_options.specs.declared.option.ValueName.TheVariants.{From}
use Rattle.ssh_options.specs.Settings.{setting}
use Rattle.ssh_patterns.specs.Lists.{host_length}

-- The most for each byte of a list of sources, and for its end: the bytes and an end of the client's host name, which
-- counts as empty where it is not known, and of its address text.
abbrev pub login_width : Login → ℕ
login_width q = host_length q.host + length q.address + 2

-- the most for a line's list of sources, where it has one
abbrev pub source_most : Option (List ℕ) → Login → ℕ
source_most None q = 0
source_most (Some list) q = (length list + 1) * login_width q

-- The most for a line and a login. Only its list of sources is matched: principals are looked up, and a certificate's
-- addresses and networks are compared by value.
abbrev pub login_most : LoginClaim → AuthLine → ℕ
login_most claim Blank = 0
login_most claim Comment = 0
login_most claim (Entry e) = source_most (setting From e.options) claim.query
login_most claim (Unreadable why) = 0
