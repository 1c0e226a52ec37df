-- The facts of an entry in a known_hosts file (sshd(8), SSH_KNOWN_HOSTS FILE FORMAT).
use Rattle.std.specs.Prelude.{ℕ, Bool, ◌&&◌, ◌||◌, List, Option, Some, None}
use Rattle.std.specs.Str.{str_to_ascii_lowercase}
use Rattle.ssh_keys.specs.PublicKey.{kind_of}
use Rattle.ssh_keys.specs.Fingerprint.{fingerprint_of}
use Rattle.ssh_entries.specs.Names.{Names, Patterns, Hashed, names_text}
use Rattle.ssh_text.specs.Text.{after_word, body_of}
use Rattle.ssh_entries.specs.Front.{begins_with}
use Rattle.ssh_entries.specs.KnownEntry.{KnownEntry}
use Rattle.ssh_host_rules.specs.HostAdmission.{marks_authority}
use Rattle.ssh_findings.specs.Facts.{rsa_size}
use Rattle.ssh_findings.specs.KeyRead.{key_read}
use Rattle.ssh_findings.specs.OpenSsh.{has_long_item_in, has_nul, is_refused_size}
use Rattle.ssh_findings.specs.declared.host_facts.HostFacts.{HostFacts}

-- the list of names in ASCII lower case, if the names are not hashed
abbrev pub lower_list : Names → Option (List ℕ)
lower_list (Patterns list) = Some (str_to_ascii_lowercase list)
lower_list (Hashed salt hash) = None

-- a tab follows the first word of a line
abbrev pub has_tab_after_first : List ℕ → Bool
has_tab_after_first line = begins_with 9 (after_word (body_of line))

-- the facts of the entry on a line, with the fingerprint of the key that OpenSSH reads
unfoldable pub host_facts_of : List ℕ → KnownEntry → HostFacts
host_facts_of line e = record {
  kind = kind_of e.key;
  bits = rsa_size e.key;
  fingerprint = fingerprint_of (key_read e.key);
  comment = e.comment;
  is_authority = marks_authority e.marker;
  names = names_text e.names;
  list = lower_list e.names;
  has_marker_tab = marks_authority e.marker && has_tab_after_first line;
}

-- OpenSSH has a known reason to pass over an entry with these facts (hostfile.c, hostkeys_foreach_file; match.c,
-- match_pattern_list; sshkey.c, sshkey_check_rsa_length)
unfoldable pub host_may_refuse : HostFacts → Bool
host_may_refuse f = has_nul f.names || has_long_item_in f.list || is_refused_size f.bits
