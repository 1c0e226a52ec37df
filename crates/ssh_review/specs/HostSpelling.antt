-- The known_hosts files whose review is that of their canonical files (this project's rule).
use Rattle.std.specs.Prelude.{◌≡◌, ℕ, Bool, false, ◌&&◌, List}
use Rattle.std.specs.List.{AllByRecursion}
use Rattle.ssh_text.specs.Text.{lines_of}
use Rattle.ssh_entries.specs.declared.known_line.KnownLine.{KnownLine}
use Rattle.ssh_entries.specs.declared.known_line.KnownLine.TheVariants.{Blank, Comment, Entry, Revoked, RevokedUnreadable, Unreadable}
use Rattle.ssh_entries.specs.KnownGrammar.{known_line}
use Rattle.ssh_host_rules.specs.HostAdmission.{marks_authority}
use Rattle.ssh_findings.specs.HostFacts.{has_tab_after_first}

-- a tab follows the marker of an entry, which F8 reports and no canonical line has; a revocation is in a canonical file
-- as it is
abbrev pub has_marker_tab : KnownLine → List ℕ → Bool
has_marker_tab Blank line = false
has_marker_tab Comment line = false
has_marker_tab (Entry e) line = marks_authority e.marker && has_tab_after_first line
has_marker_tab (Revoked bytes) line = false
has_marker_tab RevokedUnreadable line = false
has_marker_tab (Unreadable cause) line = false

-- no line of the file has such a tab
abbrev pub HasNoMarkerTab : List ℕ → Type 0
HasNoMarkerTab file = AllByRecursion (λ line. has_marker_tab (known_line line) line ≡ false) (lines_of file)
