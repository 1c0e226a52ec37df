-- The value of a known_hosts line that is read in place.
use Rattle.ssh_entries.specs.declared.known_line.KnownLine.{KnownLine}
use Rattle.ssh_entries.specs.declared.known_line.KnownLine.TheVariants.{Blank, Comment, Entry, Revoked, RevokedUnreadable, Unreadable}
use Rattle.ssh_entries.specs.declared.known_view.KnownLineView.{KnownLineView}
use Rattle.ssh_entries.specs.declared.known_view.KnownLineView.TheVariants as views

-- the line as if it were copied
abbrev pub known_seen : KnownLineView → KnownLine
known_seen views.Blank = Blank
known_seen views.Comment = Comment
known_seen (views.Entry entry) = Entry entry
known_seen (views.Unreadable cause) = Unreadable cause
known_seen (views.Revoked bytes) = Revoked bytes.now
known_seen views.RevokedUnreadable = RevokedUnreadable
