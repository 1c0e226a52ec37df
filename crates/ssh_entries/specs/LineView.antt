-- The value of an authorized_keys line that is read in place.
use Rattle.std.specs.Prelude.{◌≡◌, Result, Ok, Err}
use Rattle.ssh_options.specs.declared.option_text.LineCause.{LineCause}
use Rattle.ssh_entries.specs.AuthEntry.{AuthEntry}
use Rattle.ssh_entries.specs.declared.auth_line.AuthLine.{AuthLine}
use Rattle.ssh_entries.specs.declared.auth_line.AuthLine.TheVariants.{Blank, Comment, Entry, Unreadable}
use Rattle.ssh_entries.specs.declared.auth_view.AuthLineView.{AuthLineView}
use Rattle.ssh_entries.specs.declared.auth_view.AuthLineView.TheVariants as views

-- the line as if it were copied
abbrev pub line_seen : AuthLineView → AuthLine
line_seen views.Blank = Blank
line_seen views.Comment = Comment
line_seen (views.Entry entry) = Entry entry
line_seen (views.Unreadable cause) = Unreadable cause

-- the entry of a line, or its first fault
abbrev pub SaysView : Result AuthEntry LineCause → AuthLine → Type 0
SaysView (Ok entry) line = line ≡ Entry entry
SaysView (Err cause) line = line ≡ Unreadable cause
